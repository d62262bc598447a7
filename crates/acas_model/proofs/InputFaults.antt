-- The faults that rules in order give.
use Rattle.std.proofs.Common.{ℕ, List, [], ◌∷◌, ◌++◌, codes, Option, Some, None, Result, Ok, Err}
use Rattle.toml.specs.Data.{Members}
use Rattle.acas_spec.specs.Model.{ModelData}
use Rattle.acas_spec.specs.Steps.{◌>>=◌, ◌>>◌, each}
use Rattle.acas_doc.specs.declared.fault.DocFault.{DocFault}
use Rattle.acas_doc.specs.Document.{document_in, document_of}
use Rattle.acas_doc.specs.Values.{or_fault}
use Rattle.acas_doc.specs.Keys.{text_at, whole_at}
use Rattle.acas_doc.specs.declared.input.TheConstants.{INPUT_VERSION}
use Rattle.acas_doc.specs.declared.input_fault.InputFault.{InputFault}
use Rattle.acas_doc.specs.declared.input_fault.InputFault.TheVariants.{NotToml, Doc, UnknownName}
use Rattle.acas_doc.specs.Input.{in_doc, version_of}
use Rattle.acas_model.specs.Choices.{named}
use Rattle.acas_model.specs.Named.{advisory_at}

-- the fault, if there is one, is such
abbrev pub AnyFaultIs : {A : Type 0} → (InputFault → Type 0) → Result A InputFault → Type 0
AnyFaultIs Is (Ok x) = Unit {0}
AnyFaultIs Is (Err f) = Is f

-- ---- steps

pub next_faults : {A B : Type 0} (Is : InputFault → Type 0) (r : Result A InputFault) (f : A → Result B InputFault) → AnyFaultIs Is r → ((x : A) → AnyFaultIs Is (f x)) → AnyFaultIs Is (r >>= f)
next_faults Is (Ok x) f first later = later x
next_faults Is (Err e) f first later = first

pub after_faults : {A B : Type 0} (Is : InputFault → Type 0) (r : Result A InputFault) (s : Result B InputFault) → AnyFaultIs Is r → AnyFaultIs Is s → AnyFaultIs Is (r >> s)
after_faults Is (Ok x) s first later = later
after_faults Is (Err e) s first later = first

pub all_faults : {A B : Type 0} (Is : InputFault → Type 0) (read : List B → A → Result B InputFault) → ((before : List B) (x : A) → AnyFaultIs Is (read before x)) → (before : List B) (xs : List A) → AnyFaultIs Is (each read before xs)
unfolding each
all_faults Is read one before [] = tt
all_faults Is read one before (x ∷ xs) = next_faults Is (read before x) (λ y. each read (before ++ y ∷ []) xs) (one before x) (λ y. all_faults Is read one (before ++ y ∷ []) xs)

-- ---- rules that inputs share, where a fault of a key is such

pub in_doc_faults : {A : Type 0} (Is : InputFault → Type 0) → ((f : DocFault) → Is (Doc f)) → (r : Result A DocFault) → AnyFaultIs Is (in_doc r)
in_doc_faults Is doc (Ok x) = tt
in_doc_faults Is doc (Err f) = doc f

or_fault_faults : {A : Type 0} (Is : InputFault → Type 0) (fault : InputFault) → Is fault → (o : Option A) → AnyFaultIs Is (or_fault fault o)
or_fault_faults Is fault is None = is
or_fault_faults Is fault is (Some x) = tt

pub document_faults : (Is : InputFault → Type 0) → Is NotToml → (bytes : List ℕ) → AnyFaultIs Is (document_of NotToml bytes)
unfolding document_of
document_faults Is not_toml bytes = or_fault_faults Is NotToml not_toml (document_in bytes)

pub advisory_faults : (Is : InputFault → Type 0) → ((f : DocFault) → Is (Doc f)) → (m : ModelData) (table : Members) (path : List ℕ) (place : ℕ) → Is (UnknownName place) → AnyFaultIs Is (advisory_at m table path place)
unfolding advisory_at
advisory_faults Is doc m table path place unknown =
    next_faults Is (in_doc (text_at table path (codes "advisory"))) _ (in_doc_faults Is doc _) (λ name. or_fault_faults Is (UnknownName place) unknown (named m.advisories name))

pub version_faults : (Is : InputFault → Type 0) → ((f : DocFault) → Is (Doc f)) → (doc : Members) → AnyFaultIs Is (version_of doc)
unfolding version_of
version_faults Is key doc = in_doc_faults Is key (whole_at doc [] (codes "version") INPUT_VERSION INPUT_VERSION)
