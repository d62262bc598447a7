-- Bytes as a document.
use Rattle.std.proofs.Common.{◌≡◌, ℕ, List, Option, Some, None, Ok, IsUtf8, inl, inr, refl, ◌∙◌}
use Rattle.std.specs.Str.{is_utf8}
use Rattle.std.proofs.lemmas.Str.{is_utf8-from_IsUtf8, IsUtf8-from_is_utf8}
use Rattle.std.proofs.lemmas.Bool.{cases_Bool}
use Rattle.toml.specs.Data.{Members}
use Rattle.toml.specs.Parse.{parse_document}
use Rattle.acas_doc.specs.Document.{document_in, document_of}
use Rattle.acas_doc.proofs.Holds.{or_fault_ok}

-- a text in UTF-8 is what it is parsed as
pub document_of_text : (bytes : List ℕ) → IsUtf8 bytes → document_in bytes ≡ parse_document bytes
unfolding document_in
document_of_text bytes text = rw (is_utf8-from_IsUtf8 bytes text) refl

pub document_no_text : (bytes : List ℕ) → ¬ (IsUtf8 bytes) → document_in bytes ≡ None
unfolding document_in
document_no_text bytes not_text =
    elim (cases_Bool (is_utf8 bytes)) [
      | inl is_text ↦ absurd (not_text (IsUtf8-from_is_utf8 bytes is_text))
      | inr none ↦ rw none refl
    ]

-- bytes that were read
pub record IsDocument (bytes : List ℕ) (doc : Members) : Type 0 where
  pub text : IsUtf8 bytes
  pub toml : parse_document bytes ≡ Some doc

pub document_read : (bytes : List ℕ) (doc : Members) → IsDocument bytes doc → document_in bytes ≡ Some doc
document_read bytes doc is = document_of_text bytes is.text ∙ is.toml

pub document_found : (bytes : List ℕ) (doc : Members) → document_in bytes ≡ Some doc → IsDocument bytes doc
unfolding document_in
document_found bytes doc e =
    elim (cases_Bool (is_utf8 bytes)) [
      | inl is ↦ record { text = IsUtf8-from_is_utf8 bytes is; toml = rw is at e }
      | inr none ↦ absurd (none_is_no_document doc (rw none at e))
    ]
  where
    none_is_no_document : (doc : Members) → ◌≡◌ {A = Option Members} None (Some doc) → ⊥
    none_is_no_document doc e = cc

-- ---- or a fault

pub document_of-read : {E : Type 0} (not_toml : E) (bytes : List ℕ) (doc : Members) → IsDocument bytes doc → document_of not_toml bytes ≡ Ok doc
unfolding document_of
document_of-read not_toml bytes doc is = rw (document_read bytes doc is) refl

pub document_of-found : {E : Type 0} (not_toml : E) (bytes : List ℕ) (doc : Members) → document_of not_toml bytes ≡ Ok doc → IsDocument bytes doc
unfolding document_of
document_of-found not_toml bytes doc e = document_found bytes doc (or_fault_ok not_toml (document_in bytes) doc e)
