-- A reader that starts: the faults of the front and of the rest of the header.
use Rattle.std.proofs.Common.{◌≡◌, ℕ, List, [], ◌∷◌, false, Option, None, Some, Result, Ok, Err, refl, sym, ◌∙◌, ap, subst}
use Rattle.std.specs.Prelude.{⊤}
use Rattle.std.specs.FinMap.{get}
use Rattle.std.specs.Option.{option_map}
use Rattle.acas_outside.specs.Files.{Files, Given}
use Rattle.acas_table_text.specs.Shape.{entry_count}
use Rattle.acas_table_text.specs.Format.{format_of, length_of}
use Rattle.acas_table_text.specs.Faults.{entry_fault, fields_fault, first, first_below, first_fault, front_fields, header_fault, model_fields, tail_fault}
use Rattle.acas_table_text.specs.declared.format.Format.{Format}
use Rattle.acas_table_text.specs.declared.format.Format.TheVariants.{Layered}
use Rattle.acas_table_text.specs.declared.shape.TableShape.{TableShape}
use Rattle.acas_table_text.specs.declared.fault.TableFault.{TableFault}
use Rattle.acas_table_text.specs.declared.fault.TableFault.TheVariants.{Magic, Version, OtherModel, Shape, Length, Advice, Digest, LayerDigest, Failed, Absent, Memory}
use Rattle.acas_table.specs.declared.source.Source.{Source}
use Rattle.acas_table.specs.declared.reader.TableReader.{TableReader}
use Rattle.acas_table.specs.Source.{Blames, Checks, IsAtFile}
use Rattle.acas_table.specs.Reader.{Starts}
use Rattle.acas_table.proofs.Passed.{blames_too}
use Rattle.acas_table.proofs.Front.{header_front, header_model}

-- in the header
found_in_header : (model : List ℕ) (s : TableShape) (bytes : List ℕ) (fault : TableFault) → header_fault model s bytes ≡ Some fault → first_fault model s bytes ≡ Some fault
unfolding first_fault
found_in_header model s bytes fault found =
    ap (λ (o : Option TableFault). first (o ∷ first_below (entry_fault s bytes) (entry_count s) ∷ tail_fault s bytes ∷ [])) found

header_both : (model : List ℕ) (s : TableShape) (bytes : List ℕ) (fault : TableFault) → header_fault model s bytes ≡ Some fault → (header_fault model s bytes ≡ Some fault) × (first_fault model s bytes ≡ Some fault)
header_both model s bytes fault found = (found, found_in_header model s bytes fault found)

starts_with : {X : Type 0} (P : X → List ℕ → Type 0) (model : List ℕ) (s : TableShape) (file : Option (List ℕ)) (new : Source) (fault : TableFault) → Checks {X = X} (header_fault model s) P file new (Err fault) → Starts model s file (Err fault)
starts_with P model s None new Magic checks = absurd checks
starts_with P model s None new (Version a) checks = absurd checks
starts_with P model s None new (OtherModel a b) checks = absurd checks
starts_with P model s None new (Shape a b d) checks = absurd checks
starts_with P model s None new (Length a b) checks = absurd checks
starts_with P model s None new (Advice a b d) checks = absurd checks
starts_with P model s None new (Digest a b) checks = absurd checks
starts_with P model s None new (LayerDigest a b d) checks = absurd checks
starts_with P model s None new Failed checks = tt
starts_with P model s None new Absent checks = refl
starts_with P model s None new Memory checks = tt
starts_with P model s (Some bytes) new Magic checks = header_both model s bytes _ checks
starts_with P model s (Some bytes) new (Version a) checks = header_both model s bytes _ checks
starts_with P model s (Some bytes) new (OtherModel a b) checks = header_both model s bytes _ checks
starts_with P model s (Some bytes) new (Shape a b d) checks = header_both model s bytes _ checks
starts_with P model s (Some bytes) new (Length a b) checks = header_both model s bytes _ checks
starts_with P model s (Some bytes) new (Advice a b d) checks = header_both model s bytes _ checks
starts_with P model s (Some bytes) new (Digest a b) checks = header_both model s bytes _ checks
starts_with P model s (Some bytes) new (LayerDigest a b d) checks = header_both model s bytes _ checks
starts_with P model s (Some bytes) new Failed checks = tt
starts_with P model s (Some bytes) new Absent checks = absurd (cc checks)
starts_with P model s (Some bytes) new Memory checks = tt

-- a fault of some fields, as one of the header
blames_file : (file : Option (List ℕ)) (f g : List ℕ → Option TableFault) (fault : TableFault) → ((bytes : List ℕ) → f bytes ≡ Some fault → g bytes ≡ Some fault)
    → Blames (option_map f file) fault → Blames (option_map g file) fault
blames_file None f g fault too blames = blames
blames_file (Some bytes) f g fault too blames = blames_too (f bytes) (g bytes) fault (too bytes) blames

-- at the front
front_file : (P : Format → List ℕ → Type 0) (file : Option (List ℕ)) (digest : List ℕ) (s : TableShape) (new : Source) (e : ℕ) (fault : TableFault) → e ≡ length_of Layered s
    → Checks {X = Format} (fields_fault e 0 front_fields) P file new (Err fault) → Starts digest s file (Err fault)
front_file P file digest s new e fault expected checks =
    starts_with {X = Format} P digest s file new fault
    (blames_file file (fields_fault e 0 front_fields) (header_fault digest s) fault
    (λ bytes found. header_front digest s bytes fault (subst (λ (k : ℕ). fields_fault k 0 front_fields bytes ≡ Some fault) expected found))
    checks)

pub front_fails : (P : Format → List ℕ → Type 0) (holds : Option Files) (name digest : List ℕ) (s : TableShape) (old new : Source) (fault : TableFault) (result : Result TableReader TableFault)
    → result ≡ Err fault → old.expected ≡ length_of Layered s → ((file : Option (List ℕ)) → IsAtFile old file)
    → Given holds name (λ file. IsAtFile old file → Checks {X = Format} (fields_fault old.expected 0 front_fields) P file new (Err fault))
    → Given holds name (λ file. Starts digest s file result)
front_fails P None name digest s old new fault result is expected front checks = tt
front_fails P (Some files) name digest s old new fault result is expected front checks =
    subst (λ (r : Result TableReader TableFault). Starts digest s (get files name) r) (sym is)
    (front_file P (get files name) digest s new old.expected fault expected (checks (front (get files name))))

-- a source stands in the bytes that it has checked
checked_at : {X : Type 0} (f : List ℕ → Option TableFault) (P : X → List ℕ → Type 0) (file : Option (List ℕ)) (new : Source) (x : X) → Checks f P file new (Ok x) → IsAtFile new file
checked_at f P None new x checks = absurd checks
checked_at f P (Some bytes) new x checks = checks.2

-- behind it
model_file : (file : Option (List ℕ)) (digest : List ℕ) (s : TableShape) (f : Format) (mid new : Source) (e d : ℕ) (fault : TableFault) → e ≡ length_of Layered s → d ≡ length_of f s
    → Checks (fields_fault e 0 front_fields) (λ g bytes. format_of bytes ≡ g) file mid (Ok f)
    → Checks {X = Unit {0}} (fields_fault d 8 (model_fields digest s)) (λ _ _. ⊤) file new (Err fault) → Starts digest s file (Err fault)
model_file None digest s f mid new e d fault first_length length front checks = absurd front
model_file (Some bytes) digest s f mid new e d fault first_length length front checks =
    starts_with {X = Unit {0}} (λ _ _. ⊤) digest s (Some bytes) new fault
    (subst (λ (o : Option TableFault). Blames (Some o) fault)
    (ap (λ (k : ℕ). fields_fault k 8 (model_fields digest s) bytes) length
    ∙ sym (header_model digest s bytes f front.1 (subst (λ (k : ℕ). fields_fault k 0 front_fields bytes ≡ None) first_length front.0)))
    checks)

pub model_fails : (holds later : Option Files) (name digest : List ℕ) (s : TableShape) (f : Format) (old mid begun new : Source) (fault : TableFault) (result : Result TableReader TableFault)
    → result ≡ Err fault → later ≡ holds → old.expected ≡ length_of Layered s → begun.expected ≡ length_of f s → ((file : Option (List ℕ)) → IsAtFile old file)
    → ((file : Option (List ℕ)) → IsAtFile mid file → IsAtFile begun file)
    → Given holds name (λ file. IsAtFile old file → Checks (fields_fault old.expected 0 front_fields) (λ g bytes. format_of bytes ≡ g) file mid (Ok f))
    → Given later name (λ file. IsAtFile begun file → Checks {X = Unit {0}} (fields_fault begun.expected 8 (model_fields digest s)) (λ _ _. ⊤) file new (Err fault))
    → Given holds name (λ file. Starts digest s file result)
model_fails None later name digest s f old mid begun new fault result is same first_length length at stays front checks = tt
model_fails (Some files) later name digest s f old mid begun new fault result is same first_length length at stays front checks =
    let file = get files name in
    let here = subst (λ (h : Option Files). Given h name (λ file. IsAtFile begun file → Checks {X = Unit {0}} (fields_fault begun.expected 8 (model_fields digest s)) (λ _ _. ⊤) file new (Err fault))) same checks in
    let passed = front (at file) in
    subst (λ (r : Result TableReader TableFault). Starts digest s file r) (sym is)
    (model_file file digest s f mid new old.expected begun.expected fault first_length length passed
    (here (stays file (checked_at (fields_fault old.expected 0 front_fields) (λ g bytes. format_of bytes ≡ g) file mid f passed))))

-- a header without fault
header_file : (x : Unit {0}) (file : Option (List ℕ)) (digest : List ℕ) (s : TableShape) (f : Format) (mid : Source) (e d : ℕ) (r : TableReader) → e ≡ length_of Layered s → d ≡ length_of f s
    → Checks (fields_fault e 0 front_fields) (λ g bytes. format_of bytes ≡ g) file mid (Ok f)
    → Checks {X = Unit {0}} (fields_fault d 8 (model_fields digest s)) (λ _ _. ⊤) file r.source (Ok x)
    → r.shape ≡ s → r.format ≡ f → r.given ≡ 0 → r.fault ≡ None → r.done ≡ false → Starts digest s file (Ok r)
header_file x None digest s f mid e d r first_length length front checks shape format given sound more = absurd front
header_file x (Some bytes) digest s f mid e d r first_length length front checks shape format given sound more = record {
  format = front.1 ∙ sym format;
  header =
      ap (λ (t : TableShape). header_fault digest t bytes) shape
      ∙ header_model digest s bytes f front.1 (subst (λ (k : ℕ). fields_fault k 0 front_fields bytes ≡ None) first_length front.0)
      ∙ ap (λ (k : ℕ). fields_fault k 8 (model_fields digest s) bytes) (sym length)
      ∙ checks.0;
  entries = ap (first_below (entry_fault r.shape bytes)) given;
  source = checks.2;
  sound = sound;
  more = more;
}

pub header_given : (x : Unit {0}) (holds later : Option Files) (name digest : List ℕ) (s : TableShape) (f : Format) (old mid begun : Source) (r : TableReader)
    → later ≡ holds → old.expected ≡ length_of Layered s → begun.expected ≡ length_of f s → ((file : Option (List ℕ)) → IsAtFile old file) → ((file : Option (List ℕ)) → IsAtFile mid file → IsAtFile begun file)
    → Given holds name (λ file. IsAtFile old file → Checks (fields_fault old.expected 0 front_fields) (λ g bytes. format_of bytes ≡ g) file mid (Ok f))
    → Given later name (λ file. IsAtFile begun file → Checks {X = Unit {0}} (fields_fault begun.expected 8 (model_fields digest s)) (λ _ _. ⊤) file r.source (Ok x))
    → r.shape ≡ s → r.format ≡ f → r.given ≡ 0 → r.fault ≡ None → r.done ≡ false → Given holds name (λ file. Starts digest s file (Ok r))
header_given x None later name digest s f old mid begun r same first_length length at stays front checks shape format given sound more = tt
header_given x (Some files) later name digest s f old mid begun r same first_length length at stays front checks shape format given sound more =
    let file = get files name in
    let here = subst (λ (h : Option Files). Given h name (λ file. IsAtFile begun file → Checks {X = Unit {0}} (fields_fault begun.expected 8 (model_fields digest s)) (λ _ _. ⊤) file r.source (Ok x))) same checks in
    let passed = front (at file) in
    header_file x file digest s f mid old.expected begun.expected r first_length length passed
    (here (stays file (checked_at (fields_fault old.expected 0 front_fields) (λ g bytes. format_of bytes ≡ g) file mid f passed)))
    shape format given sound more
