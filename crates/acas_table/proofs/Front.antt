-- The front of a file, which says its format, and the rest of its header.
use Rattle.std.proofs.Common.{◌≡◌, ℕ, ◌+◌, ◌<◌, ◌≤◌, Bool, true, false, cond, eqb, List, [], ◌∷◌, ◌++◌, length, Option, None, Some, OnOk, Result, Ok, Err, refl, sym, ◌∙◌, ap, subst, arith, inl, inr}
use Rattle.std.specs.Prelude.{⊤}
use Rattle.std.specs.FinMap.{get}
use Rattle.std.proofs.lemmas.Bool.{cases_lt, le-ltb, lt-ltb}
use Rattle.byteorder.specs.Endian.{little_number}
use Rattle.acas_outside.specs.Files.{Files, Given}
use Rattle.acas_table_text.specs.Format.{expected_length, format_of, format_of_version, length_of, part}
use Rattle.acas_table_text.specs.Faults.{fault_at, fault_in, fields_fault, first, front_fields, header_fault, model_fields, width_of}
use Rattle.acas_table_text.specs.declared.field.Field.{Field}
use Rattle.acas_table_text.specs.declared.field.Field.TheVariants as fields
use Rattle.acas_table_text.specs.declared.format.Format.{Format}
use Rattle.acas_table_text.specs.declared.format.Format.TheVariants.{Layered, Whole}
use Rattle.acas_table_text.specs.declared.shape.TableShape.{TableShape}
use Rattle.acas_table_text.specs.declared.fault.TableFault.{TableFault}
use Rattle.acas_table_text.proofs.Nones.{first_one}
use Rattle.acas_table_text.proofs.Parts.{end_none}
use Rattle.acas_table.specs.declared.source.Source.{Source}
use Rattle.acas_table.specs.Source.{Blames, Checks, IsAt, IsAtFile}
use Rattle.acas_table.proofs.Passed.{behind_good, blames_too}

-- the version that a file of eight bytes or more names says its format
whole_by : (a b : Bool) (format : Format) → cond a (Some Whole) (cond b (Some Layered) None) ≡ Some format → cond a Whole Layered ≡ format
whole_by true b format is = cc
whole_by false true format is = cc
whole_by false false format is = absurd (cc is)

format_is : (bytes : List ℕ) (format : Format) → 8 ≤ length bytes → format_of_version (little_number 4 (part bytes 4 4)) ≡ Some format → format_of bytes ≡ format
format_is bytes format long is =
    let n = little_number 4 (part bytes 4 4) in
    ap (λ (b : Bool). cond b Layered (cond (eqb n 1) Whole Layered)) (le-ltb (length bytes) 8 long)
    ∙ whole_by (eqb n 1) (eqb n 2) format is

one_none : {A : Type 0} (o : Option A) → first (o ∷ None ∷ []) ≡ o
one_none None = refl
one_none (Some x) = refl

-- the letters, and then the version
letters_bad : (e : ℕ) (bytes : List ℕ) (fault : TableFault) → fault_at e 0 fields.Magic bytes ≡ Some fault → fields_fault e 0 front_fields bytes ≡ Some fault
letters_bad e bytes fault found = ap (λ (o : Option TableFault). first (o ∷ first (fault_at e 4 fields.Version bytes ∷ None ∷ []) ∷ [])) found

version_next : (e : ℕ) (bytes : List ℕ) → fault_at e 0 fields.Magic bytes ≡ None → fields_fault e 0 front_fields bytes ≡ fault_at e 4 fields.Version bytes
version_next e bytes none =
    ap (λ (o : Option TableFault). first (o ∷ first (fault_at e 4 fields.Version bytes ∷ None ∷ []) ∷ [])) none
    ∙ first_one (first (fault_at e 4 fields.Version bytes ∷ None ∷ []))
    ∙ one_none (fault_at e 4 fields.Version bytes)

letters_file : (Q : Format → List ℕ → Type 0) (file : Option (List ℕ)) (old new : Source) (fault : TableFault) → old.place ≡ 0
    → Checks {X = Unit {0}} (fault_at old.expected old.place fields.Magic) (λ _ _. ⊤) file new (Err fault) → Checks {X = Format} (fields_fault old.expected 0 front_fields) Q file new (Err fault)
letters_file Q None old new fault front checks = checks
letters_file Q (Some bytes) old new fault front checks =
    blames_too (fault_at old.expected old.place fields.Magic bytes) (fields_fault old.expected 0 front_fields bytes) fault
    (λ found. letters_bad old.expected bytes fault (ap (λ (k : ℕ). fault_at old.expected k fields.Magic bytes) (sym front) ∙ found))
    checks

pub letters_given : (Q : Format → List ℕ → Type 0) (holds : Option Files) (name : List ℕ) (old new : Source) (fault : TableFault) (result : Result Format TableFault) → result ≡ Err fault → old.place ≡ 0
    → Given holds name (λ file. IsAtFile old file → Checks {X = Unit {0}} (fault_at old.expected old.place fields.Magic) (λ _ _. ⊤) file new (Err fault))
    → Given holds name (λ file. IsAtFile old file → Checks (fields_fault old.expected 0 front_fields) Q file new result)
letters_given Q None name old new fault result is front checks = tt
letters_given Q (Some files) name old new fault result is front checks = λ stands.
    subst (λ (r : Result Format TableFault). Checks (fields_fault old.expected 0 front_fields) Q (get files name) new r) (sym is)
    (letters_file Q (get files name) old new fault front (checks stands))

front_file : (file : Option (List ℕ)) (old mid new : Source) (result : Result Format TableFault) → old.place ≡ 0 → mid.place ≡ 4 → mid.expected ≡ old.expected → OnOk result (new.place ≡ 8)
    → Checks {X = Unit {0}} (fault_at old.expected old.place fields.Magic) (λ _ _. ⊤) file mid (Ok tt)
    → (IsAtFile mid file → Checks (fault_at mid.expected mid.place fields.Version) (λ f bytes. format_of_version (little_number 4 (part bytes mid.place 4)) ≡ Some f) file new result)
    → Checks (fields_fault old.expected 0 front_fields) (λ f bytes. format_of bytes ≡ f) file new result
front_file None old mid new result front place expected behind letters version = absurd letters
front_file (Some bytes) old mid new (Err fault) front place expected behind letters version =
    let e = old.expected in
    let magic : fault_at old.expected 0 fields.Magic bytes ≡ None = ap (λ (k : ℕ). fault_at e k fields.Magic bytes) (sym front) ∙ letters.0 in
    let same : fault_at mid.expected mid.place fields.Version bytes ≡ fields_fault old.expected 0 front_fields bytes =
    ap (λ (d : ℕ). fault_at d mid.place fields.Version bytes) expected ∙ ap (λ (k : ℕ). fault_at e k fields.Version bytes) place ∙ sym (version_next e bytes magic) in
    subst (λ (o : Option TableFault). Blames (Some o) fault) same (version letters.2)
front_file (Some bytes) old mid new (Ok format) front place expected behind letters version =
    let e = old.expected in
    let check = version letters.2 in
    let stands : IsAt new bytes = check.2 in
    let magic : fault_at old.expected 0 fields.Magic bytes ≡ None = ap (λ (k : ℕ). fault_at e k fields.Magic bytes) (sym front) ∙ letters.0 in
    let known : fault_at old.expected 4 fields.Version bytes ≡ None =
    ap (λ (d : ℕ). fault_at d 4 fields.Version bytes) (sym expected) ∙ ap (λ (k : ℕ). fault_at mid.expected k fields.Version bytes) (sym place) ∙ check.0 in
    let is : format_of_version (little_number 4 (part bytes 4 4)) ≡ Some format = ap (λ (k : ℕ). format_of_version (little_number 4 (part bytes k 4))) (sym place) ∙ check.1 in (
      version_next e bytes magic ∙ known,
      format_is bytes format (omega (arith, behind, stands.within)) is,
      stands,
    )

pub front_given : (holds later : Option Files) (name : List ℕ) (old mid new : Source) (result : Result Format TableFault) → later ≡ holds → old.place ≡ 0 → mid.place ≡ 4 → mid.expected ≡ old.expected → OnOk result (new.place ≡ 8)
    → Given holds name (λ file. IsAtFile old file → Checks {X = Unit {0}} (fault_at old.expected old.place fields.Magic) (λ _ _. ⊤) file mid (Ok tt))
    → Given later name (λ file. IsAtFile mid file → Checks (fault_at mid.expected mid.place fields.Version) (λ f bytes. format_of_version (little_number 4 (part bytes mid.place 4)) ≡ Some f) file new result)
    → Given holds name (λ file. IsAtFile old file → Checks (fields_fault old.expected 0 front_fields) (λ f bytes. format_of bytes ≡ f) file new result)
front_given None later name old mid new result same front place expected behind letters version = tt
front_given (Some files) later name old mid new result same front place expected behind letters version = λ stands.
    front_file (get files name) old mid new result front place expected behind (letters stands)
    (subst (λ (h : Option Files). Given h name (λ file. IsAtFile mid file → Checks (fault_at mid.expected mid.place fields.Version) (λ f bytes. format_of_version (little_number 4 (part bytes mid.place 4)) ≡ Some f) file new result)) same version)

-- a fault of the front is the same whatever length is expected of a file that has it
front_by : (x y : Option TableFault) (a b c d : Option TableFault) → a ≡ c → b ≡ d
    → first (first (a ∷ x ∷ []) ∷ first (first (b ∷ y ∷ []) ∷ None ∷ []) ∷ []) ≡ first (first (c ∷ x ∷ []) ∷ first (first (d ∷ y ∷ []) ∷ None ∷ []) ∷ [])
front_by x y a b c d ac bd =
    ap (λ (o : Option TableFault). first (first (o ∷ x ∷ []) ∷ first (first (b ∷ y ∷ []) ∷ None ∷ []) ∷ [])) ac
    ∙ ap (λ (o : Option TableFault). first (first (c ∷ x ∷ []) ∷ first (first (o ∷ y ∷ []) ∷ None ∷ []) ∷ [])) bd

front_same : (e d : ℕ) (bytes : List ℕ) → 8 ≤ length bytes → fields_fault e 0 front_fields bytes ≡ fields_fault d 0 front_fields bytes
front_same e d bytes long =
    front_by (fault_in fields.Magic (part bytes 0 4)) (fault_in fields.Version (part bytes 4 4)) _ _ _ _
    (end_none e bytes 0 4 (omega (arith, long)) ∙ sym (end_none d bytes 0 4 (omega (arith, long))))
    (end_none e bytes 4 4 long ∙ sym (end_none d bytes 4 4 long))

-- a shorter one is expected to be as long as a layered one
short_format : (bytes : List ℕ) → length bytes < 8 → format_of bytes ≡ Layered
short_format bytes short =
    ap (λ (b : Bool). cond b Layered (cond (eqb (little_number 4 (part bytes 4 4)) 1) Whole Layered)) (lt-ltb (length bytes) 8 short)

front_expected : (s : TableShape) (bytes : List ℕ) → fields_fault (expected_length s bytes) 0 front_fields bytes ≡ fields_fault (length_of Layered s) 0 front_fields bytes
front_expected s bytes = elim (cases_lt (length bytes) 8) [
  | inl short ↦ ap (λ (f : Format). fields_fault (length_of f s) 0 front_fields bytes) (short_format bytes short)
  | inr long ↦ front_same (expected_length s bytes) (length_of Layered s) bytes long
]

-- a fault that is found in the first fields is that of all
first_again : {A : Type 0} (a b c : Option A) (x : A) → first (a ∷ b ∷ []) ≡ Some x → (b ≡ Some x → c ≡ Some x) → first (a ∷ c ∷ []) ≡ Some x
first_again None b c x found more = first_one c ∙ more (sym (first_one b) ∙ found)
first_again (Some y) b c x found more = found

first_found : (e at : ℕ) (front rest : List Field) (bytes : List ℕ) (fault : TableFault) → fields_fault e at front bytes ≡ Some fault → fields_fault e at (front ++ rest) bytes ≡ Some fault
first_found e at [] rest bytes fault found = absurd (cc found)
first_found e at (field ∷ front) rest bytes fault found =
    first_again (fault_at e at field bytes) _ _ fault found (first_found e (at + width_of field) front rest bytes fault)

pub header_front : (digest : List ℕ) (s : TableShape) (bytes : List ℕ) (fault : TableFault) → fields_fault (length_of Layered s) 0 front_fields bytes ≡ Some fault → header_fault digest s bytes ≡ Some fault
unfolding header_fault
header_front digest s bytes fault found =
    first_found (expected_length s bytes) 0 front_fields (model_fields digest s) bytes fault (front_expected s bytes ∙ found)

-- behind a front without fault, the fault is that of the other fields
pub header_model : (digest : List ℕ) (s : TableShape) (bytes : List ℕ) (f : Format) → format_of bytes ≡ f → fields_fault (length_of Layered s) 0 front_fields bytes ≡ None
    → header_fault digest s bytes ≡ fields_fault (length_of f s) 8 (model_fields digest s) bytes
unfolding header_fault
header_model digest s bytes f is none =
    behind_good (expected_length s bytes) 0 front_fields (model_fields digest s) bytes (front_expected s bytes ∙ none)
    ∙ ap (λ (g : Format). fields_fault (length_of g s) 8 (model_fields digest s) bytes) is
