-- Fields that follow one another, as they are looked at.
use Rattle.std.proofs.Common.{◌≡◌, ℕ, ◌+◌, ◌<◌, ◌≤◌, List, [], ◌∷◌, ◌++◌, length, get_or, take, drop, Bool, true, false, Option, None, Some, Result, Ok, Err, refl, sym, ◌∙◌, ap, subst, arith}
use Rattle.std.specs.Prelude.{IsErrOf, ⊤}
use Rattle.std.specs.FinMap.{get}
use Rattle.std.specs.Option.{option_map}
use Rattle.std.proofs.lemmas.List.{take_more, drop_more, take-append-drop}
use Rattle.acas_outside.specs.Files.{Files, Given}
use Rattle.acas_table_text.specs.Faults.{first, unless, end_fault, width_of, fault_in, fault_at, widths, fields_fault}
use Rattle.acas_table_text.specs.Format.{part}
use Rattle.acas_table.specs.Source.{IsAt, IsAtFile, Blames, Checks, ReadsTable, Steps, bytes_taken}
use Rattle.acas_table.proofs.Within.{within_then}
use Rattle.acas_outside.specs.declared.folder.Folder.{Ghosts as FolderMeanings}
use Rattle.acas_table_text.proofs.Nones.{first_none, first_one}
use Rattle.acas_table_text.specs.declared.field.Field.{Field}
use Rattle.acas_table_text.specs.declared.field.Field.TheVariants as fields
use Rattle.acas_table.specs.declared.source.Source.{Source}
use Rattle.acas_table_text.specs.declared.fault.TableFault.{TableFault}
use Rattle.acas_table_text.specs.declared.fault.TableFault.TheVariants.{Magic, Version, OtherModel, Shape, Length, Advice, Digest, LayerDigest, Failed, Absent, Memory}

-- the source has passed over these fields, which have no fault
abbrev pub HasPassed : ℕ → ℕ → List Field → Option (List ℕ) → Source → Type 0
HasPassed e at all None new = (all ≡ []) × (new.from ≡ new.to)
HasPassed e at all (Some bytes) new = (fields_fault e at all bytes ≡ None) × IsAt new bytes

-- behind fields without fault, the fault is that of the others
pub behind_good : (e at : ℕ) (front rest : List Field) (bytes : List ℕ) → fields_fault e at front bytes ≡ None → fields_fault e at (front ++ rest) bytes ≡ fields_fault e (at + widths front) rest bytes
behind_good e at [] rest bytes none = ap (λ (k : ℕ). fields_fault e k rest bytes) (omega arith)
behind_good e at (field ∷ front) rest bytes none =
    let w = width_of field in
    let a = first_none (fault_at e at field bytes) (fields_fault e (at + w) front bytes ∷ []) none in
    let b = first_none (fields_fault e (at + w) front bytes) [] a.1 in
    ap (λ (o : Option TableFault). first (o ∷ fields_fault e (at + w) (front ++ rest) bytes ∷ [])) a.0
    ∙ first_one (fields_fault e (at + w) (front ++ rest) bytes)
    ∙ behind_good e (at + w) front rest bytes b.0
    ∙ ap (λ (k : ℕ). fields_fault e k rest bytes) (omega arith)

passed_stands : (e at : ℕ) (all : List Field) (file : Option (List ℕ)) (s : Source) → HasPassed e at all file s → IsAtFile s file
passed_stands e at all None s passed = passed.1
passed_stands e at all (Some bytes) s passed = passed.1

-- the fault of the next field is the first one of all
next_fault : (e at : ℕ) (front rest : List Field) (field : Field) (bytes : List ℕ) (mid : Source) → mid.expected ≡ e → mid.place ≡ at + widths front → fields_fault e at front bytes ≡ None
    → fields_fault e at (front ++ field ∷ rest) bytes ≡ first (fault_at mid.expected mid.place field bytes ∷ fields_fault e (at + widths front + width_of field) rest bytes ∷ [])
next_fault e at front rest field bytes mid expected place none =
    let behind = fields_fault e (at + widths front + width_of field) rest bytes in
    behind_good e at front (field ∷ rest) bytes none
    ∙ ap (λ (d : ℕ). first (fault_at d (at + widths front) field bytes ∷ behind ∷ [])) (sym expected)
    ∙ ap (λ (k : ℕ). first (fault_at mid.expected k field bytes ∷ behind ∷ [])) (sym place)

passed_more : {X : Type 0} (x : X) (e at : ℕ) (front : List Field) (field : Field) (file : Option (List ℕ)) (mid new : Source) → mid.expected ≡ e → mid.place ≡ at + widths front
    → HasPassed e at front file mid → Checks {X = X} (fault_at mid.expected mid.place field) (λ _ _. ⊤) file new (Ok x) → HasPassed e at (front ++ field ∷ []) file new
passed_more x e at front field None mid new expected place passed checks = absurd checks
passed_more x e at front field (Some bytes) mid new expected place passed checks =
    (next_fault e at front [] field bytes mid expected place passed.0 ∙ ap (λ (o : Option TableFault). first (o ∷ None ∷ [])) checks.0, checks.2)

-- a fault of a field is one of its bytes
pub record IsOfBytes (fault : TableFault) : Type 0 where
  pub failed : IsErrOf {T = Unit {0}} (Err fault) Failed → ⊥
  pub absent : IsErrOf {T = Unit {0}} (Err fault) Absent → ⊥
  pub memory : IsErrOf {T = Unit {0}} (Err fault) Memory → ⊥

the_fault : (good : Bool) (other fault : TableFault) → unless good other ≡ Some fault → other ≡ fault
the_fault true other fault e = absurd (cc e)
the_fault false other fault e = cc

pub of_field : (field : Field) (found : List ℕ) (fault : TableFault) → fault_in field found ≡ Some fault → IsOfBytes fault
of_field fields.Magic found fault e = let is = the_fault _ _ _ e in record { failed = λ k. cc; absent = λ k. cc; memory = λ k. cc }
of_field fields.Version found fault e = let is = the_fault _ _ _ e in record { failed = λ k. cc; absent = λ k. cc; memory = λ k. cc }
of_field (fields.Model digest) found fault e = let is = the_fault _ _ _ e in record { failed = λ k. cc; absent = λ k. cc; memory = λ k. cc }
of_field (fields.Number place expected) found fault e = let is = the_fault _ _ _ e in record { failed = λ k. cc; absent = λ k. cc; memory = λ k. cc }
of_field (fields.Digest computed) found fault e = let is = the_fault _ _ _ e in record { failed = λ k. cc; absent = λ k. cc; memory = λ k. cc }
of_field (fields.LayerDigest layer computed) found fault e = let is = the_fault _ _ _ e in record { failed = λ k. cc; absent = λ k. cc; memory = λ k. cc }

blames_found : (found : Option TableFault) (fault : TableFault) → IsOfBytes fault → found ≡ Some fault → Blames (Some found) fault
blames_found found Magic of_bytes is = is
blames_found found (Version a) of_bytes is = is
blames_found found (OtherModel a b) of_bytes is = is
blames_found found (Shape a b d) of_bytes is = is
blames_found found (Length a b) of_bytes is = is
blames_found found (Advice a b d) of_bytes is = is
blames_found found (Digest a b) of_bytes is = is
blames_found found (LayerDigest a b d) of_bytes is = is
blames_found found Failed of_bytes is = tt
blames_found found Absent of_bytes is = absurd (of_bytes.absent refl)
blames_found found Memory of_bytes is = is

-- a field that is there, and has a fault
field_file : (file : Option (List ℕ)) (field : Field) (n : ℕ) (found : List ℕ) (old mid : Source) (fault : TableFault) → fault_in field found ≡ Some fault → n ≡ width_of field
    → ((bytes : List ℕ) → IsAt mid bytes → found ≡ part bytes mid.place n) → mid.place ≡ old.place
    → Checks {X = Unit {0}} (λ bytes. end_fault old.expected bytes old.place n) (λ _ _. ⊤) file mid (Ok tt) → Blames (option_map (fault_at old.expected old.place field) file) fault
field_file None field n found old mid fault is width here place checks = absurd checks
field_file (Some bytes) field n found old mid fault is width here place checks =
    blames_found _ fault (of_field field found fault is)
    (ap (λ (k : ℕ). first (end_fault old.expected bytes old.place k ∷ fault_in field (part bytes old.place k) ∷ [])) (sym width)
    ∙ ap (λ (o : Option TableFault). first (o ∷ fault_in field (part bytes old.place n) ∷ [])) checks.0
    ∙ first_one (fault_in field (part bytes old.place n))
    ∙ ap (λ (k : ℕ). fault_in field (part bytes k n)) (sym place)
    ∙ ap (fault_in field) (sym (here bytes checks.2))
    ∙ is)

pub field_given : (holds : Option Files) (name : List ℕ) (field : Field) (n : ℕ) (found : List ℕ) (old mid : Source) (fault : TableFault) → fault_in field found ≡ Some fault → n ≡ width_of field
    → ((bytes : List ℕ) → IsAt mid bytes → found ≡ part bytes mid.place n) → mid.place ≡ old.place
    → Given holds name (λ file. IsAtFile old file → Checks {X = Unit {0}} (λ bytes. end_fault old.expected bytes old.place n) (λ _ _. ⊤) file mid (Ok tt))
    → Given holds name (λ file. IsAtFile old file → Blames (option_map (fault_at old.expected old.place field) file) fault)
field_given None name field n found old mid fault is width here place checks = tt
field_given (Some files) name field n found old mid fault is width here place checks = λ stands. field_file (get files name) field n found old mid fault is width here place (checks stands)

-- a fault of bytes that is another's too
pub blames_too : (x y : Option TableFault) (fault : TableFault) → (x ≡ Some fault → y ≡ Some fault) → Blames (Some x) fault → Blames (Some y) fault
blames_too x y Magic too blames = too blames
blames_too x y (Version a) too blames = too blames
blames_too x y (OtherModel a b) too blames = too blames
blames_too x y (Shape a b d) too blames = too blames
blames_too x y (Length a b) too blames = too blames
blames_too x y (Advice a b d) too blames = too blames
blames_too x y (Digest a b) too blames = too blames
blames_too x y (LayerDigest a b d) too blames = too blames
blames_too x y Failed too blames = tt
blames_too x y Absent too blames = absurd (cc blames)
blames_too x y Memory too blames = too blames

passed_blames : (X : Type 0) (e at : ℕ) (front rest : List Field) (field : Field) (file : Option (List ℕ)) (mid new : Source) (fault : TableFault) → mid.expected ≡ e → mid.place ≡ at + widths front
    → HasPassed e at front file mid → Checks {X = X} (fault_at mid.expected mid.place field) (λ _ _. ⊤) file new (Err fault) → Checks {X = X} (fields_fault e at (front ++ field ∷ rest)) (λ _ _. ⊤) file new (Err fault)
passed_blames X e at front rest field None mid new fault expected place passed checks = checks
passed_blames X e at front rest field (Some bytes) mid new fault expected place passed checks =
    blames_too _ _ fault
    (λ found. next_fault e at front rest field bytes mid expected place passed.0 ∙ ap (λ (o : Option TableFault). first (o ∷ fields_fault e (at + widths front + width_of field) rest bytes ∷ [])) found)
    checks

-- the widths of fields one after another
widths_append : (xs ys : List Field) → widths (xs ++ ys) ≡ widths xs + widths ys
widths_append [] ys = omega arith
widths_append (x ∷ xs) ys = omega (arith, widths_append xs ys)

-- the fields before one, it, and those behind it
split : (all : List Field) (i : ℕ) → i < length all → all ≡ take i all ++ get_or all i fields.Magic ∷ drop (i + 1) all
split all i within = sym (take-append-drop i all) ∙ ap (λ (l : List Field). take i all ++ l) (drop_more all i fields.Magic within)

pub widths_next : (all : List Field) (i : ℕ) → i < length all → widths (take (i + 1) all) ≡ widths (take i all) + width_of (get_or all i fields.Magic)
widths_next all i within = ap widths (take_more all i fields.Magic within) ∙ widths_append (take i all) (get_or all i fields.Magic ∷ []) ∙ omega arith

pub widths_fit : (all : List Field) (i : ℕ) → i < length all → widths (take i all) + width_of (get_or all i fields.Magic) ≤ widths all
widths_fit all i within =
    omega (arith, ap widths (split all i within), widths_append (take i all) (get_or all i fields.Magic ∷ drop (i + 1) all))

-- the next field has no fault
next_file : {X : Type 0} (x : X) (file : Option (List ℕ)) (i : ℕ) (all : List Field) (old mid new : Source) → i < length all → Steps old mid (widths (take i all))
    → HasPassed old.expected old.place (take i all) file mid
    → (IsAtFile mid file → Checks {X = X} (fault_at mid.expected mid.place (get_or all i fields.Magic)) (λ _ _. ⊤) file new (Ok x)) → HasPassed old.expected old.place (take (i + 1) all) file new
next_file x file i all old mid new within steps passed checks =
    subst (λ (l : List Field). HasPassed old.expected old.place l file new) (sym (take_more all i fields.Magic within))
    (passed_more x old.expected old.place (take i all) (get_or all i fields.Magic) file mid new steps.expected steps.place passed (checks (passed_stands old.expected old.place (take i all) file mid passed)))

pub next_given : {X : Type 0} (x : X) (holds later : Option Files) (name : List ℕ) (i : ℕ) (all : List Field) (old mid new : Source) → i < length all → later ≡ holds → Steps old mid (widths (take i all))
    → Given holds name (λ file. IsAtFile old file → HasPassed old.expected old.place (take i all) file mid)
    → Given later name (λ file. IsAtFile mid file → Checks {X = X} (fault_at mid.expected mid.place (get_or all i fields.Magic)) (λ _ _. ⊤) file new (Ok x))
    → Given holds name (λ file. IsAtFile old file → HasPassed old.expected old.place (take (i + 1) all) file new)
next_given x None later name i all old mid new within same steps passed checks = tt
next_given {X = X} x (Some files) later name i all old mid new within same steps passed checks = λ stands.
    next_file x (get files name) i all old mid new within steps (passed stands)
    (subst (λ (h : Option Files). Given h name (λ file. IsAtFile mid file → Checks {X = X} (fault_at mid.expected mid.place (get_or all i fields.Magic)) (λ _ _. ⊤) file new (Ok x))) same checks)

-- or it has the fault that is answered
blamed_file : (X : Type 0) (file : Option (List ℕ)) (i : ℕ) (all : List Field) (old mid new : Source) (fault : TableFault) → i < length all → Steps old mid (widths (take i all))
    → HasPassed old.expected old.place (take i all) file mid
    → (IsAtFile mid file → Checks {X = X} (fault_at mid.expected mid.place (get_or all i fields.Magic)) (λ _ _. ⊤) file new (Err fault)) → Checks {X = X} (fields_fault old.expected old.place all) (λ _ _. ⊤) file new (Err fault)
blamed_file X file i all old mid new fault within steps passed checks =
    subst (λ (l : List Field). Checks {X = X} (fields_fault old.expected old.place l) (λ _ _. ⊤) file new (Err fault)) (sym (split all i within))
    (passed_blames X old.expected old.place (take i all) (drop (i + 1) all) (get_or all i fields.Magic) file mid new fault steps.expected steps.place passed (checks (passed_stands old.expected old.place (take i all) file mid passed)))

pub blamed_given : {X : Type 0} (holds later : Option Files) (name : List ℕ) (i : ℕ) (all : List Field) (old mid new : Source) (fault : TableFault) (result : Result X TableFault) → result ≡ Err fault → i < length all → later ≡ holds → Steps old mid (widths (take i all))
    → Given holds name (λ file. IsAtFile old file → HasPassed old.expected old.place (take i all) file mid)
    → Given later name (λ file. IsAtFile mid file → Checks {X = X} (fault_at mid.expected mid.place (get_or all i fields.Magic)) (λ _ _. ⊤) file new (Err fault))
    → Given holds name (λ file. IsAtFile old file → Checks {X = X} (fields_fault old.expected old.place all) (λ _ _. ⊤) file new result)
blamed_given None later name i all old mid new fault result is within same steps passed checks = tt
blamed_given {X = X} (Some files) later name i all old mid new fault result is within same steps passed checks = λ stands.
    subst (λ (r : Result X TableFault). Checks {X = X} (fields_fault old.expected old.place all) (λ _ _. ⊤) (get files name) new r) (sym is)
    (blamed_file X (get files name) i all old mid new fault within steps (passed stands)
    (subst (λ (h : Option Files). Given h name (λ file. IsAtFile mid file → Checks {X = X} (fault_at mid.expected mid.place (get_or all i fields.Magic)) (λ _ _. ⊤) file new (Err fault))) same checks))

-- a call that reads on behind another, which found no fault
pub reads_both : {F X Y : Type 0} (d : FolderMeanings F) (a b c : F) (name : List ℕ) (s t u : Source) (y : Y) (result : Result X TableFault)
    → ReadsTable d a b name s t (Ok y) → ReadsTable d b c name t u result → ReadsTable d a c name s u result
reads_both d a b c name s t u y result first second = record {
  memory = second.memory;
  not_held = λ is. subst (λ (h : Option Files). Given h name (λ file. file ≡ None)) first.frame.holds (second.not_held is);
  taken = record {
    limit = second.taken.limit ∙ first.taken.limit;
    expected = second.taken.expected ∙ first.taken.expected;
    later = omega (arith, first.taken.later, second.taken.later);
    taken = omega (arith, first.taken.later, first.taken.taken, second.taken.later, second.taken.taken);
  };
  within = within_then (d.holds a) (d.holds b) name (bytes_taken s) (bytes_taken t) (bytes_taken u) first.frame.holds first.within second.within;
  frame = record {
    holds = second.frame.holds ∙ first.frame.holds;
    serves = second.frame.serves ∙ first.frame.serves;
    faults = omega (arith, first.frame.faults, second.frame.faults);
    misses = omega (arith, first.frame.misses, second.frame.misses);
    taken = omega (arith, first.frame.taken, second.frame.taken);
    fault = λ is. omega (arith, first.frame.faults, second.frame.fault is);
    miss = λ is. omega (arith, first.frame.misses, second.frame.miss is);
  };
}

-- bytes that were read are passed over, and what is answered then tells of no read and of no memory
pub passed_ok : {F X Y : Type 0} (d : FolderMeanings F) (old new : F) (name : List ℕ) (before mid now : Source) (n : ℕ) (y : Y) (x : X)
    → Steps mid now n → bytes_taken now ≡ bytes_taken mid
    → ReadsTable d old new name before mid (Ok y) → ReadsTable d old new name before now (Ok x)
passed_ok d old new name before mid now n y x steps same reads = grind arith

pub passed_fault : {F X Y : Type 0} (d : FolderMeanings F) (old new : F) (name : List ℕ) (before mid now : Source) (n : ℕ) (y : Y)
    (fault : TableFault) → IsOfBytes fault → Steps mid now n → bytes_taken now ≡ bytes_taken mid
    → ReadsTable d old new name before mid (Ok y) → ReadsTable {X = X} d old new name before now (Err fault)
passed_fault d old new name before mid now n y fault kind steps same reads = grind arith

pub of_version : (n : ℕ) → IsOfBytes (Version n)
of_version n = record { failed = λ k. cc; absent = λ k. cc; memory = λ k. cc }
