-- A fault that is found in an entry or at the end is the first one.
use Rattle.std.proofs.Common.{◌≡◌, ℕ, zero, suc, ◌+◌, ◌<◌, List, [], ◌∷◌, Option, None, Some, false, Result, Ok, Err, refl, sym, ◌∙◌, ap, subst, arith, add-one, inl, inr}
use Rattle.std.specs.Prelude.{IfSome, IsErrOf}
use Rattle.std.specs.FinMap.{get}
use Rattle.std.proofs.lemmas.Bool.{cases_lt}
use Rattle.acas_units.specs.declared.pair.Entry.{Entry}
use Rattle.acas_outside.specs.Files.{Files, Given}
use Rattle.acas_table_text.specs.Shape.{IsShape, entry_count}
use Rattle.acas_table_text.specs.Faults.{first, first_below, header_fault, entry_fault, tail_fault, first_fault}
use Rattle.acas_table_text.specs.declared.shape.TableShape.{TableShape}
use Rattle.acas_table_text.specs.declared.fault.TableFault.{TableFault}
use Rattle.acas_table_text.specs.declared.fault.TableFault.TheVariants.{Magic, Version, OtherModel, Shape, Length, Advice, Digest, LayerDigest, Failed, Absent, Memory}
use Rattle.acas_table_text.proofs.Backward.{good_is_text}
use Rattle.acas_table_text.proofs.Nones.{first_one}
use Rattle.acas_table.specs.declared.source.Source.{Source}
use Rattle.acas_table.specs.declared.reader.TableReader.{TableReader}
use Rattle.acas_table.specs.Source.{IsAtFile, IsOfFormat, Checks, Finds}
use Rattle.acas_table.specs.Reader.{reader_state, HasRead, GivesEntry, Finishes}

-- among the first n
pub found_below : {A : Type 0} (f : ℕ → Option A) (n i : ℕ) (fault : A) → i < n → first_below f i ≡ None → f i ≡ Some fault → first_below f n ≡ Some fault
found_below {A = A} f zero i fault within none here = absurd (omega (arith, within))
found_below {A = A} f (suc n) i fault within none here =
    elim (cases_lt i n) [
      | inl lt ↦ ap (λ (o : Option A). first (o ∷ f n ∷ [])) (found_below f n i fault lt none here)
      | inr le ↦
          let same : i ≡ n = omega (arith, within) in
          ap (λ (o : Option A). first (o ∷ f n ∷ [])) (subst (λ (k : ℕ). first_below f k ≡ None) same none)
          ∙ ap (λ (o : Option A). first (o ∷ [])) (subst (λ (k : ℕ). f k ≡ Some fault) same here)
    ]

-- and none among the first n + 1
pub none_below : {A : Type 0} (f : ℕ → Option A) (i : ℕ) → first_below f i ≡ None → f i ≡ None → first_below f (i + 1) ≡ None
none_below {A = A} f i none here =
    ap (first_below f) (add-one i) ∙ ap (λ (o : Option A). first (o ∷ f i ∷ [])) none ∙ ap (λ (o : Option A). first (o ∷ [])) here

-- in an entry
found_in_entry : (model : List ℕ) (s : TableShape) (bytes : List ℕ) (i : ℕ) (fault : TableFault) → header_fault model s bytes ≡ None → first_below (entry_fault s bytes) i ≡ None → i < entry_count s
    → entry_fault s bytes i ≡ Some fault → first_fault model s bytes ≡ Some fault
unfolding first_fault
found_in_entry model s bytes i fault header none within here =
    ap (λ (o : Option TableFault). first (o ∷ first_below (entry_fault s bytes) (entry_count s) ∷ tail_fault s bytes ∷ [])) header
    ∙ ap (λ (o : Option TableFault). first (o ∷ tail_fault s bytes ∷ [])) (found_below (entry_fault s bytes) (entry_count s) i fault within none here)

-- at the end
found_at_end : (model : List ℕ) (s : TableShape) (bytes : List ℕ) → header_fault model s bytes ≡ None → first_below (entry_fault s bytes) (entry_count s) ≡ None → first_fault model s bytes ≡ tail_fault s bytes
unfolding first_fault
found_at_end model s bytes header none =
    ap (λ (o : Option TableFault). first (o ∷ first_below (entry_fault s bytes) (entry_count s) ∷ tail_fault s bytes ∷ [])) header
    ∙ ap (λ (o : Option TableFault). first (o ∷ tail_fault s bytes ∷ [])) none
    ∙ first_one (tail_fault s bytes)

entry_both : (model : List ℕ) (r : TableReader) (bytes : List ℕ) (fault : TableFault) → HasRead model r bytes → r.given < entry_count r.shape → entry_fault r.shape bytes r.given ≡ Some fault
    → (entry_fault r.shape bytes r.given ≡ Some fault) × (first_fault model r.shape bytes ≡ Some fault)
entry_both model r bytes fault stands within here = (here, found_in_entry model r.shape bytes r.given fault stands.header stands.entries within here)

entry_with : (P : Entry → List ℕ → Type 0) (model bytes : List ℕ) (old : TableReader) (source : Source) (fault : TableFault) → HasRead model old bytes → old.given < entry_count old.shape → (IsErrOf {T = Entry} (Err fault) Memory → ⊥)
    → Checks (λ b. entry_fault old.shape b old.given) P (Some bytes) source (Err fault) → GivesEntry model (reader_state old) bytes (Err fault)
entry_with P model bytes old source Magic stands within not_memory checks = entry_both model old bytes _ stands within checks
entry_with P model bytes old source (Version a) stands within not_memory checks = entry_both model old bytes _ stands within checks
entry_with P model bytes old source (OtherModel a b) stands within not_memory checks = entry_both model old bytes _ stands within checks
entry_with P model bytes old source (Shape a b d) stands within not_memory checks = entry_both model old bytes _ stands within checks
entry_with P model bytes old source (Length a b) stands within not_memory checks = entry_both model old bytes _ stands within checks
entry_with P model bytes old source (Advice a b d) stands within not_memory checks = entry_both model old bytes _ stands within checks
entry_with P model bytes old source (Digest a b) stands within not_memory checks = entry_both model old bytes _ stands within checks
entry_with P model bytes old source (LayerDigest a b d) stands within not_memory checks = entry_both model old bytes _ stands within checks
entry_with P model bytes old source Failed stands within not_memory checks = tt
entry_with P model bytes old source Absent stands within not_memory checks = absurd (cc checks)
entry_with P model bytes old source Memory stands within not_memory checks = absurd (not_memory refl)

entry_file : (P : Entry → List ℕ → Type 0) (file : Option (List ℕ)) (old : TableReader) (source : Source) (fault : TableFault) → old.given < entry_count old.shape → (IsErrOf {T = Entry} (Err fault) Memory → ⊥)
    → (IsAtFile old.source file → IsOfFormat old.format file → Checks (λ b. entry_fault old.shape b old.given) P file source (Err fault))
    → (model : List ℕ) → IfSome file (λ bytes. HasRead model old bytes → GivesEntry model (reader_state old) bytes (Err fault))
entry_file P None old source fault within not_memory checks = λ model. tt
entry_file P (Some bytes) old source fault within not_memory checks = λ model stands. entry_with P model bytes old source fault stands within not_memory (checks stands.source stands.format)

pub entry_given : (P : Entry → List ℕ → Type 0) (holds : Option Files) (name : List ℕ) (old : TableReader) (source : Source) (fault : TableFault) → old.given < entry_count old.shape → (IsErrOf {T = Entry} (Err fault) Memory → ⊥)
    → Given holds name (λ file. IsAtFile old.source file → IsOfFormat old.format file → Checks (λ b. entry_fault old.shape b old.given) P file source (Err fault))
    → (model : List ℕ) → Given holds name (λ file. IfSome file (λ bytes. HasRead model old bytes → GivesEntry model (reader_state old) bytes (Err fault)))
entry_given P None name old source fault within not_memory checks = λ model. tt
entry_given P (Some files) name old source fault within not_memory checks = λ model. entry_file P (get files name) old source fault within not_memory checks model

-- and behind an entry without fault a reader stands one further
pub entry_good : (P : Entry → List ℕ → Type 0) (file : Option (List ℕ)) (old new : TableReader) (entry : Entry) → new.shape ≡ old.shape → new.format ≡ old.format → new.given ≡ old.given + 1 → new.fault ≡ None → new.done ≡ false
    → (IsAtFile old.source file → IsOfFormat old.format file → Checks (λ b. entry_fault old.shape b old.given) P file new.source (Ok entry))
    → (digest : List ℕ) → IfSome file (λ bytes. HasRead digest old bytes → HasRead digest new bytes)
entry_good P None old new entry shape format given sound more checks = λ digest. tt
entry_good P (Some bytes) old new entry shape format given sound more checks = λ digest stands.
    let found = checks stands.source stands.format in
    record {
      format = stands.format ∙ sym format;
      header = ap (λ (s : TableShape). header_fault digest s bytes) shape ∙ stands.header;
      entries =
          ap (λ (s : TableShape). first_below (entry_fault s bytes) new.given) shape
          ∙ ap (first_below (entry_fault old.shape bytes)) given
          ∙ none_below (entry_fault old.shape bytes) old.given stands.entries found.0;
      source = found.2;
      sound = sound;
      more = more;
    }

pub entry_stands : (P : Entry → List ℕ → Type 0) (holds : Option Files) (name : List ℕ) (old new : TableReader) (entry : Entry) → new.shape ≡ old.shape → new.format ≡ old.format → new.given ≡ old.given + 1 → new.fault ≡ None → new.done ≡ false
    → Given holds name (λ file. IsAtFile old.source file → IsOfFormat old.format file → Checks (λ b. entry_fault old.shape b old.given) P file new.source (Ok entry))
    → (digest : List ℕ) → Given holds name (λ file. IfSome file (λ bytes. HasRead digest old bytes → HasRead digest new bytes))
entry_stands P None name old new entry shape format given sound more checks = λ digest. tt
entry_stands P (Some files) name old new entry shape format given sound more checks = entry_good P (get files name) old new entry shape format given sound more checks

finish_with : {Y : Type 0} (model : List ℕ) (s : TableShape) (bytes : List ℕ) (result : Result Y TableFault) → IsShape s → (IsErrOf result Memory → ⊥) → first_fault model s bytes ≡ tail_fault s bytes
    → Finds (tail_fault s) (Some bytes) result → Finishes model s bytes result
finish_with model s bytes (Ok y) shape not_memory at_end finds = (finds.0, at_end ∙ finds.0, good_is_text model s bytes shape finds.1 (at_end ∙ finds.0))
finish_with model s bytes (Err Magic) shape not_memory at_end finds = (finds, at_end ∙ finds)
finish_with model s bytes (Err (Version a)) shape not_memory at_end finds = (finds, at_end ∙ finds)
finish_with model s bytes (Err (OtherModel a b)) shape not_memory at_end finds = (finds, at_end ∙ finds)
finish_with model s bytes (Err (Shape a b d)) shape not_memory at_end finds = (finds, at_end ∙ finds)
finish_with model s bytes (Err (Length a b)) shape not_memory at_end finds = (finds, at_end ∙ finds)
finish_with model s bytes (Err (Advice a b d)) shape not_memory at_end finds = (finds, at_end ∙ finds)
finish_with model s bytes (Err (Digest a b)) shape not_memory at_end finds = (finds, at_end ∙ finds)
finish_with model s bytes (Err (LayerDigest a b d)) shape not_memory at_end finds = (finds, at_end ∙ finds)
finish_with model s bytes (Err Failed) shape not_memory at_end finds = tt
finish_with model s bytes (Err Absent) shape not_memory at_end finds = absurd (cc finds)
finish_with model s bytes (Err Memory) shape not_memory at_end finds = absurd (not_memory refl)

finish_file : {Y : Type 0} (file : Option (List ℕ)) (old : TableReader) (result : Result Y TableFault) → old.given ≡ entry_count old.shape → (IsErrOf result Memory → ⊥)
    → (IsAtFile old.source file → IsOfFormat old.format file → Finds (tail_fault old.shape) file result)
    → (model : List ℕ) → IfSome file (λ bytes. HasRead model old bytes → Finishes model old.shape bytes result)
finish_file None old result all not_memory finds = λ model. tt
finish_file (Some bytes) old result all not_memory finds = λ model stands.
    finish_with model old.shape bytes result old.limited not_memory
    (found_at_end model old.shape bytes stands.header (subst (λ (n : ℕ). first_below (entry_fault old.shape bytes) n ≡ None) all stands.entries))
    (finds stands.source stands.format)

pub finish_given : {Y : Type 0} (holds : Option Files) (name : List ℕ) (old : TableReader) (result : Result Y TableFault) → old.given ≡ entry_count old.shape → (IsErrOf result Memory → ⊥)
    → Given holds name (λ file. IsAtFile old.source file → IsOfFormat old.format file → Finds (tail_fault old.shape) file result)
    → (model : List ℕ) → Given holds name (λ file. IfSome file (λ bytes. HasRead model old bytes → Finishes model old.shape bytes result))
finish_given None name old result all not_memory finds = λ model. tt
finish_given (Some files) name old result all not_memory finds = λ model. finish_file (get files name) old result all not_memory finds model
