-- What is looked at behind a header: a digest, an entry, one after another.
use Rattle.std.proofs.Common.{◌≡◌, ℕ, ◌-◌, ◌/◌, ◌%◌, List, [], ◌∷◌, Bool, true, false, cond, eqb, ltb, Option, Some, None, Result, Ok, Err, refl, sym, ◌∙◌, ap, subst}
use Rattle.std.specs.FinMap.{get}
use Rattle.sha2.specs.Sha256.{sha256}
use Rattle.acas_units.specs.declared.pair.Entry.{Entry}
use Rattle.acas_outside.specs.Files.{Files, Given}
use Rattle.acas_table_text.specs.Format.{digest_start, ended_group, entry_start, format_of, hashed_from, last_group, length_of, part}
use Rattle.acas_table_text.specs.Text.{entry_at, entry_of}
use Rattle.acas_table_text.specs.Faults.{advice_fault, bytes_fault, digest_fault, digest_field, end_fault, ended_fault, entry_fault, fault_at, first, kept_fault, more_fault, rest_fault, tail_fault, unless, width_of}
use Rattle.acas_table_text.specs.declared.field.Field.{Field}
use Rattle.acas_table_text.specs.declared.format.Format.{Format}
use Rattle.acas_table_text.specs.declared.format.Format.TheVariants.{Layered, Whole}
use Rattle.acas_table_text.specs.declared.shape.TableShape.{TableShape}
use Rattle.acas_table_text.specs.declared.fault.TableFault.{TableFault}
use Rattle.acas_table_text.specs.declared.fault.TableFault.TheVariants.{Advice}
use Rattle.acas_table_text.proofs.Nones.{first_one}
use Rattle.acas_table.specs.declared.source.Source.{Source}
use Rattle.acas_table.specs.Source.{Blames, Checks, Finds, IsAt, IsAtFile, IsOfFormat, StandsAt}
use Rattle.acas_table.proofs.Passed.{blames_too}

-- two words for one fault
checks_same : {X : Type 0} (P : X → List ℕ → Type 0) (f g : List ℕ → Option TableFault) (bytes : List ℕ) (new : Source) (result : Result X TableFault) → f bytes ≡ g bytes → Checks f P (Some bytes) new result → Checks g P (Some bytes) new result
checks_same P f g bytes new (Ok x) same checks = (sym same ∙ checks.0, checks.1, checks.2)
checks_same P f g bytes new (Err fault) same checks = subst (λ (o : Option TableFault). Blames (Some o) fault) same checks

-- of a file that is not held, no fault is looked at
checks_none : {X : Type 0} (P : X → List ℕ → Type 0) (f g : List ℕ → Option TableFault) (new : Source) (result : Result X TableFault) → Checks f P None new result → Checks g P None new result
checks_none P f g new (Ok x) checks = checks
checks_none P f g new (Err fault) checks = checks

-- the digest of a group
digest_is : (f : Format) (s : TableShape) (bytes : List ℕ) (k e at : ℕ) (computed : List ℕ) → format_of bytes ≡ f → e ≡ length_of f s → at ≡ digest_start f s k
    → computed ≡ sha256 (part bytes (hashed_from f s k) (digest_start f s k - hashed_from f s k)) → fault_at e at (digest_field f k computed) bytes ≡ digest_fault s bytes k
unfolding kept_fault
digest_is f s bytes k e at computed format length place is =
    ap (λ (n : ℕ). fault_at n at (digest_field f k computed) bytes) length
    ∙ ap (λ (n : ℕ). fault_at (length_of f s) n (digest_field f k computed) bytes) place
    ∙ ap (λ (d : List ℕ). fault_at (length_of f s) (digest_start f s k) (digest_field f k d) bytes) is
    ∙ ap (λ (g : Format). fault_at (length_of g s) (digest_start g s k) (digest_field g k (sha256 (part bytes (hashed_from g s k) (digest_start g s k - hashed_from g s k)))) bytes) (sym format)

digest_file : {X : Type 0} (P : X → List ℕ → Type 0) (file : Option (List ℕ)) (f : Format) (s : TableShape) (k : ℕ) (old mid new : Source) (computed : List ℕ) (result : Result X TableFault)
    → ((bytes : List ℕ) → IsAt old bytes → computed ≡ sha256 (part bytes old.mark (old.place - old.mark))) → old.mark ≡ hashed_from f s k → StandsAt f s old (digest_start f s k) → mid.place ≡ old.place → mid.expected ≡ old.expected
    → IsAtFile old file → IsOfFormat f file → Checks (fault_at mid.expected mid.place (digest_field f k computed)) P file new result → Checks (λ bytes. digest_fault s bytes k) P file new result
digest_file P None f s k old mid new computed result digest mark stands place expected at format checks =
    checks_none P (fault_at mid.expected mid.place (digest_field f k computed)) (λ bytes. digest_fault s bytes k) new result checks
digest_file P (Some bytes) f s k old mid new computed result digest mark stands place expected at format checks =
    let is : computed ≡ sha256 (part bytes (hashed_from f s k) (digest_start f s k - hashed_from f s k)) =
    digest bytes at ∙ ap (λ (m : ℕ). sha256 (part bytes m (old.place - m))) mark ∙ ap (λ (n : ℕ). sha256 (part bytes (hashed_from f s k) (n - hashed_from f s k))) stands.place in
    checks_same P (fault_at mid.expected mid.place (digest_field f k computed)) (λ b. digest_fault s b k) bytes new result
    (digest_is f s bytes k mid.expected mid.place computed format (expected ∙ stands.expected) (place ∙ stands.place) is)
    checks

pub digest_given : {X : Type 0} (P : X → List ℕ → Type 0) (holds : Option Files) (name : List ℕ) (f : Format) (s : TableShape) (k : ℕ) (old mid new : Source) (computed : List ℕ) (field : Field) (result : Result X TableFault)
    → field ≡ digest_field f k computed → ((bytes : List ℕ) → IsAt old bytes → computed ≡ sha256 (part bytes old.mark (old.place - old.mark))) → ((file : Option (List ℕ)) → IsAtFile old file → IsAtFile mid file)
    → old.mark ≡ hashed_from f s k → StandsAt f s old (digest_start f s k) → mid.place ≡ old.place → mid.expected ≡ old.expected
    → Given holds name (λ file. IsAtFile mid file → Checks (fault_at mid.expected mid.place field) P file new result)
    → Given holds name (λ file. IsAtFile old file → IsOfFormat f file → Checks (λ bytes. digest_fault s bytes k) P file new result)
digest_given P None name f s k old mid new computed field result is digest stays mark stands place expected checks = tt
digest_given P (Some files) name f s k old mid new computed field result is digest stays mark stands place expected checks = λ at format.
    digest_file P (get files name) f s k old mid new computed result digest mark stands place expected at format
    (subst (λ (d : Field). Checks (fault_at mid.expected mid.place d) P (get files name) new result) is (checks (stays (get files name) at)))

-- the bytes of an entry
bytes_are : (f : Format) (s : TableShape) (bytes : List ℕ) (i e at : ℕ) → format_of bytes ≡ f → e ≡ length_of f s → at ≡ entry_start f s i
    → first (end_fault e bytes at 17 ∷ advice_fault s i (entry_of (part bytes at 17)).advice ∷ []) ≡ bytes_fault s bytes i
unfolding bytes_fault
bytes_are f s bytes i e at format length place =
    ap (λ (n : ℕ). first (end_fault n bytes at 17 ∷ advice_fault s i (entry_of (part bytes at 17)).advice ∷ [])) length
    ∙ ap (λ (n : ℕ). first (end_fault (length_of f s) bytes n 17 ∷ advice_fault s i (entry_of (part bytes n 17)).advice ∷ [])) place
    ∙ ap (λ (g : Format). first (end_fault (length_of g s) bytes (entry_start g s i) 17 ∷ advice_fault s i (entry_of (part bytes (entry_start g s i) 17)).advice ∷ [])) (sym format)

entry_is : (f : Format) (s : TableShape) (bytes : List ℕ) (i at : ℕ) → format_of bytes ≡ f → at ≡ entry_start f s i → entry_of (part bytes at 17) ≡ entry_at s bytes i
entry_is f s bytes i at format place =
    ap (λ (n : ℕ). entry_of (part bytes n 17)) place ∙ ap (λ (g : Format). entry_of (part bytes (entry_start g s i) 17)) (sym format)

-- the file ends before its end
short_file : {X : Type 0} (P Q : X → List ℕ → Type 0) (file : Option (List ℕ)) (f : Format) (s : TableShape) (i : ℕ) (old new : Source) (fault : TableFault) → StandsAt f s old (entry_start f s i) → IsOfFormat f file
    → Checks (λ bytes. end_fault old.expected bytes old.place 17) P file new (Err fault) → Checks (λ bytes. bytes_fault s bytes i) Q file new (Err fault)
short_file P Q None f s i old new fault stands format checks = checks
short_file P Q (Some bytes) f s i old new fault stands format checks =
    blames_too (end_fault old.expected bytes old.place 17) (bytes_fault s bytes i) fault
    (λ found. sym (bytes_are f s bytes i old.expected old.place format stands.expected stands.place) ∙ ap (λ (o : Option TableFault). first (o ∷ advice_fault s i (entry_of (part bytes old.place 17)).advice ∷ [])) found)
    checks

pub short_given : {X : Type 0} (P Q : X → List ℕ → Type 0) (holds : Option Files) (name : List ℕ) (f : Format) (s : TableShape) (i : ℕ) (old new : Source) (fault : TableFault) (result : Result X TableFault)
    → result ≡ Err fault → StandsAt f s old (entry_start f s i)
    → Given holds name (λ file. IsAtFile old file → Checks (λ bytes. end_fault old.expected bytes old.place 17) P file new (Err fault))
    → Given holds name (λ file. IsAtFile old file → IsOfFormat f file → Checks (λ bytes. bytes_fault s bytes i) Q file new result)
short_given P Q None name f s i old new fault result is stands checks = tt
short_given {X = X} P Q (Some files) name f s i old new fault result is stands checks = λ at format.
    subst (λ (r : Result X TableFault). Checks (λ bytes. bytes_fault s bytes i) Q (get files name) new r) (sym is)
    (short_file P Q (get files name) f s i old new fault stands format (checks at))

-- or it is there, and its advice has this fault
advice_file : {X : Type 0} (Q : X → List ℕ → Type 0) (file : Option (List ℕ)) (f : Format) (s : TableShape) (i : ℕ) (old new : Source) (entry : Entry) (fault : TableFault) → StandsAt f s old (entry_start f s i) → IsOfFormat f file
    → advice_fault s i entry.advice ≡ Some fault → ((found : Option TableFault) → found ≡ Some fault → Blames (Some found) fault)
    → Checks (λ bytes. end_fault old.expected bytes old.place 17) (λ e bytes. e ≡ entry_of (part bytes old.place 17)) file new (Ok entry)
    → Checks (λ bytes. bytes_fault s bytes i) Q file new (Err fault)
advice_file Q None f s i old new entry fault stands format bad blames checks = absurd checks
advice_file Q (Some bytes) f s i old new entry fault stands format bad blames checks =
    blames (bytes_fault s bytes i)
    (sym (bytes_are f s bytes i old.expected old.place format stands.expected stands.place)
    ∙ ap (λ (o : Option TableFault). first (o ∷ advice_fault s i (entry_of (part bytes old.place 17)).advice ∷ [])) checks.0
    ∙ ap (λ (e : Entry). first (advice_fault s i e.advice ∷ [])) (sym checks.1)
    ∙ ap (λ (o : Option TableFault). first (o ∷ [])) bad)

pub advice_given : {X : Type 0} (Q : X → List ℕ → Type 0) (holds : Option Files) (name : List ℕ) (f : Format) (s : TableShape) (i : ℕ) (old new : Source) (entry : Entry) (fault : TableFault) → StandsAt f s old (entry_start f s i)
    → advice_fault s i entry.advice ≡ Some fault → ((found : Option TableFault) → found ≡ Some fault → Blames (Some found) fault)
    → Given holds name (λ file. IsAtFile old file → Checks (λ bytes. end_fault old.expected bytes old.place 17) (λ e bytes. e ≡ entry_of (part bytes old.place 17)) file new (Ok entry))
    → Given holds name (λ file. IsAtFile old file → IsOfFormat f file → Checks (λ bytes. bytes_fault s bytes i) Q file new (Err fault))
advice_given Q None name f s i old new entry fault stands bad blames checks = tt
advice_given Q (Some files) name f s i old new entry fault stands bad blames checks = λ at format.
    advice_file Q (get files name) f s i old new entry fault stands format bad blames (checks at)

-- or none
pub read_file : (file : Option (List ℕ)) (f : Format) (s : TableShape) (i : ℕ) (old new : Source) (entry : Entry) → StandsAt f s old (entry_start f s i) → IsOfFormat f file
    → advice_fault s i entry.advice ≡ None
    → Checks (λ bytes. end_fault old.expected bytes old.place 17) (λ e bytes. e ≡ entry_of (part bytes old.place 17)) file new (Ok entry)
    → Checks (λ bytes. bytes_fault s bytes i) (λ e bytes. e ≡ entry_at s bytes i) file new (Ok entry)
read_file None f s i old new entry stands format good checks = absurd checks
read_file (Some bytes) f s i old new entry stands format good checks = (
  sym (bytes_are f s bytes i old.expected old.place format stands.expected stands.place)
      ∙ ap (λ (o : Option TableFault). first (o ∷ advice_fault s i (entry_of (part bytes old.place 17)).advice ∷ [])) checks.0
      ∙ ap (λ (e : Entry). first (advice_fault s i e.advice ∷ [])) (sym checks.1)
      ∙ ap (λ (o : Option TableFault). first (o ∷ [])) good,
  checks.1 ∙ entry_is f s bytes i old.place format stands.place,
  checks.2,
)

pub read_given : (holds : Option Files) (name : List ℕ) (f : Format) (s : TableShape) (i : ℕ) (old new : Source) (entry : Entry) → StandsAt f s old (entry_start f s i)
    → advice_fault s i entry.advice ≡ None
    → Given holds name (λ file. IsAtFile old file → Checks (λ bytes. end_fault old.expected bytes old.place 17) (λ e bytes. e ≡ entry_of (part bytes old.place 17)) file new (Ok entry))
    → Given holds name (λ file. IsAtFile old file → IsOfFormat f file → Checks (λ bytes. bytes_fault s bytes i) (λ e bytes. e ≡ entry_at s bytes i) file new (Ok entry))
read_given None name f s i old new entry stands good checks = tt
read_given (Some files) name f s i old new entry stands good checks = λ at format. read_file (get files name) f s i old new entry stands format good (checks at)

-- the digest of the group that ends before an entry, and the entry
entry_in : (f : Format) (s : TableShape) (bytes : List ℕ) (i : ℕ) (ended : Option ℕ) → format_of bytes ≡ f → ended ≡ ended_group f s i
    → first (ended_fault s bytes ended ∷ bytes_fault s bytes i ∷ []) ≡ entry_fault s bytes i
unfolding entry_fault
entry_in f s bytes i ended format is =
    ap (λ (o : Option ℕ). first (ended_fault s bytes o ∷ bytes_fault s bytes i ∷ [])) is
    ∙ ap (λ (g : Format). first (ended_fault s bytes (ended_group g s i) ∷ bytes_fault s bytes i ∷ [])) (sym format)

-- the fault of the digest of a group, or else of the entry behind it
abbrev behind_fault : TableShape → ℕ → ℕ → List ℕ → Option TableFault
behind_fault s k i bytes = first (digest_fault s bytes k ∷ bytes_fault s bytes i ∷ [])

behind_file : {X : Type 0} (P : X → List ℕ → Type 0) (file : Option (List ℕ)) (f : Format) (s : TableShape) (i k : ℕ) (new : Source) (result : Result X TableFault) → Some k ≡ ended_group f s i → IsOfFormat f file
    → Checks (behind_fault s k i) P file new result → Checks (λ bytes. entry_fault s bytes i) P file new result
behind_file P None f s i k new result is format checks = checks_none P (behind_fault s k i) (λ bytes. entry_fault s bytes i) new result checks
behind_file P (Some bytes) f s i k new result is format checks =
    checks_same P (behind_fault s k i) (λ b. entry_fault s b i) bytes new result (entry_in f s bytes i (Some k) format is) checks

-- where the digest fails, nothing more is looked at
digest_stops : {X Y : Type 0} (P : X → List ℕ → Type 0) (Q : Y → List ℕ → Type 0) (file : Option (List ℕ)) (s : TableShape) (i k : ℕ) (new : Source) (fault : TableFault)
    → Checks (λ bytes. digest_fault s bytes k) P file new (Err fault) → Checks (behind_fault s k i) Q file new (Err fault)
digest_stops P Q None s i k new fault checks = checks
digest_stops P Q (Some bytes) s i k new fault checks =
    blames_too (digest_fault s bytes k) (behind_fault s k i bytes) fault
    (λ found. ap (λ (o : Option TableFault). first (o ∷ bytes_fault s bytes i ∷ [])) found)
    checks

pub stopped_given : {X Y : Type 0} (P : X → List ℕ → Type 0) (Q : Y → List ℕ → Type 0) (holds : Option Files) (name : List ℕ) (f : Format) (s : TableShape) (i k : ℕ) (old new : Source) (fault : TableFault) (result : Result Y TableFault)
    → result ≡ Err fault → Some k ≡ ended_group f s i
    → Given holds name (λ file. IsAtFile old file → IsOfFormat f file → Checks (λ bytes. digest_fault s bytes k) P file new (Err fault))
    → Given holds name (λ file. IsAtFile old file → IsOfFormat f file → Checks (λ bytes. entry_fault s bytes i) Q file new result)
stopped_given P Q None name f s i k old new fault result is ended checks = tt
stopped_given {Y = Y} P Q (Some files) name f s i k old new fault result is ended checks = λ at format.
    subst (λ (r : Result Y TableFault). Checks (λ bytes. entry_fault s bytes i) Q (get files name) new r) (sym is)
    (behind_file Q (get files name) f s i k new (Err fault) ended format (digest_stops P Q (get files name) s i k new fault (checks at format)))

-- where it does not, the entry behind it is
digest_passes : {X Y : Type 0} (x : X) (P : X → List ℕ → Type 0) (Q : Y → List ℕ → Type 0) (file : Option (List ℕ)) (s : TableShape) (i k : ℕ) (mid new : Source) (result : Result Y TableFault)
    → Checks (λ bytes. digest_fault s bytes k) P file mid (Ok x) → (IsAtFile mid file → Checks (λ bytes. bytes_fault s bytes i) Q file new result) → Checks (behind_fault s k i) Q file new result
digest_passes x P Q None s i k mid new result digest rest = absurd digest
digest_passes x P Q (Some bytes) s i k mid new result digest rest =
    checks_same Q (λ b. bytes_fault s b i) (behind_fault s k i) bytes new result
    (sym (ap (λ (o : Option TableFault). first (o ∷ bytes_fault s bytes i ∷ [])) digest.0 ∙ first_one (bytes_fault s bytes i)))
    (rest digest.2)

pub passed_given : {X Y : Type 0} (x : X) (P : X → List ℕ → Type 0) (Q : Y → List ℕ → Type 0) (holds later : Option Files) (name : List ℕ) (f : Format) (s : TableShape) (i k : ℕ) (old mid new : Source) (result : Result Y TableFault)
    → later ≡ holds → Some k ≡ ended_group f s i
    → Given holds name (λ file. IsAtFile old file → IsOfFormat f file → Checks (λ bytes. digest_fault s bytes k) P file mid (Ok x))
    → Given later name (λ file. IsAtFile mid file → IsOfFormat f file → Checks (λ bytes. bytes_fault s bytes i) Q file new result)
    → Given holds name (λ file. IsAtFile old file → IsOfFormat f file → Checks (λ bytes. entry_fault s bytes i) Q file new result)
passed_given x P Q None later name f s i k old mid new result same ended digest rest = tt
passed_given x P Q (Some files) later name f s i k old mid new result same ended digest rest = λ at format.
    let here = subst (λ (h : Option Files). Given h name (λ file. IsAtFile mid file → IsOfFormat f file → Checks (λ bytes. bytes_fault s bytes i) Q file new result)) same rest in
    behind_file Q (get files name) f s i k new result ended format (digest_passes x P Q (get files name) s i k mid new result (digest at format) (λ there. here there format))

-- what is read of the bytes, of the same source and the same files
pub moved_given : {X : Type 0} (P : X → List ℕ → Type 0) (holds later : Option Files) (name : List ℕ) (f : Format) (s : TableShape) (i : ℕ) (old mid new : Source) (result : Result X TableFault) → later ≡ holds → mid ≡ old
    → Given later name (λ file. IsAtFile mid file → IsOfFormat f file → Checks (λ bytes. bytes_fault s bytes i) P file new result)
    → Given holds name (λ file. IsAtFile old file → IsOfFormat f file → Checks (λ bytes. bytes_fault s bytes i) P file new result)
moved_given P holds later name f s i old mid new result same stands checks =
    subst (λ (h : Option Files). Given h name (λ file. IsAtFile old file → IsOfFormat f file → Checks (λ bytes. bytes_fault s bytes i) P file new result)) same
    (subst (λ (source : Source). Given later name (λ file. IsAtFile source file → IsOfFormat f file → Checks (λ bytes. bytes_fault s bytes i) P file new result)) stands checks)

pub alone_file : {X : Type 0} (P : X → List ℕ → Type 0) (file : Option (List ℕ)) (f : Format) (s : TableShape) (i : ℕ) (new : Source) (result : Result X TableFault) → None ≡ ended_group f s i → IsOfFormat f file
    → Checks (λ bytes. bytes_fault s bytes i) P file new result → Checks (λ bytes. entry_fault s bytes i) P file new result
alone_file P None f s i new result is format checks = checks_none P (λ bytes. bytes_fault s bytes i) (λ bytes. entry_fault s bytes i) new result checks
alone_file P (Some bytes) f s i new result is format checks =
    checks_same P (λ b. bytes_fault s b i) (λ b. entry_fault s b i) bytes new result (sym (first_one (bytes_fault s bytes i)) ∙ entry_in f s bytes i None format is) checks

pub alone_given : {X : Type 0} (P : X → List ℕ → Type 0) (holds : Option Files) (name : List ℕ) (f : Format) (s : TableShape) (i : ℕ) (old new : Source) (result : Result X TableFault) → None ≡ ended_group f s i
    → Given holds name (λ file. IsAtFile old file → IsOfFormat f file → Checks (λ bytes. bytes_fault s bytes i) P file new result)
    → Given holds name (λ file. IsAtFile old file → IsOfFormat f file → Checks (λ bytes. entry_fault s bytes i) P file new result)
alone_given P None name f s i old new result is checks = tt
alone_given P (Some files) name f s i old new result is checks = λ at format. alone_file P (get files name) f s i new result is format (checks at format)

pub digest_width : (f : Format) (k : ℕ) (computed : List ℕ) → width_of (digest_field f k computed) ≡ 32
digest_width Whole k computed = refl
digest_width Layered k computed = refl

-- the last digest, and then the end
end_is : (f : Format) (s : TableShape) (bytes : List ℕ) (k e : ℕ) → format_of bytes ≡ f → k ≡ last_group f s → e ≡ length_of f s → first (digest_fault s bytes k ∷ more_fault e bytes ∷ []) ≡ tail_fault s bytes
unfolding rest_fault
end_is f s bytes k e format last length =
    ap (λ (n : ℕ). first (digest_fault s bytes n ∷ more_fault e bytes ∷ [])) last
    ∙ ap (λ (n : ℕ). first (digest_fault s bytes (last_group f s) ∷ more_fault n bytes ∷ [])) length
    ∙ ap (λ (g : Format). first (digest_fault s bytes (last_group g s) ∷ more_fault (length_of g s) bytes ∷ [])) (sym format)

end_file : {X Y : Type 0} (x : X) (P : X → List ℕ → Type 0) (file : Option (List ℕ)) (f : Format) (s : TableShape) (k e : ℕ) (mid : Source) (result : Result Y TableFault) → IsOfFormat f file → k ≡ last_group f s → e ≡ length_of f s
    → Checks (λ bytes. digest_fault s bytes k) P file mid (Ok x) → (IsAtFile mid file → Finds (more_fault e) file result) → Finds (tail_fault s) file result
end_file x P None f s k e mid result format last length digest rest = absurd digest
end_file x P (Some bytes) f s k e mid (Ok y) format last length digest rest =
    let found = rest digest.2 in (
      sym (end_is f s bytes k e format last length) ∙ ap (λ (o : Option TableFault). first (o ∷ more_fault e bytes ∷ [])) digest.0 ∙ ap (λ (o : Option TableFault). first (o ∷ [])) found.0,
      found.1,
    )
end_file x P (Some bytes) f s k e mid (Err fault) format last length digest rest =
    subst (λ (o : Option TableFault). Blames (Some o) fault)
    (sym (sym (end_is f s bytes k e format last length) ∙ ap (λ (o : Option TableFault). first (o ∷ more_fault e bytes ∷ [])) digest.0 ∙ first_one (more_fault e bytes)))
    (rest digest.2)

pub end_given : {X Y : Type 0} (x : X) (P : X → List ℕ → Type 0) (holds later : Option Files) (name : List ℕ) (f : Format) (s : TableShape) (k : ℕ) (old mid : Source) (result : Result Y TableFault)
    → later ≡ holds → k ≡ last_group f s → mid.expected ≡ length_of f s
    → Given holds name (λ file. IsAtFile old file → IsOfFormat f file → Checks (λ bytes. digest_fault s bytes k) P file mid (Ok x))
    → Given later name (λ file. IsAtFile mid file → Finds (more_fault mid.expected) file result)
    → Given holds name (λ file. IsAtFile old file → IsOfFormat f file → Finds (tail_fault s) file result)
end_given x P None later name f s k old mid result same last length digest rest = tt
end_given x P (Some files) later name f s k old mid result same last length digest rest = λ at format.
    let here = subst (λ (h : Option Files). Given h name (λ file. IsAtFile mid file → Finds (more_fault mid.expected) file result)) same rest in
    end_file x P (get files name) f s k mid.expected mid result format last length (digest at format) here

-- the advice of an entry is one that it may have, or not
pub advice_good : (s : TableShape) (i byte : ℕ) (b : Bool) → b ≡ cond (ltb i s.states) (eqb byte 255) (ltb byte s.advisories) → b ≡ true → advice_fault s i byte ≡ None
advice_good s i byte b is good = ap (λ (c : Bool). unless c (Advice (i / s.states) (i % s.states) byte)) (sym is ∙ good)

pub advice_bad : (s : TableShape) (i byte : ℕ) (b : Bool) → b ≡ cond (ltb i s.states) (eqb byte 255) (ltb byte s.advisories) → b ≡ false → advice_fault s i byte ≡ Some (Advice (i / s.states) (i % s.states) byte)
advice_bad s i byte b is bad = ap (λ (c : Bool). unless c (Advice (i / s.states) (i % s.states) byte)) (sym is ∙ bad)
