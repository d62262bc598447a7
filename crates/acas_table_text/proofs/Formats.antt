-- The format of bytes, and the faults of bytes that are read in a format.
use Rattle.std.proofs.Common.{◌≡◌, ℕ, zero, suc, ◌+◌, ◌-◌, ◌≤◌, Bool, true, false, cond, eqb, ltb, List, [], ◌∷◌, length, Option, None, Some, refl, ◌∙◌, ap, subst}
use Rattle.std.proofs.lemmas.Bool.{le-ltb, ltb-false, eqb-true}
use Rattle.std.specs.Prelude.{is_some}
use Rattle.sha2.specs.Sha256.{sha256}
use Rattle.byteorder.specs.Endian.{little_number}
use Rattle.acas_table_text.specs.Shape.{entry_count}
use Rattle.acas_table_text.specs.Format.{digest_start, ended_group, entry_start, format_of, hashed_from, last_group, length_of, part, version_of}
use Rattle.acas_table_text.specs.Text.{entry_of}
use Rattle.acas_table_text.specs.Faults.{advice_fault, bytes_fault, digest_fault, digest_field, ended_fault, entry_fault, fault_in, field_fault, fields_fault, first, first_below, first_fault, header_fault, header_fields, kept_fault, more_fault, rest_fault, tail_fault, unless, version_fault, width_of}
use Rattle.acas_table_text.specs.declared.format.Format.{Format}
use Rattle.acas_table_text.specs.declared.format.Format.TheVariants.{Layered, Whole}
use Rattle.acas_table_text.specs.declared.shape.TableShape.{TableShape}
use Rattle.acas_table_text.specs.declared.fault.TableFault.{TableFault}
use Rattle.acas_table_text.specs.declared.fault.TableFault.TheVariants.{Length, Version}

-- ---- the format

-- bytes that have a version
pub format_long : (bytes : List ℕ) → 8 ≤ length bytes → format_of bytes ≡ cond (eqb (little_number 4 (part bytes 4 4)) 1) Whole Layered
format_long bytes long = ap (λ (b : Bool). cond b Layered (cond (eqb (little_number 4 (part bytes 4 4)) 1) Whole Layered)) (le-ltb (length bytes) 8 long)

version_by : (v : ℕ) (one two : Bool) → eqb v 1 ≡ one → eqb v 2 ≡ two → unless (is_some (cond one (Some Whole) (cond two (Some Layered) None))) (Version v) ≡ None → v ≡ version_of (cond one Whole Layered)
version_by v true two is_one is_two none = eqb-true v 1 is_one
version_by v false true is_one is_two none = eqb-true v 2 is_two
version_by v false false is_one is_two none = absurd (cc none)

-- a version without fault is that of its format
pub version_is : (v : ℕ) → version_fault v ≡ None → v ≡ version_of (cond (eqb v 1) Whole Layered)
version_is v none = version_by v (eqb v 1) (eqb v 2) refl refl none

-- ---- the faults

-- what the digest of a group is over
abbrev pub hashed_part : Format → TableShape → List ℕ → ℕ → List ℕ
hashed_part f s bytes k = part bytes (hashed_from f s k) (digest_start f s k - hashed_from f s k)

abbrev pub digest_as : Format → TableShape → List ℕ → ℕ → Option TableFault
digest_as f s bytes k = field_fault (length_of f s) bytes (digest_start f s k) 32 (fault_in (digest_field f k (sha256 (hashed_part f s bytes k))))

abbrev pub ended_as : Format → TableShape → List ℕ → Option ℕ → Option TableFault
ended_as f s bytes None = None
ended_as f s bytes (Some k) = digest_as f s bytes k

abbrev pub bytes_as : Format → TableShape → List ℕ → ℕ → Option TableFault
bytes_as f s bytes i = field_fault (length_of f s) bytes (entry_start f s i) 17 (λ field. advice_fault s i (entry_of field).advice)

-- an entry's, behind the group that ends before it
abbrev pub entry_behind : Format → TableShape → List ℕ → ℕ → Option ℕ → Option TableFault
entry_behind f s bytes i ended = first (ended_as f s bytes ended ∷ bytes_as f s bytes i ∷ [])

abbrev pub entry_as : Format → TableShape → List ℕ → ℕ → Option TableFault
entry_as f s bytes i = entry_behind f s bytes i (ended_group f s i)

abbrev pub tail_as : Format → TableShape → List ℕ → Option TableFault
tail_as f s bytes = first (digest_as f s bytes (last_group f s) ∷ more_fault (length_of f s) bytes ∷ [])

abbrev pub header_as : Format → List ℕ → TableShape → List ℕ → Option TableFault
header_as f digest s bytes = fields_fault (length_of f s) 0 (header_fields digest s) bytes

abbrev pub faults_as : Format → List ℕ → TableShape → List ℕ → Option TableFault
faults_as f digest s bytes = first (header_as f digest s bytes ∷ first_below (entry_as f s bytes) (entry_count s) ∷ tail_as f s bytes ∷ [])

digest_width : (f : Format) (k : ℕ) (computed : List ℕ) → width_of (digest_field f k computed) ≡ 32
digest_width Whole k computed = refl
digest_width Layered k computed = refl

digest_here : (s : TableShape) (bytes : List ℕ) (k : ℕ) → digest_fault s bytes k ≡ digest_as (format_of bytes) s bytes k
unfolding kept_fault
digest_here s bytes k =
    let f = format_of bytes in
    let computed = sha256 (hashed_part f s bytes k) in
    ap (λ (w : ℕ). field_fault (length_of f s) bytes (digest_start f s k) w (fault_in (digest_field f k computed))) (digest_width f k computed)

ended_here : (s : TableShape) (bytes : List ℕ) (ended : Option ℕ) → ended_fault s bytes ended ≡ ended_as (format_of bytes) s bytes ended
ended_here s bytes None = refl
ended_here s bytes (Some k) = digest_here s bytes k

entry_here : (s : TableShape) (bytes : List ℕ) (i : ℕ) → entry_fault s bytes i ≡ entry_as (format_of bytes) s bytes i
unfolding entry_fault bytes_fault
entry_here s bytes i =
    let f = format_of bytes in
    ap (λ (o : Option TableFault). first (o ∷ bytes_as f s bytes i ∷ [])) (ended_here s bytes (ended_group f s i))

tail_here : (s : TableShape) (bytes : List ℕ) → tail_fault s bytes ≡ tail_as (format_of bytes) s bytes
unfolding rest_fault
tail_here s bytes =
    let f = format_of bytes in
    ap (λ (o : Option TableFault). first (o ∷ more_fault (length_of f s) bytes ∷ [])) (digest_here s bytes (last_group f s))

below_same : (a b : ℕ → Option TableFault) → ((i : ℕ) → a i ≡ b i) → (n : ℕ) → first_below a n ≡ first_below b n
below_same a b same zero = refl
below_same a b same (suc n) =
    ap (λ (o : Option TableFault). first (o ∷ a n ∷ [])) (below_same a b same n) ∙ ap (λ (o : Option TableFault). first (first_below b n ∷ o ∷ [])) (same n)

first_here : (digest : List ℕ) (s : TableShape) (bytes : List ℕ) → first_fault digest s bytes ≡ faults_as (format_of bytes) digest s bytes
unfolding first_fault header_fault
first_here digest s bytes =
    let f = format_of bytes in
    ap (λ (o : Option TableFault). first (header_as f digest s bytes ∷ o ∷ tail_fault s bytes ∷ [])) (below_same (entry_fault s bytes) (entry_as f s bytes) (entry_here s bytes) (entry_count s))
    ∙ ap (λ (o : Option TableFault). first (header_as f digest s bytes ∷ first_below (entry_as f s bytes) (entry_count s) ∷ o ∷ [])) (tail_here s bytes)

-- the faults of bytes are those of their format
pub digest_is : (f : Format) (s : TableShape) (bytes : List ℕ) (k : ℕ) → format_of bytes ≡ f → digest_fault s bytes k ≡ digest_as f s bytes k
digest_is f s bytes k same = subst (λ (h : Format). digest_fault s bytes k ≡ digest_as h s bytes k) same (digest_here s bytes k)

pub entry_is : (f : Format) (s : TableShape) (bytes : List ℕ) (i : ℕ) → format_of bytes ≡ f → entry_fault s bytes i ≡ entry_as f s bytes i
entry_is f s bytes i same = subst (λ (h : Format). entry_fault s bytes i ≡ entry_as h s bytes i) same (entry_here s bytes i)

pub first_is : (f : Format) (digest : List ℕ) (s : TableShape) (bytes : List ℕ) → format_of bytes ≡ f → first_fault digest s bytes ≡ faults_as f digest s bytes
first_is f digest s bytes same = subst (λ (h : Format). first_fault digest s bytes ≡ faults_as h digest s bytes) same (first_here digest s bytes)

-- no byte more
pub more_none : (expected : ℕ) (bytes : List ℕ) → more_fault expected bytes ≡ None → length bytes ≤ expected
more_none expected bytes none = by_test (ltb expected (length bytes)) refl none
  where
    by_test : (b : Bool) → ltb expected (length bytes) ≡ b → cond b (Some (Length expected (expected + 1))) None ≡ None → length bytes ≤ expected
    by_test true e h = absurd (cc h)
    by_test false e h = ltb-false _ _ e
