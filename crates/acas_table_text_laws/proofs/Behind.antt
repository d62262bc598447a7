-- Where entries and digests begin, each behind what stands before it.
use Rattle.std.proofs.Common.{◌≡◌, ℕ, zero, suc, ◌+◌, ◌-◌, ◌*◌, ◌/◌, ◌%◌, ◌<◌, ◌≤◌, ◌⊎◌, None, Some, refl, sym, inl, inr, arith}
use Rattle.std.proofs.lemmas.Nat.{div-add-mod', mod_below, mul-le}
use Rattle.std.proofs.lemmas.Bool.{cases_lt}
use Rattle.acas_table_text.specs.Shape.{IsShape, entry_count}
use Rattle.acas_table_text.specs.Format.{digest_start, group_size, hashed_from, last_group, length_of}
use Rattle.acas_table_text.specs.declared.format.Format.{Format}
use Rattle.acas_table_text.specs.declared.shape.TableShape.{TableShape}
use Rattle.acas_table_text.proofs.Groups.{all_groups, ended_of, ended-at, ended-first, ended-within, group_of_left, group-none_left, some_group}

-- where entry i begins, and where the digest of group k does
abbrev pub start_of : ℕ → ℕ → ℕ
start_of g i = 60 + (17 * i + 32 * (i / g))

abbrev pub stop_of : ℕ → ℕ → ℕ
stop_of g k = 60 + (17 * ((k + 1) * g) + 32 * k)

-- where the look at entry i begins: behind the entry before
abbrev pub behind_of : ℕ → ℕ → ℕ
behind_of g zero = 60
behind_of g (suc j) = start_of g j + 17

-- no group ends before an entry that follows the one before it
pub record Follows (g i : ℕ) : Type 0 where
  pub ended : ended_of g i ≡ None
  pub start : start_of g i ≡ behind_of g i

-- the digest of a group stands between an entry and the one before it
pub record Crosses (g i : ℕ) : Type 0 where
  pub group : ℕ
  pub at : i ≡ (group + 1) * g
  pub ended : ended_of g i ≡ Some group
  pub digest : stop_of g group ≡ behind_of g i
  pub start : start_of g i ≡ stop_of g group + 32

-- behind the last entry of a group its digest begins
pub behind-group : (g k i : ℕ) → 0 < g → i ≡ (k + 1) * g → behind_of g i ≡ stop_of g k
behind-group g k zero some place = absurd (omega arith)
behind-group g k (suc j) some place =
    let group : j / g ≡ k = group_of_left g k 1 j (omega arith) (omega arith) (omega arith) in
    omega arith

crosses : (g k i : ℕ) → 0 < g → i ≡ (k + 1) * g → Crosses g i
crosses g k i some place =
    let group : i / g ≡ k + 1 = group-none_left g k 0 i some refl (omega arith) in
    record {
      group = k;
      at = place;
      ended = ended-at g k i some place;
      digest = sym (behind-group g k i some place);
      start = omega arith;
    }

follows_first : (g : ℕ) → 0 < g → Follows g 0
follows_first g some =
    let group : 0 / g ≡ 0 = group_of_left g 0 g 0 some (omega arith) (omega arith) in
    record { ended = ended-first g 0 some refl; start = omega arith }

follows_next : (g j q r : ℕ) → j ≡ q * g + r → suc r < g → Follows g (suc j)
follows_next g j q r place within =
    let before : j / g ≡ q = group_of_left g q (g - r) j (omega arith) (omega arith) (omega arith) in
    let group : suc j / g ≡ q = group_of_left g q (g - suc r) (suc j) (omega arith) (omega arith) (omega arith) in
    record { ended = ended-within g q (g - suc r) (suc j) (omega arith) (omega arith) (omega arith); start = omega arith }

pub placed : (g i : ℕ) → 0 < g → Follows g i ⊎ Crosses g i
placed g zero some = inl (follows_first g some)
placed g (suc j) some =
    let place : j ≡ j / g * g + j % g = sym (div-add-mod' j g) in
    let below : j % g < g = mod_below j g some in
    elim (cases_lt (suc (j % g)) g) [
      | inl within ↦ inl (follows_next g j (j / g) (j % g) place within)
      | inr last ↦ inr (crosses g (j / g) (suc j) some (omega arith))
    ]

pub behind-start : (g i : ℕ) → 0 < g → behind_of g i ≤ start_of g i
behind-start g i some =
    elim (placed g i some) [
      | inl at ↦ omega (arith, at.start)
      | inr at ↦ omega (arith, at.start, at.digest)
    ]

-- ---- in a table

-- behind all entries the digest of the last group begins, and with it the file ends
pub behind-all : (f : Format) (s : TableShape) → IsShape s → behind_of (group_size f s) (entry_count s) ≡ digest_start f s (last_group f s)
behind-all f s shape = behind-group (group_size f s) (last_group f s) (entry_count s) (some_group f s shape) (all_groups f s)

pub length-last : (f : Format) (s : TableShape) → length_of f s ≡ digest_start f s (last_group f s) + 32
length-last f s = omega (arith, all_groups f s)

-- a digest is over what stands before it
pub hashed-before : (f : Format) (s : TableShape) (k : ℕ) → hashed_from f s k ≤ digest_start f s k
hashed-before f s zero = omega arith
hashed-before f s (suc k) = omega arith

-- an entry is in its table, and the groups before it in theirs
pub group-in : (f : Format) (s : TableShape) (i : ℕ) → IsShape s → i < entry_count s → i / group_size f s ≤ last_group f s
group-in f s i shape within =
    let g = group_size f s in
    let place : i / g * g + i % g ≡ i = div-add-mod' i g in
    elim (cases_lt (last_group f s) (i / g)) [
      | inl more ↦
          let order : (last_group f s + 1) * g ≤ i / g * g = mul-le (last_group f s + 1) g (i / g) g (omega arith) (omega arith) in
          absurd (omega (arith, all_groups f s))
      | inr le ↦ le
    ]
