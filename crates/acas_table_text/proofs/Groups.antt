-- Groups of entries: which one an entry is in, and which one ends before it.
use Rattle.std.proofs.Common.{◌≡◌, ℕ, zero, suc, ◌+◌, ◌-◌, ◌*◌, ◌/◌, ◌%◌, ◌<◌, ◌≤◌, Bool, cond, eqb, Option, None, Some, refl, ◌∙◌, ap, inl, inr, arith, eq-eqb, ne_eqb}
use Rattle.std.proofs.lemmas.Nat.{div-mul-add, mod-mul-add, mul-le}
use Rattle.std.proofs.lemmas.Bool.{cases_lt}
use Rattle.acas_table_text.specs.Shape.{IsShape, entry_count}
use Rattle.acas_table_text.specs.Format.{digest_start, group_before, group_size, last_group, length_of}
use Rattle.acas_table_text.specs.declared.format.Format.{Format}
use Rattle.acas_table_text.specs.declared.format.Format.TheVariants.{Layered, Whole}
use Rattle.acas_table_text.specs.declared.shape.TableShape.{TableShape}

-- the group that ends before entry i, in groups of g
abbrev pub ended_of : ℕ → ℕ → Option ℕ
ended_of g i = cond (eqb (i % g) 0) (group_before (i / g)) None

-- ---- in a group that has so many entries left

place_is : (g groups left i : ℕ) → left ≤ g → i + left ≡ (groups + 1) * g → i ≡ groups * g + (g - left)
place_is g groups left i most place = omega arith

-- the group that an entry is in, where entries of it are left
pub group_of_left : (g groups left i : ℕ) → 0 < left → left ≤ g → i + left ≡ (groups + 1) * g → i / g ≡ groups
group_of_left g groups left i some most place =
    ap (λ (n : ℕ). n / g) (place_is g groups left i most place) ∙ div-mul-add groups g (g - left) (omega arith)

pub rest_of_left : (g groups left i : ℕ) → 0 < left → left ≤ g → i + left ≡ (groups + 1) * g → i % g ≡ g - left
rest_of_left g groups left i some most place =
    ap (λ (n : ℕ). n % g) (place_is g groups left i most place) ∙ mod-mul-add groups g (g - left) (omega arith)

-- within a group no group ends
pub ended-within : (g groups left i : ℕ) → 0 < left → left < g → i + left ≡ (groups + 1) * g → ended_of g i ≡ None
ended-within g groups left i some within place =
    let rest : i % g ≡ g - left = rest_of_left g groups left i some (omega arith) place in
    ap (λ (b : Bool). cond b (group_before (i / g)) None) (ne_eqb (i % g) 0 (λ none. omega (arith, none)))

-- at the end of a group that group ends
pub ended-at : (g k i : ℕ) → 0 < g → i ≡ (k + 1) * g → ended_of g i ≡ Some k
ended-at g k i some place =
    let as_place : i ≡ suc k * g + 0 = omega arith in
    let rest : i % g ≡ 0 = ap (λ (n : ℕ). n % g) as_place ∙ mod-mul-add (suc k) g 0 some in
    let group : i / g ≡ suc k = ap (λ (n : ℕ). n / g) as_place ∙ div-mul-add (suc k) g 0 some in
    ap (λ (b : Bool). cond b (group_before (i / g)) None) (eq-eqb (i % g) 0 rest) ∙ ap group_before group

-- before all entries none has ended
pub ended-first : (g i : ℕ) → 0 < g → i ≡ 0 → ended_of g i ≡ None
ended-first g i some first =
    let as_place : i ≡ 0 * g + 0 = omega arith in
    let rest : i % g ≡ 0 = ap (λ (n : ℕ). n % g) as_place ∙ mod-mul-add 0 g 0 some in
    let group : i / g ≡ 0 = ap (λ (n : ℕ). n / g) as_place ∙ div-mul-add 0 g 0 some in
    ap (λ (b : Bool). cond b (group_before (i / g)) None) (eq-eqb (i % g) 0 rest) ∙ ap group_before group

-- with no entry left of a group: that group ends, and the entry is of the next
pub ended-none_left : (g groups left i : ℕ) → 0 < g → left ≡ 0 → i + left ≡ (groups + 1) * g → ended_of g i ≡ Some groups
ended-none_left g groups left i some none place = ended-at g groups i some (omega arith)

pub group-none_left : (g groups left i : ℕ) → 0 < g → left ≡ 0 → i + left ≡ (groups + 1) * g → i / g ≡ groups + 1
group-none_left g groups left i some none place =
    let as_place : i ≡ (groups + 1) * g + 0 = omega arith in
    ap (λ (n : ℕ). n / g) as_place ∙ div-mul-add (groups + 1) g 0 some

-- with all of them left: the group before ends, where there is one
pub ended-all_left : (g groups left i : ℕ) → 0 < g → left ≡ g → i + left ≡ (groups + 1) * g → ended_of g i ≡ group_before groups
ended-all_left g zero left i some all place = ended-first g i some (omega arith)
ended-all_left g (suc k) left i some all place = ended-at g k i some (omega arith)

-- ---- the groups of a table

pub some_group : (f : Format) (s : TableShape) → IsShape s → 0 < group_size f s
some_group Whole s shape = omega (arith, shape.some_states)
some_group Layered s shape = omega (arith, shape.some_states)

-- all entries are in the groups up to the last
pub all_groups : (f : Format) (s : TableShape) → entry_count s ≡ (last_group f s + 1) * group_size f s
all_groups Whole s = omega arith
all_groups Layered s = refl

-- the digest of a group that is not behind the last stands within the file
pub digest-within : (f : Format) (s : TableShape) (k : ℕ) → k ≤ last_group f s → digest_start f s k + 32 ≤ length_of f s
digest-within f s k most =
    let order : (k + 1) * group_size f s ≤ (last_group f s + 1) * group_size f s = mul-le (k + 1) (group_size f s) (last_group f s + 1) (group_size f s) (omega arith) (omega arith) in
    omega (arith, all_groups f s)

-- ---- for a reader behind so many groups' digests, with so many entries left of the group at hand

-- the group that ended before an entry is not the last
pub ended-before : (f : Format) (s : TableShape) (k i : ℕ) → IsShape s → i ≡ (k + 1) * group_size f s → i < entry_count s → k < last_group f s
ended-before f s k i shape place within =
    let g = group_size f s in
    elim (cases_lt k (last_group f s)) [
      | inl lt ↦ lt
      | inr le ↦
          let order : (last_group f s + 1) * g ≤ (k + 1) * g = mul-le (last_group f s + 1) g (k + 1) g (omega arith) (omega arith) in
          absurd (omega (arith, all_groups f s))
    ]
