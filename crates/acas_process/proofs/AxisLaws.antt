-- The tents of an axis: what they are at a point between two neighbours, and that they sum to the gap product.
use Rattle.std.specs.Prelude.{◌&&◌}
use Rattle.std.proofs.Common.{◌≡◌, ℕ, zero, suc, ◌+◌, ◌-◌, ◌*◌, ◌/◌, ◌<◌, ◌≤◌, ℤ, pos, ◌≤ℤ◌, ◌<ℤ◌, List, [], ◌∷◌, length, Bool, true, false, cond, nat_lt, int_le, refl, ap, sym, subst, ◌∙◌, ⊎_elim, arith}
use Rattle.std.proofs.lemmas.Bool.{cases_Bool, cases_lt, cond-true}
use Rattle.std.proofs.lemmas.Int.{ints, clamps, by_lt_z}
use Rattle.std.proofs.Math.Nat.{mul-pos, mul-div_cancel}
use Rattle.acas_spec.specs.Axis.{IsAxis, Rises, place_value}
use Rattle.acas_grid.specs.Axis.{IsBetweenEnds, clamp_to}
use Rattle.acas_process.specs.Axis.{distance, gap, gap_product, is_between, rise, fall, tent}
use Rattle.acas_process.specs.Sums.{sum_below}
use Rattle.acas_process.proofs.SumLaws.{sum_of_two}

-- ---- the order of the places

pub next_above : (axis : List ℤ) (k : ℕ) → IsAxis axis → k + 1 < length axis → place_value axis k <ℤ place_value axis (k + 1)
unfolding Rises
next_above axis k a h = a.rising k h

value-le : (axis : List ℤ) (i j : ℕ) → IsAxis axis → i ≤ j → j < length axis → place_value axis i ≤ℤ place_value axis j
value-le axis i zero a h l = let e : zero ≡ i = omega arith in subst (λ (k : ℕ). place_value axis k ≤ℤ place_value axis 0) e (omega (arith, ints))
value-le axis i (suc j) a h l =
    ⊎_elim
    (λ (k : j < i). let e : suc j ≡ i = omega arith in subst (λ (n : ℕ). place_value axis n ≤ℤ place_value axis (suc j)) e (omega (arith, ints)))
    (λ (k : i ≤ j).
    let e : j + 1 ≡ suc j = omega arith in
    let next : place_value axis j <ℤ place_value axis (suc j) = subst (λ (n : ℕ). place_value axis j <ℤ place_value axis n) e (next_above axis j a (omega arith)) in
    omega (arith, ints, value-le axis i j a k (omega arith), next))
    (cases_lt j i)

value-lt : (axis : List ℤ) (i j : ℕ) → IsAxis axis → i < j → j < length axis → place_value axis i <ℤ place_value axis j
value-lt axis i j a h l = omega (arith, ints, next_above axis i a (omega arith), value-le axis (i + 1) j a (omega arith) l)

-- a clamped number is between the ends
pub clamped_between : (axis : List ℤ) (x : ℤ) → IsAxis axis → IsBetweenEnds axis (clamp_to axis x)
clamped_between axis x a =
    let order : place_value axis 0 ≤ℤ place_value axis (length axis - 1) = value-le axis 0 (length axis - 1) a (omega arith) (omega (arith, a.at_least)) in
    record { first = omega (arith, ints, clamps); last = omega (arith, ints, clamps) }

-- ---- between two places

-- x is between the numbers at the places k and k + 1
pub record IsBetween (axis : List ℤ) (k : ℕ) (x : ℤ) : Type 0 where
  pub place : k + 1 < length axis
  pub low : place_value axis k ≤ℤ x
  pub high : x ≤ℤ place_value axis (k + 1)

between : (l k : ℕ) (a x b : ℤ) → k < l → a ≤ℤ x → x ≤ℤ b → (nat_lt k l && (int_le a x && int_le x b)) ≡ true
between l k a x b h p q = grind (arith, ints)

both : (s t : Bool) → (s && t) ≡ true → (s ≡ true) × (t ≡ true)
both true t h = (refl, h)
both false t h = absurd cc

between_low : (l k : ℕ) (a x b : ℤ) → (nat_lt k l && (int_le a x && int_le x b)) ≡ true → (k < l) × (a ≤ℤ x) × (x ≤ℤ b)
between_low l k a x b h =
    let outer = both (nat_lt k l) (int_le a x && int_le x b) h in
    let inner = both (int_le a x) (int_le x b) outer.1 in
    (grind (arith, outer.0), grind (arith, ints, inner.0), grind (arith, ints, inner.1))

pub is_between-true : (axis : List ℤ) (k : ℕ) (x : ℤ) → IsBetween axis k x → is_between axis k x ≡ true
is_between-true axis k x c = between (length axis) (k + 1) (place_value axis k) x (place_value axis (k + 1)) c.place c.low c.high

pub between_of : (axis : List ℤ) (k : ℕ) (x : ℤ) → is_between axis k x ≡ true → IsBetween axis k x
between_of axis k x e = let h = between_low (length axis) (k + 1) (place_value axis k) x (place_value axis (k + 1)) e in record { place = h.0; low = h.1; high = h.2 }

-- ---- the other gaps

-- the product of all gaps but that after place k
abbrev pub others : List ℤ → ℕ → ℕ
others axis k = gap_product axis / gap axis k

pub distance-same : (a : ℤ) → distance a a ≡ 0
distance-same a = omega (arith, ints)

pub distance-add : (a x b : ℤ) → a ≤ℤ x → x ≤ℤ b → distance a x + distance x b ≡ distance a b
distance-add a x b low high = omega (arith, ints)

gap_pos : (axis : List ℤ) (k : ℕ) → IsAxis axis → k + 1 < length axis → 0 < gap axis k
gap_pos axis k a h = omega (arith, ints, next_above axis k a h)

-- each gap is a factor of the product
record IsFactor (axis : List ℤ) (k : ℕ) : Type 0 where
  other : ℕ
  whole : other * gap axis k ≡ gap_product axis

factor : (axis : List ℤ) (k : ℕ) → k + 1 < length axis → IsFactor axis k
factor [] k h = absurd (omega arith)
factor (a ∷ []) k h = absurd (omega arith)
factor (a ∷ b ∷ rest) zero h = record { other = gap_product (b ∷ rest); whole = omega arith }
factor (a ∷ b ∷ rest) (suc k) h =
    let f = factor (b ∷ rest) k (omega arith) in
    let e : suc (k + 1) ≡ suc k + 1 = omega arith in
    record {
      other = distance a b * f.other;
      whole = subst (λ (n : ℕ). distance a b * f.other * distance (place_value (b ∷ rest) k) (place_value (a ∷ b ∷ rest) n) ≡ distance a b * gap_product (b ∷ rest)) e
          (omega (arith, ap (λ (n : ℕ). distance a b * n) f.whole));
    }

pub others-mul_gap : (axis : List ℤ) (k : ℕ) → IsAxis axis → k + 1 < length axis → others axis k * gap axis k ≡ gap_product axis
others-mul_gap axis k a h =
    let f = factor axis k h in
    let e : others axis k ≡ f.other = ap (λ (n : ℕ). n / gap axis k) (sym f.whole) ∙ mul-div_cancel f.other (gap_pos axis k a h) in
    ap (λ (n : ℕ). n * gap axis k) e ∙ f.whole

gap_product_from : (axis : List ℤ) → ((k : ℕ) → k + 1 < length axis → place_value axis k <ℤ place_value axis (k + 1)) → 0 < gap_product axis
gap_product_from [] r = omega arith
gap_product_from (a ∷ []) r = omega arith
gap_product_from (a ∷ b ∷ rest) r =
    let first : 0 < distance a b = omega (arith, ints, r 0 (omega arith)) in
    mul-pos first (gap_product_from (b ∷ rest) (λ k h.
    let e : suc k + 1 ≡ suc (k + 1) = omega arith in
    subst (λ (n : ℕ). place_value (b ∷ rest) k <ℤ place_value (a ∷ b ∷ rest) n) e (r (suc k) (omega arith))))

pub gap_product_pos : (axis : List ℤ) → IsAxis axis → 0 < gap_product axis
gap_product_pos axis a = gap_product_from axis (λ k h. next_above axis k a h)

-- ---- the tents at a point between two places

cond-false : (b : Bool) (x y : ℕ) → b ≡ false → cond b x y ≡ y
cond-false b x y e = rw e refl

-- before the two places
no_fall : (axis : List ℤ) (j k : ℕ) (x : ℤ) → IsAxis axis → IsBetween axis k x → j < k → cond (is_between axis j x) (fall axis j x) 0 ≡ 0
no_fall axis j k x a c h =
    ⊎_elim
    (λ (e : is_between axis j x ≡ true).
    let b = between_of axis j x e in
    let none : distance x (place_value axis (j + 1)) ≡ 0 = omega (arith, ints, b.high, c.low, value-le axis (j + 1) k a (omega arith) (omega (arith, c.place))) in
    cond-true (is_between axis j x) (fall axis j x) 0 e ∙ omega (arith, ap (λ (n : ℕ). n * others axis j) none))
    (λ (e : is_between axis j x ≡ false). cond-false (is_between axis j x) (fall axis j x) 0 e)
    (cases_Bool (is_between axis j x))

not_before : (axis : List ℤ) (j k : ℕ) (x : ℤ) → IsAxis axis → IsBetween axis k x → suc j < k → is_between axis j x ≡ false
not_before axis j k x a c h =
    ⊎_elim
    (λ (e : is_between axis j x ≡ true). absurd (omega (arith, ints, (between_of axis j x e).high, c.low, value-lt axis (j + 1) k a (omega arith) (omega (arith, c.place)))))
    (λ (e : is_between axis j x ≡ false). e)
    (cases_Bool (is_between axis j x))

tent_before : (axis : List ℤ) (i k : ℕ) (x : ℤ) → IsAxis axis → IsBetween axis k x → i < k → tent axis i x ≡ 0
tent_before axis zero k x a c h = no_fall axis 0 k x a c h
tent_before axis (suc i) k x a c h =
    cond-false (is_between axis i x) (rise axis i x) (cond (is_between axis (suc i) x) (fall axis (suc i) x) 0) (not_before axis i k x a c h) ∙ no_fall axis (suc i) k x a c h

-- behind them
no_rise : (axis : List ℤ) (j k : ℕ) (x : ℤ) (rest : ℕ) → IsAxis axis → IsBetween axis k x → k < j → rest ≡ 0 → cond (is_between axis j x) (rise axis j x) rest ≡ 0
no_rise axis j k x rest a c h r =
    ⊎_elim
    (λ (e : is_between axis j x ≡ true).
    let b = between_of axis j x e in
    let none : distance (place_value axis j) x ≡ 0 = omega (arith, ints, b.low, c.high, value-le axis (k + 1) j a (omega arith) (omega (arith, b.place))) in
    cond-true (is_between axis j x) (rise axis j x) rest e ∙ omega (arith, ap (λ (n : ℕ). n * others axis j) none))
    (λ (e : is_between axis j x ≡ false). cond-false (is_between axis j x) (rise axis j x) rest e ∙ r)
    (cases_Bool (is_between axis j x))

not_behind : (axis : List ℤ) (j k : ℕ) (x : ℤ) → IsAxis axis → IsBetween axis k x → suc k < j → is_between axis j x ≡ false
not_behind axis j k x a c h =
    ⊎_elim
    (λ (e : is_between axis j x ≡ true).
    let b = between_of axis j x e in
    absurd (omega (arith, ints, b.low, c.high, value-lt axis (k + 1) j a (omega arith) (omega (arith, b.place)))))
    (λ (e : is_between axis j x ≡ false). e)
    (cases_Bool (is_between axis j x))

tent_behind : (axis : List ℤ) (i k : ℕ) (x : ℤ) → IsAxis axis → IsBetween axis k x → suc k < i → tent axis i x ≡ 0
tent_behind axis zero k x a c h = absurd (omega arith)
tent_behind axis (suc i) k x a c h =
    no_rise axis i k x (cond (is_between axis (suc i) x) (fall axis (suc i) x) 0) a c (omega arith)
    (cond-false (is_between axis (suc i) x) (fall axis (suc i) x) 0 (not_behind axis (suc i) k x a c (omega arith)))

-- at the two places
tent_upper : (axis : List ℤ) (k : ℕ) (x : ℤ) → IsBetween axis k x → tent axis (suc k) x ≡ others axis k * distance (place_value axis k) x
tent_upper axis k x c =
    cond-true (is_between axis k x) (rise axis k x) (cond (is_between axis (suc k) x) (fall axis (suc k) x) 0) (is_between-true axis k x c) ∙ omega arith

-- where x is the number at place k + 1, the line that rises to it and the line that falls from it meet
lines_meet : (axis : List ℤ) (k : ℕ) (x : ℤ) → IsAxis axis → IsBetween axis k x → IsBetween axis (suc k) x → rise axis k x ≡ others axis (suc k) * distance x (place_value axis (suc k + 1))
lines_meet axis k x a b c =
    let e : suc k ≡ k + 1 = omega arith in
    let low : place_value axis (k + 1) ≤ℤ x = subst (λ (n : ℕ). place_value axis n ≤ℤ x) e c.low in
    let here : place_value axis (k + 1) ≡ x = omega (arith, ints, low, b.high) in
    let there : place_value axis (suc k) ≡ x = ap (λ (n : ℕ). place_value axis n) e ∙ here in
    omega (
      arith,
      others-mul_gap axis k a b.place,
      others-mul_gap axis (suc k) a c.place,
      ap (λ z. others axis k * distance (place_value axis k) z) here,
      ap (λ z. others axis (suc k) * distance z (place_value axis (suc k + 1))) there,
    )

tent_lower : (axis : List ℤ) (k : ℕ) (x : ℤ) → IsAxis axis → IsBetween axis k x → tent axis k x ≡ others axis k * distance x (place_value axis (k + 1))
tent_lower axis zero x a c = cond-true (is_between axis 0 x) (fall axis 0 x) 0 (is_between-true axis 0 x c) ∙ omega arith
tent_lower axis (suc k) x a c =
    let later : ℕ = cond (is_between axis (suc k) x) (fall axis (suc k) x) 0 in
    ⊎_elim
    (λ (e : is_between axis k x ≡ true). cond-true (is_between axis k x) (rise axis k x) later e ∙ lines_meet axis k x a (between_of axis k x e) c)
    (λ (e : is_between axis k x ≡ false).
    cond-false (is_between axis k x) (rise axis k x) later e ∙ cond-true (is_between axis (suc k) x) (fall axis (suc k) x) 0 (is_between-true axis (suc k) x c) ∙ omega arith)
    (cases_Bool (is_between axis k x))

-- Between two places their tents are the distances to the other end, by the product of the other gaps, and all other tents are 0.
pub record HasCell (axis : List ℤ) (k : ℕ) (x : ℤ) (other : ℕ) : Type 0 where
  pub positive : 0 < other
  pub product : other * gap axis k ≡ gap_product axis
  pub lower : tent axis k x ≡ other * distance x (place_value axis (k + 1))
  pub upper : tent axis (suc k) x ≡ other * distance (place_value axis k) x
  pub before : (i : ℕ) → i < k → tent axis i x ≡ 0
  pub after : (i : ℕ) → suc k < i → tent axis i x ≡ 0

factor_pos : (a b c : ℕ) → a * b ≡ c → 0 < c → 0 < a
factor_pos zero b c e h = omega (arith, e)
factor_pos (suc a) b c e h = omega arith

pub has_cell : (axis : List ℤ) (k : ℕ) (x : ℤ) → IsAxis axis → IsBetween axis k x → HasCell axis k x (others axis k)
has_cell axis k x a c = record {
  positive = factor_pos (others axis k) (gap axis k) (gap_product axis) (others-mul_gap axis k a c.place) (gap_product_pos axis a);
  product = others-mul_gap axis k a c.place;
  lower = tent_lower axis k x a c;
  upper = tent_upper axis k x c;
  before = λ i h. tent_before axis i k x a c h;
  after = λ i h. tent_behind axis i k x a c h;
}

-- ---- the sum of the tents

-- a number between the ends is between two neighbours
pub record Neighbours (axis : List ℤ) (x : ℤ) : Type 0 where
  pub place : ℕ
  pub holds : IsBetween axis place x

neighbours_from : (a b : ℤ) (rest : List ℤ) (x : ℤ) → a ≤ℤ x → x ≤ℤ place_value (b ∷ rest) (length rest) → Neighbours (a ∷ b ∷ rest) x
neighbours_from a b [] x low high = record { place = 0; holds = record { place = omega arith; low = low; high = high } }
neighbours_from a b (c ∷ rest) x low high =
    by_lt_z x b
    (λ h. record { place = 0; holds = record { place = omega arith; low = low; high = omega (arith, ints, h) } })
    (λ h.
    let n = neighbours_from b c rest x h high in
    let e : suc (n.place + 1) ≡ suc n.place + 1 = omega arith in
    record {
      place = suc n.place;
      holds = record {
        place = omega (arith, n.holds.place);
        low = n.holds.low;
        high = subst (λ (k : ℕ). x ≤ℤ place_value (a ∷ b ∷ c ∷ rest) k) e n.holds.high;
      };
    })

pub neighbours : (axis : List ℤ) (x : ℤ) → IsAxis axis → IsBetweenEnds axis x → Neighbours axis x
neighbours [] x a b = absurd (omega (arith, a.at_least))
neighbours (p ∷ []) x a b = absurd (omega (arith, a.at_least))
neighbours (p ∷ q ∷ rest) x a b =
    let e : suc (suc (length rest)) - 1 ≡ suc (length rest) = omega arith in
    neighbours_from p q rest x b.first (subst (λ (k : ℕ). x ≤ℤ place_value (p ∷ q ∷ rest) k) e b.last)

-- the tents at a point of an axis sum to the gap product
pub axis_tents_sum : (axis : List ℤ) (x : ℤ) → IsAxis axis → IsBetweenEnds axis x → sum_below (length axis) (λ i. pos (tent axis i x)) ≡ pos (gap_product axis)
axis_tents_sum axis x a b =
    let n = neighbours axis x a b in
    let k : ℕ = n.place in
    let c = has_cell axis k x a n.holds in
    sum_of_two (length axis) k (λ i. pos (tent axis i x)) (omega (arith, n.holds.place)) (λ i h. ap pos (c.before i h)) (λ i h. ap pos (c.after i h))
    ∙ ap pos (omega (
      arith,
      c.lower,
      c.upper,
      c.product,
      ap (λ (d : ℕ). others axis k * d) (distance-add (place_value axis k) x (place_value axis (k + 1)) n.holds.low n.holds.high),
    ))
