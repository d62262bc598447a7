-- A curve stays over the intruder exactly where it is over it at its nearest time, or at both ends; so a box is clear exactly where
-- one of its two curves stays over.
use Rattle.std.proofs.Common.{◌≡◌, ℕ, ◌*◌, ◌<◌, ◌↔◌, inr, ⊎_elim, refl, sym, subst, ◌∙◌, arith, Bool, true, false, [], ◌∷◌, ℤ, pos, neg_ℤ, ◌*ℤ◌, ◌<ℤ◌, ◌≤ℤ◌, int_lt, IsTrue, mul-pos}
use Rattle.std.proofs.lemmas.Int.{ints}
use Rattle.std.specs.Int.Signed.{<ℤ-≤ℤ_trans}
use lib.IntN.{*ℤ_comm}
use Rattle.acas_frac.proofs.SignedProducts.{mul-lt_ℤ, lt-from_mul_ℤ, mul-neg_ℤ}
use Rattle.acas_frac.specs.Fraction.{Fraction}
use Rattle.acas_flight.specs.Response.{Demand}
use Rattle.acas_flight.specs.Window.{Times, IsDuring}
use Rattle.acas_flight.specs.Clear.{Area, IsClear, IsClearAbove, IsClearBelow}
use Rattle.acas_flight.specs.Border.{Border, border_of, border_gap, gap_number, low_border_of, high_border_of, IsGapAt, IsLeastGap, IsNearestTime}
use Rattle.acas_frac.proofs.IntRing.{at, ◌⊗◌, ring}
use Rattle.acas_frac.proofs.Orders.{cases_lt_ℤ, neg-lt_ℤ}
use Rattle.acas_flight_windows.proofs.EndTimes.{first_least, last_least}
use Rattle.acas_flight_lemmas.proofs.Gaps.{IsGapAt-of, low_pull-border, high_pull-border, least_gap-border, greatest_gap-border}
use Rattle.acas_areas.specs.Chases.{StaysOver}
use Rattle.acas_areas.specs.Limits.{AreEnds}
use Rattle.acas_flight_windows.proofs.LeastGaps.{least_of_nearest}

-- the gap at the time n/d, over d*d times the pull
abbrev gap_at : Border → ℕ → ℕ → Fraction
gap_at s d n = record { num = gap_number s d n; den = d * d * s.pull }

abbrev time : ℕ → ℕ → Fraction
time d n = record { num = pos n; den = d }

is_gap : (s : Border) (d n : ℕ) → 0 < d → IsGapAt s (time d n) (gap_at s d n)
is_gap s d n p = IsGapAt-of s (time d n) (gap_at s d n) n refl p refl

pub turned : (half d q P : ℕ) → pos (q * q * q * P) *ℤ pos (half * d) ≡ pos d *ℤ (pos P *ℤ pos (half * (q * q * q)))
turned half d q P = ring (pos half ∷ pos d ∷ pos q ∷ pos P ∷ []) ((((at 2 ⊗ at 2) ⊗ at 2) ⊗ at 3) ⊗ (at 0 ⊗ at 1)) (at 1 ⊗ (at 3 ⊗ (at 0 ⊗ ((at 2 ⊗ at 2) ⊗ at 2)))) refl

-- a least gap of more than the half height is so at each time
above : (half : ℕ) (s : Border) (w : Times) (time y : Fraction) → 0 < s.pull → IsLeastGap s w time y → pos (half * y.den) <ℤ y.num → StaysOver half s w
above half s w time y b l h q t p i =
    lt-from_mul_ℤ y.den (pos (s.pull * q) *ℤ pos (half * (q * q * q))) (border_gap s q t)
    (rw (← turned half y.den q (s.pull * q), *ℤ_comm (pos y.den) (border_gap s q t))
    (<ℤ-≤ℤ_trans (mul-lt_ℤ (q * q * q * (s.pull * q)) (pos (half * y.den)) y.num (mul-pos (mul-pos (mul-pos p p) p) (mul-pos b p)) h)
    (rw (*ℤ_comm (pos (q * q * q * (s.pull * q))) y.num) (l.least q t p i))))

-- a gap at one of the times
at_time : (half : ℕ) (s : Border) (w : Times) (d n : ℕ) → 0 < d → 0 < s.pull → IsDuring d w n → StaysOver half s w → pos (half * (d * d * s.pull)) <ℤ gap_number s d n
at_time half s w d n p b i over =
    let y = is_gap s d n p in
    lt-from_mul_ℤ (d * d * d * (s.pull * d)) (pos (half * (d * d * s.pull))) (gap_number s d n)
    (rw (turned half (d * d * s.pull) d (s.pull * d), *ℤ_comm (pos (d * d * d * (s.pull * d))) (gap_number s d n) ∙ y.over d n p refl ∙ *ℤ_comm (border_gap s d n) (pos (d * d * s.pull)))
    (mul-lt_ℤ (d * d * s.pull) (pos (s.pull * d) *ℤ pos (half * (d * d * d))) (border_gap s d n) (mul-pos (mul-pos p p) b) (over d n p i)))

test_of : (a b : ℤ) (r : Bool) → r ≡ int_lt a b → IsTrue r → a <ℤ b
test_of a b r e t = let h : int_lt a b ≡ true = sym e ∙ t in omega (arith, ints)

of_test : (a b : ℤ) (r : Bool) → r ≡ int_lt a b → a <ℤ b → IsTrue r
of_test a b r e h = let t : true ≡ int_lt a b = omega (arith, ints) in e ∙ sym t

-- a rising curve, at its nearest time n/d
pub nearest_decides : (half : ℕ) (v k : ℤ) (b g : ℕ) (h x : ℤ) (w : Times) (d n : ℕ) (r : Bool) → v <ℤ k → 0 < b → AreEnds w → 0 < d →
    IsNearestTime (border_of v k b g h x) w (time d n) → r ≡ int_lt (pos (half * (d * d * b))) (gap_number (border_of v k b g h x) d n) → IsTrue r ↔ StaysOver half (border_of v k b g h x) w
nearest_decides half v k b g h x w d n r o sb ends p near e = (
  λ t. above half (border_of v k b g h x) w (time d n) (gap_at (border_of v k b g h x) d n) sb
      (least_of_nearest v k b g h x w (time d n) (gap_at (border_of v k b g h x) d n) n o sb ends refl p (mul-pos (mul-pos p p) sb) (is_gap (border_of v k b g h x) d n p) near)
      (test_of _ _ r e t),
  λ over. of_test _ _ r e (at_time half (border_of v k b g h x) w d n p sb (near.after, near.before) over),
)

at_first : (half : ℕ) (v k : ℤ) (b : ℕ) (h x : ℤ) (w : Times) (m : ℕ) → 0 < b → AreEnds w → w.from.num ≡ pos m → StaysOver half (border_of v k b 0 h x) w →
    pos (half * (w.from.den * w.from.den * b)) <ℤ gap_number (border_of v k b 0 h x) w.from.den m
at_first half v k b h x w m sb ends em over = at_time half (border_of v k b 0 h x) w w.from.den m ends.from.some sb (rw em (omega (arith, ints)), rw em at ends.order) over

-- a curve that does not rise, at the two ends
module _ (half : ℕ) (v k : ℤ) (b : ℕ) (h x : ℤ) (w : Times) (m n : ℕ) (o : k ≤ℤ v) (sb : 0 < b) (ends : AreEnds w) (em : w.from.num ≡ pos m) (en : w.to.num ≡ pos n) where
  first_gap : IsGapAt (border_of v k b 0 h x) w.from (gap_at (border_of v k b 0 h x) w.from.den m)
  first_gap = IsGapAt-of (border_of v k b 0 h x) w.from (gap_at (border_of v k b 0 h x) w.from.den m) m em ends.from.some refl

  last_gap : IsGapAt (border_of v k b 0 h x) w.to (gap_at (border_of v k b 0 h x) w.to.den n)
  last_gap = IsGapAt-of (border_of v k b 0 h x) w.to (gap_at (border_of v k b 0 h x) w.to.den n) n en ends.to.some refl

  over_at_both : pos (half * (w.from.den * w.from.den * b)) <ℤ gap_number (border_of v k b 0 h x) w.from.den m →
      pos (half * (w.to.den * w.to.den * b)) <ℤ gap_number (border_of v k b 0 h x) w.to.den n → StaysOver half (border_of v k b 0 h x) w
  over_at_both i j =
      let first = gap_at (border_of v k b 0 h x) w.from.den m in
      let last = gap_at (border_of v k b 0 h x) w.to.den n in
      let some_first = mul-pos (mul-pos ends.from.some ends.from.some) sb in
      let some_last = mul-pos (mul-pos ends.to.some ends.to.some) sb in
      ⊎_elim
      (λ l. above half (border_of v k b 0 h x) w w.to last sb
      (last_least v k b h x w first last m n o sb em en ends.from.some ends.to.some some_first some_last first_gap last_gap ends.order l) j)
      (λ l. above half (border_of v k b 0 h x) w w.from first sb
      (first_least v k b h x w first last m n o sb em en ends.from.some ends.to.some some_first some_last first_gap last_gap ends.order l) i)
      (cases_lt_ℤ (last.num *ℤ pos first.den) (first.num *ℤ pos last.den))

  over_last : StaysOver half (border_of v k b 0 h x) w → pos (half * (w.to.den * w.to.den * b)) <ℤ gap_number (border_of v k b 0 h x) w.to.den n
  over_last over = at_time half (border_of v k b 0 h x) w w.to.den n ends.to.some sb (rw en at ends.order, rw en (omega (arith, ints))) over

-- the test at an end, in the numbers of its fraction
test_at : (half b g : ℕ) (v k h x : ℤ) (f : Fraction) (d m : ℕ) (r : Bool) → f.den ≡ d → g ≡ 0 →
    r ≡ int_lt (pos (half * (d * d * b))) (gap_number (border_of v k b g h x) d m) → r ≡ int_lt (pos (half * (f.den * f.den * b))) (gap_number (border_of v k b 0 h x) f.den m)
test_at half b g v k h x f d m r ed eg e =
    let one : r ≡ int_lt (pos (half * (f.den * f.den * b))) (gap_number (border_of v k b g h x) f.den m) = rw ed e in
    rw eg at one

pub not_both : (r : Bool) → r ≡ false → IsTrue r → ⊥
not_both r e t = grind (arith, sym e ∙ t)

module _ (half : ℕ) (v k : ℤ) (b g : ℕ) (h x : ℤ) (w : Times) (d m : ℕ) where
  -- over at the first end, the answer at the last decides
  pub both_decide : (e n : ℕ) (p r : Bool) → k ≤ℤ v → g ≡ 0 → 0 < b → AreEnds w →
      w.from.num ≡ pos m → w.from.den ≡ d → w.to.num ≡ pos n → w.to.den ≡ e →
      p ≡ int_lt (pos (half * (d * d * b))) (gap_number (border_of v k b g h x) d m) → r ≡ int_lt (pos (half * (e * e * b))) (gap_number (border_of v k b g h x) e n) →
      p ≡ true → IsTrue r ↔ StaysOver half (border_of v k b g h x) w
  both_decide e n p r o eg sb ends em ed en ee ep er t =
      let first_test = test_at half b g v k h x w.from d m p ed eg ep in
      let last_test = test_at half b g v k h x w.to e n r ee eg er in
      rw eg (
        λ u. over_at_both half v k b h x w m n o sb ends em en (test_of _ _ p first_test t) (test_of _ _ r last_test u),
        λ s. of_test _ _ r last_test (over_last half v k b h x w m n o sb ends em en s),
      )

  -- not over at the first end
  pub first_decides : (p : Bool) → k ≤ℤ v → g ≡ 0 → 0 < b → AreEnds w → w.from.num ≡ pos m → w.from.den ≡ d →
      p ≡ int_lt (pos (half * (d * d * b))) (gap_number (border_of v k b g h x) d m) → p ≡ false → IsTrue p ↔ StaysOver half (border_of v k b g h x) w
  first_decides p o eg sb ends em ed ep f =
      let first_test = test_at half b g v k h x w.from d m p ed eg ep in
      rw eg (
        λ t. absurd (not_both p f t),
        λ s. of_test _ _ p first_test (at_first half v k b h x w m sb ends em s),
      )

-- ---- boxes

clear_above : (half : ℕ) (a : Demand) (area : Area) (w : Times) → StaysOver half (low_border_of a area) w ↔ IsClearAbove half a area w
clear_above half a area w = (
  λ o q t p i. rw (least_gap-border a area q p t, low_pull-border a area q p) (o q t p i),
  λ o q t p i. rw (least_gap-border a area q p t, low_pull-border a area q p) at (o q t p i),
)

over_again : (a b : ℤ) → neg_ℤ b <ℤ neg_ℤ a → a <ℤ b
over_again a b h = omega (arith, ints)

clear_below : (half : ℕ) (a : Demand) (area : Area) (w : Times) → StaysOver half (high_border_of a area) w ↔ IsClearBelow half a area w
clear_below half a area w = (
  λ o q t p i. rw (greatest_gap-border a area q p t, high_pull-border a area q p, mul-neg_ℤ (pos ((high_border_of a area).pull * q)) (pos (half * (q * q * q)))) (neg-lt_ℤ _ _ (o q t p i)),
  λ o q t p i. over_again _ _ (rw (greatest_gap-border a area q p t, high_pull-border a area q p, mul-neg_ℤ (pos ((high_border_of a area).pull * q)) (pos (half * (q * q * q)))) at (o q t p i)),
)

-- what is answered of a border of the area
pub above_by : (half : ℕ) (a : Demand) (area : Area) (w : Times) (s : Border) (r : Bool) → s ≡ low_border_of a area → IsTrue r ↔ StaysOver half s w → IsTrue r ↔ IsClearAbove half a area w
above_by half a area w s r e k =
    let stays : IsTrue r ↔ StaysOver half (low_border_of a area) w = subst (λ (x : Border). IsTrue r ↔ StaysOver half x w) e k in
    (λ t. (clear_above half a area w).0 (stays.0 t), λ c. stays.1 ((clear_above half a area w).1 c))

pub below_by : (half : ℕ) (a : Demand) (area : Area) (w : Times) (s : Border) (r : Bool) → s ≡ high_border_of a area → IsTrue r ↔ StaysOver half s w → IsTrue r ↔ IsClearBelow half a area w
below_by half a area w s r e k =
    let stays : IsTrue r ↔ StaysOver half (high_border_of a area) w = subst (λ (x : Border). IsTrue r ↔ StaysOver half x w) e k in
    (λ t. (clear_below half a area w).0 (stays.0 t), λ c. stays.1 ((clear_below half a area w).1 c))

-- what the second of two answers says where the first is no
pub either_decides : (half : ℕ) (a : Demand) (area : Area) (w : Times) (p r : Bool) → p ≡ false → IsTrue p ↔ IsClearAbove half a area w → IsTrue r ↔ IsClearBelow half a area w → IsTrue r ↔ IsClear half a area w
either_decides half a area w p r e f g = (λ t. inr (g.0 t), λ k. ⊎_elim (λ i. absurd (not_both p e (f.1 i))) (λ j. g.1 j) k)

-- what is answered under another name of the half height and of the demand
pub clear_by : (half least : ℕ) (a b : Demand) (area : Area) (w : Times) (r : Bool) → half ≡ least → a ≡ b → IsTrue r ↔ IsClear half a area w → IsTrue r ↔ IsClear least b area w
clear_by half least a b area w r e f k = subst (λ (n : ℕ). IsTrue r ↔ IsClear n b area w) e (subst (λ (x : Demand). IsTrue r ↔ IsClear half x area w) f k)
