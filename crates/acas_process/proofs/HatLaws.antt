-- A tent is the hat function of its place, times the gap product.
use Rattle.std.proofs.Common.{◌≡◌, ◌≢◌, ℕ, zero, suc, ◌+◌, ◌*◌, ◌<◌, ◌≤◌, ℤ, List, length, ap, sym, subst, ◌∙◌, arith, ⊎_elim}
use Rattle.std.proofs.lemmas.Int.{ints}
use Rattle.std.proofs.lemmas.Bool.{cases_lt}
use Rattle.acas_spec.specs.Axis.{IsAxis, place_value}
use Rattle.acas_process.specs.Axis.{distance, gap, gap_product, tent}
use Rattle.acas_process.proofs.AxisLaws.{IsBetween, HasCell, distance-same, has_cell, next_above, others}

-- the lower and the upper end of the cell k
low_end : (axis : List ℤ) (k : ℕ) → IsAxis axis → k + 1 < length axis → HasCell axis k (place_value axis k) (others axis k)
low_end axis k a h = has_cell axis k (place_value axis k) a (record { place = h; low = omega (arith, ints); high = omega (arith, ints, next_above axis k a h) })

high_end : (axis : List ℤ) (k : ℕ) → IsAxis axis → k + 1 < length axis → HasCell axis k (place_value axis (k + 1)) (others axis k)
high_end axis k a h = has_cell axis k (place_value axis (k + 1)) a (record { place = h; low = omega (arith, ints, next_above axis k a h); high = omega (arith, ints) })

-- ---- at the numbers of the axis

own_before_last : (axis : List ℤ) (k : ℕ) → IsAxis axis → k + 1 < length axis → tent axis k (place_value axis k) ≡ gap_product axis
own_before_last axis k a h = let c = low_end axis k a h in c.lower ∙ c.product

own_at_last : (axis : List ℤ) (j : ℕ) → IsAxis axis → j + 1 < length axis → tent axis (suc j) (place_value axis (j + 1)) ≡ gap_product axis
own_at_last axis j a h = let c = high_end axis j a h in c.upper ∙ c.product

-- the gap product at its own number
pub tent_own : (axis : List ℤ) (k : ℕ) → IsAxis axis → k < length axis → tent axis k (place_value axis k) ≡ gap_product axis
tent_own axis zero a h = own_before_last axis 0 a (omega (arith, a.at_least))
tent_own axis (suc j) a h =
    let e : j + 1 ≡ suc j = omega arith in subst (λ (n : ℕ). tent axis (suc j) (place_value axis n) ≡ gap_product axis) e (own_at_last axis j a (omega arith))

other_before_last : (axis : List ℤ) (i k : ℕ) → IsAxis axis → i ≢ k → k + 1 < length axis → tent axis i (place_value axis k) ≡ 0
other_before_last axis i k a apart h =
    let c = low_end axis k a h in
    ⊎_elim
    (λ (l : i < k). c.before i l)
    (λ (l : k ≤ i).
    ⊎_elim
    (λ (m : suc k < i). c.after i m)
    (λ (m : i ≤ suc k).
    let e : suc k ≡ i = omega arith in
    subst (λ (n : ℕ). tent axis n (place_value axis k) ≡ 0) e (c.upper ∙ ap (λ (n : ℕ). others axis k * n) (distance-same (place_value axis k)) ∙ omega arith))
    (cases_lt (suc k) i))
    (cases_lt i k)

other_at_last : (axis : List ℤ) (i j : ℕ) → IsAxis axis → i ≢ suc j → j + 1 < length axis → tent axis i (place_value axis (j + 1)) ≡ 0
other_at_last axis i j a apart h =
    let c = high_end axis j a h in
    ⊎_elim
    (λ (l : i < j). c.before i l)
    (λ (l : j ≤ i).
    ⊎_elim
    (λ (m : suc j < i). c.after i m)
    (λ (m : i ≤ suc j).
    let e : j ≡ i = omega arith in
    subst (λ (n : ℕ). tent axis n (place_value axis (j + 1)) ≡ 0) e (c.lower ∙ ap (λ (n : ℕ). others axis j * n) (distance-same (place_value axis (j + 1))) ∙ omega arith))
    (cases_lt (suc j) i))
    (cases_lt i j)

-- 0 at the others
pub tent_other : (axis : List ℤ) (i k : ℕ) → IsAxis axis → i ≢ k → k < length axis → tent axis i (place_value axis k) ≡ 0
tent_other axis i zero a apart h = other_before_last axis i 0 a apart (omega (arith, a.at_least))
tent_other axis i (suc j) a apart h =
    let e : j + 1 ≡ suc j = omega arith in subst (λ (n : ℕ). tent axis i (place_value axis n) ≡ 0) e (other_at_last axis i j a apart (omega arith))

-- ---- between two numbers of the axis

-- over plain numbers: the gap g, the distances x to the upper and y to the lower end, and the tent's values at the ends and between
line_of_none : (g x y low high here : ℕ) → low ≡ 0 → high ≡ 0 → here ≡ 0 → g * here ≡ x * low + y * high
line_of_none g x y low high here l h e = omega (arith, ap (λ (n : ℕ). x * n) l, ap (λ (n : ℕ). y * n) h, ap (λ (n : ℕ). g * n) e)

line_falls : (o g x y low high here : ℕ) → low ≡ o * g → high ≡ 0 → here ≡ o * x → g * here ≡ x * low + y * high
line_falls o g x y low high here l h e = omega (arith, ap (λ (n : ℕ). x * n) l, ap (λ (n : ℕ). y * n) h, ap (λ (n : ℕ). g * n) e)

line_rises : (o g x y low high here : ℕ) → low ≡ 0 → high ≡ o * g → here ≡ o * y → g * here ≡ x * low + y * high
line_rises o g x y low high here l h e = omega (arith, ap (λ (n : ℕ). x * n) l, ap (λ (n : ℕ). y * n) h, ap (λ (n : ℕ). g * n) e)

-- on the straight line between its values at the two ends
pub tent_straight : (axis : List ℤ) (i k : ℕ) (x : ℤ) → IsAxis axis → IsBetween axis k x →
    gap axis k * tent axis i x ≡ distance x (place_value axis (k + 1)) * tent axis i (place_value axis k) + distance (place_value axis k) x * tent axis i (place_value axis (k + 1))
tent_straight axis i k x a b =
    let c = has_cell axis k x a b in
    let o : ℕ = others axis k in
    let g : ℕ = gap axis k in
    let down : ℕ = distance x (place_value axis (k + 1)) in
    let up : ℕ = distance (place_value axis k) x in
    let none : i ≢ k → i ≢ k + 1 → tent axis i x ≡ 0 → g * tent axis i x ≡ down * tent axis i (place_value axis k) + up * tent axis i (place_value axis (k + 1)) =
    λ p q e. line_of_none g down up _ _ _ (tent_other axis i k a p (omega (arith, b.place))) (tent_other axis i (k + 1) a q b.place) e in
    ⊎_elim
    (λ (l : i < k). none (λ e. omega arith) (λ e. omega arith) (c.before i l))
    (λ (l : k ≤ i).
    ⊎_elim
    (λ (m : suc k < i). none (λ e. omega arith) (λ e. omega arith) (c.after i m))
    (λ (m : i ≤ suc k).
    ⊎_elim
    (λ (n : i < k + 1).
    let e : k ≡ i = omega arith in
    subst (λ (j : ℕ). g * tent axis j x ≡ down * tent axis j (place_value axis k) + up * tent axis j (place_value axis (k + 1))) e
    (line_falls o g down up _ _ _ (own_before_last axis k a b.place ∙ sym c.product) (tent_other axis k (k + 1) a (λ e. omega arith) b.place) c.lower))
    (λ (n : k + 1 ≤ i).
    let e : suc k ≡ i = omega arith in
    subst (λ (j : ℕ). g * tent axis j x ≡ down * tent axis j (place_value axis k) + up * tent axis j (place_value axis (k + 1))) e
    (line_rises o g down up _ _ _ (tent_other axis (suc k) k a (λ e. omega arith) (omega (arith, b.place))) (own_at_last axis k a b.place ∙ sym c.product) c.upper))
    (cases_lt i (k + 1)))
    (cases_lt (suc k) i))
    (cases_lt i k)
