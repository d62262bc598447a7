-- One more corner in a weighted sum.
use Rattle.std.proofs.Common.{◌≡◌, ℕ, ◌+◌, ◌-◌, ◌*◌, ◌^◌, ◌<◌, ℤ, pos, neg_ℤ, ◌+ℤ◌, ◌*ℤ◌, ◌≤ℤ◌, List, length, get_or, take, ap, sym, ◌∙◌, arith}
use Rattle.std.proofs.lemmas.Int.{ints}
use Rattle.std.proofs.lemmas.List.Sums.{fold_more}
use Rattle.acas_frac.proofs.SignedProducts.{mul-add_ℤ}
use Rattle.acas_step.specs.Corners.{IsLight, corner_sum}
use Rattle.acas_step.specs.Sizes.{greatest_weight}
use Rattle.acas_step.specs.declared.cell.Corner.{Corner}

-- the sum over the first i corners, and its bounds by their weights
pub record IsSumSoFar (corners : List Corner) (i : ℕ) (f : ℕ → ℤ) (sum : ℤ) : Type 0 where
  pub value : sum ≡ corner_sum (take i corners) f
  pub high : sum ≤ℤ (pos (2 ^ 63 - 1) *ℤ corner_sum (take i corners) (λ n. pos 1))
  pub low : (neg_ℤ (pos (2 ^ 63)) *ℤ corner_sum (take i corners) (λ n. pos 1)) ≤ℤ sum
  pub light : corner_sum (take i corners) (λ n. pos 1) ≤ℤ pos (i * greatest_weight)

pub sum_step : (corners : List Corner) (i : ℕ) (d : Corner) (f : ℕ → ℤ) (sum value term next : ℤ) → i < length corners → IsSumSoFar corners i f sum → IsLight (get_or corners i d) →
    value ≡ f (get_or corners i d).vertex → term ≡ (get_or corners i d).weight *ℤ value →
    term ≤ℤ (pos (2 ^ 63 - 1) *ℤ (get_or corners i d).weight) → (neg_ℤ (pos (2 ^ 63)) *ℤ (get_or corners i d).weight) ≤ℤ term → next ≡ sum +ℤ term → IsSumSoFar corners (i + 1) f next
sum_step corners i d f sum value term next h so light e t high low n =
    let w : ℤ = (get_or corners i d).weight in
    let weights : ℤ = corner_sum (take i corners) (λ n. pos 1) in
    let more = fold_more (λ (s : ℤ) (c : Corner). s +ℤ c.weight *ℤ f c.vertex) (pos 0) corners i d h in
    let heavier : corner_sum (take (i + 1) corners) (λ n. pos 1) ≡ weights +ℤ w *ℤ pos 1 = fold_more (λ (s : ℤ) (c : Corner). s +ℤ c.weight *ℤ pos 1) (pos 0) corners i d h in
    let term_is : term ≡ w *ℤ f (get_or corners i d).vertex = t ∙ ap (λ z. w *ℤ z) e in
    record {
      value = n ∙ ap (λ z. sum +ℤ z) term_is ∙ ap (λ z. z +ℤ w *ℤ f (get_or corners i d).vertex) so.value ∙ sym more;
      high = omega (arith, ints, n, so.high, high, ap (λ z. pos (2 ^ 63 - 1) *ℤ z) heavier, mul-add_ℤ (pos (2 ^ 63 - 1)) weights (w *ℤ pos 1));
      low = omega (arith, ints, n, so.low, low, ap (λ z. neg_ℤ (pos (2 ^ 63)) *ℤ z) heavier, mul-add_ℤ (neg_ℤ (pos (2 ^ 63))) weights (w *ℤ pos 1));
      light = omega (arith, ints, so.light, light.light, heavier);
    }
