-- One more sigma point in a weighted sum.
use Rattle.std.proofs.Common.{◌≡◌, ℕ, suc, ◌+◌, ◌-◌, ◌*◌, ◌^◌, ◌<◌, ◌≤◌, ℤ, pos, neg_ℤ, ◌+ℤ◌, ◌*ℤ◌, ◌≤ℤ◌, List, length, get_or, take, sum_by, ap, sym, subst, ◌∙◌, arith}
use Rattle.std.proofs.lemmas.Int.{ints}
use Rattle.std.proofs.lemmas.List.{take_all}
use Rattle.std.proofs.lemmas.List.Sums.{sum_by_more, sum_by_more_le}
use Rattle.acas_spec.specs.Model.{weight_of}
use Rattle.acas_spec.specs.declared.parts.SigmaPoint.{SigmaPoint}
use Rattle.acas_process.specs.Sums.{sum_below}
use mir.Syntax.{w128}
use mir.Val.{SFits}

-- the sigma point that a list holds where it ends
abbrev pub no_sigma : SigmaPoint
no_sigma = record { weight = pos 0; own = pos 0; intruder = pos 0 }

-- a sum is between the weight of the first q sigma points times the least and times the greatest value of 64 bits
pub record IsWithinWeights (sigmas : List SigmaPoint) (q : ℕ) (sum : ℤ) : Type 0 where
  pub high : sum ≤ℤ pos ((2 ^ 63 - 1) * sum_by weight_of (take q sigmas))
  pub low : neg_ℤ (pos (2 ^ 63 * sum_by weight_of (take q sigmas))) ≤ℤ sum

-- the sum over the first q sigma points
pub record IsMeanSoFar (sigmas : List SigmaPoint) (f : ℕ → ℤ) (q : ℕ) (sum : ℤ) : Type 0 where
  pub value : sum ≡ sum_below q f
  pub within : IsWithinWeights sigmas q sum

-- a term is between its weight times the least and times the greatest value of 64 bits
pub record IsTerm (weight : ℕ) (term : ℤ) : Type 0 where
  pub high : term ≤ℤ (pos (2 ^ 63 - 1) *ℤ pos weight)
  pub low : (neg_ℤ (pos (2 ^ 63)) *ℤ pos weight) ≤ℤ term

pub mean_step : (sigmas : List SigmaPoint) (d : SigmaPoint) (f : ℕ → ℤ) (q : ℕ) (sum term next : ℤ) → q < length sigmas → IsMeanSoFar sigmas f q sum → IsTerm (weight_of (get_or sigmas q d)) term →
    term ≡ f q → next ≡ sum +ℤ term → IsMeanSoFar sigmas f (q + 1) next
mean_step sigmas d f q sum term next h so bounds e n =
    let one_more : q + 1 ≡ suc q = omega arith in
    record {
      value = n ∙ ap (λ z. z +ℤ term) so.value ∙ ap (λ z. sum_below q f +ℤ z) e ∙ ap (λ (k : ℕ). sum_below k f) (sym one_more);
      within = record {
        high = omega (arith, ints, n, so.within.high, bounds.high, sum_by_more weight_of sigmas q d h);
        low = omega (arith, ints, n, so.within.low, bounds.low, sum_by_more weight_of sigmas q d h);
      };
    }

-- what is added stays within 64 bits times the whole weight
pub mean_fits : (sigmas : List SigmaPoint) (d : SigmaPoint) (q : ℕ) (sum term : ℤ) → q < length sigmas → IsWithinWeights sigmas q sum → IsTerm (weight_of (get_or sigmas q d)) term →
    sum_by weight_of sigmas ≤ 1000 → SFits w128 (sum +ℤ term)
mean_fits sigmas d q sum term h so bounds light = omega (arith, ints, so.high, so.low, bounds.high, bounds.low, sum_by_more_le weight_of sigmas q d h)

-- the whole sum is between the whole weight times the least and times the greatest value of 64 bits
pub mean_high : (sigmas : List SigmaPoint) (q : ℕ) (sum : ℤ) → length sigmas ≤ q → IsWithinWeights sigmas q sum → sum ≤ℤ (pos (2 ^ 63 - 1) *ℤ pos (sum_by weight_of sigmas))
mean_high sigmas q sum all so = subst (λ (xs : List SigmaPoint). sum ≤ℤ pos ((2 ^ 63 - 1) * sum_by weight_of xs)) (take_all q sigmas all) so.high

pub mean_low : (sigmas : List SigmaPoint) (q : ℕ) (sum : ℤ) → length sigmas ≤ q → IsWithinWeights sigmas q sum → (neg_ℤ (pos (2 ^ 63)) *ℤ pos (sum_by weight_of sigmas)) ≤ℤ sum
mean_low sigmas q sum all so = omega (arith, ints, subst (λ (xs : List SigmaPoint). neg_ℤ (pos (2 ^ 63 * sum_by weight_of xs)) ≤ℤ sum) (take_all q sigmas all) so.low)
