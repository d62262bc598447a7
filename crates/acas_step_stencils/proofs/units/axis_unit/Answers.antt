use Rattle.std.proofs.Common.{◌≡◌, ℕ, ◌<◌, subst, arith}
use Rattle.std.specs.Int.{◌∣◌}
use Rattle.std.proofs.lemmas.Nat.Gcd.{dvd_refl, dvd_trans}
use borrow.Author.Count.{below_more}
use Rattle.acas_process.specs.Axis.{gap}
use Rattle.acas_step_stencils.proofs.GapLaws.{gap_some}
use Rattle.acas_step_stencils.proofs.units.axis_unit.Goals as goal

-- the first gap divides itself
first_gap : (axis : ℕ → ℕ) (unit : ℕ) → unit ≡ axis 0 → (k : ℕ) → k < 1 → unit ∣ axis k
first_gap axis unit is k h = let none : 0 ≡ k = omega arith in subst (λ (n : ℕ). unit ∣ axis n) none (subst (λ (n : ℕ). unit ∣ n) is (dvd_refl unit))

pub loop-place-init : goal.loop-place-init
loop-place-init c = record {
  some = omega (arith, c.gap_at-unit.ensures, gap_some c.args.axis.now 0 c.len-last.ensures.axis (omega (arith, c.len-last.ensures.axis.at_least)));
  gaps = first_gap (λ (k : ℕ). gap c.args.axis.now k) c.gap_at-unit.result c.gap_at-unit.ensures;
}

pub loop-place-preserved : goal.loop-place-preserved
loop-place-preserved c =
    let divisor = c.common-unit.ensures.divisor in
    record {
      some = c.common-unit.ensures.some;
      gaps = below_more (λ (k : ℕ). c.common-unit.result ∣ gap c.args.axis.now k) c.loop-place.place
          (λ k h. dvd_trans c.common-unit.result divisor.1 (c.loop-place.invariant.gaps k h))
          (subst (λ (n : ℕ). c.common-unit.result ∣ n) c.gap_at.ensures divisor.0);
    }

pub returns-clause-gaps : goal.returns-clause-gaps
returns-clause-gaps c = record { each = λ k here. c.loop-place.invariant.gaps k (omega (arith, here, c.len-last.ensures.value)) }
