use Rattle.std.proofs.Common.{ℕ, ◌≡◌, ◌≤◌, ◌∙◌, ap₂, arith, ℤ, pos, ◌-ℤ◌, ◌*ℤ◌, unsigned_abs, to_z, of_z}
use Rattle.std.proofs.lemmas.Grind.{common_steps}
use Rattle.std.specs.Int.{w128}
use Rattle.std.proofs.lemmas.Int.{ints}
use Rattle.acas_witness_plans.proofs.Casts.{difference_wide, whole128}
use Rattle.acas_witness_plans.proofs.flown.clearance.Goals as goal

-- the product of a part and of the other's denominator
part : (value given num : ℤ) (other den : ℕ) → value ≡ to_z w128 (of_z w128 given) *ℤ pos other → given ≡ num → other ≡ den → unsigned_abs num ≤ 2000000000000000000000000000000 → value ≡ num *ℤ pos den
part value given num other den e g o small = e ∙ ap₂ (λ (i : ℤ) (n : ℕ). i *ℤ pos n) (rw g (whole128 num (omega arith))) o

pub returns-clause-num : goal.returns-clause-num
returns-clause-num c =
    difference_wide c.climb_over-climb.result c.end_over-end.result c.climb_over-climb.ensures.size c.end_over-end.ensures.size
    ∙ ap₂ ◌-ℤ◌
    (part c.climb_over-climb.result c.num.result c.args.outcome.now.climb.num c.den-end_den.result c.args.outcome.now.intruder_end.den c.climb_over-climb.ensures.value c.num.ensures.value c.den-end_den.ensures.value c.num.ensures.bounds.num_small)
    (part c.end_over-end.result c.num-2.result c.args.outcome.now.intruder_end.num c.den-climb_den.result c.args.outcome.now.climb.den c.end_over-end.ensures.value c.num-2.ensures.value c.den-climb_den.ensures.value c.num-2.ensures.bounds.num_small)

pub returns-clause-num_size : goal.returns-clause-num_size
returns-clause-num_size c = rw (difference_wide c.climb_over-climb.result c.end_over-end.result c.climb_over-climb.ensures.size c.end_over-end.ensures.size) (omega (arith, ints, c.climb_over-climb.ensures.size, c.end_over-end.ensures.size))

pub returns-clause-den_size : goal.returns-clause-den_size
returns-clause-den_size c = grind (arith, common_steps)
