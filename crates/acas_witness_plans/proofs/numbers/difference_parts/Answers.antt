use Rattle.std.proofs.Common.{◌∙◌, ap₂, pos, ◌-ℤ◌, ◌*ℤ◌, arith, mul-pos, rules}
use Rattle.std.proofs.lemmas.Int.{ints}
use Rattle.acas_frac.proofs.Bounds.{product_size}
use Rattle.acas_witness_plans.proofs.Casts.{difference128, whole128, num_fits, den_fits}
use Rattle.acas_witness_plans.proofs.numbers.difference_parts.Goals as goal

pub overflow_sub-result : goal.overflow_sub-result
overflow_sub-result c = search rules

pub returns-clause-num : goal.returns-clause-num
returns-clause-num c =
    difference128 c.across.result c.across-2.result c.across.ensures.size c.across-2.ensures.size
    ∙ ap₂ ◌-ℤ◌
    (c.across.ensures.value ∙ ap₂ ◌*ℤ◌ (num_fits c.parts-a.result.0 c.args.value.now.num c.parts-a.ensures.num c.parts-a.ensures.bounds.num_small) (den_fits c.parts-c.result.1 c.args.other.now.den c.parts-c.ensures.den c.parts-c.ensures.bounds.den_small))
    (c.across-2.ensures.value ∙ ap₂ ◌*ℤ◌ (num_fits c.parts-c.result.0 c.args.other.now.num c.parts-c.ensures.num c.parts-c.ensures.bounds.num_small) (den_fits c.parts-a.result.1 c.args.value.now.den c.parts-a.ensures.den c.parts-a.ensures.bounds.den_small))

pub returns-clause-size : goal.returns-clause-size
returns-clause-size c = rw (difference128 c.across.result c.across-2.result c.across.ensures.size c.across-2.ensures.size) (omega (arith, ints, c.across.ensures.size, c.across-2.ensures.size))

pub returns-clause-den : goal.returns-clause-den
returns-clause-den c =
    whole128 c.across-3.result (omega (arith, c.across-3.ensures.size)) ∙ c.across-3.ensures.value
    ∙ ap₂ ◌*ℤ◌ (den_fits c.parts-a.result.1 c.args.value.now.den c.parts-a.ensures.den c.parts-a.ensures.bounds.den_small) (den_fits c.parts-c.result.1 c.args.other.now.den c.parts-c.ensures.den c.parts-c.ensures.bounds.den_small)

pub returns-clause-den_size : goal.returns-clause-den_size
returns-clause-den_size c = rw (returns-clause-den c) (omega (arith, product_size (pos c.args.value.now.den) (pos c.args.other.now.den) 10000000000000 10000000000000 c.parts-a.ensures.bounds.den_small c.parts-c.ensures.bounds.den_small))

pub returns-clause-some : goal.returns-clause-some
returns-clause-some c = mul-pos c.parts-a.ensures.bounds.some c.parts-c.ensures.bounds.some
