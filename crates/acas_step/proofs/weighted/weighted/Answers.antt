use Rattle.std.proofs.Common.{◌*ℤ◌, w64, pos, negsuc, arith, rules}
use Rattle.std.proofs.lemmas.Int.{ints, to_z-of_z}
use Rattle.acas_step.proofs.Weights.{weight_high, weight_low, weighted_fits}
use Rattle.acas_step.proofs.weighted.weighted.Goals as goal
use mir.Syntax.{w128}
use mir.Val.{SFits}

pub overflow_cast-result : goal.overflow_cast-result
overflow_cast-result c = search rules

pub overflow_mul-result : goal.overflow_mul-result
overflow_mul-result c = search (rules, weighted_fits)

pub returns : goal.returns
returns c =
    let w : SFits w128 c.args.weight = c.ranges.weight in
    let v : SFits w64 c.args.value = c.ranges.value in
    let u : SFits w128 c.args.value = omega (arith, ints) in
    let p : SFits w128 (c.args.weight *ℤ c.args.value) = weighted_fits c.args.weight c.args.value c.requires.positive c.requires.light v in
    record {
      value = simp to_z-of_z;
      high = simp to_z-of_z (weight_high c.args.weight c.args.value (pos 9223372036854775807) c.requires.positive (omega (arith, ints)));
      low = simp to_z-of_z (weight_low c.args.weight c.args.value (negsuc 9223372036854775807) c.requires.positive (omega (arith, ints)));
    }
