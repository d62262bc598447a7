use Rattle.std.specs.Int.{int_min}
use Rattle.std.proofs.Common.{◌≡◌, rules, ◌<◌, ◌∙◌, ◌+ℤ◌, w64, pos, get_or, length, ap, arith}
use Rattle.std.proofs.lemmas.Int.{to_z-of_z}
use Rattle.std.proofs.lemmas.List.{length-set}
use Rattle.acas_means.specs.Layer.{value_at}
use Rattle.acas_means.specs.declared.layer.Side.TheVariants.{Lower}
use Rattle.acas_bounds.proofs.LeastValues.{set_first, set_rest}
use Rattle.acas_bounds.proofs.leasts.lower_values.Goals as goal
use mir.Val.{SFits}

pub loop-vertex-preserved : goal.loop-vertex-preserved
loop-vertex-preserved c =
    let so_far = c.loop-vertex.invariant in
    let v = c.loop-vertex.vertex in
    let value = c.lesser.result in
    let fits : SFits w64 c.lesser.result = search rules in
    let old : SFits w64 (get_or c.loop-vertex.leasts c.loop-vertex.vertex (pos 0)) = search rules in
    let mean : SFits w64 (value_at Lower c.args.means.now c.loop-vertex.vertex) = search rules in
    let cost : SFits w64 c.args.cost = search rules in
    let within : c.loop-vertex.vertex < length c.loop-vertex.leasts = omega (arith, so_far.count, c.loop-vertex-test.true) in
    let is : c.lesser.result ≡ int_min (value_at Lower c.args.means.now c.loop-vertex.vertex +ℤ c.args.cost) (get_or c.loop-vertex.leasts c.loop-vertex.vertex (pos 0)) = simp (to_z-of_z, mean, cost, old) at c.lesser.ensures in
    rw (to_z-of_z w64 c.lesser.result fits, to_z-of_z w64 c.args.cost cost)
    (record {
      count = length-set c.loop-vertex.leasts v value ∙ so_far.count;
      values =
          set_first c.loop-vertex.leasts v value (λ u. int_min (value_at Lower c.args.means.now u +ℤ c.args.cost) (get_or c.args.leasts.now u (pos 0))) within
          (is ∙ ap (int_min (value_at Lower c.args.means.now c.loop-vertex.vertex +ℤ c.args.cost)) (so_far.rest v (omega arith)))
          (simp (to_z-of_z, cost) at so_far.values);
      rest = set_rest c.loop-vertex.leasts c.args.leasts.now v value so_far.rest;
    })
