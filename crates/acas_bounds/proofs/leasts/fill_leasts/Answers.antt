use Rattle.std.proofs.Common.{◌-◌, rules, w64, get_or, arith}
use Rattle.std.proofs.lemmas.Grind.{common_steps}
use Rattle.std.proofs.lemmas.Int.{to_z-of_z}
use Rattle.acas_bounds.specs.Leasts.{AreLowered}
use Rattle.acas_bounds.specs.Planes.{no_plane_choice}
use Rattle.acas_bounds.proofs.LeastValues.{leasts_next}
use Rattle.acas_bounds.proofs.leasts.fill_leasts.Goals as goal
use mir.Val.{SFits}

pub loop-place-init : goal.loop-place-init
loop-place-init c = grind (arith, common_steps)

pub means_under-requires-in-loop-place-clause-first :
    goal.means_under-requires-in-loop-place-clause-first
means_under-requires-in-loop-place-clause-first c = grind (arith, common_steps)

pub loop-place-preserved : goal.loop-place-preserved
loop-place-preserved c =
    let under = c.means_under-in-loop-place in
    let cost : SFits w64 (get_or c.args.plane.now.choices (c.loop-place.place - 1) no_plane_choice).cost = search rules in
    let lowered : AreLowered c.means_under-in-loop-place.result.now (get_or c.args.plane.now.choices (c.loop-place.place - 1) no_plane_choice).cost c.loop-place.leasts c.lower_values.new.leasts = simp (to_z-of_z, cost) at c.lower_values.ensures.values in
    record {
      inside = omega (arith, c.loop-place.invariant.inside);
      leasts =
          leasts_next c.args.model.now c.args.means.now under.result.now c.args.plane.now (c.loop-place.place - 1) c.loop-place.place c.loop-place.leasts c.lower_values.new.leasts c.requires.plane (omega (arith, c.loop-place-test.true)) c.loop-place.invariant.inside
          (record { count = under.ensures.count; values = under.ensures.values }) c.lower_values.ensures.count lowered c.loop-place.invariant.leasts;
    }

pub overflow_sub-place : goal.overflow_sub-place
overflow_sub-place c = grind (arith, common_steps)
