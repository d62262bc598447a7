use Rattle.std.proofs.Common.{ap, w64, arith, rules}
use Rattle.std.proofs.lemmas.Int.{ints, to_z-of_z}
use Rattle.acas_spec.specs.declared.place.Point.{Point}
use Rattle.acas_step.proofs.Commands.{led_past-is}
use Rattle.acas_step.proofs.second.led_past.Goals as goal
use mir.Val.{SFits}

pub returns-clause-value : goal.returns-clause-value
returns-clause-value c =
    let v : SFits w64 c.vertex_point-start.result.v0 = search rules in
    let n : SFits w64 c.noise-noise.result.own = search rules in
    let i : SFits w64 c.noise-noise.result.intruder = search rules in
    let o : SFits w64 c.own_change-own.result = search rules in
    led_past-is c.args.model.now c.args.from c.args.advisory c.args.sigma c.vertex_point-start.result c.noise-noise.result c.own_change-own.result _
    c.vertex_point-start.ensures.value c.noise-noise.ensures.value (simp to_z-of_z at c.own_change-own.ensures.value) (simp to_z-of_z at c.after_second.ensures)

pub returns-clause-near : goal.returns-clause-near
returns-clause-near c =
    let n : SFits w64 c.noise-noise.result.intruder = search rules in
    let o : SFits w64 c.own_change-own.result = search rules in
    let h = ap (λ (p : Point). p.h) (simp to_z-of_z at c.after_second.ensures) in
    let at = c.vertex_point-start.ensures.on_axes in
    omega (arith, ints, h, at.h, at.v0, at.v1, c.noise-noise.ensures.intruder, c.own_change-own.ensures.small)
