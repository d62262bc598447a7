use Rattle.std.proofs.lemmas.Grind.{common_steps}
use Rattle.std.proofs.Common.{◌≡◌, ℕ, ◌+◌, ◌*◌, ◌/◌, ◌<◌, length, ap, ◌∙◌, arith}
use Rattle.std.proofs.Math.Nat.{mul-div_cancel'}
use Rattle.acas_process.specs.Axis.{gap}
use Rattle.acas_step_stencils.proofs.GapLaws.{factor_some, gap_some}
use Rattle.acas_step_stencils.proofs.units.gap_in.Goals as goal

pub returns-clause-gap : goal.returns-clause-gap
returns-clause-gap c =
    let axis = c.args.axis.now in
    let inside : c.args.place + 1 < length axis = omega (arith, c.requires.place, c.if-place-count.false, c.len-count.ensures.value) in
    let unit : ℕ = c.args.unit in
    let e : unit * (c.gap_at.result / unit) ≡ gap axis c.args.place =
    ap (λ (n : ℕ). unit * (n / unit)) c.gap_at.ensures ∙ mul-div_cancel' unit (c.requires.gaps.each c.args.place inside) in
    record { some = factor_some unit (c.gap_at.result / unit) (gap axis c.args.place) e (gap_some axis c.args.place c.len-count.ensures.axis inside); whole = λ here. e }

pub returns-clause-small : goal.returns-clause-small
returns-clause-small c = grind (arith, common_steps)
