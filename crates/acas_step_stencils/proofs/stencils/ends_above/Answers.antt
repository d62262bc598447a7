use Rattle.std.proofs.Common.{ℕ, ◌*◌, ap, arith}
use Rattle.acas_step_stencils.proofs.GapLaws.{offset-le}
use Rattle.acas_step_stencils.proofs.StencilLaws.{above-IsEnds}
use Rattle.acas_step_stencils.proofs.stencils.ends_above.Goals as goal

pub overflow_mul-upper : goal.overflow_mul-upper
overflow_mul-upper c =
    let fits = offset-le c.args.axis.now c.args.unit c.requires.0 c.args.place c.args.offset c.requires.1 in
    omega (arith, fits, c.gap_at-gap.ensures, ap (λ (n : ℕ). c.args.unit * n) c.from.ensures)

pub overflow_sub-result : goal.overflow_sub-result
overflow_sub-result c =
    let fits = offset-le c.args.axis.now c.args.unit c.requires.0 c.args.place c.args.offset c.requires.1 in
    omega (arith, fits, c.gap_at-gap.ensures, ap (λ (n : ℕ). c.args.unit * n) c.from.ensures)

pub returns : goal.returns
returns c = λ x is.
    let upper = ap (λ (n : ℕ). c.args.unit * n) c.from.ensures in
    let fits = offset-le c.args.axis.now c.args.unit x c.args.place c.args.offset is in
    above-IsEnds c.args.axis.now c.args.unit x _ c.args.offset is upper (omega (arith, fits, upper, c.gap_at-gap.ensures))
