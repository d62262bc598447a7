use Rattle.std.proofs.Common.{◌∙◌, ap, arith}
use Rattle.acas_grid.specs.Axis.{axis_of}
use Rattle.acas_model.proofs.Rising.{is_axis}
use Rattle.acas_drill_model.specs.DrilledModel.{about_zero}
use Rattle.acas_drill_model.proofs.SteppedAxes.{about_zero-axis}
use Rattle.acas_drill_model.proofs.axes.axis_about_zero.Goals as goal

pub unreachable-requires : goal.unreachable-requires
unreachable-requires c =
    let axis = about_zero c.args.step c.args.steps in
    let is = ap axis_of c.in_ok-numbers_about_zero.ensures ∙ is_axis axis (about_zero-axis c.args.step c.args.steps c.requires.some_step c.requires.some_steps (omega arith)) in
    absurd (cc (is, c.in-Err.ensures))

pub returns : goal.returns
returns c =
    let axis = about_zero c.args.step c.args.steps in
    let is = ap axis_of c.in_ok-numbers_about_zero.ensures ∙ is_axis axis (about_zero-axis c.args.step c.args.steps c.requires.some_step c.requires.some_steps (omega arith)) in
    cc (is, c.in-Ok.ensures)
