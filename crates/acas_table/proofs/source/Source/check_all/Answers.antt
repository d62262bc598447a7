use Rattle.std.proofs.Common.{◌<◌, length, arith}
use Rattle.std.proofs.lemmas.Grind.{common_steps}
use Rattle.acas_table.proofs.Passed.{widths_next, widths_fit, next_given, blamed_given}
use Rattle.acas_table.proofs.Answered.{answered}
use Rattle.acas_table.proofs.Within.{within_then}
use Rattle.acas_table.proofs.source.Source.check_all.Goals as goal

pub check-requires-clause-limit : goal.check-requires-clause-limit
check-requires-clause-limit g c =
    let within : c.loop-field.field-index < length c.args.fields.now = omega arith in
    omega (arith, widths_fit c.args.fields.now c.loop-field.field-index within)

pub returns-in_err-check-clause-given : goal.returns-in_err-check-clause-given
returns-in_err-check-clause-given g c =
    let within : c.loop-field.field-index < length c.args.fields.now = omega arith in
    blamed_given _ _ c.args.name.now c.loop-field.field-index c.args.fields.now c.args.self.now c.loop-field.self c.check.new.self _ c.from_residual.result (answered _ c.from_residual.ensures.1) within
    c.loop-field.invariant.frame.holds c.loop-field.invariant.steps c.loop-field.invariant.given c.in_err-check.ensures.given

pub loop-field-preserved : goal.loop-field-preserved
loop-field-preserved g c =
    let within : c.loop-field.field-index < length c.args.fields.now = omega arith in
    let step = c.in_ok-check.ensures.steps in
    record {
      steps = record {
        place = omega (arith, widths_next c.args.fields.now c.loop-field.field-index within, step.place);
        limit = omega (arith, step.limit);
        expected = omega (arith, step.expected);
        mark = omega (arith, step.mark);
      };
      given =
          next_given _ _ _ c.args.name.now c.loop-field.field-index c.args.fields.now c.args.self.now c.loop-field.self c.check.new.self within
          c.loop-field.invariant.frame.holds c.loop-field.invariant.steps c.loop-field.invariant.given c.in_ok-check.ensures.given;
      taken = grind (arith, common_steps);
      within = within_then _ _ _ _ _ _ c.loop-field.invariant.frame.holds c.loop-field.invariant.within c.in_ok-check.ensures.reads.within;
      frame = grind arith;
    }
