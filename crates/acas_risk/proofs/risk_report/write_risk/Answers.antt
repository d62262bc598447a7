use Rattle.std.proofs.Common.{subst, arith}
use Rattle.std.proofs.lemmas.Grind.{common_steps}
use Rattle.acas_outside.specs.Bytes.{Appends, AppendsPart}
use Rattle.acas_risk.specs.Plans.{advised}
use Rattle.acas_risk.proofs.Bounds.{rows_are_risks}
use Rattle.acas_risk.proofs.Texts.{text_same}
use Rattle.acas_risk.proofs.risk_report.write_risk.Goals as goal

pub returns-in-Ok-print_risks-clause-text : goal.returns-in-Ok-print_risks-clause-text
returns-in-Ok-print_risks-clause-text g c =
    let m = c.args.model.now in
    subst (Appends _ _) (text_same m (advised m c.args.advices.now) c.in-Ok-risk_values.values c.in-Ok-risk_values.ensures.values) c.in-Ok-print_risks.ensures.ok

pub returns-in-Ok-print_risks-clause-bounds : goal.returns-in-Ok-print_risks-clause-bounds
returns-in-Ok-print_risks-clause-bounds g c =
    rows_are_risks c.args.model.now (advised c.args.model.now c.args.advices.now) c.grid.ensures.valid c.in-Ok-risk_values.ensures.known

pub returns-clause-part : goal.returns-clause-part
returns-clause-part g c = λ failed.
    let m = c.args.model.now in
    subst (AppendsPart _ _) (text_same m (advised m c.args.advices.now) c.in-Ok-risk_values.values c.in-Ok-risk_values.ensures.values) c.in-Err.ensures.err

pub returns-in-Ok-print_risks-clause-states : goal.returns-in-Ok-print_risks-clause-states
returns-in-Ok-print_risks-clause-states g c = grind (arith, common_steps)

pub returns-in-Ok-print_risks-clause-frame : goal.returns-in-Ok-print_risks-clause-frame
returns-in-Ok-print_risks-clause-frame g c = grind (arith, common_steps)

pub returns-clause-frame : goal.returns-clause-frame
returns-clause-frame g c = grind (arith, common_steps)

pub returns-in_default : goal.returns-in_default
returns-in_default g c = grind (arith, common_steps)

pub returns-in_default-risk_values : goal.returns-in_default-risk_values
returns-in_default-risk_values g c = grind (arith, common_steps)
