use Rattle.acas_report_lines.proofs.Appending.{next}
use Rattle.acas_report_lines.proofs.witness_fields.line_witness.Goals as goal

pub returns-clause-value : goal.returns-clause-value
unfolding Rattle.acas_report_lines.specs.Text.witness_text
returns-clause-value c =
    let range = next _ _ _ _ _ c.line_labelled.ensures.value c.line_labelled-2.ensures.value in
    let speed = next _ _ _ _ _ range c.line_labelled-3.ensures.value in
    let ticks = next _ _ _ _ _ speed c.line_altitude.ensures.value in
    let own = next _ _ _ _ _ ticks c.line_labelled-4.ensures.value in
    let intruder = next _ _ _ _ _ own c.line_labelled-5.ensures.value in
    next _ _ _ _ _ intruder c.line_response.ensures.value
