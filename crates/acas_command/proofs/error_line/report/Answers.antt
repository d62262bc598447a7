use Rattle.std.proofs.Common.{◌∙◌}
use Rattle.acas_command.proofs.Lines.{reports_parts}
use Rattle.acas_command.proofs.Printing.{undone}
use Rattle.acas_command.proofs.error_line.report.Goals as goal

pub returns-clause-line : goal.returns-clause-line
returns-clause-line g c =
    reports_parts c.args.cause.now _ _ _ _ _ _ _ _ (undone _ c.in_default.not-Done c.in_default.not-Reported) (c.as_bytes.ensures.value ∙ c.line_head.ensures) c.line_subject.ensures (c.bytes.ensures ∙ c.tail_of-tail.ensures) c.emit_line.ensures.line
