use Rattle.std.proofs.Common.{arith}
use Rattle.std.proofs.lemmas.Grind.{common_steps}
use Rattle.acas_risk.specs.RiskText.{risk_line}
use Rattle.acas_risk.proofs.risk_lines.write_risk_line.Goals as goal

pub returns-clause-short : goal.returns-clause-short
returns-clause-short c = grind (arith, common_steps)

pub returns-clause-value : goal.returns-clause-value
unfolding risk_line
returns-clause-value c = grind (arith, common_steps)
