use Rattle.std.proofs.Common.{pos, ap, ◌∙◌}
use Rattle.acas_step_narrow.proofs.RaisedLaws.{down-raised}
use Rattle.acas_step_narrow.proofs.narrow_means.quotient_down.Goals as goal

pub returns-clause-value : goal.returns-clause-value
returns-clause-value c = λ x by is. ap pos c.down.ensures ∙ down-raised x c.args.divisor.by by c.args.sum c.requires.divisor.some is
