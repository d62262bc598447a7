use Rattle.std.proofs.Common.{◌==◌, ◌&&◌, not, ◌∙◌, ap}
use Rattle.acas_report.proofs.sources.OneByOneRulings.advised.Goals as goal

pub returns : goal.returns
returns c = λ a. c.without.ensures a ∙ ap (λ b. not (a == 0) && b) (c.advices_at.ensures.exact a)
