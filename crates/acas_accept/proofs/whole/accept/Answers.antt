use Rattle.std.proofs.lemmas.Grind.{common_steps}
use Rattle.std.proofs.Common.{◌+◌, arith}
use Rattle.std.proofs.lemmas.Result.{IfOk-weaker}
use Rattle.acas_accept.specs.Answers.{AreAllowed}
use Rattle.acas_accept.specs.Keeping.{AreAllowedBelow}
use Rattle.acas_accept.proofs.Accepting.{are_allowed}
use Rattle.acas_accept.proofs.whole.accept.Goals as goal

pub returns-clause-given : goal.returns-clause-given
returns-clause-given g c = grind (arith, common_steps)

pub returns-clause-allowed : goal.returns-clause-allowed
returns-clause-allowed g c =
    IfOk-weaker c.accept_keeping.result (λ advices. AreAllowedBelow c.args.model.now (c.args.model.now.grid.horizon + 1) advices) (λ advices. AreAllowed c.args.model.now advices) (λ advices allowed. are_allowed c.args.model.now advices allowed)
    c.accept_keeping.ensures.kept
