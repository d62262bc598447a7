use Rattle.acas_accept.proofs.Kept.{advices_next, allowed_next}
use Rattle.acas_accept.proofs.keeping.AdvicesKeepsLayers.keep.Goals as goal

pub returns-then-n-gt0-clause-given : goal.returns-then-n-gt0-clause-given
returns-then-n-gt0-clause-given c =
    allowed_next c.args.model.now c.args.n c.args.self.now c.keep_advices.new.advices c.args.advice.now c.keep_advices.ensures c.if-n-gt0.true c.requires.allowed c.requires.given

pub returns-then-n-gt0-clause-of : goal.returns-then-n-gt0-clause-of
returns-then-n-gt0-clause-of c = λ bytes read before.
    advices_next c.args.model.now bytes c.args.n c.args.self.now c.keep_advices.new.advices c.args._pairs.now c.args.advice.now c.keep_advices.ensures read before
