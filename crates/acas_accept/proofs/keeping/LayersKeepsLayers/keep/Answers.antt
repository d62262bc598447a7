use Rattle.acas_accept.proofs.Kept.{layers_next}
use Rattle.acas_accept.proofs.keeping.LayersKeepsLayers.keep.Goals as goal

pub returns-clause-of : goal.returns-clause-of
returns-clause-of c = λ bytes read before.
    layers_next c.args._model.now bytes c.args._n c.args.self.now c.push.new.self c.args.pairs.now c.args.advice.now c.requires.given.count c.push.ensures c.requires.pairs c.requires.advice read before
