use Rattle.acas_region_curves.proofs.Climbs.{approach_of}
use Rattle.acas_region_curves.proofs.curve.approach.Goals as goal

pub returns-clause-climb : goal.returns-clause-climb
returns-clause-climb c = approach_of c.args.v.now c.args.aim.now c.args.pull.now c.args.t.now c.held.result (rw c.whole.ensures at c.held.ensures.climb)
