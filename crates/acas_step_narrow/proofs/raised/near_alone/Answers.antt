use Rattle.acas_step_narrow.proofs.RaisedLaws.{blended-alone}
use Rattle.acas_step_narrow.proofs.raised.near_alone.Goals as goal

pub returns : goal.returns
returns c = λ far. blended-alone c.args.ends c.args.near far c.requires.far
