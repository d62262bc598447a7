use Rattle.acas_safeable.proofs.Reaches.{is_reached}
use Rattle.acas_safeable.proofs.laws.reached_areas_hold.Goals as goal

pub returns : goal.returns
returns c = is_reached
