use Rattle.acas_plain.proofs.OneCornerSet.{one_corner_set}
use Rattle.acas_plain.proofs.laws.corners_are_one.Goals as goal

pub returns : goal.returns
returns c = one_corner_set
