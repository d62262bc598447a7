use Rattle.acas_process.proofs.AxisLaws.{clamped_between}
use Rattle.acas_process.proofs.VertexLaws.{moved_inside}
use Rattle.acas_process.proofs.laws.points_stay_inside.Goals as goal

pub returns-clause-clamped : goal.returns-clause-clamped
returns-clause-clamped c = clamped_between

pub returns-clause-moved : goal.returns-clause-moved
returns-clause-moved c m x a q v = moved_inside m x a q v.grid
