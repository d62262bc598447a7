use Rattle.std.proofs.Math.Nat.{mul-pos}
use Rattle.acas_process.proofs.ModelLaws.{total_weight_pos}
use Rattle.acas_process.proofs.AxisLaws.{axis_tents_sum}
use Rattle.acas_process.proofs.MeanLaws.{grid_product_pos, transition_weight-pos, transitions_sum}
use Rattle.acas_process.proofs.VertexLaws.{shares_sum}
use Rattle.acas_process.proofs.laws.weights_sum_to_the_total.Goals as goal

pub returns-clause-tents : goal.returns-clause-tents
returns-clause-tents c = axis_tents_sum

pub returns-clause-shares : goal.returns-clause-shares
returns-clause-shares c m s v inside = shares_sum m.grid s v.grid inside

pub returns-clause-transitions : goal.returns-clause-transitions
returns-clause-transitions c = transitions_sum

pub returns-clause-not_negative : goal.returns-clause-not_negative
returns-clause-not_negative c = transition_weight-pos

pub returns-clause-some : goal.returns-clause-some
returns-clause-some c m v = mul-pos (total_weight_pos m v) (grid_product_pos m.grid v.grid)
