use Rattle.acas_flight.proofs.Responses.{follows-below, follows-above, follows-within}
use Rattle.acas_flight.proofs.laws.segments_follow_by_the_table.Goals as goal

pub returns : goal.returns
returns c = record { below = follows-below; above = follows-above; within = follows-within }
