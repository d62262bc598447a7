use Rattle.acas_safeable.proofs.ReachedEnds.{climbing_end, descending_end, fastest_end, highest_end, lowest_end, slowest_end}
use Rattle.acas_safeable.proofs.laws.reached_ends_are_reached.Goals as goal

pub returns : goal.returns
returns c = record { lowest = lowest_end; highest = highest_end; slowest = slowest_end; fastest = fastest_end; descending = descending_end; climbing = climbing_end }
