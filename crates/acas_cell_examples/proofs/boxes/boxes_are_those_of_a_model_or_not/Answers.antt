use Rattle.std.proofs.Common.{ℕ, zero, suc, ◌<◌, List, [], ◌∷◌, arith, rules}
use Rattle.acas_rulings.specs.Boxes.{AuditedBox, IsBoxOf, box_at}
use Rattle.acas_flight_examples.specs.Flown.{near_box}
use Rattle.acas_cell_examples.specs.Tabled.{stacked}
use Rattle.acas_cell_examples.specs.Witnesses.{around}
use Rattle.acas_cell_examples.proofs.boxes.boxes_are_those_of_a_model_or_not.Goals as goal

abbrev two : List AuditedBox
two = around ∷ record { advisory = 0; states = near_box } ∷ []

each : (place : ℕ) → place < 2 → IsBoxOf stacked (box_at two place)
each zero l = search rules
each (suc zero) l = search rules
each (suc (suc place)) l = absurd (omega (arith, l))

pub returns-clause-both : goal.returns-clause-both
returns-clause-both c = record { each = each }

pub returns-clause-not_the_last : goal.returns-clause-not_the_last
returns-clause-not_the_last c boxes = omega (arith, (boxes.each 1 (omega arith)).advisory)
