use Rattle.std.proofs.Common.{refl, arith}
use Rattle.acas_areas.specs.Responses.{held_for, before, past, up, down, at_once}
use Rattle.acas_flight_examples.proofs.searches.responses_are_worked_out.Goals as goal

pub returns-clause-to_the_aim : goal.returns-clause-to_the_aim
returns-clause-to_the_aim c = record { held = held_for 200 (omega arith); approached = before 500 (omega arith) (omega arith) (omega arith) }

pub returns-clause-at_the_aim : goal.returns-clause-at_the_aim
returns-clause-at_the_aim c = record { held = held_for 200 (omega arith); approached = past 700 (omega arith) (omega arith) }

pub returns-clause-hold_alone : goal.returns-clause-hold_alone
returns-clause-hold_alone c = record { held = held_for 100 (omega arith); approached = at_once }

pub returns-clause-toward_up : goal.returns-clause-toward_up
returns-clause-toward_up c = up refl

pub returns-clause-toward_down : goal.returns-clause-toward_down
returns-clause-toward_down c = down refl
