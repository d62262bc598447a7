-- The printed meeting is one.
use Rattle.std.proofs.Common.{List, [], ◌∷◌, pos, refl, rules}
use Rattle.std.specs.List.{All}
use Rattle.std.proofs.lemmas.List.Elements.{All-from_recursion}
use Rattle.acas_frac.specs.Fraction.{IsReduced}
use Rattle.acas_flight.specs.Response.{Segment}
use Rattle.acas_flight.specs.State.{State}
use Rattle.acas_flight_examples.specs.Numbers.{minus, over, segment, state}
use Rattle.acas_rulings.specs.Meeting.{IsMeeting}
use Rattle.acas_rulings.specs.Printed.{AreParts, a_part, no_parts}
use Rattle.acas_rulings.specs.PrintedMeetings.{against_of, meeting_fractions}
use Rattle.acas_rulings.specs.Verdicts.{ShowsMeeting}
use Rattle.acas_cell_examples.specs.Tabled.{stacked}
use Rattle.acas_cell_examples.specs.Witnesses.{around, gentle, met, part}
use Rattle.acas_cell_examples.proofs.Shown.{flown, parts, whole_is_reduced}

abbrev pub start : State
start = state (pos 1000) (pos 250) (minus 10) (pos 0) (pos 20)

abbrev pub turn : List Segment
turn = segment 1 (pos 50) ∷ segment 1 (pos 0) ∷ []

pub meets : IsMeeting stacked 1 gentle around.states 1 start flown turn
meets = search rules

against : AreParts 1 turn (against_of (met (pos 1000) 1 (pos 250)))
against = a_part (segment 1 (pos 50)) (part (over (pos 1) 1) (over (pos 50) 1)) (segment 1 (pos 0) ∷ []) (part (over (pos 1) 1) (over (pos 0) 1) ∷ []) (record { duration = refl; acceleration = refl })
    (a_part (segment 1 (pos 0)) (part (over (pos 1) 1) (over (pos 0) 1)) [] [] (record { duration = refl; acceleration = refl }) no_parts)

all_reduced : All IsReduced (meeting_fractions (met (pos 1000) 1 (pos 250)))
all_reduced =
    let one = whole_is_reduced (pos 1) in
    let none = whole_is_reduced (pos 0) in
    All-from_recursion IsReduced (meeting_fractions (met (pos 1000) 1 (pos 250))) (
      whole_is_reduced (pos 1000),
      (whole_is_reduced (pos 250), (whole_is_reduced (pos 2), (none, (whole_is_reduced (pos 20), (one, (none, (one, (whole_is_reduced (pos 100), (one, (whole_is_reduced (pos 50), (one, (none, tt)))))))))))),
    )

pub shown : ShowsMeeting stacked gentle around (met (pos 1000) 1 (pos 250))
shown = record {
  q = 1;
  state = start;
  response = flown;
  flight = turn;
  range = refl;
  closing = refl;
  altitude = refl;
  own = refl;
  intruder = refl;
  time = refl;
  flown = parts (pos 1000) (pos 250);
  against = against;
  meeting = meets;
  reduced = all_reduced;
}
