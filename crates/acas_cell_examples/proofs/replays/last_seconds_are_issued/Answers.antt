use Rattle.std.proofs.Common.{pos, inl, inr, arith}
use Rattle.std.proofs.lemmas.Int.{ints}
use Rattle.acas_replay.specs.Issue.{IsIssued}
use Rattle.acas_cell_examples.specs.Encounters.{at, point}
use Rattle.acas_cell_examples.specs.Tabled.{stacked, tabled}
use Rattle.acas_cell_examples.proofs.replays.last_seconds_are_issued.Goals as goal

never : IsIssued stacked tabled (at 0 (pos 1001) (point (pos 60) (pos 5) (pos 7))) 1 → ⊥
never (inl none) = omega (arith, none.1)
never (inr found) = omega (arith, ints, found.advised.tabled, found.advised.is_layer.near)

pub returns : goal.returns
returns c course = never (course.issued 0 (omega arith))
