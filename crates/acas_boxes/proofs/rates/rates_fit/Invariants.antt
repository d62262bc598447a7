use Rattle.std.proofs.Common.{ℕ, ◌<◌}
use Rattle.acas_rulings.specs.Intruder.{RatesFit}
use Rattle.acas_rulings.specs.MeetingView.{may_of}
use Rattle.acas_rulings.specs.Boxes.{box_at}
use Rattle.acas_boxes.proofs.rates.rates_fit.Given as goal

abbrev pub invariant-loop-place : goal.invariant-loop-place
invariant-loop-place l = record { before : (k : ℕ) → k < l.place → RatesFit (may_of l.may) (box_at l.boxes k).states.intruder }
