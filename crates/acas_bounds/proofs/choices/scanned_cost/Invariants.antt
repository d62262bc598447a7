use Rattle.std.proofs.Common.{◌≡◌, ℕ, ◌<◌, false, nat_eq}
use Rattle.acas_means.specs.Choices.{listed_choice}
use Rattle.acas_bounds.proofs.choices.scanned_cost.Given as goal

abbrev pub invariant-loop-place : goal.invariant-loop-place
invariant-loop-place l = (k : ℕ) → k < l.place → nat_eq (listed_choice l.model l.present k).advisory l.advisory ≡ false
