use Rattle.std.proofs.Common.{◌≡◌, ℕ, ◌<◌, ◌≤◌, length, get_or}
use Rattle.acas_spec.specs.Model.{choices_at}
use Rattle.acas_means.specs.Choices.{listed_choice}
use Rattle.acas_sweep.specs.Priced.{IsPriced, no_priced}
use Rattle.acas_sweep.proofs.priced.priced_list.Given as goal

abbrev pub invariant-loop-place : goal.invariant-loop-place
invariant-loop-place l = record {
  few : length (choices_at l.model l.present) ≤ 16;
  long : length l.choices ≡ 16;
  advisory : (k : ℕ) → k < l.place → (get_or l.choices k no_priced).advisory ≡ (listed_choice l.model l.present k).advisory;
  choice : (k : ℕ) → k < l.place → IsPriced l.model l.present (get_or l.choices k no_priced);
}
