use Rattle.std.proofs.Common.{◌≡◌, ℕ, ◌<◌, length}
use Rattle.acas_step_narrow.specs.Raised.{raised_in}
use Rattle.acas_step_narrow.proofs.column_blends.clear_sums.Given as goal

abbrev pub invariant-loop-i : goal.invariant-loop-i
invariant-loop-i l = record {
  long_upper : length l.uppers ≡ 129;
  long_lower : length l.lowers ≡ 129;
  clear : (i : ℕ) → i < l.i → raised_in l.uppers l.lowers i ≡ record { upper = 0; lower = 0 };
}
