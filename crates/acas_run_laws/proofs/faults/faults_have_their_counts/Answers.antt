use Rattle.std.proofs.Common.{ℕ, ◌+◌, ◌-◌, ◌^◌, ◌<◌, ◌≤◌, ◌⊎◌, inl, inr, ⊎_elim, arith}
use Rattle.acas_units.specs.declared.limits.TheConstants.{TEXT_BYTES}
use Rattle.acas_command.specs.declared.status.Cause.TheVariants.{Absent, Folder, Output, TooLong}
use Rattle.acas_run_laws.proofs.Causes.{has_cause-form, raised-greater, rose-greater}
use Rattle.acas_run_laws.proofs.faults.faults_have_their_counts.Goals as goal

one_more : (a b : ℕ) → (a + (TEXT_BYTES + 1) ≤ b) ⊎ (2 ^ 64 - 1 ≤ b) → (a + TEXT_BYTES < b) ⊎ (2 ^ 64 - 1 ≤ b)
one_more a b h = ⊎_elim (λ e. inl (omega (arith, e))) (λ e. inr e) h

pub returns : goal.returns
returns c = record {
  absent = λ form role before after a room. rose-greater before.misses after.misses (has_cause-form form (Absent role) before after (λ e. cc e) a) room;
  folder = λ form before after a room. rose-greater before.faults after.faults (has_cause-form form Folder before after (λ e. cc e) a) room;
  output = λ form before after a room. rose-greater before.output_faults after.output_faults (has_cause-form form Output before after (λ e. cc e) a) room;
  too_long = λ form role before after a.
      one_more before.taken after.taken (raised-greater before.taken (TEXT_BYTES + 1) after.taken (has_cause-form form (TooLong role) before after (λ e. cc e) a));
}
