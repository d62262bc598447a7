use Rattle.std.proofs.Common.{⊎_elim, inl, inr}
use Rattle.acas_run_laws.proofs.Causes.{may_print-code, no_print-code, rose-greater}
use Rattle.acas_run_laws.proofs.line.error_lines_are_whole_or_cut_by_a_fault.Goals as goal

pub returns : goal.returns
returns c = record {
  none = λ cause words old new before after r e. r.done (may_print-code cause e);
  line = λ cause words old new before after r done reported.
      ⊎_elim (λ whole. inl whole) (λ part. inr (part.0.count, part.0.proper, part.0.appended, λ room. rose-greater before after part.1 room))
      (r.line (no_print-code cause done reported));
}
