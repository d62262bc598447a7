use Rattle.std.proofs.Common.{subst}
use Rattle.acas_table_text.specs.Refusals.{IsOfBytes}
use Rattle.acas_command.specs.declared.status.Cause.TheVariants.{Input, Model, Table}
use Rattle.acas_run_laws.proofs.Causes.{has_cause-form}
use Rattle.acas_run_laws.proofs.faults.refusals_are_of_bytes.Goals as goal

pub returns : goal.returns
returns c = record {
  model = λ form fault before after a. has_cause-form form (Model fault) before after (λ e. cc e) a;
  input = λ form fault before after a. has_cause-form form (Input fault) before after (λ e. cc e) a;
  table = λ form refusal before after a.
      let h : IsOfBytes refusal = has_cause-form form (Table refusal) before after (λ e. cc e) a in
      (λ e. subst IsOfBytes e h, λ e. subst IsOfBytes e h, λ e. subst IsOfBytes e h);
}
