use Rattle.std.proofs.Common.{inl, inr, refl}
use Rattle.acas_command.specs.declared.status.Cause.TheVariants.{Done, Output}
use Rattle.acas_cli_words.specs.Words.{Compile}
use Rattle.acas_run_laws.proofs.NotRefused.{worth-form}
use Rattle.acas_run_laws.proofs.Headlines.{stores-or-cut}
use Rattle.acas_run_laws.proofs.worth.compile_stores_a_tight_table.Goals as goal

pub returns : goal.returns
returns c = record {
  stored = λ model table files cause before after told either h.
      let t = (worth-form (Compile model table) cause files before after told h).stored (stores-or-cut cause either) in
      (t.bytes, t.m, t.t, t.made.says, t.made.bounds, t.made.tight, t.accepted, t.stored);
  line = λ model table files before after told h.
      let t = (worth-form (Compile model table) Done files before after told h).stored (inl tt) in
      (t.bytes, t.m, t.made.says, t.line.whole tt);
  cut = λ model table files before after told h.
      let t = (worth-form (Compile model table) Output files before after told h).stored (inr refl) in
      let part = t.line.part refl in
      (t.bytes, t.m, part.count, t.made.says, part.proper, part.appended);
}
