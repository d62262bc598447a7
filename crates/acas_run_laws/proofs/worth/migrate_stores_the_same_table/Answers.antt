use Rattle.std.proofs.Common.{inl, inr, refl}
use Rattle.acas_command.specs.declared.status.Cause.TheVariants.{Done, Output}
use Rattle.acas_cli_words.specs.Words.{Migrate}
use Rattle.acas_run_laws.proofs.NotRefused.{worth-form}
use Rattle.acas_run_laws.proofs.Headlines.{stores-or-cut}
use Rattle.acas_run_laws.proofs.worth.migrate_stores_the_same_table.Goals as goal

pub returns : goal.returns
returns c = record {
  stored = λ model table target files cause before after told either h.
      let t = (worth-form (Migrate model table target) cause files before after told h).stored (stores-or-cut cause either) in
      (t.says.bytes, t.says.given, t.m, t.t, t.says.says, t.says.file, t.says.accepted, t.bounds, t.migrated, t.stored);
  line = λ model table target files before after told h.
      let t = (worth-form (Migrate model table target) Done files before after told h).stored (inl tt) in
      (t.m, t.t, t.says, t.line.whole tt);
  cut = λ model table target files before after told h.
      let t = (worth-form (Migrate model table target) Output files before after told h).stored (inr refl) in
      let part = t.line.part refl in
      (t.m, t.t, part.count, t.says, part.proper, part.appended);
}
