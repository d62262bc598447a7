-- What the answers of `check` are worth.
use Rattle.std.proofs.Common.{◌≡◌, ℕ, List, Option, Some, None, sym, ap, subst, ◌∙◌}
use Rattle.std.specs.Prelude.{IfSome, IsSomeAnd}
use Rattle.std.specs.FinMap.{get}
use Rattle.sha2.specs.Sha256.{sha256}
use Rattle.acas_spec.specs.Model.{ModelData}
use Rattle.acas_spec.specs.Table.{Table}
use Rattle.acas_outside.specs.Bytes.{Appends, IsBytes}
use Rattle.acas_outside.specs.Files.{Files, Given}
use Rattle.acas_outside.specs.Outside.{Outside}
use Rattle.acas_policies.proofs.BoundLaws.{two_sided_bounds}
use Rattle.acas_accept.specs.Accepted.{IsAcceptedTable}
use Rattle.acas_accept.specs.GivenTable.{given_table}
use Rattle.acas_table_text.specs.declared.refusal.TableRefusal.{TableRefusal}
use Rattle.acas_accept.proofs.Tables.{given_is_accepted}
use Rattle.acas_command.specs.Answers.{Agrees, Answers, Completes, Refuses}
use Rattle.acas_command.specs.Called.{MayPrint}
use Rattle.acas_table_file.specs.Calls.{with_table}
use Rattle.acas_command.specs.Outcome.{Outcome, prints, with_file}
use Rattle.acas_command.specs.declared.status.Cause.{Cause}
use Rattle.acas_command.specs.declared.status.Cause.TheVariants.{Done, Table as Refused}
use Rattle.acas_command.proofs.Completed.{completed}
use Rattle.acas_command.proofs.Refused.{behind-model, done_unless_failed, no_file_cause-may_print}
use Rattle.acas_command.proofs.Says.{says-model}
use Rattle.acas_command.specs.Says.{SaysModel}
use Rattle.acas_table_file.proofs.Files.{behind-table, read-table, rejects-table, bytes-of, with_table-accepted}
use Rattle.acas_table_file.specs.Worth.{RejectsTable, SaysTable}
use Rattle.acas_check_commands.specs.AcceptedLine.{accepted_line}
use Rattle.acas_check_commands.specs.Calls.{CallsForCheck, check_of}
use Rattle.acas_check_commands.specs.Worth.{AcceptsTable, CheckIsWorth}

-- what `check` goes on with, behind the model and behind the table
abbrev pub line_of_check : ModelData → List ℕ → Outcome
line_of_check m bytes = prints (accepted_line m.grid)

abbrev pub rest_of_check : Option (List ℕ) → List ℕ → ModelData → Outcome
rest_of_check file digest m = with_table m digest file (line_of_check m)

accepts-table : (model table : List ℕ) (files : Files) (cause : Cause) (before after : Outside) → MayPrint cause → Completes (CallsForCheck model table) files cause before after
    → (cause ≡ Done → IsSomeAnd (get files table) IsBytes) → AcceptsTable model table files before after
accepts-table model table files cause before after prints a whole =
    let done : MayPrint (check_of (get files model) (get files table)).cause = subst (λ (o : Outcome). MayPrint o.cause) a.may (subst MayPrint (sym a.ends) prints) in
    let b = behind-model (get files model) (rest_of_check (get files table)) (no_file_cause-may_print _ done) in
    let says : SaysModel files model b.bytes b.m = says-model files model (rest_of_check (get files table)) b in
    let t = behind-table b.m (sha256 b.bytes) (get files table) (line_of_check b.m) (subst (λ (o : Outcome). MayPrint o.cause) b.is done) in
    let is : a.outcome ≡ line_of_check b.m t.0 =
    a.may ∙ b.is ∙ ap (λ (file : Option (List ℕ)). rest_of_check file (sha256 b.bytes) b.m) t.1 ∙ with_table-accepted b.m (sha256 b.bytes) t.0 (line_of_check b.m) t.2 in
    let ends : cause ≡ Done = sym a.ends ∙ ap (λ (o : Outcome). o.cause) is in
    let accepted : IsAcceptedTable b.m (sha256 b.bytes) t.0 (given_table b.m.grid t.0) =
    given_is_accepted b.m (sha256 b.bytes) t.0 says.text.within (bytes-of (get files table) t.0 t.1 (whole ends)) t.2 in
    record {
      m = b.m;
      t = given_table b.m.grid t.0;
      says = record { bytes = b.bytes; given = t.0; says = says; file = t.1; accepted = accepted };
      bounds = two_sided_bounds b.m (given_table b.m.grid t.0) says.text.within accepted.sound;
      printed = subst (λ (o : Outcome). Appends before.written after.written o.output) is a.printed;
      kept = subst (λ (o : Outcome). after.holds ≡ Some (with_file o.file files)) is a.stored;
    }

rejected : (model table : List ℕ) (files : Files) (refusal : TableRefusal) (after : Outside) → Refuses (CallsForCheck model table) files (Refused refusal) after → RejectsTable model table files
rejected model table files refusal after a =
    rejects-table model table files (λ digest m. line_of_check m) refusal (λ digest m bytes is. subst MayPrint is tt) (ap (λ (o : Outcome). o.cause) (sym a.may) ∙ a.refused)

checked-line : (files : Files) (model table : List ℕ) (m : ModelData) (t : Table) → SaysTable model table files m t → check_of (get files model) (get files table) ≡ prints (accepted_line m.grid)
checked-line files model table m t says = read-table files model table m t (λ digest n. line_of_check n) says

pub check-worth : (model table : List ℕ) (cause : Cause) (before after : Outside) → Answers (CallsForCheck model table) cause before after
    → (cause ≡ Done → Given before.holds table (λ file. IsSomeAnd file IsBytes)) → IfSome before.holds (λ files. CheckIsWorth model table files cause before after)
check-worth model table cause before after answers whole = by_holds before.holds answers.told whole
  where
    by_holds : (holds : Option Files) → IfSome holds (λ files. Agrees (CallsForCheck model table) files cause before after) → (cause ≡ Done → Given holds table (λ file. IsSomeAnd file IsBytes))
        → IfSome holds (λ files. CheckIsWorth model table files cause before after)
    by_holds None agrees bytes = tt
    by_holds (Some files) agrees bytes = record {
      accepted = λ may. accepts-table model table files cause before after may (completed (CallsForCheck model table) files cause before after may agrees) bytes;
      refused = λ refusal is. rejected model table files refusal after (subst (λ (c : Cause). Agrees (CallsForCheck model table) files c before after) is agrees);
      not_refused = λ m t says.
          done_unless_failed (CallsForCheck model table) files cause before after
          (λ o called. ap (λ (p : Outcome). p.cause) (called ∙ checked-line files model table m t says)) answers.has_cause agrees;
    }
