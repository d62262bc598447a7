-- What the answers of `risk` are worth.
use Rattle.std.proofs.Common.{◌≡◌, ℕ, List, Option, Some, None, sym, ap, subst, ◌∙◌}
use Rattle.std.specs.Prelude.{IfSome, IsSomeAnd}
use Rattle.std.specs.FinMap.{get}
use Rattle.sha2.specs.Sha256.{sha256}
use Rattle.acas_spec.specs.Limits.{IsModel}
use Rattle.acas_spec.specs.Model.{ModelData}
use Rattle.acas_spec.specs.Table.{Table}
use Rattle.acas_outside.specs.Bytes.{Appends, IsBytes}
use Rattle.acas_outside.specs.Files.{Files, Given}
use Rattle.acas_outside.specs.Outside.{Outside}
use Rattle.acas_policies.proofs.BoundLaws.{says_advisories, two_sided_bounds}
use Rattle.acas_accept.specs.Accepted.{IsAcceptedTable}
use Rattle.acas_accept.specs.GivenTable.{given_table}
use Rattle.acas_accept.proofs.Tables.{given_is_accepted}
use Rattle.acas_table_text.specs.declared.refusal.TableRefusal.{TableRefusal}
use Rattle.acas_command.specs.Answers.{Agrees, Answers, Completes, Refuses}
use Rattle.acas_command.specs.Called.{MayPrint}
use Rattle.acas_command.specs.Outcome.{Outcome, with_file}
use Rattle.acas_command.specs.Says.{SaysModel}
use Rattle.acas_command.specs.declared.status.Cause.{Cause}
use Rattle.acas_command.specs.declared.status.Cause.TheVariants.{Done, Table as Refused}
use Rattle.acas_command.proofs.Completed.{completed}
use Rattle.acas_command.proofs.Refused.{behind-model, done_unless_failed, no_file_cause-may_print}
use Rattle.acas_command.proofs.Says.{says-model}
use Rattle.acas_table_file.specs.Calls.{with_table}
use Rattle.acas_table_file.specs.Worth.{RejectsTable, SaysTable}
use Rattle.acas_table_file.proofs.Files.{behind-table, read-table, rejects-table, with_table-accepted}
use Rattle.acas_risk.specs.RiskText.{risk_row, risk_text}
use Rattle.acas_risk.proofs.Bounds.{rows_are_risks}
use Rattle.acas_risk_commands.specs.Calls.{CallsForRisk, risk_of}
use Rattle.acas_risk_commands.specs.Worth.{PrintsRisk, RiskIsWorth}
use Rattle.acas_risk_commands.proofs.Files.{rest_of_risk, text_of_risk}

prints-risk : (model table : List ℕ) (files : Files) (cause : Cause) (before after : Outside) → MayPrint cause → Completes (CallsForRisk model table) files cause before after
    → (cause ≡ Done → IsSomeAnd (get files table) IsBytes) → PrintsRisk model table files before after
unfolding risk_text
prints-risk model table files cause before after prints a whole =
    let done : MayPrint (risk_of (get files model) (get files table)).cause = subst (λ (o : Outcome). MayPrint o.cause) a.may (subst MayPrint (sym a.ends) prints) in
    let b = behind-model (get files model) (rest_of_risk (get files table)) (no_file_cause-may_print _ done) in
    let m : ModelData = b.m in
    let digest : List ℕ = sha256 b.bytes in
    let says : SaysModel files model b.bytes m = says-model files model (rest_of_risk (get files table)) b in
    let within : IsModel m = says.text.within in
    let given = behind-table m digest (get files table) (text_of_risk m) (subst (λ (o : Outcome). MayPrint o.cause) b.is done) in
    let t : Table = given_table m.grid given.0 in
    let looked : rest_of_risk (get files table) digest m ≡ text_of_risk m given.0 =
    ap (λ (f : Option (List ℕ)). with_table m digest f (text_of_risk m)) given.1 ∙ with_table-accepted m digest given.0 (text_of_risk m) given.2 in
    let behind : risk_of (get files model) (get files table) ≡ text_of_risk m given.0 = b.is ∙ looked in
    let is : a.outcome ≡ text_of_risk m given.0 = a.may ∙ behind in
    let ends : cause ≡ Done = sym a.ends ∙ ap (λ (o : Outcome). o.cause) is in
    let small : IsSomeAnd (Some given.0) IsBytes = subst (λ (f : Option (List ℕ)). IsSomeAnd f IsBytes) given.1 (whole ends) in
    let accepted : IsAcceptedTable m digest given.0 t = given_is_accepted m digest given.0 within small given.2 in
    let bounds = two_sided_bounds m t within accepted.sound in
    record {
      m = m;
      t = t;
      says = record { bytes = b.bytes; given = given.0; says = says; file = given.1; accepted = accepted };
      bounds = bounds;
      rows = risk_row m t.advice;
      risks = rows_are_risks m t.advice within (says_advisories m t.advice within bounds.policy);
      printed = subst (λ (o : Outcome). Appends before.written after.written o.output) is a.printed;
      kept = subst (λ (o : Outcome). after.holds ≡ Some (with_file o.file files)) is a.stored;
    }

rejected : (model table : List ℕ) (files : Files) (refusal : TableRefusal) (after : Outside) → Refuses (CallsForRisk model table) files (Refused refusal) after → RejectsTable model table files
rejected model table files refusal after a =
    rejects-table model table files (λ digest m. text_of_risk m) refusal (λ digest m bytes is. subst MayPrint is tt) (ap (λ (o : Outcome). o.cause) (sym a.may) ∙ a.refused)

done-risk : (files : Files) (model table : List ℕ) (m : ModelData) (t : Table) (o : Outcome) → SaysTable model table files m t → o ≡ risk_of (get files model) (get files table) → o.cause ≡ Done
done-risk files model table m t o says called = ap (λ (p : Outcome). p.cause) (called ∙ read-table files model table m t (λ digest n. text_of_risk n) says)

pub risk-worth : (model table : List ℕ) (cause : Cause) (before after : Outside) → Answers (CallsForRisk model table) cause before after
    → (cause ≡ Done → Given before.holds table (λ file. IsSomeAnd file IsBytes)) → IfSome before.holds (λ files. RiskIsWorth model table files cause before after)
risk-worth model table cause before after answers whole = by_holds before.holds answers.told whole
  where
    by_holds : (holds : Option Files) → IfSome holds (λ files. Agrees (CallsForRisk model table) files cause before after) → (cause ≡ Done → Given holds table (λ file. IsSomeAnd file IsBytes))
        → IfSome holds (λ files. RiskIsWorth model table files cause before after)
    by_holds None agrees bytes = tt
    by_holds (Some files) agrees bytes = record {
      printed = λ may. prints-risk model table files cause before after may (completed (CallsForRisk model table) files cause before after may agrees) bytes;
      refused = λ refusal is. rejected model table files refusal after (subst (λ (c : Cause). Agrees (CallsForRisk model table) files c before after) is agrees);
      not_refused = λ m t says.
          done_unless_failed (CallsForRisk model table) files cause before after
          (λ o called. done-risk files model table m t o says called) answers.has_cause agrees;
    }
