-- The files that commands leave as they were.
use Rattle.std.proofs.Common.{◌≡◌, ℕ, List, [], ◌∷◌, Option, None, Some, ⊎_elim, refl, sym, ap, subst, ◌∙◌}
use Rattle.std.specs.Prelude.{IsSomeAnd}
use Rattle.std.specs.FinMap.{get}
use Rattle.acas_outside.specs.Files.{Files}
use Rattle.acas_outside.specs.Outside.{Outside}
use Rattle.acas_command.specs.Answers.{Agrees, Completes}
use Rattle.acas_command.specs.Called.{Called, IsRefusal, IsReportOutcome, MayPrint, MayStorePart, PrintsPart, calls_for, calls_for_report}
use Rattle.acas_command.specs.Outcome.{Outcome, prints, with_file}
use Rattle.acas_command.specs.declared.status.Cause.{Cause}
use Rattle.acas_command.specs.declared.status.Cause.TheVariants.{Done, Reported, Words, Absent, Model, Table, Input, Folder, Output, TooLong, Memory}
use Rattle.acas_command.proofs.Reports.{no_file-model}
use Rattle.acas_table_file.specs.Calls.{with_table}
use Rattle.acas_table_file.proofs.Files.{no_file-table}
use Rattle.acas_cell_commands.specs.AuditCalls.{IsAuditBegun, IsAuditText, audit_looks_at}
use Rattle.acas_box_commands.specs.RegionsCalls.{IsRegionsBegun, IsRegionsText, regions_looks_at}
use Rattle.acas_drill.specs.Calls.{IsDrillBegun, IsDrillText}
use Rattle.acas_encounter_commands.specs.Calls.{IsReplayBegun, IsReplayText, replay_looks_at}
use Rattle.acas_box_commands.specs.ManoeuvreCalls.{IsManoeuvreBegun, IsManoeuvreText, manoeuvre_looks_at}
use Rattle.acas_risk_commands.specs.Calls.{risk_of}
use Rattle.acas_risk_commands.proofs.Files.{rest_of_risk, text_of_risk}
use Rattle.acas_check_commands.specs.AcceptedLine.{accepted_line}
use Rattle.acas_cell_commands.specs.SafeableCalls.{IsSafeableText, IsSafeableTextBegun, safeable_looks_at}
use Rattle.acas_table_commands.specs.Calls.{values_of}
use Rattle.acas_check_commands.specs.Calls.{check_of}
use Rattle.acas_table_rows.specs.ValuesText.{values_text}
use Rattle.acas_cli.specs.Calls.{CallsFor}
use Rattle.acas_cli_words.specs.Words.{Form, Values, Compile, Check, Risk, Audit, Regions, Manoeuvre, Safeable, Replay, Migrate, Drill}
use Rattle.acas_run_laws.specs.Forms.{written_by}

-- the files of a command that leaves them as they were, with every cause
module _ (called : Called) (files : Files) (before after : Outside) where
  kept : (cause : Cause) → (Completes called files cause before after → after.holds ≡ Some files) → (called.stores files after.holds → after.holds ≡ Some files)
      → (called.prints files before after → after.holds ≡ Some files) → Agrees called files cause before after → after.holds ≡ Some files
  kept Done completes stores begins a = completes a
  kept Reported completes stores begins a = completes a
  kept Words completes stores begins a = absurd a
  kept (Absent role) completes stores begins a = a.kept
  kept (Model fault) completes stores begins a = a.kept
  kept (Table refusal) completes stores begins a = a.kept
  kept (Input fault) completes stores begins a = a.kept
  kept Folder completes stores begins a = stores a
  kept Output completes stores begins a = begins a
  kept (TooLong role) completes stores begins a = a.kept
  kept Memory completes stores begins a = a

-- a command of one outcome, which has no file
kept-one : (names : List (List ℕ)) (outcome_of : Files → Outcome) (files : Files) (cause : Cause) (before after : Outside) → (outcome_of files).file ≡ None
    → Agrees (calls_for names outcome_of) files cause before after → after.holds ≡ Some files
kept-one names outcome_of files cause before after none a = kept (calls_for names outcome_of) files before after cause done failed cut a
  where
    file_of : (o : Outcome) → o ≡ outcome_of files → with_file o.file files ≡ files
    file_of o is = ap (λ (f : Option (List ℕ × List ℕ)). with_file f files) (ap (λ (p : Outcome). p.file) is ∙ none)

    done : Completes (calls_for names outcome_of) files cause before after → after.holds ≡ Some files
    done c = c.stored ∙ ap (λ (fs : Files). Some fs) (file_of c.outcome c.may)

    no_part : (now : Option Files) → MayStorePart None files now → now ≡ Some files
    no_part now stored = ⊎_elim (λ same. same) (λ never. absurd never) stored

    failed : MayStorePart (outcome_of files).file files after.holds → after.holds ≡ Some files
    failed stored = no_part after.holds (subst (λ (f : Option (List ℕ × List ℕ)). MayStorePart f files after.holds) none stored)

    cut : PrintsPart (outcome_of files) files before after → after.holds ≡ Some files
    cut part = part.stored ∙ ap (λ (fs : Files). Some fs) (file_of (outcome_of files) refl)

-- a command that prints a report
kept-report : (names : List (List ℕ)) (looks : Files → Outcome) (R : Files → ℕ → List ℕ → Type 0) (B : Files → Option (List ℕ) → Option (List ℕ) → Type 0) (files : Files) (cause : Cause) (before after : Outside)
    → MayPrint cause → Completes (calls_for_report names looks R B) files cause before after → after.holds ≡ Some files
kept-report names looks R B files cause before after prints c = ⊎_elim refused written c.may
  where
    refused : IsRefusal (looks files) c.outcome → after.holds ≡ Some files
    refused r = absurd (r.refused (subst (λ (o : Outcome). MayPrint o.cause) r.is (subst MayPrint (sym c.ends) prints)))

    written : IsReportOutcome (R files) c.outcome → after.holds ≡ Some files
    written w = c.stored ∙ ap (λ (o : Outcome). Some (with_file o.file files)) w.is

kept-reports : (names : List (List ℕ)) (looks : Files → Outcome) (R : Files → ℕ → List ℕ → Type 0) (B : Files → Option (List ℕ) → Option (List ℕ) → Type 0) (files : Files) (cause : Cause) (before after : Outside)
    → Agrees (calls_for_report names looks R B) files cause before after → after.holds ≡ Some files
kept-reports names looks R B files Done before after a = kept-report names looks R B files Done before after tt a
kept-reports names looks R B files Reported before after a = kept-report names looks R B files Reported before after tt a
kept-reports names looks R B files Words before after a = absurd a
kept-reports names looks R B files (Absent role) before after a = a.kept
kept-reports names looks R B files (Model fault) before after a = a.kept
kept-reports names looks R B files (Table refusal) before after a = a.kept
kept-reports names looks R B files (Input fault) before after a = a.kept
kept-reports names looks R B files Folder before after a = a
kept-reports names looks R B files Output before after a = a.kept
kept-reports names looks R B files (TooLong role) before after a = a.kept
kept-reports names looks R B files Memory before after a = a

-- a form that writes no file leaves all files as they were
pub kept-form : (form : Form) (cause : Cause) (files : Files) (before after : Outside) → written_by form ≡ None → Agrees (CallsFor form) files cause before after → after.holds ≡ Some files
kept-form (Values model) cause files before after none a =
    kept-one (model ∷ []) (λ fs. values_of (get fs model)) files cause before after (no_file-model (get files model) (λ digest m. prints (values_text m)) (λ digest m. refl)) a
kept-form (Compile model table) cause files before after none a = absurd (cc none)
kept-form (Check model table) cause files before after none a =
    kept-one (model ∷ table ∷ []) (λ fs. check_of (get fs model) (get fs table)) files cause before after
    (no_file-model (get files model) (λ digest m. with_table m digest (get files table) (λ bytes. prints (accepted_line m.grid)))
    (λ digest m. no_file-table m digest (get files table) (λ bytes. prints (accepted_line m.grid)) (λ bytes. refl))) a
kept-form (Risk model table) cause files before after none a =
    kept-one (model ∷ table ∷ []) (λ fs. risk_of (get fs model) (get fs table)) files cause before after
    (no_file-model (get files model) (rest_of_risk (get files table)) (λ digest m. no_file-table m digest (get files table) (text_of_risk m) (λ bytes. refl))) a
kept-form (Audit model table which) cause files before after none a =
    kept-reports (model ∷ table ∷ []) (audit_looks_at model table) (IsAuditText model table which) (IsAuditBegun model table which) files cause before after a
kept-form (Regions model boxes) cause files before after none a = kept-reports (model ∷ boxes ∷ []) (regions_looks_at model boxes) (IsRegionsText model boxes) (IsRegionsBegun model boxes) files cause before after a
kept-form (Manoeuvre model boxes accel rate) cause files before after none a =
    kept-reports (model ∷ boxes ∷ []) (manoeuvre_looks_at model boxes (record { accel = accel; rate = rate })) (IsManoeuvreText model boxes (record { accel = accel; rate = rate }))
    (IsManoeuvreBegun model boxes (record { accel = accel; rate = rate })) files cause before after a
kept-form (Safeable model table) cause files before after none a =
    kept-reports (model ∷ table ∷ []) (safeable_looks_at model table) (IsSafeableText model table) (IsSafeableTextBegun model table) files cause before after a
kept-form (Replay model table encounter) cause files before after none a =
    kept-reports (model ∷ table ∷ encounter ∷ []) (replay_looks_at model table encounter) (IsReplayText model table encounter) (IsReplayBegun model table encounter) files cause before after a
kept-form (Migrate model table target) cause files before after none a = absurd (cc none)
kept-form (Drill number) cause files before after none a = kept-reports [] (λ fs. prints []) (λ fs. IsDrillText number) (λ fs. IsDrillBegun number) files cause before after a

-- files that stay hold what they held
pub same-name : (files : Files) (name : List ℕ) (now : Option Files) → now ≡ Some files → IsSomeAnd now (λ fs. get fs name ≡ get files name)
same-name files name None e = absurd (cc e)
same-name files name (Some fs) e = ap (λ (x : Files). get x name) (cc e)
