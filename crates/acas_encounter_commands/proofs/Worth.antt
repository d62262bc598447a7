-- What the answers of `replay` are worth.
use Rattle.std.proofs.Common.{◌≡◌, ℕ, ⊎_elim, Bool, true, false, cond, nat_lt, List, [], length, Result, Ok, Err, Option, None, Some, sym, ap, subst, ◌∙◌}
use Rattle.std.specs.Prelude.{IfSome}
use Rattle.std.specs.FinMap.{get}
use Rattle.sha2.specs.Sha256.{sha256}
use Rattle.acas_units.specs.declared.limits.TheConstants.{TEXT_BYTES}
use Rattle.acas_spec.specs.Model.{ModelData}
use Rattle.acas_spec.specs.Table.{Table}
use Rattle.acas_outside.specs.Bytes.{Appends}
use Rattle.acas_outside.specs.Files.{Files}
use Rattle.acas_outside.specs.Outside.{Outside}
use Rattle.acas_doc.specs.declared.input_fault.InputFault.{InputFault}
use Rattle.acas_replay.specs.Encounter.{EncounterData}
use Rattle.acas_replay.specs.Text.{IsEncounterText}
use Rattle.acas_replay.specs.Whole.{encounter_of}
use Rattle.acas_replay.proofs.Pass.{understood}
use Rattle.acas_replay.proofs.Read.{said}
use Rattle.acas_replay.proofs.Audits.{course_audited}
use Rattle.acas_table_text.specs.declared.refusal.TableRefusal.{TableRefusal}
use Rattle.acas_command.specs.Answers.{Agrees, Answers}
use Rattle.acas_command.specs.Called.{IsRefusal, IsReportOutcome, MayPrint}
use Rattle.acas_command.specs.Calls.{with_input, with_input_file}
use Rattle.acas_command.specs.Outcome.{Outcome, prints, refuses, report_cause}
use Rattle.acas_command.specs.Says.{RejectsBeside, SaysBeside, SaysModel}
use Rattle.acas_command.specs.declared.status.Cause.{Cause}
use Rattle.acas_command.specs.declared.status.Cause.TheVariants.{Done, Input, Table as Refused, TooLong}
use Rattle.acas_command.specs.declared.status.FileRole.TheVariants.{Encounter as EncounterFile}
use Rattle.acas_command.proofs.Behind.{told-map}
use Rattle.acas_command.proofs.Inputs.{rejected-input_file, with_input_file-read}
use Rattle.acas_command.proofs.Completed.{completed}
use Rattle.acas_command.proofs.Refused.{IsNoFileCause, behind-model, done_unless_failed}
use Rattle.acas_command.proofs.Reports.{IsPrinted, report-printed, report-refused}
use Rattle.acas_command.proofs.Says.{file-says, says-model}
use Rattle.acas_table_file.specs.Calls.{with_table}
use Rattle.acas_table_file.proofs.Files.{behind-input, read-table, rejects-table, tells-advices}
use Rattle.acas_encounter_commands.specs.Calls.{CallsForReplay, IsReplayBegun, IsReplayText, encounter_looked_at, replay_looks_at}
use Rattle.acas_encounter_commands.specs.Worth.{PrintsReplay, ReplayIsWorth}
use Rattle.acas_table_file.specs.Worth.{SaysTable}

prints-replay : (model table encounter : List ℕ) (files : Files) (cause : Cause) (before after : Outside) → IsPrinted (IsReplayText model table encounter files) files cause before after
    → PrintsReplay model table encounter files before after
prints-replay model table encounter files cause before after p =
    let m : ModelData = p.report.m in
    let advices = p.report.advices in
    let flown : EncounterData = p.report.flown in
    let is = p.report.replayed in
    let r = p.report.replay in
    let says : SaysModel files model is.advised.model_file.bytes m = file-says files model is.advised.digest m is.advised.model_file in
    record {
      m = m;
      advices = advices;
      advised = tells-advices model table files m advices is.advised;
      flown = flown;
      says = record {
        bytes = is.advised.model_file.bytes;
        given = is.encounter_file.bytes;
        says = says;
        file = is.encounter_file.text.there;
        short = is.encounter_file.text.short;
        text = said m is.encounter_file.bytes flown says.text.within is.encounter_file.is_read;
      };
      course = r.course;
      is_course = r.is_course;
      printed = subst (λ (text : List ℕ). Appends before.written after.written text) r.printed p.printed;
      ruled_on = record {
        each = λ k within of_cells some. course_audited m advices flown r.course k says.text.within is.advised.known is.advised.fits is.fits r.is_course within of_cells some;
      };
      kept = p.kept;
    }

-- looking at an encounter refuses no table
no_table-encounter : (m : ModelData) (file : Option (List ℕ)) (refusal : TableRefusal) → (with_input_file EncounterFile (encounter_of m) file (λ flown. prints [])).cause ≡ Refused refusal → ⊥
no_table-encounter m None refusal h = cc h
no_table-encounter m (Some bytes) refusal h = in_length (nat_lt TEXT_BYTES (length bytes)) h
  where
    refuses_none : (r : Result EncounterData InputFault) → (with_input r (λ flown. prints [])).cause ≡ Refused refusal → ⊥
    refuses_none (Ok flown) h = cc h
    refuses_none (Err fault) h = cc h

    in_length : (b : Bool) → (cond b (refuses (TooLong EncounterFile)) (with_input (encounter_of m bytes) (λ flown. prints []))).cause ≡ Refused refusal → ⊥
    in_length true h = cc h
    in_length false h = refuses_none (encounter_of m bytes) h

rejects-encounter : (model table encounter : List ℕ) (files : Files) (fault : InputFault) → (replay_looks_at model table encounter files).cause ≡ Input fault → RejectsBeside (λ m digest. IsEncounterText m) model encounter files
rejects-encounter model table encounter files fault cause =
    let behind : List ℕ → ModelData → Outcome = λ digest m. with_table m digest (get files table) (λ bytes. encounter_looked_at encounter files m) in
    let b = behind-model (get files model) behind (subst IsNoFileCause (sym cause) tt) in
    let says : SaysModel files model b.bytes b.m = says-model files model behind b in
    let t = behind-input b.m (sha256 b.bytes) (get files table) (λ bytes. encounter_looked_at encounter files b.m) fault (ap (λ (o : Outcome). o.cause) (sym b.is) ∙ cause) in
    let e = rejected-input_file EncounterFile (encounter_of b.m) (get files encounter) fault t.1 in
    record {
      bytes = b.bytes;
      m = b.m;
      given = e.0;
      says = says;
      file = e.1;
      none = λ flown text.
          let both = sym e.2 ∙ understood b.m e.0 flown says.text.within text in
          absurd (cc both);
    }

replay-looks : (files : Files) (model table encounter : List ℕ) (m : ModelData) (t : Table) (flown : EncounterData) → SaysTable model table files m t
    → SaysBeside IsEncounterText model encounter files m flown → replay_looks_at model table encounter files ≡ prints []
replay-looks files model table encounter m t flown says e =
    read-table files model table m t (λ digest n b. encounter_looked_at encounter files n) says
    ∙ with_input_file-read EncounterFile (encounter_of m) (get files encounter) e.given flown (λ f. prints []) (record { there = e.file; short = e.short })
    (understood m e.given flown e.says.text.within e.text)

-- a replay that looking at the files does not refuse is done
replay-done : (model table encounter : List ℕ) (files : Files) (o : Outcome) → MayPrint (replay_looks_at model table encounter files).cause
    → (CallsForReplay model table encounter).ends files o → o.cause ≡ Done
replay-done model table encounter files o prints may = ⊎_elim refused written may
  where
    refused : IsRefusal (replay_looks_at model table encounter files) o → o.cause ≡ Done
    refused r = absurd (r.refused prints)

    written : IsReportOutcome (IsReplayText model table encounter files) o → o.cause ≡ Done
    written w = ap (λ (p : Outcome). p.cause) w.is ∙ ap report_cause w.report.none

pub replay-worth : (model table encounter : List ℕ) (cause : Cause) (before after : Outside) → Answers (CallsForReplay model table encounter) cause before after
    → IfSome before.holds (λ files. ReplayIsWorth model table encounter files cause before after)
replay-worth model table encounter cause before after answers =
    told-map before.holds _ _ (λ files agrees. worth files agrees) answers.told
  where
    looks : Files → Outcome
    looks = replay_looks_at model table encounter

    worth : (files : Files) → Agrees (CallsForReplay model table encounter) files cause before after → ReplayIsWorth model table encounter files cause before after
    worth files agrees = record {
      printed = λ may. prints-replay model table encounter files cause before after
          (report-printed looks (IsReplayText model table encounter) (IsReplayBegun model table encounter) files cause before after may
          (completed (CallsForReplay model table encounter) files cause before after may agrees));
      refused_table = λ refusal is. rejects-table model table files (λ digest m bytes. encounter_looked_at encounter files m) refusal (λ digest m bytes. no_table-encounter m (get files encounter) refusal)
          (report-refused looks (IsReplayText model table encounter) (IsReplayBegun model table encounter) files (Refused refusal) after (λ never. never)
          (subst (λ (c : Cause). Agrees (CallsForReplay model table encounter) files c before after) is agrees));
      refused_encounter = λ fault is. rejects-encounter model table encounter files fault
          (report-refused looks (IsReplayText model table encounter) (IsReplayBegun model table encounter) files (Input fault) after (λ never. never)
          (subst (λ (c : Cause). Agrees (CallsForReplay model table encounter) files c before after) is agrees));
      not_refused = λ m t flown says beside.
          done_unless_failed (CallsForReplay model table encounter) files cause before after
          (λ o may. replay-done model table encounter files o
          (subst (λ (p : Outcome). MayPrint p.cause) (sym (replay-looks files model table encounter m t flown says beside)) tt) may) answers.has_cause agrees;
    }
