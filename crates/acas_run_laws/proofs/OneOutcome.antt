-- No form has two outcomes over the same files.
use Rattle.std.proofs.Common.{◌≡◌, ℕ, ◌<◌, List, [], Option, ⊎_elim, sym, ap, subst, ◌∙◌, arith}
use Rattle.std.specs.FinMap.{get}
use Rattle.acas_spec.specs.Limits.{IsModel}
use Rattle.acas_spec.specs.Model.{ModelData}
use Rattle.acas_base.specs.Advices.{AdvicesData}
use Rattle.acas_outside.specs.Files.{Files}
use Rattle.std.proofs.lemmas.Int.{ints}
use Rattle.acas_boxes.specs.Rates.{fitting_boxes_of}
use Rattle.acas_boxes.specs.Whole.{boxes_of}
use Rattle.acas_replay.specs.Encounter.{EncounterData}
use Rattle.acas_replay.specs.Whole.{encounter_of}
use Rattle.acas_process.specs.Compiled.{compiled}
use Rattle.acas_rulings.specs.Boxes.{AuditedBox}
use Rattle.acas_rulings.specs.Intruder.{Manoeuvre as Intruder}
use Rattle.acas_report_lines.specs.Meetings.{IsMeetingsReport}
use Rattle.acas_report_lines.specs.Regions.{IsRegionsReport}
use Rattle.acas_report_lines.specs.declared.counts.Counts.{Counts}
use Rattle.acas_report_lines.specs.declared.counts.Which.{Which}
use Rattle.acas_report_lines.specs.declared.counts.Which.TheVariants.{All}
use Rattle.acas_report_lines.specs.declared.meet_counts.MeetCounts.{MeetCounts}
use Rattle.acas_report_lines.specs.CellReport.{IsReport}
use Rattle.acas_replay.specs.Replay.{IsReplay}
use Rattle.acas_replay.proofs.Texts.{texts_same}
use Rattle.acas_command.specs.Called.{IsRefusal, IsReportOutcome, MayPrint, calls_for_report}
use Rattle.acas_command.specs.Calls.{with_input_file}
use Rattle.acas_command.specs.ModelFile.{IsModelFile}
use Rattle.acas_command.specs.Outcome.{Outcome, prints, reports}
use Rattle.acas_command.specs.declared.status.FileRole.TheVariants.{Boxes as BoxesFile, Encounter as EncounterFile}
use Rattle.acas_command.proofs.Files.{with_model-file}
use Rattle.acas_command.proofs.Inputs.{with_input_file-read}
use Rattle.acas_command.proofs.Says.{file-says}
use Rattle.acas_table_file.specs.AcceptedFile.{IsTableOf}
use Rattle.acas_table_file.specs.Calls.{with_table}
use Rattle.acas_table_file.proofs.Files.{with_table-file}
use Rattle.acas_cell_commands.specs.AuditCalls.{IsAuditBegun, IsAuditText, audit_looks_at}
use Rattle.acas_box_commands.specs.RegionsCalls.{AreAuditedBoxes, IsRegionsBegun, IsRegionsText, regions_looks_at}
use Rattle.acas_drill.specs.Calls.{IsDrillBegun, IsDrillText}
use Rattle.acas_drill_model.specs.DrilledModel.{drilled_model}
use Rattle.acas_drill.specs.Text.{drill_text}
use Rattle.acas_encounter_commands.specs.Calls.{IsReplayBegun, IsReplayText, IsReplayed, encounter_looked_at, replay_looks_at}
use Rattle.acas_box_commands.specs.ManoeuvreCalls.{AreMetBoxes, IsManoeuvreBegun, IsManoeuvreText, manoeuvre_looks_at}
use Rattle.acas_cell_commands.specs.SafeableCalls.{IsSafeableText, IsSafeableTextBegun, safeable_looks_at}
use Rattle.acas_safeable.specs.SafeableText.{IsSafeableReport}
use Rattle.acas_safeable.specs.declared.counts.SafeCounts.{SafeCounts}
use Rattle.acas_cli.specs.Calls.{CallsFor}
use Rattle.acas_cli_words.specs.Words.{Form, Values, Compile, Check, Risk, Audit, Regions, Manoeuvre, Safeable, Replay, Migrate, Drill}
use Rattle.acas_run_laws.specs.Forms.{HasIntruder}
use Rattle.acas_run_laws.proofs.OneFiles.{IsOneModel, IsOneTable, one-input, one-model, one-table, one-tabled}
use Rattle.acas_run_laws.proofs.OneReport.{ReportsAreOne}

-- ---- a report

-- the texts of a report over some files are one
abbrev pub IsOneText : (ℕ → List ℕ → Type 0) → Type 0
IsOneText R = (r s : ℕ) (t u : List ℕ) → R r t → R s u → (r ≡ s) × (t ≡ u)

pub one-report : (looks : Files → Outcome) (R : Files → ℕ → List ℕ → Type 0) (B : Files → Option (List ℕ) → Option (List ℕ) → Type 0) (files : Files) (o p : Outcome)
    → ((r : ℕ) (t : List ℕ) → R files r t → MayPrint (looks files).cause) → IsOneText (R files)
    → (calls_for_report [] looks R B).ends files o → (calls_for_report [] looks R B).ends files p → o ≡ p
one-report looks R B files o p goes_on one first second =
    ⊎_elim (λ r. ⊎_elim (λ s. both_refused r s) (λ w. absurd (r.refused (goes_on w.reported w.text w.report))) second)
    (λ w. ⊎_elim (λ s. absurd (s.refused (goes_on w.reported w.text w.report))) (λ v. both_written w v) second) first
  where
    both_refused : IsRefusal (looks files) o → IsRefusal (looks files) p → o ≡ p
    both_refused r s = r.is ∙ sym s.is

    both_written : IsReportOutcome (R files) o → IsReportOutcome (R files) p → o ≡ p
    both_written w v =
        let same = one w.reported v.reported w.text v.text w.report v.report in
        w.is ∙ ap (λ (n : ℕ). reports n w.text) same.0 ∙ ap (λ (t : List ℕ). reports v.reported t) same.1 ∙ sym v.is

-- the model of a file is within its limits
pub within-file : (files : Files) (name digest : List ℕ) (m : ModelData) → IsModelFile (get files name) digest m → IsModel m
within-file files name digest m file = (file-says files name digest m file).text.within

-- what goes on behind the files
pub audit-goes_on : (model table : List ℕ) (files : Files) (m : ModelData) (advices : AdvicesData) → IsTableOf model table files m advices → audit_looks_at model table files ≡ prints []
audit-goes_on model table files m advices a =
    with_model-file (get files model) a.digest m (λ d n. with_table n d (get files table) (λ bytes. prints [])) a.model_file
    ∙ with_table-file m a.digest (get files table) advices (prints []) a.table_file

pub safeable-goes_on : (model table : List ℕ) (files : Files) (m : ModelData) (advices : AdvicesData) → IsTableOf model table files m advices → safeable_looks_at model table files ≡ prints []
safeable-goes_on model table files m advices a = audit-goes_on model table files m advices a

pub regions-goes_on : (model boxes : List ℕ) (files : Files) (m : ModelData) (said : List AuditedBox) → AreAuditedBoxes model boxes files m said → regions_looks_at model boxes files ≡ prints []
regions-goes_on model boxes files m said a =
    with_model-file (get files model) a.digest m (λ d n. with_input_file BoxesFile (boxes_of n) (get files boxes) (λ b. prints [])) a.model_file
    ∙ with_input_file-read BoxesFile (boxes_of m) (get files boxes) a.boxes_file.bytes said (λ b. prints []) a.boxes_file.text a.boxes_file.is_read

pub manoeuvre-goes_on : (model boxes : List ℕ) (may : Intruder) (files : Files) (m : ModelData) (said : List AuditedBox) → AreMetBoxes model boxes may files m said
    → manoeuvre_looks_at model boxes may files ≡ prints []
manoeuvre-goes_on model boxes may files m said a =
    with_model-file (get files model) a.digest m (λ d n. with_input_file BoxesFile (fitting_boxes_of n may) (get files boxes) (λ b. prints [])) a.model_file
    ∙ with_input_file-read BoxesFile (fitting_boxes_of m may) (get files boxes) a.boxes_file.bytes said (λ b. prints []) a.boxes_file.text a.boxes_file.is_read

pub replay-goes_on : (model table encounter : List ℕ) (files : Files) (m : ModelData) (advices : AdvicesData) (flown : EncounterData) → IsReplayed model table encounter files m advices flown
    → replay_looks_at model table encounter files ≡ prints []
replay-goes_on model table encounter files m advices flown a =
    with_model-file (get files model) a.advised.digest m (λ d n. with_table n d (get files table) (λ bytes. encounter_looked_at encounter files n)) a.advised.model_file
    ∙ with_table-file m a.advised.digest (get files table) advices (encounter_looked_at encounter files m) a.advised.table_file
    ∙ with_input_file-read EncounterFile (encounter_of m) (get files encounter) a.encounter_file.bytes flown (λ f. prints []) a.encounter_file.text a.encounter_file.is_read

pub printed-cause : (o : Outcome) → o ≡ prints [] → MayPrint o.cause
printed-cause o e = subst (λ (p : Outcome). MayPrint p.cause) (sym e) tt

-- a replay has one text
pub one-replay : (m : ModelData) (a : AdvicesData) (e : EncounterData) (count other : ℕ) (text also : List ℕ) → IsReplay m a e count text → IsReplay m a e other also → text ≡ also
one-replay m a e count other text also is too = is.printed ∙ texts_same m a e is.course too.course is.is_course too.is_course ∙ sym too.printed

-- two replays of the same files
pub one-replayed : (model table encounter : List ℕ) (files : Files) → IsOneText (IsReplayText model table encounter files)
one-replayed model table encounter files r s t u is also = (is.none ∙ sym also.none, text)
  where
    tables : IsOneTable is.m also.m is.advices also.advices
    tables = one-table model table files is.m also.m is.advices also.advices is.replayed.advised also.replayed.advised

    other : IsReplayed model table encounter files is.m is.advices also.flown
    other =
        subst (λ (n : ModelData). IsReplayed model table encounter files n is.advices also.flown) (sym tables.models)
        (subst (λ (b : AdvicesData). IsReplayed model table encounter files also.m b also.flown) (sym tables.advices) also.replayed)

    flights : is.flown ≡ also.flown
    flights = one-input (encounter_of is.m) (get files encounter) is.flown also.flown is.replayed.encounter_file other.encounter_file

    replay : IsReplay is.m is.advices is.flown also.contacts u
    replay =
        subst (λ (e : EncounterData). IsReplay is.m is.advices e also.contacts u) (sym flights)
        (subst (λ (n : ModelData). IsReplay n is.advices also.flown also.contacts u) (sym tables.models)
        (subst (λ (b : AdvicesData). IsReplay also.m b also.flown also.contacts u) (sym tables.advices) also.replay))

    text : t ≡ u
    text = one-replay is.m is.advices is.flown is.contacts also.contacts t u is.replay replay

-- ---- where reports are one

module _ (one : ReportsAreOne) (drilled : (number : ℕ) → IsModel (drilled_model number)) where
  one-audited : (model table : List ℕ) (which : Which) (files : Files) → IsOneText (IsAuditText model table which files)
  one-audited model table which files r s t u is also = (is.count ∙ ap (λ (c : Counts). c.reported) same.0 ∙ sym also.count, same.1)
    where
      tables : IsOneTable is.m also.m is.advices also.advices
      tables = one-table model table files is.m also.m is.advices also.advices is.advised also.advised

      other : IsReport is.m is.advices which also.counts u
      other =
          subst (λ (n : ModelData). IsReport n is.advices which also.counts u) (sym tables.models)
          (subst (λ (b : AdvicesData). IsReport also.m b which also.counts u) (sym tables.advices) also.report)

      same : (is.counts ≡ also.counts) × (t ≡ u)
      same = one.audits_one is.m is.advices which is.counts also.counts t u (within-file files model is.advised.digest is.m is.advised.model_file) is.report other

  one-outlook : (model table : List ℕ) (files : Files) → IsOneText (IsSafeableText model table files)
  one-outlook model table files r s t u is also = (is.count ∙ ap (λ (c : SafeCounts). c.unshown) same.0 ∙ sym also.count, same.1)
    where
      tables : IsOneTable is.m also.m is.advices also.advices
      tables = one-table model table files is.m also.m is.advices also.advices is.advised also.advised

      other : IsSafeableReport is.m is.advices also.counts u
      other =
          subst (λ (n : ModelData). IsSafeableReport n is.advices also.counts u) (sym tables.models)
          (subst (λ (b : AdvicesData). IsSafeableReport also.m b also.counts u) (sym tables.advices) also.report)

      same : (is.counts ≡ also.counts) × (t ≡ u)
      same = one.clear_one is.m is.advices is.counts also.counts t u (within-file files model is.advised.digest is.m is.advised.model_file) is.report other

  one-ruled : (model boxes : List ℕ) (files : Files) → IsOneText (IsRegionsText model boxes files)
  one-ruled model boxes files r s t u is also = (is.count ∙ ap (λ (c : Counts). c.reported) same.0 ∙ sym also.count, same.1)
    where
      models : IsOneModel is.audited.digest also.audited.digest is.m also.m
      models = one-model (get files model) is.audited.digest also.audited.digest is.m also.m is.audited.model_file also.audited.model_file

      other : AreAuditedBoxes model boxes files is.m also.said
      other = subst (λ (n : ModelData). AreAuditedBoxes model boxes files n also.said) (sym models.models) also.audited

      said : is.said ≡ also.said
      said = one-input (boxes_of is.m) (get files boxes) is.said also.said is.audited.boxes_file other.boxes_file

      report : IsRegionsReport is.m is.said also.counts u
      report =
          subst (λ (b : List AuditedBox). IsRegionsReport is.m b also.counts u) (sym said)
          (subst (λ (n : ModelData). IsRegionsReport n also.said also.counts u) (sym models.models) also.report)

      within : IsModel is.m
      within = within-file files model is.audited.digest is.m is.audited.model_file

      same : (is.counts ≡ also.counts) × (t ≡ u)
      same = one.boxes_one is.m is.said is.counts also.counts t u within is.audited.fits is.report report

  one-met : (model boxes : List ℕ) (may : Intruder) (files : Files) → 0 < may.accel → IsOneText (IsManoeuvreText model boxes may files)
  one-met model boxes may files some r s t u is also = (is.count ∙ ap (λ (c : MeetCounts). c.reported) same.0 ∙ sym also.count, same.1)
    where
      models : IsOneModel is.audited.digest also.audited.digest is.m also.m
      models = one-model (get files model) is.audited.digest also.audited.digest is.m also.m is.audited.model_file also.audited.model_file

      other : AreMetBoxes model boxes may files is.m also.said
      other = subst (λ (n : ModelData). AreMetBoxes model boxes may files n also.said) (sym models.models) also.audited

      said : is.said ≡ also.said
      said = one-input (fitting_boxes_of is.m may) (get files boxes) is.said also.said is.audited.boxes_file other.boxes_file

      report : IsMeetingsReport is.m may is.said also.counts u
      report =
          subst (λ (b : List AuditedBox). IsMeetingsReport is.m may b also.counts u) (sym said)
          (subst (λ (n : ModelData). IsMeetingsReport n may also.said also.counts u) (sym models.models) also.report)

      within : IsModel is.m
      within = within-file files model is.audited.digest is.m is.audited.model_file

      same : (is.counts ≡ also.counts) × (t ≡ u)
      same = one.meetings_one is.m may is.said is.counts also.counts t u within is.audited.fits some is.report report

  pub one-drilled : (number : ℕ) → IsOneText (IsDrillText number)
  one-drilled number r s t u is also =
      (is.count ∙ ap (λ (c : Counts). c.reported) same ∙ sym also.count, is.is ∙ ap (λ (c : Counts). drill_text number c) same ∙ sym also.is)
    where
      m : ModelData
      m = drilled_model number

      advices : is.drilled.advices ≡ also.drilled.advices
      advices = one-tabled m (compiled m) is.drilled.advices also.drilled.advices is.drilled.fits also.drilled.fits is.drilled.tabled also.drilled.tabled

      other : IsReport m is.drilled.advices All also.counts also.drilled.counted.text
      other = subst (λ (b : AdvicesData). IsReport m b All also.counts also.drilled.counted.text) (sym advices) also.drilled.counted.report

      same : is.counts ≡ also.counts
      same =
          (one.audits_one m is.drilled.advices All is.counts also.counts is.drilled.counted.text also.drilled.counted.text (drilled number)
          is.drilled.counted.report other).0

  -- each form ends with one outcome at most
  pub one-outcome : (form : Form) (files : Files) (o p : Outcome) → HasIntruder form → (CallsFor form).ends files o → (CallsFor form).ends files p → o ≡ p
  one-outcome (Values model) files o p has first second = first ∙ sym second
  one-outcome (Compile model table) files o p has first second = first ∙ sym second
  one-outcome (Check model table) files o p has first second = first ∙ sym second
  one-outcome (Risk model table) files o p has first second = first ∙ sym second
  one-outcome (Audit model table which) files o p has first second =
      one-report (audit_looks_at model table) (IsAuditText model table which) (IsAuditBegun model table which) files o p
      (λ r t is. printed-cause (audit_looks_at model table files) (audit-goes_on model table files is.m is.advices is.advised)) (one-audited model table which files) first second
  one-outcome (Regions model boxes) files o p has first second =
      one-report (regions_looks_at model boxes) (IsRegionsText model boxes) (IsRegionsBegun model boxes) files o p
      (λ r t is. printed-cause (regions_looks_at model boxes files) (regions-goes_on model boxes files is.m is.said is.audited)) (one-ruled model boxes files) first second
  one-outcome (Manoeuvre model boxes accel rate) files o p has first second =
      let may : Intruder = record { accel = accel; rate = rate } in
      let some : 0 < accel = omega (arith, ints, has.least_accel) in
      one-report (manoeuvre_looks_at model boxes may) (IsManoeuvreText model boxes may) (IsManoeuvreBegun model boxes may) files o p
      (λ r t is. printed-cause (manoeuvre_looks_at model boxes may files) (manoeuvre-goes_on model boxes may files is.m is.said is.audited)) (one-met model boxes may files some) first second
  one-outcome (Safeable model table) files o p has first second =
      one-report (safeable_looks_at model table) (IsSafeableText model table) (IsSafeableTextBegun model table) files o p
      (λ r t is. printed-cause (safeable_looks_at model table files) (safeable-goes_on model table files is.m is.advices is.advised)) (one-outlook model table files) first second
  one-outcome (Replay model table encounter) files o p has first second =
      one-report (replay_looks_at model table encounter) (IsReplayText model table encounter) (IsReplayBegun model table encounter) files o p
      (λ r t is. printed-cause (replay_looks_at model table encounter files) (replay-goes_on model table encounter files is.m is.advices is.flown is.replayed))
      (one-replayed model table encounter files) first second
  one-outcome (Migrate model table target) files o p has first second = first ∙ sym second
  one-outcome (Drill number) files o p has first second =
      one-report (λ fs. prints []) (λ fs. IsDrillText number) (λ fs. IsDrillBegun number) files o p (λ r t is. tt) (one-drilled number) first second
