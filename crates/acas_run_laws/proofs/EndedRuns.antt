-- How a run ends beside the one outcome that is called for.
use Rattle.std.proofs.Common.{◌≡◌, ℕ, ◌<◌, List, [], Option, Some, ⊎_elim, sym, ap, subst, ◌∙◌, arith}
use Rattle.std.specs.FinMap.{get}
use Rattle.acas_spec.specs.Limits.{IsModel}
use Rattle.acas_spec.specs.Model.{ModelData}
use Rattle.acas_base.specs.Advices.{AdvicesData}
use Rattle.acas_outside.specs.Bytes.{Appends, AppendsPart}
use Rattle.acas_outside.specs.Files.{Files}
use Rattle.acas_outside.specs.Outside.{Outside}
use Rattle.std.proofs.lemmas.Int.{ints}
use Rattle.acas_boxes.specs.Rates.{fitting_boxes_of}
use Rattle.acas_boxes.specs.Whole.{boxes_of}
use Rattle.acas_rulings.specs.Boxes.{AuditedBox}
use Rattle.acas_rulings.specs.Intruder.{Manoeuvre as Intruder}
use Rattle.acas_report_lines.specs.Meetings.{IsMeetingsBegun}
use Rattle.acas_report_lines.specs.Regions.{IsRegionsReportBegun}
use Rattle.acas_report_lines.specs.declared.counts.Which.{Which}
use Rattle.acas_report_lines.specs.CellReport.{IsReportBegun}
use Rattle.acas_command.specs.Answers.{Agrees, Completes}
use Rattle.acas_command.specs.Called.{Called, IsReportOutcome, MayPrint, PrintsPart, calls_for_report}
use Rattle.acas_command.specs.Outcome.{Outcome, prints, with_file}
use Rattle.acas_command.specs.declared.status.Cause.{Cause}
use Rattle.acas_command.specs.declared.status.Cause.TheVariants.{Output}
use Rattle.acas_cell_commands.specs.AuditCalls.{IsAuditBegun, IsAuditText, audit_looks_at}
use Rattle.acas_box_commands.specs.RegionsCalls.{AreAuditedBoxes, IsRegionsBegun, IsRegionsText, regions_looks_at}
use Rattle.acas_command.proofs.Completed.{completed}
use Rattle.acas_drill.specs.Calls.{IsDrillBegun, IsDrillText}
use Rattle.acas_drill_model.specs.DrilledModel.{drilled_model}
use Rattle.acas_encounter_commands.specs.Calls.{IsReplayBegun, IsReplayText, replay_looks_at}
use Rattle.acas_box_commands.specs.ManoeuvreCalls.{AreMetBoxes, IsManoeuvreBegun, IsManoeuvreText, manoeuvre_looks_at}
use Rattle.acas_risk_commands.specs.Calls.{risk_of}
use Rattle.acas_cell_commands.specs.SafeableCalls.{IsSafeableText, IsSafeableTextBegun, safeable_looks_at}
use Rattle.acas_safeable.specs.SafeableText.{IsSafeableBegun}
use Rattle.acas_table_commands.specs.Calls.{compile_of, values_of}
use Rattle.acas_check_commands.specs.Calls.{check_of, migrate_of}
use Rattle.acas_cli.specs.Calls.{CallsFor}
use Rattle.acas_cli_words.specs.Words.{Form, Values, Compile, Check, Risk, Audit, Regions, Manoeuvre, Safeable, Replay, Migrate, Drill}
use Rattle.acas_run_laws.specs.Forms.{HasIntruder}
use Rattle.acas_run_laws.proofs.OneFiles.{IsOneModel, IsOneTable, one-input, one-model, one-table}
use Rattle.acas_run_laws.proofs.OneOutcome.{audit-goes_on, manoeuvre-goes_on, one-drilled, one-outcome, one-replayed, printed-cause, regions-goes_on, replay-goes_on, safeable-goes_on, within-file}
use Rattle.acas_run_laws.proofs.OneReport.{ReportsAreOne}

-- what a run has left that ended as an outcome says
pub record EndsAs (o : Outcome) (files : Files) (cause : Cause) (before after : Outside) : Type 0 where
  pub cause_is : cause ≡ o.cause
  pub printed : Appends before.written after.written o.output
  pub stored : after.holds ≡ Some (with_file o.file files)

ends-as : (called : Called) (files : Files) (cause : Cause) (before after : Outside) (o : Outcome) (c : Completes called files cause before after) → c.outcome ≡ o → EndsAs o files cause before after
ends-as called files cause before after o c same = record {
  cause_is = sym c.ends ∙ ap (λ (p : Outcome). p.cause) same;
  printed = subst (λ (p : Outcome). Appends before.written after.written p.output) same c.printed;
  stored = c.stored ∙ ap (λ (p : Outcome). Some (with_file p.file files)) same;
}

-- a part of what has one outcome
part-one : (outcome_of : Files → Outcome) (files : Files) (before after : Outside) (o : Outcome) → PrintsPart (outcome_of files) files before after → o ≡ outcome_of files
    → AppendsPart before.written after.written o.output
part-one outcome_of files before after o part is = subst (λ (p : Outcome). AppendsPart before.written after.written p.output) (sym is) part.printed

-- a part of a report
part-report : (looks : Files → Outcome) (R : Files → ℕ → List ℕ → Type 0) (B : Files → Option (List ℕ) → Option (List ℕ) → Type 0) (files : Files) (before after : Outside) (o : Outcome)
    → (calls_for_report [] looks R B).ends files o → MayPrint (looks files).cause → ((r : ℕ) (t : List ℕ) → R files r t → AppendsPart before.written after.written t)
    → AppendsPart before.written after.written o.output
part-report looks R B files before after o ends goes_on part = ⊎_elim (λ r. absurd (r.refused goes_on)) written ends
  where
    written : IsReportOutcome (R files) o → AppendsPart before.written after.written o.output
    written w = subst (λ (p : Outcome). AppendsPart before.written after.written p.output) (sym w.is) (part w.reported w.text w.report)

module _ (one : ReportsAreOne) (drilled : (number : ℕ) → IsModel (drilled_model number)) where
  -- with its whole output out
  pub ended-as : (form : Form) (files : Files) (cause : Cause) (before after : Outside) (o : Outcome) → HasIntruder form → MayPrint cause
      → Agrees (CallsFor form) files cause before after → (CallsFor form).ends files o → EndsAs o files cause before after
  ended-as form files cause before after o has prints a ends =
      let c = completed (CallsFor form) files cause before after prints a in
      ends-as (CallsFor form) files cause before after o c (one-outcome one drilled form files c.outcome o has c.may ends)

  part-audit : (model table : List ℕ) (which : Which) (files : Files) (old new : Option (List ℕ)) (b : IsAuditBegun model table which files old new) (r : ℕ) (t : List ℕ) → IsAuditText model table which files r t
      → AppendsPart old new t
  part-audit model table which files old new b r t is =
      one.audits_begun is.m is.advices which old new is.counts t within begun is.report
    where
      tables : IsOneTable is.m b.m is.advices b.advices
      tables = one-table model table files is.m b.m is.advices b.advices is.advised b.advised

      within : IsModel is.m
      within = within-file files model is.advised.digest is.m is.advised.model_file

      begun : IsReportBegun is.m is.advices which old new
      begun =
          subst (λ (n : ModelData). IsReportBegun n is.advices which old new) (sym tables.models)
          (subst (λ (a : AdvicesData). IsReportBegun b.m a which old new) (sym tables.advices) b.begun)

  part-safeable : (model table : List ℕ) (files : Files) (old new : Option (List ℕ)) (b : IsSafeableTextBegun model table files old new) (r : ℕ) (t : List ℕ) → IsSafeableText model table files r t
      → AppendsPart old new t
  part-safeable model table files old new b r t is =
      one.clear_begun is.m is.advices old new is.counts t within begun is.report
    where
      tables : IsOneTable is.m b.m is.advices b.advices
      tables = one-table model table files is.m b.m is.advices b.advices is.advised b.advised

      within : IsModel is.m
      within = within-file files model is.advised.digest is.m is.advised.model_file

      begun : IsSafeableBegun is.m is.advices old new
      begun =
          subst (λ (n : ModelData). IsSafeableBegun n is.advices old new) (sym tables.models)
          (subst (λ (a : AdvicesData). IsSafeableBegun b.m a old new) (sym tables.advices) b.begun)

  part-regions : (model boxes : List ℕ) (files : Files) (old new : Option (List ℕ)) (b : IsRegionsBegun model boxes files old new) (r : ℕ) (t : List ℕ) → IsRegionsText model boxes files r t
      → AppendsPart old new t
  part-regions model boxes files old new b r t is =
      one.boxes_begun is.m is.said old new is.counts t within is.audited.fits begun is.report
    where
      models : IsOneModel is.audited.digest b.audited.digest is.m b.m
      models = one-model (get files model) is.audited.digest b.audited.digest is.m b.m is.audited.model_file b.audited.model_file

      within : IsModel is.m
      within = within-file files model is.audited.digest is.m is.audited.model_file

      other : AreAuditedBoxes model boxes files is.m b.said
      other = subst (λ (n : ModelData). AreAuditedBoxes model boxes files n b.said) (sym models.models) b.audited

      said : is.said ≡ b.said
      said = one-input (boxes_of is.m) (get files boxes) is.said b.said is.audited.boxes_file other.boxes_file

      begun : IsRegionsReportBegun is.m is.said old new
      begun =
          subst (λ (n : ModelData). IsRegionsReportBegun n is.said old new) (sym models.models)
          (subst (λ (s : List AuditedBox). IsRegionsReportBegun b.m s old new) (sym said) b.begun)

  part-manoeuvre : (model boxes : List ℕ) (may : Intruder) (files : Files) → 0 < may.accel → (old new : Option (List ℕ)) (b : IsManoeuvreBegun model boxes may files old new) (r : ℕ) (t : List ℕ)
      → IsManoeuvreText model boxes may files r t → AppendsPart old new t
  part-manoeuvre model boxes may files some old new b r t is =
      one.meetings_begun is.m may is.said old new is.counts t within is.audited.fits some begun is.report
    where
      models : IsOneModel is.audited.digest b.audited.digest is.m b.m
      models = one-model (get files model) is.audited.digest b.audited.digest is.m b.m is.audited.model_file b.audited.model_file

      within : IsModel is.m
      within = within-file files model is.audited.digest is.m is.audited.model_file

      other : AreMetBoxes model boxes may files is.m b.said
      other = subst (λ (n : ModelData). AreMetBoxes model boxes may files n b.said) (sym models.models) b.audited

      said : is.said ≡ b.said
      said = one-input (fitting_boxes_of is.m may) (get files boxes) is.said b.said is.audited.boxes_file other.boxes_file

      begun : IsMeetingsBegun is.m may is.said old new
      begun =
          subst (λ (n : ModelData). IsMeetingsBegun n may is.said old new) (sym models.models)
          (subst (λ (s : List AuditedBox). IsMeetingsBegun b.m may s old new) (sym said) b.begun)

  -- with its output cut
  pub cut-short : (form : Form) (files : Files) (before after : Outside) (o : Outcome) → HasIntruder form → Agrees (CallsFor form) files Output before after → (CallsFor form).ends files o
      → AppendsPart before.written after.written o.output
  cut-short (Values model) files before after o has a ends = part-one (λ fs. values_of (get fs model)) files before after o a ends
  cut-short (Compile model table) files before after o has a ends = part-one (λ fs. compile_of (get fs model) table) files before after o a ends
  cut-short (Check model table) files before after o has a ends = part-one (λ fs. check_of (get fs model) (get fs table)) files before after o a ends
  cut-short (Risk model table) files before after o has a ends = part-one (λ fs. risk_of (get fs model) (get fs table)) files before after o a ends
  cut-short (Audit model table which) files before after o has a ends =
      part-report (audit_looks_at model table) (IsAuditText model table which) (IsAuditBegun model table which) files before after o ends
      (printed-cause (audit_looks_at model table files) (audit-goes_on model table files a.begun.m a.begun.advices a.begun.advised))
      (part-audit model table which files before.written after.written a.begun)
  cut-short (Regions model boxes) files before after o has a ends =
      part-report (regions_looks_at model boxes) (IsRegionsText model boxes) (IsRegionsBegun model boxes) files before after o ends
      (printed-cause (regions_looks_at model boxes files) (regions-goes_on model boxes files a.begun.m a.begun.said a.begun.audited))
      (part-regions model boxes files before.written after.written a.begun)
  cut-short (Manoeuvre model boxes accel rate) files before after o has a ends =
      let may : Intruder = record { accel = accel; rate = rate } in
      let some : 0 < accel = omega (arith, ints, has.least_accel) in
      part-report (manoeuvre_looks_at model boxes may) (IsManoeuvreText model boxes may) (IsManoeuvreBegun model boxes may) files before after o ends
      (printed-cause (manoeuvre_looks_at model boxes may files) (manoeuvre-goes_on model boxes may files a.begun.m a.begun.said a.begun.audited))
      (part-manoeuvre model boxes may files some before.written after.written a.begun)
  cut-short (Safeable model table) files before after o has a ends =
      part-report (safeable_looks_at model table) (IsSafeableText model table) (IsSafeableTextBegun model table) files before after o ends
      (printed-cause (safeable_looks_at model table files) (safeable-goes_on model table files a.begun.m a.begun.advices a.begun.advised))
      (part-safeable model table files before.written after.written a.begun)
  cut-short (Replay model table encounter) files before after o has a ends =
      part-report (replay_looks_at model table encounter) (IsReplayText model table encounter) (IsReplayBegun model table encounter) files before after o ends
      (printed-cause (replay_looks_at model table encounter files)
      (replay-goes_on model table encounter files a.begun.replay.m a.begun.replay.advices a.begun.replay.flown a.begun.replay.replayed))
      (λ r t is. subst (AppendsPart before.written after.written) (one-replayed model table encounter files 0 r a.begun.text t a.begun.replay is).1 a.begun.part)
  cut-short (Migrate model table target) files before after o has a ends = part-one (λ fs. migrate_of (get fs model) (get fs table) target) files before after o a ends
  cut-short (Drill number) files before after o has a ends =
      part-report (λ fs. prints []) (λ fs. IsDrillText number) (λ fs. IsDrillBegun number) files before after o ends tt
      (λ r t is. subst (AppendsPart before.written after.written) (one-drilled one drilled number a.begun.reported r a.begun.text t a.begun.drilled is).1 a.begun.part)
