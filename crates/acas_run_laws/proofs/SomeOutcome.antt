-- Each form has an outcome over files of bytes.
use Rattle.std.proofs.Common.{◌≡◌, ℕ, ◌*◌, ◌<◌, ◌≤◌, inl, inr, ⊎_elim, Bool, true, false, cond, nat_lt, List, [], length, Option, Some, None, Result, Ok, Err, refl, sym, ap, subst, ◌∙◌, arith}
use Rattle.std.specs.Prelude.{unsigned_abs}
use Rattle.std.specs.FinMap.{get}
use Rattle.std.proofs.lemmas.Bool.{ltb-false}
use Rattle.std.proofs.lemmas.Int.{ints}
use Rattle.sha2.specs.Sha256.{sha256}
use Rattle.acas_units.specs.declared.limits.TheConstants.{GREATEST_ALTITUDE, TEXT_BYTES}
use Rattle.acas_units.specs.declared.ticks.TheConstants.{TICKS_PER_FOOT}
use Rattle.acas_spec.specs.Limits.{IsModel}
use Rattle.acas_spec.specs.Model.{ModelData}
use Rattle.acas_base.specs.Advices.{AdvicesData}
use Rattle.acas_outside.specs.Files.{Files}
use Rattle.acas_flight.specs.Clear.{area_of_box}
use Rattle.acas_areas.specs.Limits.{IsArea, IsSmall}
use Rattle.acas_doc.specs.declared.input_fault.InputFault.{InputFault}
use Rattle.acas_boxes.specs.Rates.{fitting_boxes_of}
use Rattle.acas_boxes.specs.Text.{IsBoxesText}
use Rattle.acas_boxes.specs.Whole.{boxes_of}
use Rattle.acas_boxes.proofs.Fitting.{fitting_ok}
use Rattle.acas_boxes.proofs.Read as boxes_text
use Rattle.acas_replay.specs.Encounter.{EncounterData, IsEncounter, seconds}
use Rattle.acas_replay.specs.Text.{IsEncounterText}
use Rattle.acas_replay.specs.Whole.{encounter_of}
use Rattle.acas_replay.proofs.Read as encounter_text
use Rattle.acas_rulings.specs.Intruder.{Manoeuvre as Intruder}
use Rattle.acas_areas.specs.Search.{fastest}
use Rattle.acas_process.specs.Compiled.{compiled}
use Rattle.acas_rulings.specs.Boxes.{AuditedBox, box_at}
use Rattle.acas_report_lines.specs.declared.counts.Which.{Which}
use Rattle.acas_report_lines.specs.declared.counts.Which.TheVariants.{All}
use Rattle.acas_replay.specs.Replay.{IsReplay, contacts, replay_text}
use Rattle.acas_replay.proofs.Courses.{some_course}
use Rattle.acas_accept.specs.GivenTable.{given_table}
use Rattle.acas_command.specs.Called.{MayPrint, calls_for_report}
use Rattle.acas_command.specs.Calls.{with_input, with_input_file}
use Rattle.acas_command.specs.InputFile.{IsInputFile}
use Rattle.acas_command.specs.ModelFile.{IsModelFile}
use Rattle.acas_command.specs.Outcome.{Outcome, prints, refuses, reports}
use Rattle.acas_command.specs.declared.status.Cause.TheVariants.{TooLong}
use Rattle.acas_command.specs.declared.status.FileRole.{FileRole}
use Rattle.acas_command.specs.declared.status.FileRole.TheVariants.{Boxes as BoxesFile, Encounter as EncounterFile}
use Rattle.acas_command.proofs.Refused.{IsBehindModel, behind-model, no_file_cause-may_print}
use Rattle.acas_table_file.specs.AcceptedFile.{IsTableOf}
use Rattle.acas_table_file.specs.Calls.{with_table}
use Rattle.acas_table_file.proofs.Files.{behind-table, with_table-accepted}
use Rattle.acas_cell_commands.specs.AuditCalls.{IsAuditBegun, IsAuditText, audit_looks_at}
use Rattle.acas_box_commands.specs.RegionsCalls.{IsRegionsBegun, IsRegionsText, regions_looks_at}
use Rattle.acas_drill.specs.Calls.{IsDrillBegun, IsDrillText}
use Rattle.acas_drill_model.specs.DrilledModel.{drilled_model}
use Rattle.acas_drill.specs.Text.{drill_text}
use Rattle.acas_encounter_commands.specs.Calls.{IsReplayBegun, IsReplayText, encounter_looked_at, replay_looks_at}
use Rattle.acas_box_commands.specs.ManoeuvreCalls.{IsManoeuvreBegun, IsManoeuvreText, manoeuvre_looks_at}
use Rattle.acas_risk_commands.specs.Calls.{risk_of}
use Rattle.acas_cell_commands.specs.SafeableCalls.{IsSafeableText, IsSafeableTextBegun, safeable_looks_at}
use Rattle.acas_table_commands.specs.Calls.{compile_of, values_of}
use Rattle.acas_check_commands.specs.Calls.{check_of, migrate_of}
use Rattle.acas_cli.specs.Calls.{CallsFor}
use Rattle.acas_cli_words.specs.Words.{Form, Values, Compile, Check, Risk, Audit, Regions, Manoeuvre, Safeable, Replay, Migrate, Drill}
use Rattle.acas_run_laws.specs.Forms.{HasIntruder}
use Rattle.acas_run_laws.specs.Outcomes.{AreBytes}
use Rattle.acas_run_laws.proofs.AdvicesMade.{accepted-by, advices_by, fits-by, known-accepted, table_advice, tabled-by}
use Rattle.acas_run_laws.proofs.WrittenFiles.{prints_or_not}
use Rattle.acas_run_laws.proofs.OneOutcome.{within-file}
use Rattle.acas_run_laws.proofs.OneReport.{ReportsAreOne}

-- ---- a report

-- there is a report
abbrev pub HasText : (ℕ → List ℕ → Type 0) → Type 0
HasText R = (r : ℕ) × (t : List ℕ) × R r t

some-report : (looks : Files → Outcome) (R : Files → ℕ → List ℕ → Type 0) (B : Files → Option (List ℕ) → Option (List ℕ) → Type 0) (files : Files)
    → (MayPrint (looks files).cause → HasText (R files)) → (o : Outcome) × (calls_for_report [] looks R B).ends files o
some-report looks R B files some = ⊎_elim written refused (prints_or_not (looks files).cause)
  where
    written : MayPrint (looks files).cause → (o : Outcome) × (calls_for_report [] looks R B).ends files o
    written may = let t = some may in (reports t.0 t.1, inr (record { reported = t.0; text = t.1; report = t.2; is = refl }))

    refused : (¬ MayPrint (looks files).cause) → (o : Outcome) × (calls_for_report [] looks R B).ends files o
    refused never = (looks files, inl (record { is = refl; refused = never }))

-- ---- what stands in the files that are looked at

model-file : (file : Option (List ℕ)) (rest : List ℕ → ModelData → Outcome) (b : IsBehindModel file rest) → IsModelFile file (sha256 b.bytes) b.m
model-file file rest b = record { bytes = b.bytes; text = record { there = b.there; short = b.short }; read = b.read; hashed = refl }

-- a table's file that does not refuse
table-file : (model table : List ℕ) (files : Files) (digest : List ℕ) (m : ModelData) (rest : List ℕ → Outcome) → AreBytes files → IsModelFile (get files model) digest m
    → MayPrint (with_table m digest (get files table) rest).cause → (advices : AdvicesData) × IsTableOf model table files m advices
table-file model table files digest m rest bytes file may =
    let t = behind-table m digest (get files table) rest may in
    let whole = bytes table t.0 t.1 in
    let advices : AdvicesData = advices_by m (table_advice m (given_table m.grid t.0)) in (
      advices,
      record {
        digest = digest;
        model_file = file;
        table_file = record { bytes = t.0; there = t.1; accepted = t.2; whole = whole; held = accepted-by m t.0 };
        fits = fits-by m (table_advice m (given_table m.grid t.0));
        known = known-accepted m digest t.0 (within-file files model digest m file) whole t.2;
      },
    )

-- what stands behind it
behind_table : (m : ModelData) (digest : List ℕ) (file : Option (List ℕ)) (o : Outcome) → MayPrint (with_table m digest file (λ bytes. o)).cause → MayPrint o.cause
behind_table m digest file o may =
    let t = behind-table m digest file (λ bytes. o) may in
    subst (λ (p : Outcome). MayPrint p.cause)
    (ap (λ (f : Option (List ℕ)). with_table m digest f (λ bytes. o)) t.1 ∙ with_table-accepted m digest t.0 (λ bytes. o) t.2) may

-- a text beside the model's that does not refuse
input-file : {A : Type 0} (role : FileRole) (read : List ℕ → Result A InputFault) (file : Option (List ℕ)) (rest : A → Outcome) → MayPrint (with_input_file role read file rest).cause
    → (said : A) × IsInputFile read file said
input-file {A} role read None rest may = absurd may
input-file {A} role read (Some bytes) rest may = in_length (nat_lt TEXT_BYTES (length bytes)) refl may
  where
    by_read : length bytes ≤ TEXT_BYTES → (r : Result A InputFault) → read bytes ≡ r → MayPrint (with_input r rest).cause → (said : A) × IsInputFile read (Some bytes) said
    by_read short (Ok said) is may = (said, record { bytes = bytes; text = record { there = refl; short = short }; is_read = is })
    by_read short (Err fault) is may = absurd may

    in_length : (b : Bool) → nat_lt TEXT_BYTES (length bytes) ≡ b → MayPrint (cond b (refuses (TooLong role)) (with_input (read bytes) rest)).cause → (said : A) × IsInputFile read (Some bytes) said
    in_length true test may = absurd may
    in_length false test may = by_read (ltb-false TEXT_BYTES (length bytes) test) (read bytes) refl may

-- ---- boxes of a text are within the limits of areas

area-box : (m : ModelData) (bytes : List ℕ) (boxes : List AuditedBox) (place : ℕ) → IsBoxesText m bytes boxes → place < length boxes → IsArea (area_of_box (box_at boxes place).states)
area-box m bytes boxes place text within =
    let b = text.tables.says place within in
    let own = b.own in
    let intruder = b.intruder in
    let feet = b.altitude.holds in
    record {
      altitude = subst (IsSmall (TICKS_PER_FOOT * unsigned_abs GREATEST_ALTITUDE)) (sym b.altitude.ticks)
          (record { least = omega (arith, ints, feet.low, feet.ordered, feet.high); greatest = omega (arith, ints, feet.low, feet.ordered, feet.high) });
      own = record { least = omega (arith, ints, own.low, own.ordered, own.high); greatest = omega (arith, ints, own.low, own.ordered, own.high) };
      intruder = record { least = omega (arith, ints, intruder.low, intruder.ordered, intruder.high); greatest = omega (arith, ints, intruder.low, intruder.ordered, intruder.high) };
    }

-- ---- the reports

some-replay : (m : ModelData) (a : AdvicesData) (e : EncounterData) → IsModel m → IsEncounter e → (count : ℕ) × (text : List ℕ) × IsReplay m a e count text
some-replay m a e within valid =
    let course = some_course m a e within valid in
    (contacts course.0 (seconds e), replay_text m e course.0, record { course = course.0; is_course = course.1; counted = refl; printed = refl })

some-replayed : (model table encounter : List ℕ) (files : Files) → AreBytes files → MayPrint (replay_looks_at model table encounter files).cause → HasText (IsReplayText model table encounter files)
some-replayed model table encounter files bytes may =
    let rest : List ℕ → ModelData → Outcome = λ digest n. with_table n digest (get files table) (λ bs. encounter_looked_at encounter files n) in
    let b = behind-model (get files model) rest (no_file_cause-may_print _ may) in
    let m : ModelData = b.m in
    let file = model-file (get files model) rest b in
    let within : IsModel m = within-file files model (sha256 b.bytes) m file in
    let goes_on : MayPrint (rest (sha256 b.bytes) m).cause = subst (λ (o : Outcome). MayPrint o.cause) b.is may in
    let advised = table-file model table files (sha256 b.bytes) m (λ bs. encounter_looked_at encounter files m) bytes file goes_on in
    let looked = behind_table m (sha256 b.bytes) (get files table) (encounter_looked_at encounter files m) goes_on in
    let flown = input-file EncounterFile (encounter_of m) (get files encounter) (λ f. prints []) looked in
    let text : IsEncounterText m flown.1.bytes flown.0 = encounter_text.said m flown.1.bytes flown.0 within flown.1.is_read in
    let replay = some-replay m advised.0 flown.0 within text.within in (
      0,
      replay.1,
      record {
        m = m;
        advices = advised.0;
        flown = flown.0;
        replayed = record { advised = advised.1; encounter_file = flown.1; fits = text.known };
        contacts = replay.0;
        replay = replay.2;
        none = refl;
      },
    )

module _ (one : ReportsAreOne) (drilled : (number : ℕ) → IsModel (drilled_model number)) where
  some-audited : (model table : List ℕ) (which : Which) (files : Files) → AreBytes files → MayPrint (audit_looks_at model table files).cause → HasText (IsAuditText model table which files)
  some-audited model table which files bytes may =
      let rest : List ℕ → ModelData → Outcome = λ digest n. with_table n digest (get files table) (λ bs. prints []) in
      let b = behind-model (get files model) rest (no_file_cause-may_print _ may) in
      let m : ModelData = b.m in
      let file = model-file (get files model) rest b in
      let within : IsModel m = within-file files model (sha256 b.bytes) m file in
      let advised = table-file model table files (sha256 b.bytes) m (λ bs. prints []) bytes file (subst (λ (o : Outcome). MayPrint o.cause) b.is may) in
      let report = one.audits_some m advised.0 which within in
      (report.0.reported, report.1, record { m = m; advices = advised.0; advised = advised.1; counts = report.0; report = report.2; count = refl })

  some-outlooks : (model table : List ℕ) (files : Files) → AreBytes files → MayPrint (safeable_looks_at model table files).cause → HasText (IsSafeableText model table files)
  some-outlooks model table files bytes may =
      let rest : List ℕ → ModelData → Outcome = λ digest n. with_table n digest (get files table) (λ bs. prints []) in
      let b = behind-model (get files model) rest (no_file_cause-may_print _ may) in
      let m : ModelData = b.m in
      let file = model-file (get files model) rest b in
      let within : IsModel m = within-file files model (sha256 b.bytes) m file in
      let advised = table-file model table files (sha256 b.bytes) m (λ bs. prints []) bytes file (subst (λ (o : Outcome). MayPrint o.cause) b.is may) in
      let report = one.clear_some m advised.0 within in
      (report.0.unshown, report.1, record { m = m; advices = advised.0; advised = advised.1; counts = report.0; report = report.2; count = refl })

  some-ruled : (model boxes : List ℕ) (files : Files) → MayPrint (regions_looks_at model boxes files).cause → HasText (IsRegionsText model boxes files)
  some-ruled model boxes files may =
      let rest : List ℕ → ModelData → Outcome = λ digest n. with_input_file BoxesFile (boxes_of n) (get files boxes) (λ said. prints []) in
      let b = behind-model (get files model) rest (no_file_cause-may_print _ may) in
      let m : ModelData = b.m in
      let file = model-file (get files model) rest b in
      let within : IsModel m = within-file files model (sha256 b.bytes) m file in
      let said = input-file BoxesFile (boxes_of m) (get files boxes) (λ s. prints []) (subst (λ (o : Outcome). MayPrint o.cause) b.is may) in
      let text : IsBoxesText m said.1.bytes said.0 = boxes_text.said m said.1.bytes said.0 within said.1.is_read in
      let report = one.boxes_some m said.0 within text.fits (λ place small. area-box m said.1.bytes said.0 place text small) in (
        report.0.reported,
        report.1,
        record {
          m = m;
          said = said.0;
          audited = record { digest = sha256 b.bytes; model_file = file; boxes_file = said.1; fits = text.fits };
          counts = report.0;
          report = report.2;
          count = refl {a = report.0.reported};
        },
      )

  some-met : (model boxes : List ℕ) (may : Intruder) (files : Files) → 0 < may.accel → may.rate ≤ fastest → MayPrint (manoeuvre_looks_at model boxes may files).cause
      → HasText (IsManoeuvreText model boxes may files)
  some-met model boxes may files some fast may_print =
      let rest : List ℕ → ModelData → Outcome = λ digest n. with_input_file BoxesFile (fitting_boxes_of n may) (get files boxes) (λ said. prints []) in
      let b = behind-model (get files model) rest (no_file_cause-may_print _ may_print) in
      let m : ModelData = b.m in
      let file = model-file (get files model) rest b in
      let within : IsModel m = within-file files model (sha256 b.bytes) m file in
      let said = input-file BoxesFile (fitting_boxes_of m may) (get files boxes) (λ s. prints []) (subst (λ (o : Outcome). MayPrint o.cause) b.is may_print) in
      let fitting = fitting_ok m may said.1.bytes said.0 said.1.is_read in
      let text : IsBoxesText m said.1.bytes said.0 = boxes_text.said m said.1.bytes said.0 within fitting.0 in
      let report = one.meetings_some m may said.0 within text.fits (λ place small. area-box m said.1.bytes said.0 place text small) some fast fitting.1 in (
        report.0.reported,
        report.1,
        record {
          m = m;
          said = said.0;
          audited = record { digest = sha256 b.bytes; model_file = file; boxes_file = said.1; fits = text.fits; rates = fitting.1 };
          counts = report.0;
          report = report.2;
          count = refl {a = report.0.reported};
        },
      )

  some-drilled : (number : ℕ) → HasText (IsDrillText number)
  some-drilled number =
      let m : ModelData = drilled_model number in
      let advices : AdvicesData = advices_by m (table_advice m (compiled m)) in
      let report = one.audits_some m advices All (drilled number) in (
        report.0.reported,
        drill_text number report.0,
        record {
          counts = report.0;
          drilled = record { advices = advices; fits = fits-by m (table_advice m (compiled m)); tabled = tabled-by m (compiled m); counted = record { text = report.1; report = report.2 } };
          count = refl;
          is = refl;
        },
      )

  pub some-outcome : (form : Form) (files : Files) → HasIntruder form → AreBytes files → (o : Outcome) × (CallsFor form).ends files o
  some-outcome (Values model) files has bytes = (values_of (get files model), refl)
  some-outcome (Compile model table) files has bytes = (compile_of (get files model) table, refl)
  some-outcome (Check model table) files has bytes = (check_of (get files model) (get files table), refl)
  some-outcome (Risk model table) files has bytes = (risk_of (get files model) (get files table), refl)
  some-outcome (Audit model table which) files has bytes =
      some-report (audit_looks_at model table) (IsAuditText model table which) (IsAuditBegun model table which) files (some-audited model table which files bytes)
  some-outcome (Regions model boxes) files has bytes = some-report (regions_looks_at model boxes) (IsRegionsText model boxes) (IsRegionsBegun model boxes) files (some-ruled model boxes files)
  some-outcome (Manoeuvre model boxes accel rate) files has bytes =
      let may : Intruder = record { accel = accel; rate = rate } in
      let some : 0 < accel = omega (arith, ints, has.least_accel) in
      let fast : rate ≤ fastest = omega (arith, ints, has.greatest_rate) in
      some-report (manoeuvre_looks_at model boxes may) (IsManoeuvreText model boxes may) (IsManoeuvreBegun model boxes may) files (some-met model boxes may files some fast)
  some-outcome (Safeable model table) files has bytes =
      some-report (safeable_looks_at model table) (IsSafeableText model table) (IsSafeableTextBegun model table) files (some-outlooks model table files bytes)
  some-outcome (Replay model table encounter) files has bytes =
      some-report (replay_looks_at model table encounter) (IsReplayText model table encounter) (IsReplayBegun model table encounter) files (some-replayed model table encounter files bytes)
  some-outcome (Migrate model table target) files has bytes = (migrate_of (get files model) (get files table) target, refl)
  some-outcome (Drill number) files has bytes = some-report (λ fs. prints []) (λ fs. IsDrillText number) (λ fs. IsDrillBegun number) files (λ may. some-drilled number)
