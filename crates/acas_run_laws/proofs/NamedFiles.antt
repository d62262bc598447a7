-- What the files that words name refuse a run by.
use Rattle.std.proofs.Common.{◌≡◌, ℕ, List, [], ◌∷◌, Option, None, Some, Bool, true, false, cond, refl, sym, ap, subst, ◌∙◌}
use Rattle.std.specs.Prelude.{◌&&◌, codes}
use Rattle.std.specs.FinMap.{get}
use Rattle.std.specs.Option.{option_map}
use Rattle.std.specs.Str.{bytes_eq}
use Rattle.acas_outside.specs.Files.{Files}
use Rattle.acas_outside.specs.Outside.{Outside}
use Rattle.acas_boxes.specs.Rates.{fitting_boxes_of}
use Rattle.acas_boxes.specs.Whole.{boxes_of}
use Rattle.acas_replay.specs.Whole.{encounter_of}
use Rattle.acas_table_text.specs.Shape.{shape_of}
use Rattle.acas_table_text.specs.Tables.{as_layered}
use Rattle.acas_spec.specs.Model.{ModelData}
use Rattle.acas_command.specs.Answers.{Agrees, Refuses}
use Rattle.acas_command.specs.Called.{Called, MayPrint}
use Rattle.acas_command.specs.Calls.{with_input_file}
use Rattle.acas_command.specs.Codes.{code_of}
use Rattle.acas_command.specs.ErrorLine.{name_of}
use Rattle.acas_command.specs.Outcome.{Outcome, prints, stores}
use Rattle.acas_command.specs.declared.status.Cause.{Cause}
use Rattle.acas_command.specs.declared.status.Cause.TheVariants.{Done, Reported, Words, Absent, Model, Table, Input, Folder, Output, TooLong, Memory}
use Rattle.acas_command.specs.declared.status.FileRole.{FileRole}
use Rattle.acas_command.specs.declared.status.FileRole.TheVariants.{Model as ModelFile, Table as TableFile, Boxes as BoxesFile, Encounter as EncounterFile}
use Rattle.acas_command.proofs.Reports.{report-refused}
use Rattle.acas_table_file.specs.Calls.{with_table}
use Rattle.acas_cell_commands.specs.AuditCalls.{IsAuditBegun, IsAuditText, audit_looks_at}
use Rattle.acas_box_commands.specs.RegionsCalls.{IsRegionsBegun, IsRegionsText, regions_looks_at}
use Rattle.acas_drill.specs.Calls.{IsDrillBegun, IsDrillText}
use Rattle.acas_drill_model.specs.Word.{drill_number}
use Rattle.acas_encounter_commands.specs.Calls.{IsReplayBegun, IsReplayText, encounter_looked_at, replay_looks_at}
use Rattle.acas_rulings.specs.Intruder.{Manoeuvre as Intruder}
use Rattle.acas_box_commands.specs.ManoeuvreCalls.{IsManoeuvreBegun, IsManoeuvreText, manoeuvre_looks_at}
use Rattle.acas_report_lines.specs.declared.counts.Which.{Which}
use Rattle.acas_report_lines.specs.declared.counts.Which.TheVariants.{All as Whole, Reported as OnlyReported}
use Rattle.acas_risk_commands.proofs.Files.{rest_of_risk, text_of_risk}
use Rattle.acas_cell_commands.specs.SafeableCalls.{IsSafeableText, IsSafeableTextBegun, safeable_looks_at}
use Rattle.acas_check_commands.specs.AcceptedLine.{accepted_line}
use Rattle.acas_table_rows.specs.StoredLine.{compiled_line, migrated_line}
use Rattle.acas_table_rows.specs.TableFile.{compiled_text}
use Rattle.acas_table_rows.specs.ValuesText.{values_text}
use Rattle.acas_cli.specs.Calls.{CallsFor}
use Rattle.acas_cli_words.specs.Words.{Form, Values, Compile, Check, Risk, Audit, Regions, Manoeuvre, Safeable, Replay, Migrate, Drill, accel_of, are_apart, are_file_names, form_of, is_file_name, manoeuvre_of, rate_of}
use Rattle.acas_run_laws.specs.Refusals.{RefusesBy}
use Rattle.acas_run_laws.proofs.Refusing.{refused-input, refused-model, refused-printed, refused-table}

-- a refusal, by its code
pub record IsRefusedRun (called : Called) (files : Files) (cause : Cause) (after : Outside) : Type 0 where
  pub refuses : Refuses called files cause after
  pub never : ¬ MayPrint cause

pub refused-code : (called : Called) (files : Files) (cause : Cause) (before after : Outside) → Agrees called files cause before after → (code_of cause ≡ 0 → ⊥) → (code_of cause ≡ 1 → ⊥)
    → (code_of cause ≡ 7 → ⊥) → (code_of cause ≡ 8 → ⊥) → (code_of cause ≡ 12 → ⊥) → IsRefusedRun called files cause after
refused-code called files Done before after a done reported folder output memory = absurd (done refl)
refused-code called files Reported before after a done reported folder output memory = absurd (reported refl)
refused-code called files Words before after a done reported folder output memory = absurd a
refused-code called files (Absent role) before after a done reported folder output memory = record { refuses = a; never = λ h. h }
refused-code called files (Model fault) before after a done reported folder output memory = record { refuses = a; never = λ h. h }
refused-code called files (Table refusal) before after a done reported folder output memory = record { refuses = a; never = λ h. h }
refused-code called files (Input fault) before after a done reported folder output memory = record { refuses = a; never = λ h. h }
refused-code called files Folder before after a done reported folder output memory = absurd (folder refl)
refused-code called files Output before after a done reported folder output memory = absurd (output refl)
refused-code called files (TooLong role) before after a done reported folder output memory = record { refuses = a; never = λ h. h }
refused-code called files Memory before after a done reported folder output memory = absurd (memory refl)

module _ (files : Files) (cause : Cause) (after : Outside) where
  -- the files of these names refuse the form
  abbrev pub IsRight : (FileRole → List ℕ) → Form → Type 0
  IsRight name form = IsRefusedRun (CallsFor form) files cause after → RefusesBy form name files cause

  -- ---- one form after another

  right-values : (name : FileRole → List ℕ) → IsRight name (Values (name ModelFile))
  right-values name r =
      refused-model (Values (name ModelFile)) name files cause (λ digest m. prints (values_text m))
      (λ digest m file h. refused-printed (Values (name ModelFile)) name files cause (prints (values_text m)) r.never tt h)
      (ap (λ (o : Outcome). o.cause) (sym r.refuses.may) ∙ r.refuses.refused)

  right-compile : (name : FileRole → List ℕ) (table : List ℕ) → IsRight name (Compile (name ModelFile) table)
  right-compile name table r =
      refused-model (Compile (name ModelFile) table) name files cause (λ digest m. stores table (compiled_text digest m) (compiled_line m.grid))
      (λ digest m file h. refused-printed (Compile (name ModelFile) table) name files cause (stores table (compiled_text digest m) (compiled_line m.grid)) r.never tt h)
      (ap (λ (o : Outcome). o.cause) (sym r.refuses.may) ∙ r.refuses.refused)

  right-check : (name : FileRole → List ℕ) → IsRight name (Check (name ModelFile) (name TableFile))
  right-check name r =
      let form : Form = Check (name ModelFile) (name TableFile) in
      refused-model form name files cause (λ digest m. with_table m digest (get files (name TableFile)) (λ bytes. prints (accepted_line m.grid)))
      (λ digest m file h. refused-table form name files cause digest m (λ bytes. prints (accepted_line m.grid)) file
      (λ bytes h. refused-printed form name files cause (prints (accepted_line m.grid)) r.never tt h) h)
      (ap (λ (o : Outcome). o.cause) (sym r.refuses.may) ∙ r.refuses.refused)

  right-risk : (name : FileRole → List ℕ) → IsRight name (Risk (name ModelFile) (name TableFile))
  right-risk name r =
      let form : Form = Risk (name ModelFile) (name TableFile) in
      refused-model form name files cause (rest_of_risk (get files (name TableFile)))
      (λ digest m file h. refused-table form name files cause digest m (text_of_risk m) file
      (λ bytes h. refused-printed form name files cause (text_of_risk m bytes) r.never tt h) h)
      (ap (λ (o : Outcome). o.cause) (sym r.refuses.may) ∙ r.refuses.refused)

  right-audit : (name : FileRole → List ℕ) (which : Which) → IsRight name (Audit (name ModelFile) (name TableFile) which)
  right-audit name which r =
      let form : Form = Audit (name ModelFile) (name TableFile) which in
      refused-model form name files cause (λ digest m. with_table m digest (get files (name TableFile)) (λ bytes. prints []))
      (λ digest m file h. refused-table form name files cause digest m (λ bytes. prints []) file (λ bytes h. refused-printed form name files cause (prints []) r.never tt h) h)
      (report-refused (audit_looks_at (name ModelFile) (name TableFile)) (IsAuditText (name ModelFile) (name TableFile) which) (IsAuditBegun (name ModelFile) (name TableFile) which)
      files cause after r.never r.refuses)

  right-safeable : (name : FileRole → List ℕ) → IsRight name (Safeable (name ModelFile) (name TableFile))
  right-safeable name r =
      let form : Form = Safeable (name ModelFile) (name TableFile) in
      refused-model form name files cause (λ digest m. with_table m digest (get files (name TableFile)) (λ bytes. prints []))
      (λ digest m file h. refused-table form name files cause digest m (λ bytes. prints []) file (λ bytes h. refused-printed form name files cause (prints []) r.never tt h) h)
      (report-refused (safeable_looks_at (name ModelFile) (name TableFile)) (IsSafeableText (name ModelFile) (name TableFile)) (IsSafeableTextBegun (name ModelFile) (name TableFile))
      files cause after r.never r.refuses)

  right-regions : (name : FileRole → List ℕ) → IsRight name (Regions (name ModelFile) (name BoxesFile))
  right-regions name r =
      let form : Form = Regions (name ModelFile) (name BoxesFile) in
      refused-model form name files cause (λ digest m. with_input_file BoxesFile (boxes_of m) (get files (name BoxesFile)) (λ said. prints []))
      (λ digest m file h. refused-input form name files cause BoxesFile (boxes_of m) (λ said. prints []) (λ fault is. record { digest = digest; m = m; file = file; refused = is })
      (λ said h. refused-printed form name files cause (prints []) r.never tt h) h)
      (report-refused (regions_looks_at (name ModelFile) (name BoxesFile)) (IsRegionsText (name ModelFile) (name BoxesFile)) (IsRegionsBegun (name ModelFile) (name BoxesFile))
      files cause after r.never r.refuses)

  right-manoeuvre : (name : FileRole → List ℕ) (accel rate : ℕ) → IsRight name (Manoeuvre (name ModelFile) (name BoxesFile) accel rate)
  right-manoeuvre name accel rate r =
      let form : Form = Manoeuvre (name ModelFile) (name BoxesFile) accel rate in
      let may : Intruder = record { accel = accel; rate = rate } in
      refused-model form name files cause (λ digest m. with_input_file BoxesFile (fitting_boxes_of m may) (get files (name BoxesFile)) (λ said. prints []))
      (λ digest m file h. refused-input form name files cause BoxesFile (fitting_boxes_of m may) (λ said. prints []) (λ fault is. record { digest = digest; m = m; file = file; refused = is })
      (λ said h. refused-printed form name files cause (prints []) r.never tt h) h)
      (report-refused (manoeuvre_looks_at (name ModelFile) (name BoxesFile) may) (IsManoeuvreText (name ModelFile) (name BoxesFile) may)
      (IsManoeuvreBegun (name ModelFile) (name BoxesFile) may) files cause after r.never r.refuses)

  right-replay : (name : FileRole → List ℕ) → IsRight name (Replay (name ModelFile) (name TableFile) (name EncounterFile))
  right-replay name r =
      let form : Form = Replay (name ModelFile) (name TableFile) (name EncounterFile) in
      refused-model form name files cause (λ digest m. with_table m digest (get files (name TableFile)) (λ bytes. encounter_looked_at (name EncounterFile) files m))
      (λ digest m file h. refused-table form name files cause digest m (λ bytes. encounter_looked_at (name EncounterFile) files m) file
      (λ bytes h. refused-input form name files cause EncounterFile (encounter_of m) (λ flown. prints []) (λ fault is. record { digest = digest; m = m; file = file; refused = is })
      (λ flown h. refused-printed form name files cause (prints []) r.never tt h) h) h)
      (report-refused (replay_looks_at (name ModelFile) (name TableFile) (name EncounterFile)) (IsReplayText (name ModelFile) (name TableFile) (name EncounterFile))
      (IsReplayBegun (name ModelFile) (name TableFile) (name EncounterFile)) files cause after r.never r.refuses)

  right-migrate : (name : FileRole → List ℕ) (target : List ℕ) → IsRight name (Migrate (name ModelFile) (name TableFile) target)
  right-migrate name target r =
      let form : Form = Migrate (name ModelFile) (name TableFile) target in
      let stored : List ℕ → ModelData → List ℕ → Outcome = λ digest m bytes. stores target (as_layered digest (shape_of m.grid) bytes) (migrated_line m.grid) in
      refused-model form name files cause (λ digest m. with_table m digest (get files (name TableFile)) (stored digest m))
      (λ digest m file h. refused-table form name files cause digest m (stored digest m) file
      (λ bytes h. refused-printed form name files cause (stored digest m bytes) r.never tt h) h)
      (ap (λ (o : Outcome). o.cause) (sym r.refuses.may) ∙ r.refuses.refused)

  right-drill : (name : FileRole → List ℕ) (number : ℕ) → IsRight name (Drill number)
  right-drill name number r =
      refused-printed (Drill number) name files cause (prints []) r.never tt
      (report-refused (λ fs. prints []) (λ fs. IsDrillText number) (λ fs. IsDrillBegun number) files cause after r.never r.refuses)

  -- ---- words

  right-if : (name : FileRole → List ℕ) (b : Bool) (f form : Form) (o : Option Form) → cond b (Some f) o ≡ Some form → IsRight name f → (o ≡ Some form → IsRight name form) → IsRight name form
  right-if name true f form o e right other = subst (IsRight name) (cc e) right
  right-if name false f form o e right other = other e

  right-if_drill : (name : FileRole → List ℕ) (b : Bool) (o : Option ℕ) (form : Form) → cond b (option_map Drill o) None ≡ Some form → IsRight name form
  right-if_drill name true (Some number) form e = let same : Drill number ≡ form = cc e in subst (IsRight name) same (right-drill name number)
  right-if_drill name true None form e = absurd (cc e)
  right-if_drill name false o form e = absurd (cc e)

  right-if_manoeuvre : (name : FileRole → List ℕ) (b : Bool) (a c : Option ℕ) (form : Form) → cond b (manoeuvre_of (name ModelFile) (name BoxesFile) a c) None ≡ Some form → IsRight name form
  right-if_manoeuvre name true (Some accel) (Some rate) form e =
      let same : Manoeuvre (name ModelFile) (name BoxesFile) accel rate ≡ form = cc e in subst (IsRight name) same (right-manoeuvre name accel rate)
  right-if_manoeuvre name true (Some accel) None form e = absurd (cc e)
  right-if_manoeuvre name true None c form e = absurd (cc e)
  right-if_manoeuvre name false a c form e = absurd (cc e)

  pub right-words : (words : List (List ℕ)) (form : Form) → form_of words ≡ Some form → IsRight (λ role. name_of role words) form
  right-words [] form e = absurd (cc e)
  right-words (verb ∷ []) form e = absurd (cc e)
  right-words (verb ∷ word ∷ []) form e =
      let name : FileRole → List ℕ = λ role. name_of role (verb ∷ word ∷ []) in
      right-if name (bytes_eq verb (codes "values") && is_file_name word) (Values word) form
      (cond (bytes_eq verb (codes "drill")) (option_map Drill (drill_number word)) None) e (right-values name)
      (λ no_values. right-if_drill name (bytes_eq verb (codes "drill")) (drill_number word) form no_values)
  right-words (verb ∷ model ∷ second ∷ []) form e =
      let name : FileRole → List ℕ = λ role. name_of role (verb ∷ model ∷ second ∷ []) in
      let checks : Bool = bytes_eq verb (codes "check") && are_file_names model second in
      let risks : Bool = bytes_eq verb (codes "risk") && are_file_names model second in
      let audits : Bool = bytes_eq verb (codes "audit") && are_file_names model second in
      let rules : Bool = bytes_eq verb (codes "regions") && are_file_names model second in
      let outlooks : Bool = bytes_eq verb (codes "safeable") && are_file_names model second in
      let on_clear : Option Form = cond outlooks (Some (Safeable model second)) None in
      let on_boxes : Option Form = cond rules (Some (Regions model second)) on_clear in
      let on_cells : Option Form = cond audits (Some (Audit model second Whole)) on_boxes in
      let on_risk : Option Form = cond risks (Some (Risk model second)) on_cells in
      let on_tables : Option Form = cond checks (Some (Check model second)) on_risk in
      right-if name (bytes_eq verb (codes "compile") && are_apart model second) (Compile model second) form on_tables e (right-compile name second)
      (λ no_compile. right-if name checks (Check model second) form on_risk no_compile (right-check name)
      (λ no_check. right-if name risks (Risk model second) form on_cells no_check (right-risk name)
      (λ no_risk. right-if name audits (Audit model second Whole) form on_boxes no_risk (right-audit name Whole)
      (λ no_audit. right-if name rules (Regions model second) form on_clear no_audit (right-regions name)
      (λ no_regions. right-if name outlooks (Safeable model second) form None no_regions (right-safeable name) (λ none. absurd (cc none)))))))
  right-words (verb ∷ model ∷ table ∷ third ∷ []) form e =
      let name : FileRole → List ℕ = λ role. name_of role (verb ∷ model ∷ table ∷ third ∷ []) in
      let replays : Bool = bytes_eq verb (codes "replay") && are_file_names model table && is_file_name third in
      let migrates : Bool = bytes_eq verb (codes "migrate") && are_apart model third && are_apart table third in
      let on_format : Option Form = cond migrates (Some (Migrate model table third)) None in
      right-if name (bytes_eq verb (codes "audit") && are_file_names model table && bytes_eq third (codes "--reported")) (Audit model table OnlyReported) form
      (cond replays (Some (Replay model table third)) on_format) e (right-audit name OnlyReported)
      (λ no_audit. right-if name replays (Replay model table third) form on_format no_audit (right-replay name)
      (λ no_replay. right-if name migrates (Migrate model table third) form None no_replay (right-migrate name third) (λ none. absurd (cc none))))
  right-words (verb ∷ model ∷ boxes ∷ accel ∷ rate ∷ []) form e =
      let name : FileRole → List ℕ = λ role. name_of role (verb ∷ model ∷ boxes ∷ accel ∷ rate ∷ []) in
      right-if_manoeuvre name (bytes_eq verb (codes "manoeuvre") && are_file_names model boxes) (accel_of accel) (rate_of rate) form e
  right-words (verb ∷ model ∷ table ∷ third ∷ more ∷ another ∷ rest) form e = absurd (cc e)
