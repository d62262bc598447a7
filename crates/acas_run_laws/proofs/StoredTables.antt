-- What `compile` and `migrate` leave under the name that they write, and what no form changes.
use Rattle.std.proofs.Common.{◌≡◌, ℕ, ◌<◌, List, [], ◌∷◌, length, take, Option, Some, ◌⊎◌, inl, inr, ⊎_elim, refl, sym, ap, subst, ◌∙◌}
use Rattle.std.specs.Prelude.{IsSomeAnd}
use Rattle.std.specs.FinMap.{get, insert}
use Rattle.sha2.specs.Sha256.{sha256}
use Rattle.acas_spec.specs.Model.{ModelData}
use Rattle.acas_outside.specs.Files.{Files}
use Rattle.acas_outside.specs.Outside.{Outside}
use Rattle.acas_table_text.specs.Shape.{shape_of}
use Rattle.acas_table_text.specs.Tables.{as_layered}
use Rattle.acas_table_commands.specs.Calls.{CallsForCompile, compile_of}
use Rattle.acas_check_commands.specs.Calls.{CallsForMigrate, migrate_of}
use Rattle.acas_table_rows.specs.StoredLine.{compiled_line, migrated_line}
use Rattle.acas_check_commands.proofs.MigratedTables.{rest_of_migrate, rest_of_table}
use Rattle.acas_table_rows.specs.TableFile.{compiled_text}
use Rattle.acas_command.specs.Answers.{Agrees}
use Rattle.acas_command.specs.Called.{MayPrint}
use Rattle.acas_command.specs.Codes.{code_of}
use Rattle.acas_command.specs.ModelFile.{IsModelFile}
use Rattle.acas_command.specs.Outcome.{Outcome, stores}
use Rattle.acas_command.specs.declared.status.Cause.{Cause}
use Rattle.acas_command.proofs.Refused.{behind-model, no_file_cause-may_print}
use Rattle.acas_table_file.proofs.Files.{behind-table, with_table-accepted}
use Rattle.acas_cli.specs.Calls.{CallsFor}
use Rattle.acas_cli_words.specs.Words.{Form, Values, Compile, Check, Risk, Audit, Regions, Manoeuvre, Safeable, Replay, Migrate, Drill}
use Rattle.acas_run_laws.specs.Forms.{written_by}
use Rattle.acas_run_laws.specs.Migrated.{IsMigratedText}
use Rattle.acas_run_laws.proofs.Kept.{kept-form, same-name}
use Rattle.acas_run_laws.proofs.WrittenFiles.{GoesOn, HoldsPart, StoresNothing, nothing-model, nothing-table, written-none, written-other, written-part, written-whole}

-- ---- `compile`

module _ (model table : List ℕ) (files : Files) where
  -- the text is that of the compiled table of the model
  abbrev IsCompiledText : List ℕ → Type 0
  IsCompiledText text = (digest : List ℕ) × (m : ModelData) × IsModelFile (get files model) digest m × (text ≡ compiled_text digest m)

  abbrev rest_of_compile : List ℕ → ModelData → Outcome
  rest_of_compile digest m = stores table (compiled_text digest m) (compiled_line m.grid)

  compile-goes_on : MayPrint (compile_of (get files model) table).cause → GoesOn table IsCompiledText (compile_of (get files model) table)
  compile-goes_on may =
      let b = behind-model (get files model) rest_of_compile (no_file_cause-may_print _ may) in
      record {
        text = compiled_text (sha256 b.bytes) b.m;
        line = compiled_line b.m.grid;
        right = (sha256 b.bytes, b.m, record { bytes = b.bytes; text = record { there = b.there; short = b.short }; read = b.read; hashed = refl }, refl);
        is = b.is;
      }

  compile-nothing : StoresNothing (compile_of (get files model) table)
  compile-nothing = nothing-model (get files model) rest_of_compile (λ digest m never. absurd (never tt))

  -- with the causes of the codes 0 and 8
  pub compiled-whole : (cause : Cause) (before after : Outside) → Agrees (CallsForCompile model table) files cause before after → (code_of cause ≡ 0) ⊎ (code_of cause ≡ 8)
      → (digest : List ℕ) × (m : ModelData) × IsModelFile (get files model) digest m × (after.holds ≡ Some (insert files table (compiled_text digest m)))
  compiled-whole cause before after a e =
      let h = written-whole (model ∷ []) table IsCompiledText (λ fs. compile_of (get fs model) table) files compile-goes_on compile-nothing cause before after a e in
      (h.right.0, h.right.1, h.right.2, h.stored ∙ ap (λ (text : List ℕ). Some (insert files table text)) h.right.3)

  -- with that of the code 7
  pub compiled-part : (cause : Cause) (before after : Outside) → Agrees (CallsForCompile model table) files cause before after → code_of cause ≡ 7
      → (after.holds ≡ Some files)
      ⊎ ((digest : List ℕ) × (m : ModelData) × IsModelFile (get files model) digest m × (count : ℕ) × (count < length (compiled_text digest m))
      × (after.holds ≡ Some (insert files table (take count (compiled_text digest m)))))
  compiled-part cause before after a e =
      ⊎_elim (λ same. inl same)
      (λ (h : HoldsPart table IsCompiledText files after.holds). inr (
        h.right.0,
        h.right.1,
        h.right.2,
        h.count,
        subst (λ (text : List ℕ). h.count < length text) h.right.3 h.proper,
        h.stored ∙ ap (λ (text : List ℕ). Some (insert files table (take h.count text))) h.right.3,
      ))
      (written-part (model ∷ []) table IsCompiledText (λ fs. compile_of (get fs model) table) files compile-goes_on compile-nothing cause before after a e)

  -- with all other causes
  pub compiled-none : (cause : Cause) (before after : Outside) → Agrees (CallsForCompile model table) files cause before after
      → (code_of cause ≡ 0 → ⊥) → (code_of cause ≡ 7 → ⊥) → (code_of cause ≡ 8 → ⊥) → after.holds ≡ Some files
  compiled-none cause before after a done folder output =
      written-none (model ∷ []) table IsCompiledText (λ fs. compile_of (get fs model) table) files compile-goes_on compile-nothing cause before after a done folder output

  compiled-other : (cause : Cause) (before after : Outside) (name : List ℕ) → Agrees (CallsForCompile model table) files cause before after → (name ≡ table → ⊥)
      → IsSomeAnd after.holds (λ now. get now name ≡ get files name)
  compiled-other cause before after name a apart =
      written-other (model ∷ []) table IsCompiledText (λ fs. compile_of (get fs model) table) files compile-goes_on compile-nothing cause before after name a apart

-- ---- `migrate`

module _ (model table target : List ℕ) (files : Files) where
  migrate-goes_on : MayPrint (migrate_of (get files model) (get files table) target).cause
      → GoesOn target (IsMigratedText model table files) (migrate_of (get files model) (get files table) target)
  migrate-goes_on may =
      let b = behind-model (get files model) (rest_of_migrate (get files table) target) (no_file_cause-may_print _ may) in
      let digest : List ℕ = sha256 b.bytes in
      let t = behind-table b.m digest (get files table) (rest_of_table target digest b.m) (subst (λ (o : Outcome). MayPrint o.cause) b.is may) in
      record {
        text = as_layered digest (shape_of b.m.grid) t.0;
        line = migrated_line b.m.grid;
        right = record {
          digest = digest;
          m = b.m;
          given = t.0;
          model_file = record { bytes = b.bytes; text = record { there = b.there; short = b.short }; read = b.read; hashed = refl };
          table_file = t.1;
          accepted = t.2;
          is = refl;
        };
        is = b.is
            ∙ ap (λ (file : Option (List ℕ)). rest_of_migrate file target digest b.m) t.1
            ∙ with_table-accepted b.m digest t.0 (rest_of_table target digest b.m) t.2;
      }

  migrate-nothing : StoresNothing (migrate_of (get files model) (get files table) target)
  migrate-nothing =
      nothing-model (get files model) (rest_of_migrate (get files table) target)
      (λ digest m. nothing-table m digest (get files table) (rest_of_table target digest m) (λ bytes never. absurd (never tt)))

  pub migrated-whole : (cause : Cause) (before after : Outside) → Agrees (CallsForMigrate model table target) files cause before after → (code_of cause ≡ 0) ⊎ (code_of cause ≡ 8)
      → (text : List ℕ) × IsMigratedText model table files text × (after.holds ≡ Some (insert files target text))
  migrated-whole cause before after a e =
      let h = written-whole (model ∷ table ∷ []) target (IsMigratedText model table files) (λ fs. migrate_of (get fs model) (get fs table) target) files migrate-goes_on migrate-nothing cause before after a e in
      (h.text, h.right, h.stored)

  pub migrated-part : (cause : Cause) (before after : Outside) → Agrees (CallsForMigrate model table target) files cause before after → code_of cause ≡ 7
      → (after.holds ≡ Some files)
      ⊎ ((text : List ℕ) × IsMigratedText model table files text × (count : ℕ) × (count < length text) × (after.holds ≡ Some (insert files target (take count text))))
  migrated-part cause before after a e =
      ⊎_elim (λ same. inl same)
      (λ (h : HoldsPart target (IsMigratedText model table files) files after.holds). inr (h.text, h.right, h.count, h.proper, h.stored))
      (written-part (model ∷ table ∷ []) target (IsMigratedText model table files) (λ fs. migrate_of (get fs model) (get fs table) target) files migrate-goes_on migrate-nothing cause before after a e)

  pub migrated-none : (cause : Cause) (before after : Outside) → Agrees (CallsForMigrate model table target) files cause before after
      → (code_of cause ≡ 0 → ⊥) → (code_of cause ≡ 7 → ⊥) → (code_of cause ≡ 8 → ⊥) → after.holds ≡ Some files
  migrated-none cause before after a done folder output =
      written-none (model ∷ table ∷ []) target (IsMigratedText model table files) (λ fs. migrate_of (get fs model) (get fs table) target) files migrate-goes_on migrate-nothing cause before after a done folder output

  migrated-other : (cause : Cause) (before after : Outside) (name : List ℕ) → Agrees (CallsForMigrate model table target) files cause before after → (name ≡ target → ⊥)
      → IsSomeAnd after.holds (λ now. get now name ≡ get files name)
  migrated-other cause before after name a apart =
      written-other (model ∷ table ∷ []) target (IsMigratedText model table files) (λ fs. migrate_of (get fs model) (get fs table) target) files migrate-goes_on migrate-nothing cause before after name a apart

-- ---- every form

-- every file but the one that a form writes is as before
pub other-form : (form : Form) (cause : Cause) (files : Files) (before after : Outside) (name : List ℕ) → Agrees (CallsFor form) files cause before after → (written_by form ≡ Some name → ⊥)
    → IsSomeAnd after.holds (λ now. get now name ≡ get files name)
other-form (Values model) cause files before after name a apart = same-name files name after.holds (kept-form (Values model) cause files before after refl a)
other-form (Compile model table) cause files before after name a apart = compiled-other model table files cause before after name a (λ e. apart (ap (λ (x : List ℕ). Some x) (sym e)))
other-form (Check model table) cause files before after name a apart = same-name files name after.holds (kept-form (Check model table) cause files before after refl a)
other-form (Risk model table) cause files before after name a apart = same-name files name after.holds (kept-form (Risk model table) cause files before after refl a)
other-form (Audit model table which) cause files before after name a apart = same-name files name after.holds (kept-form (Audit model table which) cause files before after refl a)
other-form (Regions model boxes) cause files before after name a apart = same-name files name after.holds (kept-form (Regions model boxes) cause files before after refl a)
other-form (Manoeuvre model boxes accel rate) cause files before after name a apart = same-name files name after.holds (kept-form (Manoeuvre model boxes accel rate) cause files before after refl a)
other-form (Safeable model table) cause files before after name a apart = same-name files name after.holds (kept-form (Safeable model table) cause files before after refl a)
other-form (Replay model table encounter) cause files before after name a apart = same-name files name after.holds (kept-form (Replay model table encounter) cause files before after refl a)
other-form (Migrate model table target) cause files before after name a apart = migrated-other model table target files cause before after name a (λ e. apart (ap (λ (x : List ℕ). Some x) (sym e)))
other-form (Drill number) cause files before after name a apart = same-name files name after.holds (kept-form (Drill number) cause files before after refl a)
