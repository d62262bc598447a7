-- What the answers of `migrate` are worth.
use Rattle.std.proofs.Common.{◌≡◌, ◌⊎◌, ℕ, zero, suc, ◌+◌, ◌<◌, List, [], ◌∷◌, ◌++◌, map, Option, Some, None, ⊎_elim, inl, inr, refl, sym, ap, subst, ◌∙◌, arith}
use Rattle.std.specs.Prelude.{IfSome, IsSomeAnd}
use Rattle.std.specs.List.{range_with_len}
use Rattle.std.proofs.lemmas.List.FromFn.{map-range_with_len_more}
use Rattle.std.specs.FinMap.{get, insert}
use Rattle.sha2.specs.Sha256.{sha256}
use Rattle.sha2.proofs.Facts256.{length-sha256}
use Rattle.acas_spec.specs.Model.{ModelData}
use Rattle.acas_spec.specs.Table.{Table}
use Rattle.acas_units.specs.declared.pair.Entry.{Entry}
use Rattle.acas_base.specs.Layers.{LayersData}
use Rattle.acas_outside.specs.Bytes.{IsBytes}
use Rattle.acas_outside.specs.Files.{Files, Given}
use Rattle.acas_outside.specs.Outside.{Outside}
use Rattle.acas_policies.proofs.BoundLaws.{two_sided_bounds}
use Rattle.acas_accept.specs.Accepted.{IsAcceptedTable}
use Rattle.acas_accept.specs.Answers.{HasLayers}
use Rattle.acas_accept.specs.GivenTable.{given_table}
use Rattle.acas_accept.specs.Refusals.{first_refusal}
use Rattle.acas_accept.proofs.Tables.{given_is_accepted, migrated_is_accepted, migrated_text}
use Rattle.acas_table_text.specs.Layers.{table_text}
use Rattle.acas_table_text.specs.Shape.{shape_of}
use Rattle.acas_table_text.specs.Tables.{as_layered, layer_at}
use Rattle.acas_table_text.specs.Text.{text_of_layers}
use Rattle.acas_table_text.specs.declared.format.Format.TheVariants.{Layered}
use Rattle.acas_table_text.specs.declared.refusal.TableRefusal.{TableRefusal}
use Rattle.acas_command.specs.Answers.{Agrees, Answers, Completes, Refuses}
use Rattle.acas_command.specs.Called.{MayPrint, PrintsPart}
use Rattle.acas_command.specs.ModelFile.{IsModelFile}
use Rattle.acas_command.specs.Outcome.{Outcome, stores, with_file}
use Rattle.acas_command.specs.Says.{SaysModel}
use Rattle.acas_command.specs.declared.status.Cause.{Cause}
use Rattle.acas_command.specs.declared.status.Cause.TheVariants.{Done, Output, Table as Refused}
use Rattle.acas_command.proofs.Behind.{told-both}
use Rattle.acas_command.proofs.Files.{called-model}
use Rattle.acas_command.specs.Worth.{PrintsLine}
use Rattle.acas_command.proofs.Completed.{completed, prints-part_of_line, prints-whole_line}
use Rattle.acas_command.proofs.Refused.{behind-model, done_unless_failed, no_file_cause-may_print}
use Rattle.acas_command.proofs.Says.{says-model}
use Rattle.acas_table_file.specs.AcceptedFile.{IsLayersFile}
use Rattle.acas_table_file.specs.Calls.{with_table}
use Rattle.acas_table_file.specs.Worth.{RejectsTable, SaysTable}
use Rattle.acas_table_file.proofs.Files.{behind-table, called-layers, read-table, rejects-table, with_table-accepted}
use Rattle.acas_table_rows.specs.TableFile.{entries_of, text_of_all}
use Rattle.acas_check_commands.specs.Calls.{CallsForMigrate, migrate_of}
use Rattle.acas_table_rows.specs.StoredLine.{migrated_line}
use Rattle.acas_check_commands.specs.Worth.{MigrateIsWorth, MigratesTable}
use Rattle.acas_table_file.proofs.Files.{bytes-of}

-- what `migrate` goes on with, behind the table and behind the model
abbrev pub rest_of_table : List ℕ → List ℕ → ModelData → List ℕ → Outcome
rest_of_table target digest m bytes = stores target (as_layered digest (shape_of m.grid) bytes) (migrated_line m.grid)

abbrev pub rest_of_migrate : Option (List ℕ) → List ℕ → List ℕ → ModelData → Outcome
rest_of_migrate file target digest m = with_table m digest file (rest_of_table target digest m)

-- the text in version 2 of layers at hand
abbrev pub layers_text : List ℕ → ModelData → LayersData → List ℕ
layers_text digest m layers = text_of_all digest (shape_of m.grid) (entries_of layers)

-- layers that are given by number and are the same below a number
same-below : (f g : ℕ → List Entry) (n : ℕ) → ((k : ℕ) → k < n → f k ≡ g k) → map f (range_with_len 0 n) ≡ map g (range_with_len 0 n)
same-below f g zero same = refl
same-below f g (suc n) same =
    let more : n + 1 ≡ suc n = omega arith in
    let behind = same-below f g n (λ k within. same k (omega (arith, within))) in
    subst (λ (k : ℕ). map f (range_with_len 0 k) ≡ map g (range_with_len 0 k)) more
    (map-range_with_len_more f 0 n n (omega arith)
    ∙ ap (λ (ls : List (List Entry)). ls ++ f n ∷ []) behind
    ∙ ap (λ (l : List Entry). map g (range_with_len 0 n) ++ l ∷ []) (same n (omega arith))
    ∙ sym (map-range_with_len_more g 0 n n (omega arith)))

-- it is that of the table whose layers they are
text-of_layers : (m : ModelData) (digest bytes : List ℕ) (layers : LayersData) → HasLayers m bytes layers → as_layered digest (shape_of m.grid) bytes ≡ layers_text digest m layers
text-of_layers m digest bytes layers has =
    ap (λ (ls : List (List Entry)). text_of_layers Layered digest (shape_of m.grid) ls)
    (same-below (layer_at (shape_of m.grid) bytes) (entries_of layers) (m.grid.horizon + 1) (λ n within. sym (has.each n (omega (arith, within)))))

-- what a `migrate` calls for whose table has these layers
pub called-migrate : (holds mid : Option Files) (model table target digest : List ℕ) (m : ModelData) (layers : LayersData) → mid ≡ holds → Given holds model (λ file. IsModelFile file digest m)
    → Given mid table (λ file. IsLayersFile m digest file layers)
    → IfSome holds (λ files. stores target (layers_text digest m layers) (migrated_line m.grid) ≡ migrate_of (get files model) (get files table) target)
called-migrate holds mid model table target digest m layers same read accepted =
    told-both holds _ _ _ (λ files a b. sym b ∙ a)
    (called-model holds model digest m (λ files d n. rest_of_migrate (get files table) target d n) read)
    (called-layers holds table digest m layers (rest_of_table target digest m) (stores target (layers_text digest m layers) (migrated_line m.grid))
    (λ bytes has. ap (λ (text : List ℕ). stores target text (migrated_line m.grid)) (text-of_layers m digest bytes layers has))
    (subst (λ (h : Option Files). Given h table (λ file. IsLayersFile m digest file layers)) same accepted))

-- a `migrate` that is not refused: its model, the accepted table, and what it ends with
pub record GoesOn (model table target : List ℕ) (files : Files) : Type 0 where
  pub bytes : List ℕ
  pub m : ModelData
  pub given : List ℕ
  pub says : SaysModel files model bytes m
  pub file : get files table ≡ Some given
  pub none : first_refusal m (sha256 bytes) given ≡ None
  pub is : migrate_of (get files model) (get files table) target ≡ rest_of_table target (sha256 bytes) m given

pub goes_on : (model table target : List ℕ) (files : Files) → MayPrint (migrate_of (get files model) (get files table) target).cause → GoesOn model table target files
goes_on model table target files may =
    let b = behind-model (get files model) (rest_of_migrate (get files table) target) (no_file_cause-may_print _ may) in
    let digest : List ℕ = sha256 b.bytes in
    let t = behind-table b.m digest (get files table) (rest_of_table target digest b.m) (subst (λ (o : Outcome). MayPrint o.cause) b.is may) in
    record {
      bytes = b.bytes;
      m = b.m;
      given = t.0;
      says = says-model files model (rest_of_migrate (get files table) target) b;
      file = t.1;
      none = t.2;
      is = b.is
          ∙ ap (λ (file : Option (List ℕ)). rest_of_migrate file target digest b.m) t.1
          ∙ with_table-accepted b.m digest t.0 (rest_of_table target digest b.m) t.2;
    }

migrates-table : (model table target : List ℕ) (files : Files) (cause : Cause) (before after : Outside) (o : Outcome) → o ≡ migrate_of (get files model) (get files table) target → MayPrint o.cause
    → after.holds ≡ Some (with_file o.file files) → PrintsLine cause before after o.output → (o.cause ≡ Done → IsSomeAnd (get files table) IsBytes)
    → MigratesTable model table target files cause before after
migrates-table model table target files cause before after o called prints stored line whole =
    let b = goes_on model table target files (subst (λ (p : Outcome). MayPrint p.cause) called prints) in
    let bytes : IsSomeAnd (get files table) IsBytes = whole (ap (λ (p : Outcome). p.cause) (called ∙ b.is)) in
    let t : Table = given_table b.m.grid b.given in
    let digest : List ℕ = sha256 b.bytes in
    let accepted : IsAcceptedTable b.m digest b.given t = given_is_accepted b.m digest b.given b.says.text.within (bytes-of (get files table) b.given b.file bytes) b.none in
    let text : as_layered digest (shape_of b.m.grid) b.given ≡ table_text Layered digest b.m.grid t = migrated_text b.m digest b.given t b.says.text.within (length-sha256 b.bytes) accepted in
    record {
      m = b.m;
      t = t;
      says = record { bytes = b.bytes; given = b.given; says = b.says; file = b.file; accepted = accepted };
      migrated =
          subst (λ (bytes : List ℕ). IsAcceptedTable b.m digest bytes t) text
          (migrated_is_accepted b.m digest b.given t b.says.text.within (length-sha256 b.bytes) accepted);
      stored =
          subst (λ (bytes : List ℕ). after.holds ≡ Some (insert files target bytes)) text
          (subst (λ (p : Outcome). after.holds ≡ Some (with_file p.file files)) (called ∙ b.is) stored);
      bounds = two_sided_bounds b.m t b.says.text.within accepted.sound;
      line = subst (λ (p : Outcome). PrintsLine cause before after p.output) (called ∙ b.is) line;
    }

migrates-done : (model table target : List ℕ) (files : Files) (cause : Cause) (before after : Outside) → MayPrint cause → Completes (CallsForMigrate model table target) files cause before after
    → (cause ≡ Done → IsSomeAnd (get files table) IsBytes) → MigratesTable model table target files cause before after
migrates-done model table target files cause before after prints a whole =
    migrates-table model table target files cause before after a.outcome a.may (subst MayPrint (sym a.ends) prints) a.stored (prints-whole_line cause before after a.outcome.output prints a.printed)
    (λ done. whole (sym a.ends ∙ done))

migrates-output : (model table target : List ℕ) (files : Files) (cause : Cause) (before after : Outside) → cause ≡ Output → PrintsPart (migrate_of (get files model) (get files table) target) files before after
    → IsSomeAnd (get files table) IsBytes → MigratesTable model table target files cause before after
migrates-output model table target files cause before after is a whole =
    migrates-table model table target files cause before after _ refl a.prints a.stored (prints-part_of_line cause before after (migrate_of (get files model) (get files table) target).output is a.printed) (λ done. whole)

rejected : (model table target : List ℕ) (files : Files) (refusal : TableRefusal) (after : Outside) → Refuses (CallsForMigrate model table target) files (Refused refusal) after → RejectsTable model table files
rejected model table target files refusal after a =
    rejects-table model table files (rest_of_table target) refusal (λ digest m bytes is. subst MayPrint is tt) (ap (λ (o : Outcome). o.cause) (sym a.may) ∙ a.refused)

migrated-outcome : (files : Files) (model table target : List ℕ) (m : ModelData) (t : Table) (s : SaysTable model table files m t)
    → migrate_of (get files model) (get files table) target ≡ rest_of_table target (sha256 s.bytes) m s.given
migrated-outcome files model table target m t s = read-table files model table m t (rest_of_table target) s

pub migrate-worth : (model table target : List ℕ) (cause : Cause) (before after : Outside) → Answers (CallsForMigrate model table target) cause before after
    → ((cause ≡ Done) ⊎ (cause ≡ Output) → Given before.holds table (λ file. IsSomeAnd file IsBytes)) → IfSome before.holds (λ files. MigrateIsWorth model table target files cause before after)
migrate-worth model table target cause before after answers whole = by_holds before.holds answers.told whole
  where
    by_holds : (holds : Option Files) → IfSome holds (λ files. Agrees (CallsForMigrate model table target) files cause before after)
        → ((cause ≡ Done) ⊎ (cause ≡ Output) → Given holds table (λ file. IsSomeAnd file IsBytes)) → IfSome holds (λ files. MigrateIsWorth model table target files cause before after)
    by_holds None agrees bytes = tt
    by_holds (Some files) agrees bytes = record {
      stored = λ either. ⊎_elim
          (λ (may : MayPrint cause). migrates-done model table target files cause before after may (completed (CallsForMigrate model table target) files cause before after may agrees) (λ done. bytes (inl done)))
          (λ (is : cause ≡ Output). migrates-output model table target files cause before after is (subst (λ (c : Cause). Agrees (CallsForMigrate model table target) files c before after) is agrees) (bytes (inr is)))
          either;
      refused = λ refusal is. rejected model table target files refusal after (subst (λ (c : Cause). Agrees (CallsForMigrate model table target) files c before after) is agrees);
      not_refused = λ m t says.
          done_unless_failed (CallsForMigrate model table target) files cause before after
          (λ o called. ap (λ (p : Outcome). p.cause) (called ∙ migrated-outcome files model table target m t says)) answers.has_cause agrees;
    }
