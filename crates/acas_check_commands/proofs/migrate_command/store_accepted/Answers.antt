use Rattle.std.proofs.Common.{List, [], ◌∷◌, ℕ, Option, Ok, Err, IsErrOf, IsSomeAnd, inl, inr, ◌≡◌, ◌⊎◌, ◌∙◌, refl, sym, subst, le_refl, arith}
use Rattle.std.proofs.lemmas.Result.{err_from_is_err_and}
use Rattle.std.specs.FinMap.{get}
use Rattle.acas_spec.specs.Model.{ModelData}
use Rattle.acas_base.specs.Layers.{LayersData}
use Rattle.acas_outside.specs.Bytes.{IsBytes}
use Rattle.acas_outside.specs.Files.{Files, Given, Stores, StoresPart}
use Rattle.acas_outside.specs.Frame.{OnlyReads, OnlyWrites, ReadsAndWrites}
use Rattle.acas_outside.specs.Once.{TakesOnce}
use Rattle.acas_outside.specs.Outside.{Outside, outside}
use Rattle.acas_outside.specs.declared.folder.Folder.{Ghosts as FolderMeanings}
use Rattle.acas_table_file.specs.AcceptedFile.{IsLayersFile}
use Rattle.acas_table_file.specs.Calls.{with_table}
use Rattle.acas_command.specs.Answers.{EndsLooking}
use Rattle.acas_command.specs.Called.{reading}
use Rattle.acas_command.specs.Outcome.{stores}
use Rattle.acas_command.specs.declared.status.Cause.{Cause}
use Rattle.acas_command.specs.declared.status.Cause.TheVariants.{Done, Folder, Output, Memory}
use Rattle.acas_command.proofs.Behind.{answers-done, answers-folder, answers-output, told-kept, told-map, told-part, told-stored}
use Rattle.acas_command.proofs.Files.{to-model}
use Rattle.acas_command.proofs.Reports.{answers-refer}
use Rattle.acas_check_commands.specs.Calls.{CallsForMigrate, migrate_of}
use Rattle.acas_table_rows.specs.StoredLine.{migrated_line}
use Rattle.acas_check_commands.proofs.MigratedTables.{called-migrate, layers_text, rest_of_migrate, rest_of_table}
use Rattle.acas_check_commands.proofs.migrate_command.store_accepted.Goals as goal

-- a cause that ends as the files are read is no other
looking : {A : Type 0} (e : Cause) → EndsLooking e → (e ≡ Done) ⊎ (e ≡ Output) → A
looking e ends (inl is) = absurd (subst EndsLooking is ends)
looking e ends (inr is) = absurd (subst EndsLooking is ends)

no_folder : {A : Type 0} → (IsErrOf {T = Unit {0}} (Err Memory) Folder → A) × (IsErrOf {T = Unit {0}} (Ok tt) Folder → A) × (IsErrOf {T = Unit {0}} (Err Output) Folder → A)
no_folder = (λ is. cc, λ is. cc, λ is. cc)

same : {X : Type 0} (e : Cause) → IsErrOf {T = Unit {0}} (Err e) Folder → IsErrOf {T = X} (Err e) Folder
same e is = cc

-- an accepted table's file is of bytes
of_bytes : (holds : Option Files) (name digest : List ℕ) (m : ModelData) (layers : LayersData) → Given holds name (λ file. IsLayersFile m digest file layers)
    → Given holds name (λ file. IsSomeAnd file IsBytes)
of_bytes holds name digest m layers given =
    told-map holds _ _ (λ files file. subst (λ (f : Option (List ℕ)). IsSomeAnd f IsBytes) (sym file.there) file.whole) given

-- a call that read, and then one that wrote
read : {F : Type 0} (d : FolderMeanings F) (a b : F) (failed absent fails : Type 0) → (fails → failed) → OnlyReads d a b failed absent → ReadsAndWrites d a b fails
read d a b failed absent fails is r = record { serves = r.serves; faults = r.faults; misses = r.misses; taken = r.taken; fault = λ f. r.fault (is f) }

both : {F : Type 0} (d : FolderMeanings F) (a b c : F) (failed absent wrote fails : Type 0) → (fails → wrote) → OnlyReads d a b failed absent → OnlyWrites d b c wrote → ReadsAndWrites d a c fails
both d a b c failed absent wrote fails is r w = record {
  serves = w.serves ∙ r.serves;
  faults = omega (arith, r.faults, w.faults);
  misses = omega (arith, r.misses, w.misses);
  taken = omega (arith, r.taken, w.taken);
  fault = λ f. omega (arith, r.faults, w.fault (is f));
}

pub returns-in_err-layers : goal.returns-in_err-layers
returns-in_err-layers g c =
    let m = c.args.found.now.model in
    let digest = c.args.found.now.digest in
    let table = c.args.table.now in
    let target = c.args.target.now in
    let before : Outside = outside g.F.Folder g.O.Sink c.args.folder.now c.args.out.now in
    let p = err_from_is_err_and c.from_residual.result c.from_residual.ensures.1 in
    rw (p.1, p.2) (record {
      answers = λ model told.
          (answers-refer (λ files. with_table m digest (get files table) (rest_of_table target digest m)) (reading (table ∷ []) (CallsForMigrate model table target)) c.in_err-layers.field-0.0 before (outside g.F.Folder g.O.Sink c.read_table_layers.new.folder c.args.out.now) c.in_err-layers.ensures.refused
          (to-model (table ∷ []) before.holds model digest m (λ files d n. rest_of_migrate (get files table) target d n) told)
          (c.in_err-layers.ensures.err [] (λ files. rest_of_table target digest m) _ _));
      bytes = looking c.in_err-layers.field-0.0 c.in_err-layers.ensures.refused;
      folder = read g.F.Folder _ _ _ _ _ (same c.in_err-layers.field-0.0) c.in_err-layers.ensures.frame;
      output = le_refl _;
    })

pub returns-in_err-writer : goal.returns-in_err-writer
returns-in_err-writer g c =
    let p = err_from_is_err_and c.from_residual-in_err-writer.result c.from_residual-in_err-writer.ensures.1 in
    rw (p.1, p.2) (record {
      answers = λ model told.
          (record { has_cause = tt; quiet = refl {a = g.O.Sink.written c.args.out.now}; told = told-kept (g.F.Folder.holds c.args.folder.now) (g.F.Folder.holds c.read_table_layers.new.folder) c.read_table_layers.ensures.frame.holds; once = c.read_table_layers.ensures.once });
      bytes = looking Memory tt;
      folder = read g.F.Folder _ _ _ _ _ no_folder.0 c.read_table_layers.ensures.frame;
      output = le_refl _;
    })

pub returns-in-Err : goal.returns-in-Err
returns-in-Err g c =
    let m = c.args.found.now.model in
    let digest = c.args.found.now.digest in
    let layers = c.in_ok-layers.layers in
    let table = c.args.table.now in
    let target = c.args.target.now in
    let text : List ℕ = layers_text digest m layers in
    let before : Outside = outside g.F.Folder g.O.Sink c.args.folder.now c.args.out.now in
    let after : Outside = outside g.F.Folder g.O.Sink c.store_layers.new.folder c.args.out.now in record {
      answers = λ model told.
          answers-folder (table ∷ []) (λ files. migrate_of (get files model) (get files table) target) (stores target text (migrated_line m.grid)) before after
          (called-migrate before.holds _ model table target digest m layers refl told c.in_ok-layers.ensures.ok)
          (told-part before.holds after.holds target text (subst (λ (h : Option Files). (after.holds ≡ h) ⊎ StoresPart h after.holds target text) c.read_table_layers.ensures.frame.holds c.in-Err.ensures.err)) refl (omega (arith, c.read_table_layers.ensures.frame.faults, c.in-Err.ensures.frame.fault refl))
          (subst (λ (n : ℕ). TakesOnce (table ∷ []) before.holds before.taken n) (sym c.in-Err.ensures.frame.taken) c.read_table_layers.ensures.once);
      bytes = looking Folder tt;
      folder = both g.F.Folder _ _ _ _ _ _ _ (λ is. refl) c.read_table_layers.ensures.frame c.in-Err.ensures.frame;
      output = le_refl _;
    }

pub returns-in-Ok-print_stored_line : goal.returns-in-Ok-print_stored_line
returns-in-Ok-print_stored_line g c =
    let m = c.args.found.now.model in
    let digest = c.args.found.now.digest in
    let layers = c.in_ok-layers.layers in
    let table = c.args.table.now in
    let target = c.args.target.now in
    let text : List ℕ = layers_text digest m layers in
    let before : Outside = outside g.F.Folder g.O.Sink c.args.folder.now c.args.out.now in
    let after : Outside = outside g.F.Folder g.O.Sink c.store_layers.new.folder c.print_stored_line.new.out in record {
      answers = λ model told.
          answers-done (table ∷ []) (λ files. migrate_of (get files model) (get files table) target) (stores target text (migrated_line m.grid)) before after
          (called-migrate before.holds _ model table target digest m layers refl told c.in_ok-layers.ensures.ok) refl
          (told-stored before.holds after.holds target text (subst (λ (h : Option Files). Stores h after.holds target text) c.read_table_layers.ensures.frame.holds c.in-Ok.ensures.ok)) (rw c.grid.ensures.value at c.in-Ok-print_stored_line.ensures.ok)
          (subst (λ (n : ℕ). TakesOnce (table ∷ []) before.holds before.taken n) (sym c.in-Ok.ensures.frame.taken) c.read_table_layers.ensures.once);
      bytes = λ is. of_bytes _ _ _ _ _ c.in_ok-layers.ensures.ok;
      folder = both g.F.Folder _ _ _ _ _ _ _ no_folder.1 c.read_table_layers.ensures.frame c.in-Ok.ensures.frame;
      output = c.print_stored_line.ensures.frame.faults;
    }

pub returns : goal.returns
returns g c =
    let m = c.args.found.now.model in
    let digest = c.args.found.now.digest in
    let layers = c.in_ok-layers.layers in
    let table = c.args.table.now in
    let target = c.args.target.now in
    let text : List ℕ = layers_text digest m layers in
    let before : Outside = outside g.F.Folder g.O.Sink c.args.folder.now c.args.out.now in
    let after : Outside = outside g.F.Folder g.O.Sink c.store_layers.new.folder c.print_stored_line.new.out in record {
      answers = λ model told.
          answers-output (table ∷ []) (λ files. migrate_of (get files model) (get files table) target) (stores target text (migrated_line m.grid)) before after
          (called-migrate before.holds _ model table target digest m layers refl told c.in_ok-layers.ensures.ok) tt
          (told-stored before.holds after.holds target text (subst (λ (h : Option Files). Stores h after.holds target text) c.read_table_layers.ensures.frame.holds c.in-Ok.ensures.ok)) (rw c.grid.ensures.value at c.in-Err-print_stored_line.ensures.err) (c.in-Err-print_stored_line.ensures.frame.fault refl)
          (subst (λ (n : ℕ). TakesOnce (table ∷ []) before.holds before.taken n) (sym c.in-Ok.ensures.frame.taken) c.read_table_layers.ensures.once);
      bytes = λ is. of_bytes _ _ _ _ _ c.in_ok-layers.ensures.ok;
      folder = both g.F.Folder _ _ _ _ _ _ _ no_folder.2 c.read_table_layers.ensures.frame c.in-Ok.ensures.frame;
      output = c.print_stored_line.ensures.frame.faults;
    }

pub print_stored_line-requires-clause-bytes : goal.print_stored_line-requires-clause-bytes
print_stored_line-requires-clause-bytes g c = rw c.grid.ensures.value c.in-Ok.ensures.length
