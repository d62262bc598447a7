use Rattle.std.proofs.Common.{[], Ok, Err, refl, le_refl}
use Rattle.std.specs.FinMap.{get}
use Rattle.acas_outside.specs.Outside.{Outside, outside}
use Rattle.acas_outside.proofs.Once.{takes_none}
use Rattle.acas_command.specs.Outcome.{stores}
use Rattle.acas_command.specs.declared.status.Cause.TheVariants.{Folder, Output}
use Rattle.acas_command.proofs.Behind.{answers-done, answers-folder, answers-output, told-kept, told-part, told-stored}
use Rattle.acas_command.proofs.Files.{called-model}
use Rattle.acas_table_commands.specs.Calls.{compile_of}
use Rattle.acas_table_rows.specs.StoredLine.{compiled_line}
use Rattle.acas_table_rows.specs.TableFile.{compiled_text}
use Rattle.acas_table_commands.proofs.Ended.{no_folder, none, undone, wrote}
use Rattle.acas_table_commands.proofs.Swept.{answered}
use Rattle.acas_table_commands.proofs.Worth.{rest_of_compile}
use Rattle.acas_table_commands.proofs.compile_command.store_compiled.Goals as goal

pub returns-in_err-sweep : goal.returns-in_err-sweep
returns-in_err-sweep g c =
    rw (answered c.from_residual.result c.from_residual.ensures.1) (record {
      answers = λ model told. record { has_cause = tt; quiet = refl {a = g.O.Sink.written c.args.out.now}; told = told-kept (g.F.Folder.holds c.args.folder.now) (g.F.Folder.holds c.args.folder.now) refl; once = takes_none [] (g.F.Folder.holds c.args.folder.now) _ _ refl };
      folder = none g.F.Folder c.args.folder.now;
      output = le_refl _;
      rising = le_refl _;
      rising_turned = le_refl _;
      counted = undone.0;
      turns = undone.0;
      no_backups = λ ends. refl;
      no_turns = λ ends. refl;
    })

pub returns-in_err-writer : goal.returns-in_err-writer
returns-in_err-writer g c =
    rw (answered c.from_residual-in_err-writer.result c.from_residual-in_err-writer.ensures.1) (record {
      answers = λ model told. record { has_cause = tt; quiet = refl {a = g.O.Sink.written c.args.out.now}; told = told-kept (g.F.Folder.holds c.args.folder.now) (g.F.Folder.holds c.args.folder.now) refl; once = takes_none [] (g.F.Folder.holds c.args.folder.now) _ _ refl };
      folder = none g.F.Folder c.args.folder.now;
      output = le_refl _;
      rising = le_refl _;
      rising_turned = le_refl _;
      counted = undone.0;
      turns = undone.0;
      no_backups = λ ends. refl;
      no_turns = λ ends. refl;
    })

pub print_stored_line-requires-clause-bytes : goal.print_stored_line-requires-clause-bytes
print_stored_line-requires-clause-bytes g c = rw c.grid.ensures.value c.in-Ok.ensures.length

pub returns-in-Err : goal.returns-in-Err
returns-in-Err g c =
    let m = c.args.found.now.model in
    let digest = c.args.found.now.digest in
    let table = c.args.table.now in
    let before : Outside = outside g.F.Folder g.O.Sink c.args.folder.now c.args.out.now in
    let after : Outside = outside g.F.Folder g.O.Sink c.store_swept.new.folder c.args.out.now in record {
      answers = λ model told.
          answers-folder [] (λ files. compile_of (get files model) table) (stores table (compiled_text digest m) (compiled_line m.grid)) before after
          (called-model before.holds model digest m (λ files d n. rest_of_compile table d n) told)
          (told-part before.holds after.holds table (compiled_text digest m) c.in-Err.ensures.err) refl (c.in-Err.ensures.frame.fault refl)
          (takes_none [] before.holds before.taken after.taken c.in-Err.ensures.frame.taken);
      folder = wrote g.F.Folder _ _ _ (Err Folder) (λ is. refl) c.in-Err.ensures.frame;
      output = le_refl _;
      rising = c.store_swept.ensures.rising;
      rising_turned = c.store_swept.ensures.rising_turned;
      counted = undone.1;
      turns = undone.1;
      no_backups = λ never. absurd never;
      no_turns = λ never. absurd never;
    }

pub returns-in-Ok-print_stored_line : goal.returns-in-Ok-print_stored_line
returns-in-Ok-print_stored_line g c =
    let m = c.args.found.now.model in
    let digest = c.args.found.now.digest in
    let table = c.args.table.now in
    let before : Outside = outside g.F.Folder g.O.Sink c.args.folder.now c.args.out.now in
    let after : Outside = outside g.F.Folder g.O.Sink c.store_swept.new.folder c.print_stored_line.new.out in record {
      answers = λ model told.
          answers-done [] (λ files. compile_of (get files model) table) (stores table (compiled_text digest m) (compiled_line m.grid)) before after
          (called-model before.holds model digest m (λ files d n. rest_of_compile table d n) told) refl
          (told-stored before.holds after.holds table (compiled_text digest m) c.in-Ok.ensures.ok) (rw c.grid.ensures.value at c.in-Ok-print_stored_line.ensures.ok)
          (takes_none [] before.holds before.taken after.taken c.in-Ok.ensures.frame.taken);
      folder = wrote g.F.Folder _ _ _ (Ok tt) no_folder.0 c.in-Ok.ensures.frame;
      output = c.print_stored_line.ensures.frame.faults;
      rising = c.store_swept.ensures.rising;
      rising_turned = c.store_swept.ensures.rising_turned;
      counted = λ done. c.in-Ok.ensures.counted;
      turns = λ done. c.in-Ok.ensures.turns;
      no_backups = λ never. absurd never;
      no_turns = λ never. absurd never;
    }

pub returns : goal.returns
returns g c =
    let m = c.args.found.now.model in
    let digest = c.args.found.now.digest in
    let table = c.args.table.now in
    let before : Outside = outside g.F.Folder g.O.Sink c.args.folder.now c.args.out.now in
    let after : Outside = outside g.F.Folder g.O.Sink c.store_swept.new.folder c.print_stored_line.new.out in record {
      answers = λ model told.
          answers-output [] (λ files. compile_of (get files model) table) (stores table (compiled_text digest m) (compiled_line m.grid)) before after
          (called-model before.holds model digest m (λ files d n. rest_of_compile table d n) told) tt
          (told-stored before.holds after.holds table (compiled_text digest m) c.in-Ok.ensures.ok) (rw c.grid.ensures.value at c.in-Err-print_stored_line.ensures.err) (c.in-Err-print_stored_line.ensures.frame.fault refl)
          (takes_none [] before.holds before.taken after.taken c.in-Ok.ensures.frame.taken);
      folder = wrote g.F.Folder _ _ _ (Err Output) no_folder.1 c.in-Ok.ensures.frame;
      output = c.print_stored_line.ensures.frame.faults;
      rising = c.store_swept.ensures.rising;
      rising_turned = c.store_swept.ensures.rising_turned;
      counted = undone.2;
      turns = undone.2;
      no_backups = λ never. absurd never;
      no_turns = λ never. absurd never;
    }
