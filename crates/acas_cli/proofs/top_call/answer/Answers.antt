use Rattle.std.proofs.Common.{refl, arith, rules}
use Rattle.acas_outside.specs.Outside.{Outside, outside}
use Rattle.acas_command.specs.Answers.{ended, report_ended}
use Rattle.acas_box_commands.proofs.RegionsWorth.{regions-worth}
use Rattle.acas_rulings.specs.Intruder.{Manoeuvre}
use Rattle.acas_box_commands.proofs.ManoeuvreWorth.{manoeuvre-worth}
use Rattle.acas_table_commands.proofs.Worth.{compile-worth, values-worth}
use Rattle.acas_cli.proofs.FolderFrames.{folder-ended, folder-report_ended}
use Rattle.acas_cli.proofs.top_call.answer.Goals as goal

pub returns-in-Values : goal.returns-in-Values
returns-in-Values g c =
    rw (c.in-Values.is, c.cause_of.ensures)
    (record {
      answers = c.values.ensures.answers;
      headline = values-worth c.in-Values.model.now (ended c.values.result) _ _ c.values.ensures.answers;
      work = record { sweep = c.values.ensures.work; decisions = refl };
      rising = record { backups = c.values.ensures.rising; turned = c.values.ensures.rising_turned; decisions = omega arith };
      folder = folder-ended g.F.Folder c.args.folder.now c.values.new.folder c.values.result c.values.ensures.folder;
      output = c.values.ensures.output;
    })

pub returns-in-Compile : goal.returns-in-Compile
returns-in-Compile g c =
    rw (c.in-Compile.is, c.cause_of-in-Compile.ensures)
    (record {
      answers = c.compile.ensures.answers;
      headline = compile-worth c.in-Compile.model.now c.in-Compile.table.now (ended c.compile.result) _ _ c.compile.ensures.answers;
      work = record { sweep = c.compile.ensures.work; decisions = refl };
      rising = record { backups = c.compile.ensures.rising; turned = c.compile.ensures.rising_turned; decisions = omega arith };
      folder = folder-ended g.F.Folder c.args.folder.now c.compile.new.folder c.compile.result c.compile.ensures.folder;
      output = c.compile.ensures.output;
    })

pub returns-in-Regions : goal.returns-in-Regions
returns-in-Regions g c =
    rw (c.in-Regions.is, c.cause_of_report.ensures)
    (record {
      answers = c.regions.ensures.answers;
      headline = regions-worth c.in-Regions.model.now c.in-Regions.boxes.now (report_ended c.regions.result) _ _ c.regions.ensures.answers;
      work = refl;
      rising = record { backups = omega arith; turned = omega arith; decisions = omega arith };
      folder = folder-report_ended g.F.Folder c.args.folder.now c.regions.new.folder c.regions.result c.regions.ensures.folder;
      output = c.regions.ensures.output;
    })

pub returns-in-Manoeuvre : goal.returns-in-Manoeuvre
returns-in-Manoeuvre g c =
    let model = c.in-Manoeuvre.model.now in
    let boxes = c.in-Manoeuvre.boxes.now in
    let may : Manoeuvre = record { accel = c.in-Manoeuvre.accel; rate = c.in-Manoeuvre.rate } in
    let answers = rw c.manoeuvre_of-may.ensures at c.manoeuvre.ensures.answers in
    rw (c.in-Manoeuvre.is, c.cause_of_report-in-Manoeuvre.ensures)
    (record {
      answers = answers;
      headline = manoeuvre-worth model boxes may (report_ended c.manoeuvre.result) _ _ answers;
      work = refl;
      rising = record { backups = omega arith; turned = omega arith; decisions = omega arith };
      folder = folder-report_ended g.F.Folder c.args.folder.now c.manoeuvre.new.folder c.manoeuvre.result c.manoeuvre.ensures.folder;
      output = c.manoeuvre.ensures.output;
    })

pub returns-in-Drill : goal.returns-in-Drill
returns-in-Drill g c =
    let before : Outside = outside g.F.Folder g.O.Sink c.args.folder.now c.args.out.now in
    let after : Outside = outside g.F.Folder g.O.Sink c.args.folder.now c.drill.new.out in
    rw c.in-Drill.is
    (record {
      answers = record { alone = refl {a = after}; answered = λ holds. c.drill.ensures.answers (record before { holds = holds }); ends = c.drill.ensures.ends };
      headline = c.drill.ensures.headline before;
      work = refl;
      rising = record { backups = omega arith; turned = omega arith; decisions = omega arith };
      folder = search rules;
      output = c.drill.ensures.output;
    })
