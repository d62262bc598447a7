use Rattle.std.proofs.Common.{refl, arith}
use Rattle.acas_command.specs.Answers.{ended, report_ended}
use Rattle.acas_cell_commands.proofs.AuditWorth.{audit-worth}
use Rattle.acas_encounter_commands.proofs.Worth.{replay-worth}
use Rattle.acas_risk_commands.proofs.Worth.{risk-worth}
use Rattle.acas_cell_commands.proofs.SafeableWorth.{safeable-worth}
use Rattle.acas_check_commands.proofs.MigratedTables.{migrate-worth}
use Rattle.acas_check_commands.proofs.Worth.{check-worth}
use Rattle.acas_cli.proofs.FolderFrames.{folder-ended, folder-report_ended}
use Rattle.acas_cli.proofs.top_call.answer_on_table.Goals as goal

pub returns-in-Check : goal.returns-in-Check
returns-in-Check g c =
    rw (c.in-Check.is, c.cause_of.ensures)
    (record {
      answers = c.check.ensures.answers;
      headline = check-worth c.args.model.now c.args.table.now (ended c.check.result) _ _ c.check.ensures.answers c.check.ensures.bytes;
      work = refl;
      rising = record { backups = omega arith; turned = omega arith; decisions = omega arith };
      folder = folder-ended g.F.Folder c.args.folder.now c.check.new.folder c.check.result c.check.ensures.folder;
      output = c.check.ensures.output;
    })

pub returns-in-Risk : goal.returns-in-Risk
returns-in-Risk g c =
    rw (c.in-Risk.is, c.cause_of-in-Risk.ensures)
    (record {
      answers = c.risk.ensures.answers;
      headline = risk-worth c.args.model.now c.args.table.now (ended c.risk.result) _ _ c.risk.ensures.answers c.risk.ensures.bytes;
      work = refl;
      rising = record { backups = omega arith; turned = omega arith; decisions = omega arith };
      folder = folder-ended g.F.Folder c.args.folder.now c.risk.new.folder c.risk.result c.risk.ensures.folder;
      output = c.risk.ensures.output;
    })

pub returns-in-Audit : goal.returns-in-Audit
returns-in-Audit g c =
    rw (c.in-Audit.is, c.cause_of_report.ensures)
    (record {
      answers = c.audit.ensures.answers;
      headline = audit-worth c.args.model.now c.args.table.now c.in-Audit.which (report_ended c.audit.result) _ _ c.audit.ensures.answers;
      work = record { audit = c.audit.ensures.work; backups = refl; turned = refl };
      rising = record { backups = omega arith; turned = omega arith; decisions = c.audit.ensures.rising };
      folder = folder-report_ended g.F.Folder c.args.folder.now c.audit.new.folder c.audit.result c.audit.ensures.folder;
      output = c.audit.ensures.output;
    })

pub returns-in-Safeable : goal.returns-in-Safeable
returns-in-Safeable g c =
    rw (c.in-Safeable.is, c.cause_of_report-in-Safeable.ensures)
    (record {
      answers = c.safeable.ensures.answers;
      headline = safeable-worth c.args.model.now c.args.table.now (report_ended c.safeable.result) _ _ c.safeable.ensures.answers;
      work = refl;
      rising = record { backups = omega arith; turned = omega arith; decisions = omega arith };
      folder = folder-report_ended g.F.Folder c.args.folder.now c.safeable.new.folder c.safeable.result c.safeable.ensures.folder;
      output = c.safeable.ensures.output;
    })

pub returns-in-Replay : goal.returns-in-Replay
returns-in-Replay g c =
    rw (c.in-Replay.is, c.cause_of-in-Replay.ensures)
    (record {
      answers = c.replay.ensures.answers;
      headline = replay-worth c.args.model.now c.args.table.now c.in-Replay.encounter.now (ended c.replay.result) _ _ c.replay.ensures.answers;
      work = refl;
      rising = record { backups = omega arith; turned = omega arith; decisions = omega arith };
      folder = folder-ended g.F.Folder c.args.folder.now c.replay.new.folder c.replay.result c.replay.ensures.folder;
      output = c.replay.ensures.output;
    })

pub returns-in-Migrate : goal.returns-in-Migrate
returns-in-Migrate g c =
    rw (c.in-Migrate.is, c.cause_of-in-Migrate.ensures)
    (record {
      answers = c.migrate.ensures.answers;
      headline = migrate-worth c.args.model.now c.args.table.now c.in-Migrate.target.now (ended c.migrate.result) _ _ c.migrate.ensures.answers c.migrate.ensures.bytes;
      work = refl;
      rising = record { backups = omega arith; turned = omega arith; decisions = omega arith };
      folder = folder-ended g.F.Folder c.args.folder.now c.migrate.new.folder c.migrate.result c.migrate.ensures.folder;
      output = c.migrate.ensures.output;
    })
