use Rattle.std.specs.Prelude.{⊤}
use Rattle.std.proofs.Common.{◌≡◌, ◌∙◌, ap, sym, arith}
use Rattle.std.proofs.lemmas.Grind.{common_steps}
use Rattle.acas_table_text.specs.Text.{entry_at}
use Rattle.acas_table.proofs.Looks.{alone_given, moved_given, passed_given, stopped_given}
use Rattle.acas_table.proofs.Standing.{behind_ended, start_behind}
use Rattle.acas_table.proofs.Answered.{answered}
use Rattle.acas_table.proofs.body.read_entry.Goals.{in-Some+in_ok-check_digest, in_default}
use Rattle.acas_table.proofs.body.read_entry.Goals as goal

pub returns-in_err-check_digest-clause-given : goal.returns-in_err-check_digest-clause-given
returns-in_err-check_digest-clause-given g c =
    stopped_given {X = Unit {0}} (λ x bytes. ⊤) (λ entry bytes. entry ≡ entry_at c.args.shape.now bytes c.args.index) _ c.args.name.now c.args.format c.args.shape.now c.args.index c.in-Some.group c.args.source.now
    c.check_digest.new.source _ c.from_residual.result (answered _ c.from_residual.ensures.1) (sym c.in-Some.is ∙ c.requires.ended) c.in_err-check_digest.ensures.given

pub returns-clause-given : goal.returns-clause-given
returns-clause-given g c =
    let s = c.args.shape.now in
    elim c.match-ended.branch [
      | in-Some+in_ok-check_digest w ↦
          let digest = w.in_ok-check_digest.ensures in
          passed_given {X = Unit {0}} _ (λ x bytes. ⊤) (λ entry bytes. entry ≡ entry_at s bytes c.args.index) _ _ c.args.name.now c.args.format s c.args.index w.in-Some.group c.args.source.now w.check_digest.new.source
          c.read_bytes.new.source c.read_bytes.result digest.reads.frame.holds (sym w.in-Some.is ∙ c.requires.ended) digest.given
          (moved_given (λ entry bytes. entry ≡ entry_at s bytes c.args.index) (g.F.Folder.holds w.check_digest.new.folder) (g.F.Folder.holds c.match-ended.folder) c.args.name.now c.args.format s c.args.index
          w.check_digest.new.source c.match-ended.source c.read_bytes.new.source c.read_bytes.result (ap (λ (folder : g.row.F.Denot). g.F.Folder.holds folder) w.folder-is) w.source-is c.read_bytes.ensures.given)
      | in_default w ↦
          alone_given (λ entry bytes. entry ≡ entry_at s bytes c.args.index) _ c.args.name.now c.args.format s c.args.index c.args.source.now _ _ (sym w.in_default.is ∙ c.requires.ended)
          (moved_given (λ entry bytes. entry ≡ entry_at s bytes c.args.index) (g.F.Folder.holds c.args.folder.now) (g.F.Folder.holds c.match-ended.folder) c.args.name.now c.args.format s c.args.index
          c.args.source.now c.match-ended.source c.read_bytes.new.source c.read_bytes.result (ap (λ (folder : g.row.F.Denot). g.F.Folder.holds folder) w.folder-is) w.source-is c.read_bytes.ensures.given)
    ]

pub returns-in_err-check_digest-clause-reads : goal.returns-in_err-check_digest-clause-reads
returns-in_err-check_digest-clause-reads g c = grind (arith, common_steps)

pub returns-clause-reads : goal.returns-clause-reads
returns-clause-reads g c = grind (arith, common_steps)

pub returns-clause-mark : goal.returns-clause-mark
returns-clause-mark g c = grind (arith, common_steps)

pub read_bytes-requires-clause-stands : goal.read_bytes-requires-clause-stands
read_bytes-requires-clause-stands g c = grind (arith, behind_ended, start_behind)

pub returns-clause-place : goal.returns-clause-place
returns-clause-place g c = grind (arith, behind_ended, start_behind)
