use Rattle.std.specs.Prelude.{⊤}
use Rattle.std.proofs.Common.{◌∙◌}
use Rattle.acas_table.proofs.Looks.{end_given}
use Rattle.acas_table.proofs.Passed.{reads_both}
use Rattle.acas_table.proofs.body.read_end.Goals as goal

pub returns-clause-given : goal.returns-clause-given
returns-clause-given g c =
    let done = c.in_ok-check_digest.ensures in
    end_given {X = Unit {0}} _ (λ x bytes. ⊤) _ _ c.args.name.now c.args.format c.args.shape.now c.last_group-last.result c.args.source.now c.check_digest.new.source _
    done.reads.frame.holds c.last_group-last.ensures (done.reads.taken.expected ∙ c.requires.stands.expected) done.given c.ends.ensures.given

pub returns-clause-reads : goal.returns-clause-reads
returns-clause-reads g c = reads_both g.F.Folder _ _ _ _ _ _ _ tt _ c.in_ok-check_digest.ensures.reads c.ends.ensures.reads
