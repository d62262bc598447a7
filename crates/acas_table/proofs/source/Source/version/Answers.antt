use Rattle.acas_table.proofs.Passed.{of_version, passed_fault, passed_ok}
use Rattle.acas_table.proofs.source.Source.version.Goals as goal

pub returns-in-Some-clause-reads : goal.returns-in-Some-clause-reads
returns-in-Some-clause-reads g c =
    passed_ok _ _ _ c.args.name.now c.args.self.now c.fill.new.self _ _ tt c.in-Some.format
    c.pass.ensures.steps c.pass.ensures.taken c.in_ok-fill.ensures.reads

pub returns-in-None-clause-reads : goal.returns-in-None-clause-reads
returns-in-None-clause-reads g c =
    passed_fault _ _ _ c.args.name.now c.args.self.now c.fill.new.self _ _ tt _ (of_version c.decode_number-found.result)
    c.pass.ensures.steps c.pass.ensures.taken c.in_ok-fill.ensures.reads
