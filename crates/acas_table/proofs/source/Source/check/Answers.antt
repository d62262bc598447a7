use Rattle.std.proofs.Common.{sym}
use Rattle.acas_table.proofs.Passed.{field_given, of_field, passed_fault, passed_ok}
use Rattle.acas_table.proofs.source.Source.check.Goals as goal

pub returns-in-Some-clause-given : goal.returns-in-Some-clause-given
returns-in-Some-clause-given g c =
    field_given _ c.args.name.now c.args.field.now c.width-width.result c.at_hand.result.now c.args.self.now c.fill.new.self c.in-Some.fault (sym c.in-Some.ensures.fault) c.width-width.ensures
    c.at_hand.ensures.value c.in_ok-fill.ensures.same.place c.in_ok-fill.ensures.given

pub returns-in-Some-clause-reads : goal.returns-in-Some-clause-reads
returns-in-Some-clause-reads g c =
    passed_fault _ _ _ c.args.name.now c.args.self.now c.fill.new.self _ _ tt _
    (of_field c.args.field.now c.at_hand.result.now c.in-Some.fault (sym c.in-Some.ensures.fault))
    c.pass.ensures.steps c.pass.ensures.taken c.in_ok-fill.ensures.reads

pub returns-in-None-clause-reads : goal.returns-in-None-clause-reads
returns-in-None-clause-reads g c =
    passed_ok _ _ _ c.args.name.now c.args.self.now c.fill.new.self _ _ tt tt
    c.pass.ensures.steps c.pass.ensures.taken c.in_ok-fill.ensures.reads
