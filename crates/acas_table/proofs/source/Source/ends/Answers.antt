use Rattle.acas_table.proofs.Ahead.{ends_given}
use Rattle.acas_table.proofs.source.Source.ends.Goals as goal

pub returns-in-Err-Length-clause-given : goal.returns-in-Err-Length-clause-given
returns-in-Err-Length-clause-given g c = ends_given _ _ c.args.name.now c.args.self.now c.fill.new.self _ _ _ c.in-Err-Length.field-0-is c.requires.place c.in-Err-Length.ensures.given
