use Rattle.std.proofs.Common.{Ok, Err}
use Rattle.acas_table.specs.Reader.{Finishes, HasRead}
use Rattle.acas_accept.proofs.Steps.{end_answered, whole}
use Rattle.acas_table.proofs.Told.{told_map}
use Rattle.acas_accept.proofs.check.TableCheck.finish.Goals as goal

pub returns-in-Ok-clause-given : goal.returns-in-Ok-clause-given
returns-in-Ok-clause-given g c = λ m digest check.
    told_map _ c.args.name.now (λ bytes. HasRead digest c.args.self.now.reader bytes → Finishes digest c.args.self.now.reader.shape bytes (Ok c.in-Ok.field-0)) _
    (λ bytes ends accepted. whole _ m digest c.args.self.now bytes c.in-Ok.field-0 check accepted (ends accepted.stands))
    (c.in-Ok.ensures.given digest)

pub returns-in-Err-clause-given : goal.returns-in-Err-clause-given
returns-in-Err-clause-given g c = λ m digest check.
    told_map _ c.args.name.now (λ bytes. HasRead digest c.args.self.now.reader bytes → Finishes {X = Unit {0}} digest c.args.self.now.reader.shape bytes (Err c.in-Err.fault)) _
    (λ bytes ends accepted. end_answered (Unit {0}) m digest c.args.self.now bytes c.in-Err.fault c.refused.result c.refused.ensures.answered check accepted (ends accepted.stands))
    (c.in-Err.ensures.given digest)
