use Rattle.std.proofs.Common.{refl}
use Rattle.acas_table.proofs.Ahead.{passed}
use Rattle.acas_table.proofs.source.Source.pass.Goals as goal

pub returns-clause-at : goal.returns-clause-at
returns-clause-at c = λ bytes stands. passed c.args.self.now _ bytes c.args.count c.requires.there c.requires.bytes refl refl refl refl refl refl refl stands
