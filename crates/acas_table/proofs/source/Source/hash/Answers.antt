use Rattle.std.proofs.Common.{◌-◌, refl, ap, List, ℕ}
use Rattle.acas_table_text.specs.Format.{part}
use Rattle.acas_table.proofs.Ahead.{hashed_file}
use Rattle.acas_table.proofs.source.Source.hash.Goals as goal

pub returns-clause-at : goal.returns-clause-at
returns-clause-at c = λ file.
    hashed_file file c.args.self.now _ _
    (ap (λ (l : List ℕ). part l c.args.self.now.hashed (c.args.self.now.from - c.args.self.now.hashed)) c.deref.ensures.value)
    refl refl refl refl refl refl c.update.ensures
