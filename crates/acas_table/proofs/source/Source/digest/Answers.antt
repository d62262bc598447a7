use Rattle.std.proofs.Common.{Some}
use Rattle.acas_table.proofs.Ahead.{digest_of}
use Rattle.acas_table.proofs.source.Source.digest.Goals as goal

pub returns-clause-digest : goal.returns-clause-digest
returns-clause-digest c = λ bytes stands.
    digest_of c.args.self.now c.hash.new.self bytes _ c.hash.ensures.same c.hash.ensures.hashed c.finalize_reset.ensures.digest (c.hash.ensures.at (Some bytes) stands)
