use Rattle.std.proofs.Common.{inr}
use Rattle.std.proofs.lemmas.Result.{on_ok_weaker, on_err_weaker}
use Rattle.acas_outside.proofs.Grown.{stores_then, stores_part, held_stored}
use Rattle.acas_outside.proofs.storing.store_file.Goals as goal

pub write_piece-requires-clause-held : goal.write_piece-requires-clause-held
write_piece-requires-clause-held g c = held_stored _ _ c.args.name.now _ c.in_ok-create.ensures.ok

pub returns-clause-ok : goal.returns-clause-ok
returns-clause-ok g c =
    on_ok_weaker _ (stores_then _ _ _ c.args.name.now _ c.args.bytes.now c.in_ok-create.ensures.ok) c.write_piece.ensures.ok

pub returns-clause-err : goal.returns-clause-err
returns-clause-err g c =
    on_err_weaker _ (λ part. inr (stores_part _ _ _ c.args.name.now c.args.bytes.now c.in_ok-create.ensures.ok part)) c.write_piece.ensures.err
