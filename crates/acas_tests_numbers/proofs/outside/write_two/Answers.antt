use Rattle.acas_outside.proofs.Grown.{held_stored, held_grown}
use Rattle.acas_tests_numbers.proofs.outside.write_two.Goals as goal

pub write_piece-requires-clause-held : goal.write_piece-requires-clause-held
write_piece-requires-clause-held g c = held_stored _ _ _ _ c.in_ok-create.ensures.ok

pub write_piece-requires-2-clause-held : goal.write_piece-requires-2-clause-held
write_piece-requires-2-clause-held g c = held_grown _ _ _ _ c.in_ok-write_piece.ensures.ok
