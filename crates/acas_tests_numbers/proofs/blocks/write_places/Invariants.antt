use Rattle.std.proofs.Common.{◌≡◌}
use Rattle.acas_tests_numbers.proofs.blocks.write_places.Given as goal

abbrev pub invariant-loop-place : goal.invariant-loop-place
invariant-loop-place l = l.block.states ≡ l.states
