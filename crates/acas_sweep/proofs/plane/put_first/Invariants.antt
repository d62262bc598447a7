use Rattle.std.proofs.Common.{ℕ, ◌%◌, ◌<◌}
use Rattle.acas_spec.specs.Model.{states, vertices}
use Rattle.acas_process.specs.Compiled.{compiled}
use Rattle.acas_means.specs.Entries.{IsStateEntry}
use Rattle.acas_sweep.specs.Entries.{listed_entry}
use Rattle.acas_sweep.specs.Filled.{IsFilledTo, pairs_in}
use Rattle.acas_sweep.specs.Turns.{turn}
use Rattle.acas_sweep.proofs.plane.put_first.Given as goal

abbrev pub invariant-loop-count : goal.invariant-loop-count
invariant-loop-count l = record {
  first : (s : ℕ) → s < states l.model.grid → turn l.model.grid (s % vertices l.model.grid) < l.count → IsStateEntry l.model (compiled l.model) 0 s (listed_entry (pairs_in l.block.work) l.advice s);
  filled : IsFilledTo l.model.grid l.count 0 l.block;
}
