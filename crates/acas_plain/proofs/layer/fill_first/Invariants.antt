use Rattle.std.proofs.Common.{ℕ, ◌<◌}
use Rattle.acas_process.specs.Compiled.{compiled}
use Rattle.acas_means.specs.Entries.{IsStateEntry}
use Rattle.acas_sweep.specs.Entries.{listed_entry}
use Rattle.acas_plain.proofs.layer.fill_first.Given as goal

abbrev pub invariant-loop-state : goal.invariant-loop-state
invariant-loop-state l = (s : ℕ) → s < l.state → IsStateEntry l.model (compiled l.model) 0 s (listed_entry l.pairs l.advice s)
