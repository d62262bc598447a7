use Rattle.std.proofs.Common.{◌≡◌, ◌+◌, ◌-◌, ◌*◌, ◌≤◌}
use Rattle.acas_plain.specs.Below.{AreBelow}
use Rattle.acas_sweep.specs.Layers.{layer_backups}
use Rattle.acas_plain.proofs.list.fill_layers.Given as goal

abbrev pub invariant-loop-n : goal.invariant-loop-n
invariant-loop-n l = record {
  some : 1 ≤ l.n;
  below : AreBelow l.model l.n l.pairs l.advice;
  counted : l.count ≡ l.initial.count + (l.n - 1) * layer_backups l.model;
}
