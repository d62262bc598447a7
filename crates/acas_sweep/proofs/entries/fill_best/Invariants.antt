use Rattle.std.proofs.Common.{◌≡◌, ◌+◌, length, sum_by, take}
use Rattle.acas_sweep.specs.Best.{AreBest}
use Rattle.acas_sweep.proofs.entries.fill_best.Given as goal

abbrev pub invariant-loop-present : goal.invariant-loop-present
invariant-loop-present l = record {
  best : AreBest l.model l.vertex_means l.present l.entries;
  counted : l.count ≡ l.initial.count + sum_by (λ choices. length choices) (take l.present l.model.choices);
}
