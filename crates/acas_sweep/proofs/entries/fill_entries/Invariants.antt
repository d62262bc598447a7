use Rattle.std.proofs.Common.{◌≡◌, ◌+◌, ◌*◌, length, sum_by, take}
use Rattle.acas_sweep.specs.Best.{AreColumnBest}
use Rattle.acas_sweep.proofs.entries.fill_entries.Given as goal

abbrev pub invariant-loop-present : goal.invariant-loop-present
invariant-loop-present g l = record {
  best : AreColumnBest l.model l.means l.present l.entries;
  counted : l.count ≡ l.initial.count + length l.model.grid.h * sum_by (λ choices. length choices) (take l.present l.model.choices);
}
