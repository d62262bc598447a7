use Rattle.std.proofs.Common.{◌≡◌, ◌+◌, ◌*◌, length}
use Rattle.acas_spec.specs.Model.{choices_at}
use Rattle.acas_sweep.specs.Best.{AreBestUnder, LeaveColumnOthers}
use Rattle.acas_sweep.proofs.entries.fill_twos.Given as goal

abbrev pub invariant-loop-n : goal.invariant-loop-n
invariant-loop-n l = record {
  best : AreBestUnder l.model l.means l.present (2 * l.n) l.entries;
  others : LeaveColumnOthers l.present l.initial.entries l.entries;
  counted : l.count ≡ l.initial.count + 2 * l.n * length (choices_at l.model l.present);
}
