use Rattle.std.proofs.Common.{◌≡◌, ℕ, ◌<◌, List, [], length, subst, arith}
use Rattle.std.proofs.Math.Nat.{mul-le-mul_left}
use Rattle.std.proofs.lemmas.Grind.{common_steps}
use Rattle.std.proofs.lemmas.List.Sums.{sum_by_more, sum_by_more_le}
use Rattle.acas_units.specs.declared.pair.Entry.{Entry}
use Rattle.acas_sweep.specs.Best.{AreColumnBest}
use Rattle.acas_sweep.proofs.BestEntries.{column_best_next, column_entries_over, column_leaves_room}
use Rattle.acas_sweep.proofs.entries.fill_entries.Goals as goal

pub fill_present-requires-clause-means : goal.fill_present-requires-clause-means
fill_present-requires-clause-means g c =
    column_leaves_room c.args.model.now c.args.below.now c.args.column c.fill_column.new.means c.grid.ensures.valid c.requires.below c.fill_column.ensures.means c.requires.small

pub fill_present-requires-clause-count : goal.fill_present-requires-clause-count
fill_present-requires-clause-count g c =
    let m = c.args.model.now in
    let present = c.loop-present.present in
    let known : present < length m.choices = omega (arith, c.loop-present-test.true, c.advisory_count-present-end.ensures.value, c.grid.ensures.valid.choice_count) in
    omega (arith, c.loop-present.invariant.counted, c.requires.count, mul-le-mul_left (length m.grid.h) (sum_by_more_le (λ choices. length choices) m.choices present [] known))

pub loop-present-preserved : goal.loop-present-preserved
loop-present-preserved g c =
    let m = c.args.model.now in
    let present = c.loop-present.present in
    let so_far = c.loop-present.invariant in
    let filled = c.fill_present.ensures in
    let known : present < length m.choices = omega (arith, c.loop-present-test.true, c.advisory_count-present-end.ensures.value, c.grid.ensures.valid.choice_count) in
    record {
      best = column_best_next m c.fill_column.new.means present c.loop-present.entries c.fill_present.new.entries so_far.best filled.others filled.best;
      counted = rw (sum_by_more (λ choices. length choices) m.choices present [] known) (omega (arith, so_far.counted, filled.count));
    }

pub returns-clause-entries : goal.returns-clause-entries
returns-clause-entries g c =
    let m = c.args.model.now in
    let means = c.fill_column.new.means in
    let lists : List (List Entry) = c.loop-present.entries in
    let all : c.loop-present.present ≡ m.grid.advisories = omega (arith, c.loop-present-test.false, c.loop-present.auto.present-end, c.advisory_count-present-end.ensures.value) in
    column_entries_over m c.args.below.now c.args.column means lists c.grid.ensures.valid c.fill_column.ensures.means
    (subst (λ (count : ℕ). AreColumnBest m means count lists) all c.loop-present.invariant.best)

pub returns-clause-count : goal.returns-clause-count
returns-clause-count g c = grind (arith, common_steps)
