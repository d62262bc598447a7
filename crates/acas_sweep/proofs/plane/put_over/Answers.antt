use Rattle.std.proofs.Common.{◌≡◌, ◌+◌, ◌*◌, ◌≤◌, List, length, ap, subst, sym, ◌∙◌, arith}
use Rattle.std.proofs.Math.Nat.{mul-le-mul_right}
use Rattle.std.proofs.lemmas.Grind.{common_steps}
use Rattle.acas_spec.specs.Model.{GridData, vertices}
use Rattle.acas_units.specs.declared.pair.Pair.{Pair}
use Rattle.acas_means.specs.Choices.{choice_count}
use Rattle.acas_means.specs.Columns.{columns}
use Rattle.acas_means.proofs.ColumnLaws.{all_columns}
use Rattle.acas_sweep.specs.Entries.{AreSmall}
use Rattle.acas_sweep.proofs.Over.{small_within}
use Rattle.acas_sweep.proofs.plane.put_over.Goals as goal

pub loop-column-init : goal.loop-column-init
loop-column-init g c = grind (arith, common_steps)

pub fill_entries-requires-clause-column : goal.fill_entries-requires-clause-column
fill_entries-requires-clause-column g c = grind (arith, common_steps)

pub fill_entries-requires-clause-below : goal.fill_entries-requires-clause-below
fill_entries-requires-clause-below g c = grind (arith, common_steps)

pub fill_entries-requires-clause-small : goal.fill_entries-requires-clause-small
fill_entries-requires-clause-small g c =
    let below : c.finished-in-loop-column.result.now ≡ c.args.block.now.finished = c.finished-in-loop-column.ensures ∙ c.loop-column.invariant.finished in
    small_within c.finished-in-loop-column.result.now (subst (λ (l : List Pair). AreSmall l) (sym below) c.requires.below.small)

pub fill_entries-requires-clause-count : goal.fill_entries-requires-clause-count
fill_entries-requires-clause-count g c =
    let m = c.args.model.now in
    let here : c.loop-column.column + 1 ≤ columns m.grid = omega (arith, c.loop-column-test.true, c.column_count-column-end.ensures, ap (λ (g : GridData). columns g) c.grid.ensures.value) in
    let turns : (c.loop-column.column + 1) * length m.grid.h ≤ vertices m.grid = omega (arith, all_columns m.grid, mul-le-mul_right (length m.grid.h) here) in
    omega (arith, c.loop-column.invariant.counted, c.requires.count, mul-le-mul_right (choice_count m) turns)

pub put_column-requires-clause-column : goal.put_column-requires-clause-column
put_column-requires-clause-column g c = grind (arith, common_steps)

pub loop-column-preserved : goal.loop-column-preserved
loop-column-preserved g c = grind (arith, common_steps)

pub returns-clause-over : goal.returns-clause-over
returns-clause-over g c = grind (arith, common_steps)

pub returns-clause-filled : goal.returns-clause-filled
returns-clause-filled g c = grind (arith, common_steps)

pub returns-clause-count : goal.returns-clause-count
returns-clause-count g c = grind (arith, common_steps)
