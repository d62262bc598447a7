use Rattle.std.proofs.Common.{◌≡◌, ◌<◌, ◌++◌, List, ℕ, ◌∙◌, ap, subst, arith}
use Rattle.std.proofs.lemmas.Grind.{common_steps}
use Rattle.std.specs.List.{flat_map}
use Rattle.acas_cells.specs.Cells.{Cell, cells_of}
use Rattle.acas_outside.specs.Bytes.{AppendsPart}
use Rattle.acas_outside.proofs.Appended.{on_err_always}
use Rattle.acas_outside.specs.Printing.{Prints, below}
use Rattle.acas_outside.proofs.PrintedPieces.{part_of_below, prints_below}
use Rattle.acas_safeable.specs.Outlooks.{AreOutlooks}
use Rattle.acas_safeable.specs.SafeableText.{cell_text}
use Rattle.acas_safeable.specs.Walk.{cell_count, cells_below, counts_in, numbered_cell}
use Rattle.acas_safeable.specs.declared.outlook.Outlook.{Outlook}
use Rattle.acas_safeable.proofs.Numbering.{cells_numbered, next_cells}
use Rattle.acas_safeable.proofs.Texts.{numbered_lines}
use Rattle.acas_safeable.proofs.cells.write_cells.Goals as goal

pub returns-in_err-counts-clause-err : goal.returns-in_err-counts-clause-err
returns-in_err-counts-clause-err g c =
    let m = c.args.model.now in
    let a = c.args.advices.now in
    let old = g.S.Sink.written c.args.sink.now in
    let mid = g.S.Sink.written c.loop-number.sink in
    let new = g.S.Sink.written c.write_cell.new.sink in
    let here : c.loop-number.number < cell_count m = rw c.cell_count-number-end.ensures at c.loop-number-test.true in
    let part : (found : Cell → Outlook) → AreOutlooks m a found → AppendsPart old new (c.args.pen.now.buffer ++ flat_map (cell_text m a found) (cells_of m)) =
    λ found are.
    subst (λ (l : List ℕ). AppendsPart old new (c.args.pen.now.buffer ++ l)) (numbered_lines m (cell_text m a found))
    (part_of_below old mid new c.args.pen.now.buffer c.loop-number.pen.buffer (λ k. cell_text m a found (numbered_cell m k)) c.loop-number.number (cell_count m) here
    (c.loop-number.invariant.printed found are)
    (subst (λ (d : Cell). AppendsPart mid new (c.loop-number.pen.buffer ++ cell_text m a found d)) c.numbered_cell-cell.ensures.value (c.in_err-counts.ensures.err found are))) in
    on_err_always _ part

pub loop-number-preserved : goal.loop-number-preserved
loop-number-preserved g c =
    let m = c.args.model.now in
    let a = c.args.advices.now in
    let old = g.S.Sink.written c.args.sink.now in
    let mid = g.S.Sink.written c.loop-number.sink in
    let new = g.S.Sink.written c.write_cell.new.sink in
    record {
      few = omega (arith, c.loop-number.invariant.few, c.in_ok-counts.ensures.few);
      counted = λ found are.
          c.in_ok-counts.ensures.counted found (cells_below m c.loop-number.number) are (c.loop-number.invariant.counted found are)
          ∙ ap (counts_in m a found) (next_cells m c.loop-number.number _ c.numbered_cell-cell.ensures.value);
      printed = λ found are.
          prints_below old mid new c.args.pen.now.buffer c.loop-number.pen.buffer c.write_cell.new.pen.buffer (λ k. cell_text m a found (numbered_cell m k)) c.loop-number.number
          (c.loop-number.invariant.printed found are)
          (subst (λ (d : Cell). Prints mid new c.loop-number.pen.buffer c.write_cell.new.pen.buffer (cell_text m a found d)) c.numbered_cell-cell.ensures.value (c.in_ok-counts.ensures.ok found are));
      frame = grind arith;
    }

pub returns-clause-counted : goal.returns-clause-counted
returns-clause-counted g c =
    let m = c.args.model.now in
    let a = c.args.advices.now in
    let ends : c.loop-number.number ≡ cell_count m = omega (arith, c.loop-number-test.false, c.loop-number.auto.number-end, c.cell_count-number-end.ensures) in
    λ found are.
    c.loop-number.invariant.counted found are
    ∙ ap (λ (n : ℕ). counts_in m a found (cells_below m n)) ends
    ∙ ap (counts_in m a found) (cells_numbered m)

pub returns-clause-ok : goal.returns-clause-ok
returns-clause-ok g c =
    let m = c.args.model.now in
    let a = c.args.advices.now in
    let ends : c.loop-number.number ≡ cell_count m = omega (arith, c.loop-number-test.false, c.loop-number.auto.number-end, c.cell_count-number-end.ensures) in
    λ found are.
    subst (λ (l : List ℕ). Prints (g.S.Sink.written c.args.sink.now) (g.S.Sink.written c.loop-number.sink) c.args.pen.now.buffer c.loop-number.pen.buffer l)
    (ap (λ (n : ℕ). below n (λ k. cell_text m a found (numbered_cell m k))) ends ∙ numbered_lines m (cell_text m a found))
    (c.loop-number.invariant.printed found are)

pub loop-number-init : goal.loop-number-init
loop-number-init g c = grind (arith, common_steps)
