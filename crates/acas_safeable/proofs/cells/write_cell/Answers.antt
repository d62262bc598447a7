use Rattle.std.proofs.Common.{◌≡◌, true, ◌<◌, ◌++◌, List, ℕ, ◌∙◌, sym, subst, arith}
use Rattle.std.proofs.lemmas.Grind.{common_steps}
use Rattle.acas_cells.specs.Cells.{Cell, cell_at}
use Rattle.acas_cells.specs.Corners.{is_clear_cell}
use Rattle.acas_outside.specs.Bytes.{AppendsPart}
use Rattle.acas_outside.proofs.Appended.{on_err_always}
use Rattle.acas_outside.specs.Printing.{Prints}
use Rattle.acas_safeable.specs.Outlooks.{AreOutlooks, is_looked_at}
use Rattle.acas_safeable.specs.SafeableText.{cell_text}
use Rattle.acas_safeable.specs.declared.outlook.Outlook.{Outlook}
use Rattle.acas_safeable.proofs.Counting.{counted_looked}
use Rattle.acas_safeable.proofs.SomeOutlooks.{found_is, looked_both, not_clear, not_later, outlook_named}
use Rattle.acas_safeable.proofs.Texts.{looked_text, prints_unlooked}
use Rattle.acas_safeable.proofs.cells.write_cell.Goals as goal

pub returns-then-not-is_clear-clause-ok : goal.returns-then-not-is_clear-clause-ok
returns-then-not-is_clear-clause-ok g c =
    let m = c.args.model.now in
    let a = c.args.advices.now in
    let t = c.args.cell.now in
    let cell = cell_at t.n t.present t.i t.j t.k in
    λ found are. prints_unlooked m a found cell _ _ (not_clear m a cell (sym {b = is_clear_cell m a cell} c.is_clear.ensures ∙ c.if-not-is_clear.true))

pub returns-then-cell-eq0-clause-ok : goal.returns-then-cell-eq0-clause-ok
returns-then-cell-eq0-clause-ok g c =
    let m = c.args.model.now in
    let a = c.args.advices.now in
    let t = c.args.cell.now in
    let cell = cell_at t.n t.present t.i t.j t.k in
    λ found are. prints_unlooked m a found cell _ _ (not_later m a cell (omega (arith, c.if-cell-eq0.true)))

pub write_cell_line-requires-clause-outlook : goal.write_cell_line-requires-clause-outlook
write_cell_line-requires-clause-outlook g c =
    let t = c.args.cell.now in
    outlook_named c.args.model.now (cell_at t.n t.present t.i t.j t.k) c.standing-outlook.result c.grid.ensures.valid c.standing-outlook.ensures

pub returns-in_err-print-clause-err : goal.returns-in_err-print-clause-err
returns-in_err-print-clause-err g c =
    let m = c.args.model.now in
    let a = c.args.advices.now in
    let t = c.args.cell.now in
    let cell = cell_at t.n t.present t.i t.j t.k in
    let later : 0 < t.n = omega (arith, c.if-cell-eq0.false) in
    let looked : is_looked_at m a cell ≡ true = looked_both m a cell (sym {b = is_clear_cell m a cell} c.is_clear.ensures ∙ c.if-not-is_clear.false) later in
    let part : (found : Cell → Outlook) → AreOutlooks m a found → AppendsPart (g.S.Sink.written c.args.sink.now) (g.S.Sink.written c.print.new.sink) (c.args.pen.now.buffer ++ cell_text m a found cell) =
    λ found are.
    let same : c.standing-outlook.result ≡ found cell = found_is m a found cell c.standing-outlook.result c.grid.ensures.valid c.requires.cell looked c.standing-outlook.ensures are in
    subst (λ (l : List ℕ). AppendsPart (g.S.Sink.written c.args.sink.now) (g.S.Sink.written c.print.new.sink) (c.args.pen.now.buffer ++ l))
    (c.bytes.ensures ∙ c.write_cell_line.ensures.value ∙ looked_text m a found cell c.standing-outlook.result looked same) c.in_err-print.ensures.err in
    on_err_always _ part

pub returns-clause-counted : goal.returns-clause-counted
returns-clause-counted g c =
    let m = c.args.model.now in
    let a = c.args.advices.now in
    let t = c.args.cell.now in
    let cell = cell_at t.n t.present t.i t.j t.k in
    let later : 0 < t.n = omega (arith, c.if-cell-eq0.false) in
    let looked : is_looked_at m a cell ≡ true = looked_both m a cell (sym {b = is_clear_cell m a cell} c.is_clear.ensures ∙ c.if-not-is_clear.false) later in
    λ found before are counted.
    let same : c.standing-outlook.result ≡ found cell = found_is m a found cell c.standing-outlook.result c.grid.ensures.valid c.requires.cell looked c.standing-outlook.ensures are in
    c.with.ensures ∙ counted_looked m a found before cell c.args.counts.now c.standing-outlook.result looked same counted

pub returns-clause-ok : goal.returns-clause-ok
returns-clause-ok g c =
    let m = c.args.model.now in
    let a = c.args.advices.now in
    let t = c.args.cell.now in
    let cell = cell_at t.n t.present t.i t.j t.k in
    let later : 0 < t.n = omega (arith, c.if-cell-eq0.false) in
    let looked : is_looked_at m a cell ≡ true = looked_both m a cell (sym {b = is_clear_cell m a cell} c.is_clear.ensures ∙ c.if-not-is_clear.false) later in
    λ found are.
    let same : c.standing-outlook.result ≡ found cell = found_is m a found cell c.standing-outlook.result c.grid.ensures.valid c.requires.cell looked c.standing-outlook.ensures are in
    subst (λ (l : List ℕ). Prints (g.S.Sink.written c.args.sink.now) (g.S.Sink.written c.print.new.sink) c.args.pen.now.buffer c.print.new.self l)
    (c.bytes.ensures ∙ c.write_cell_line.ensures.value ∙ looked_text m a found cell c.standing-outlook.result looked same) c.in_ok-print.ensures.ok

pub returns-then-not-is_clear-clause-counted : goal.returns-then-not-is_clear-clause-counted
returns-then-not-is_clear-clause-counted g c = grind (arith, common_steps)

pub returns-then-cell-eq0-clause-counted : goal.returns-then-cell-eq0-clause-counted
returns-then-cell-eq0-clause-counted g c = grind (arith, common_steps)

pub returns-then-not-is_clear-clause-frame : goal.returns-then-not-is_clear-clause-frame
returns-then-not-is_clear-clause-frame g c = grind (arith, common_steps)

pub returns-then-cell-eq0-clause-frame : goal.returns-then-cell-eq0-clause-frame
returns-then-cell-eq0-clause-frame g c = grind (arith, common_steps)

pub returns-in_err-print-clause-frame : goal.returns-in_err-print-clause-frame
returns-in_err-print-clause-frame g c = grind (arith, common_steps)

pub returns-clause-frame : goal.returns-clause-frame
returns-clause-frame g c = grind (arith, common_steps)
