use Rattle.std.proofs.Common.{◌+◌, refl, subst, arith, rules}
use Rattle.acas_outside.specs.Bytes.{Appends, AppendsPart}
use Rattle.acas_outside.specs.Frame.{Emits}
use Rattle.acas_outside.specs.declared.sink.Sink.{Ghosts as SinkMeanings}
use Rattle.acas_outside.proofs.Appended.{on_err_always}
use Rattle.acas_outside.proofs.PrintedPieces.{part_of_waiting, prints_all}
use Rattle.acas_table_rows.proofs.SweptLines.{lines_added, lines_cut, out_added, out_cut}
use Rattle.acas_table_rows.proofs.TableLines.{values_text-behind_nothing}
use Rattle.acas_table_rows.proofs.swept_lines.print_table.Goals as goal

emits_then : {S A B : Type 0} (o : SinkMeanings S) (a b c : S) → Emits o b c A → (B → A) → Emits o a b ⊥ → Emits o a c B
emits_then o a b c second still first = record { faults = omega (arith, first.faults, second.faults); fault = λ failed. omega (arith, first.faults, second.fault (still failed)) }

pub returns-in-Err-Rows-clause-err : goal.returns-in-Err-Rows-clause-err
returns-in-Err-Rows-clause-err g c =
    let m = c.args.model.now in
    let whole = values_text-behind_nothing m c.args.pen.now.buffer c.requires.empty in
    subst (AppendsPart _ _) whole (lines_cut g.O.Sink m _ (m.grid.horizon + 1) c.sweep_to.new.rows _ refl c.in-Err-Rows.ensures.hands.err (search rules))

pub returns-in-Err-Rows-clause-frame : goal.returns-in-Err-Rows-clause-frame
returns-in-Err-Rows-clause-frame g c =
    out_cut g.O.Sink c.args.model.now _ (c.args.model.now.grid.horizon + 1) c.sweep_to.new.rows _ refl c.in-Err-Rows.ensures.hands.err (search rules) c.in-Err-Rows.ensures.hands.failed

pub returns-in_err-flush-in-Ok-clause-err : goal.returns-in_err-flush-in-Ok-clause-err
returns-in_err-flush-in-Ok-clause-err g c =
    let m = c.args.model.now in
    let whole = values_text-behind_nothing m c.args.pen.now.buffer c.requires.empty in
    on_err_always _ (subst (AppendsPart _ _) whole
    (part_of_waiting _ _ _ _ _ _ (lines_added g.O.Sink m _ (m.grid.horizon + 1) c.sweep_to.new.rows _ _ refl c.in-Ok.ensures.hands.ok (search rules) (search rules)) c.in_err-flush-in-Ok.ensures.err))

pub returns-in_err-flush-in-Ok-clause-frame : goal.returns-in_err-flush-in-Ok-clause-frame
returns-in_err-flush-in-Ok-clause-frame g c =
    emits_then g.O.Sink _ _ _ c.in_err-flush-in-Ok.ensures.frame (λ failed. refl)
    (out_added g.O.Sink c.args.model.now _ (c.args.model.now.grid.horizon + 1) c.sweep_to.new.rows _ refl c.in-Ok.ensures.hands.ok (search rules) (λ no. no))

pub returns-in_ok-flush-in-Ok-clause-ok : goal.returns-in_ok-flush-in-Ok-clause-ok
returns-in_ok-flush-in-Ok-clause-ok g c =
    let m = c.args.model.now in
    let whole = values_text-behind_nothing m c.args.pen.now.buffer c.requires.empty in
    subst (Appends _ _) whole
    (prints_all _ _ _ _ _ _ (lines_added g.O.Sink m _ (m.grid.horizon + 1) c.sweep_to.new.rows _ _ refl c.in-Ok.ensures.hands.ok (search rules) (search rules)) c.in_ok-flush-in-Ok.ensures.ok)

pub returns-in_ok-flush-in-Ok-clause-frame : goal.returns-in_ok-flush-in-Ok-clause-frame
returns-in_ok-flush-in-Ok-clause-frame g c =
    emits_then g.O.Sink _ _ _ c.in_ok-flush-in-Ok.ensures.frame (λ failed. failed)
    (out_added g.O.Sink c.args.model.now _ (c.args.model.now.grid.horizon + 1) c.sweep_to.new.rows _ refl c.in-Ok.ensures.hands.ok (search rules) (λ no. no))
