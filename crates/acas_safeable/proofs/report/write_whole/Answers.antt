use Rattle.std.proofs.Common.{◌∙◌, ap, subst, List, ℕ, ◌++◌}
use Rattle.std.specs.List.{flat_map}
use Rattle.acas_cells.specs.Cells.{Cell, cells_of}
use Rattle.acas_outside.specs.Bytes.{Appends, AppendsPart}
use Rattle.acas_outside.proofs.Appended.{on_err_always}
use Rattle.acas_safeable.specs.Outlooks.{AreOutlooks}
use Rattle.acas_safeable.specs.SafeableText.{cell_text, counts_of, counts_text, safeable_text}
use Rattle.acas_safeable.specs.declared.outlook.Outlook.{Outlook}
use Rattle.acas_safeable.proofs.Texts.{part_at_last, part_before_last, whole_text}
use Rattle.acas_safeable.proofs.report.write_whole.Goals as goal

pub returns-in_err-counts-clause-err : goal.returns-in_err-counts-clause-err
unfolding safeable_text
returns-in_err-counts-clause-err g c =
    let m = c.args.model.now in
    let a = c.args.advices.now in
    let part : (found : Cell → Outlook) → AreOutlooks m a found → AppendsPart (g.S.Sink.written c.args.sink.now) (g.S.Sink.written c.write_cells.new.sink) (safeable_text m a found) =
    λ found are. part_before_last _ _ c.args.pen.buffer (flat_map (cell_text m a found) (cells_of m)) (counts_text (counts_of m a found)) c.requires.empty (c.in_err-counts.ensures.err found are) in
    on_err_always _ part

pub returns-in_err-end-clause-err : goal.returns-in_err-end-clause-err
unfolding safeable_text
returns-in_err-end-clause-err g c =
    let m = c.args.model.now in
    let a = c.args.advices.now in
    let part : (found : Cell → Outlook) → AreOutlooks m a found → AppendsPart (g.S.Sink.written c.args.sink.now) (g.S.Sink.written c.end.new.sink) (safeable_text m a found) =
    λ found are.
    let lines : List ℕ = flat_map (cell_text m a found) (cells_of m) in
    subst (λ (l : List ℕ). AppendsPart (g.S.Sink.written c.args.sink.now) (g.S.Sink.written c.end.new.sink) (lines ++ l))
    (c.write_counts.ensures.value ∙ ap counts_text (c.in_ok-counts.ensures.counted found are))
    (part_at_last _ _ _ c.args.pen.buffer _ lines c.write_counts.new.line c.requires.empty (c.in_ok-counts.ensures.ok found are) c.in_err-end.ensures.err) in
    on_err_always _ part

pub returns-clause-ok : goal.returns-clause-ok
unfolding safeable_text
returns-clause-ok g c =
    let m = c.args.model.now in
    let a = c.args.advices.now in
    λ found are.
    let lines : List ℕ = flat_map (cell_text m a found) (cells_of m) in
    subst (λ (l : List ℕ). Appends (g.S.Sink.written c.args.sink.now) (g.S.Sink.written c.end.new.sink) (lines ++ l))
    (c.write_counts.ensures.value ∙ ap counts_text (c.in_ok-counts.ensures.counted found are))
    (whole_text _ _ _ c.args.pen.buffer _ lines c.write_counts.new.line c.requires.empty (c.in_ok-counts.ensures.ok found are) c.in_ok-end.ensures.ok)
