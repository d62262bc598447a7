use Rattle.std.proofs.Common.{◌≡◌, sym, ◌∙◌, false, true}
use Rattle.acas_outside.proofs.Appended.{on_err_always}
use Rattle.acas_rulings.specs.Rulings.{IsRulingOfCell}
use Rattle.acas_rulings.specs.declared.ruling.Ruling.TheVariants.{Certified}
use Rattle.acas_report_lines.specs.Text.{cell_line, is_certified}
use Rattle.acas_report_lines.specs.Report.{is_left_out}
use Rattle.acas_report_lines.proofs.OneLine.{counted_one, wrote_name, broke_name, prints_shown, broke_shown}
use Rattle.acas_report_lines.proofs.Certified.{as_known, left_out_as_known, left_out_certified, prints_left_out}
use Rattle.acas_report_lines.proofs.cells.write_name.Goals as goal

pub certifies-certified-requires-clause-ready : goal.certifies-certified-requires-clause-ready
certifies-certified-requires-clause-ready g c = (c.args.audit.now.advices.now, c.requires.ready)

pub ruling-ruling-requires-clause-ready : goal.ruling-ruling-requires-clause-ready
ruling-ruling-requires-clause-ready g c = (c.args.audit.now.advices.now, c.requires.ready)

pub returns-then-leaves_out-clause-ok : goal.returns-then-leaves_out-clause-ok
returns-then-leaves_out-clause-ok g c =
    let m = c.args.audit.now.model.now in
    let which = c.args.audit.now.which in
    let known : c.certifies-certified.result ≡ true =
    left_out_certified which c.certifies-certified.result (sym c.leaves_out.ensures ∙ c.if-leaves_out.true) in
    let out : is_left_out which true ≡ true =
    left_out_as_known which c.certifies-certified.result true _ known c.leaves_out.ensures ∙ c.if-leaves_out.true in
    wrote_name (IsRulingOfCell m) is_certified (cell_line m) which c.args.name.now Certified _ _
    (c.certifies-certified.ensures.certified known) (prints_left_out _ _ which true (cell_line m c.args.name.now Certified) out)
    (counted_one _ _ _ _ known c.count.ensures.certified c.count.ensures.reported c.count.ensures.clear)

pub returns-in_err-print-clause-err : goal.returns-in_err-print-clause-err
returns-in_err-print-clause-err g c =
    let m = c.args.audit.now.model.now in
    let which = c.args.audit.now.which in
    let ruling = c.ruling-ruling.result in
    let same : c.certifies-certified.result ≡ is_certified ruling =
    as_known m c.args.name.now c.certifies-certified.result ruling c.certifies-certified.ensures.certified c.certifies-certified.ensures.reported c.ruling-ruling.ensures in
    let kept : is_left_out which (is_certified ruling) ≡ false =
    left_out_as_known which c.certifies-certified.result (is_certified ruling) _ same c.leaves_out.ensures ∙ c.if-leaves_out.false in
    on_err_always _ (broke_name (IsRulingOfCell m) is_certified (cell_line m) which c.args.name.now ruling _ _ _
    c.ruling-ruling.ensures (broke_shown _ _ _ which (is_certified ruling) (cell_line m c.args.name.now ruling) _ kept (c.bytes.ensures ∙ c.write_cell_line.ensures.value) c.in_err-print.ensures.err))

pub returns-clause-ok : goal.returns-clause-ok
returns-clause-ok g c =
    let m = c.args.audit.now.model.now in
    let which = c.args.audit.now.which in
    let ruling = c.ruling-ruling.result in
    let same : c.certifies-certified.result ≡ is_certified ruling =
    as_known m c.args.name.now c.certifies-certified.result ruling c.certifies-certified.ensures.certified c.certifies-certified.ensures.reported c.ruling-ruling.ensures in
    let kept : is_left_out which (is_certified ruling) ≡ false =
    left_out_as_known which c.certifies-certified.result (is_certified ruling) _ same c.leaves_out.ensures ∙ c.if-leaves_out.false in
    wrote_name (IsRulingOfCell m) is_certified (cell_line m) which c.args.name.now ruling _ _
    c.ruling-ruling.ensures (prints_shown _ _ _ _ which (is_certified ruling) (cell_line m c.args.name.now ruling) _ kept (c.bytes.ensures ∙ c.write_cell_line.ensures.value) c.in_ok-print.ensures.ok)
    (counted_one _ _ _ _ same c.count.ensures.certified c.count.ensures.reported c.count.ensures.clear)
