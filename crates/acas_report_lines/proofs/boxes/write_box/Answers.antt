use Rattle.std.proofs.Common.{◌∙◌, refl, subst}
use Rattle.acas_outside.proofs.Appended.{on_err_always}
use Rattle.acas_rulings.specs.Boxes.{AuditedBox}
use Rattle.acas_report_lines.specs.Regions.{IsSaidAt}
use Rattle.acas_report_lines.specs.Text.{line_of_box}
use Rattle.acas_report_lines.specs.declared.counts.Which.TheVariants as which
use Rattle.acas_report_lines.proofs.OneLine.{counted_one, wrote_name, broke_name, prints_shown, broke_shown}
use Rattle.acas_report_lines.proofs.boxes.write_box.Goals as goal

pub returns-in_err-print-clause-err : goal.returns-in_err-print-clause-err
returns-in_err-print-clause-err g c =
    let is : IsSaidAt (g.R.BoxSource.rules c.args.on.now.rulings.now c.args.on.now.model.now) c.args.on.now.boxes.now c.args.place c.ruling-ruling.result =
    subst (λ (b : AuditedBox). g.R.BoxSource.rules c.args.on.now.rulings.now c.args.on.now.model.now b c.ruling-ruling.result) c.at.ensures c.ruling-ruling.ensures in
    on_err_always _ (broke_name (IsSaidAt (g.R.BoxSource.rules c.args.on.now.rulings.now c.args.on.now.model.now) c.args.on.now.boxes.now) g.R.Ruling.Said.certified (line_of_box g.R.Ruling.Said.text) which.All c.args.place c.ruling-ruling.result _ _ _
    is (broke_shown _ _ _ which.All (g.R.Ruling.Said.certified c.ruling-ruling.result) (line_of_box g.R.Ruling.Said.text c.args.place c.ruling-ruling.result) _ refl (c.bytes.ensures ∙ c.write_box_line.ensures.value) c.in_err-print.ensures.err))

pub returns-clause-ok : goal.returns-clause-ok
returns-clause-ok g c =
    let is : IsSaidAt (g.R.BoxSource.rules c.args.on.now.rulings.now c.args.on.now.model.now) c.args.on.now.boxes.now c.args.place c.ruling-ruling.result =
    subst (λ (b : AuditedBox). g.R.BoxSource.rules c.args.on.now.rulings.now c.args.on.now.model.now b c.ruling-ruling.result) c.at.ensures c.ruling-ruling.ensures in
    wrote_name (IsSaidAt (g.R.BoxSource.rules c.args.on.now.rulings.now c.args.on.now.model.now) c.args.on.now.boxes.now) g.R.Ruling.Said.certified (line_of_box g.R.Ruling.Said.text) which.All c.args.place c.ruling-ruling.result _ _
    is (prints_shown _ _ _ _ which.All (g.R.Ruling.Said.certified c.ruling-ruling.result) (line_of_box g.R.Ruling.Said.text c.args.place c.ruling-ruling.result) _ refl (c.bytes.ensures ∙ c.write_box_line.ensures.value) c.in_ok-print.ensures.ok)
    (counted_one _ _ _ _ c.is_certified.ensures c.count.ensures.certified c.count.ensures.reported c.count.ensures.clear)
