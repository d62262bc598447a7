use Rattle.std.proofs.Common.{◌∷◌, [], length, ◌<◌, arith}
use Rattle.acas_outside.proofs.Appended.{on_err_always}
use Rattle.acas_report_lines.specs.Plan.{box_plan}
use Rattle.acas_report_lines.specs.Regions.{IsSaidAt}
use Rattle.acas_report_lines.specs.Text.{line_of_box}
use Rattle.acas_report_lines.specs.declared.counts.Which.TheVariants as which
use Rattle.acas_report_lines.proofs.OneLine.{room_single}
use Rattle.acas_report_lines.proofs.Steps.{wrote_none, wrote_more, broke_more, room_left}
use Rattle.acas_report_lines.proofs.boxes.write_boxes.Goals as goal

pub loop-place-init : goal.loop-place-init
loop-place-init g c = record { wrote = wrote_none _ _; frame = grind arith }

pub loop-place-preserved : goal.loop-place-preserved
loop-place-preserved g c = record {
  wrote = wrote_more (box_plan (g.R.BoxSource.rules c.args.on.now.rulings.now c.args.on.now.model.now) g.R.Ruling.Said.certified g.R.Ruling.Said.text c.args.on.now.boxes.now) (λ place. place ∷ []) c.loop-place.place _ _ _ c.loop-place.invariant.wrote c.in_ok-write_box.ensures.ok;
  frame = grind arith;
}

pub write_box-requires-clause-takes : goal.write_box-requires-clause-takes
write_box-requires-clause-takes g c = c.requires.boxes c.loop-place.place (omega arith)

pub write_box-requires-clause-room : goal.write_box-requires-clause-room
write_box-requires-clause-room g c =
    let here : c.loop-place.place < length c.args.on.now.boxes.now = omega arith in
    room_single (IsSaidAt (g.R.BoxSource.rules c.args.on.now.rulings.now c.args.on.now.model.now) c.args.on.now.boxes.now) g.R.Ruling.Said.certified (line_of_box g.R.Ruling.Said.text) which.All c.loop-place.place _
    (room_left (box_plan (g.R.BoxSource.rules c.args.on.now.rulings.now c.args.on.now.model.now) g.R.Ruling.Said.certified g.R.Ruling.Said.text c.args.on.now.boxes.now) (λ place. place ∷ []) (length c.args.on.now.boxes.now) c.loop-place.place _ _ here c.requires.room c.loop-place.invariant.wrote)

pub returns-in_err-write_box-clause-err : goal.returns-in_err-write_box-clause-err
returns-in_err-write_box-clause-err g c =
    let here : c.loop-place.place < length c.args.on.now.boxes.now = omega arith in
    on_err_always _ (broke_more (box_plan (g.R.BoxSource.rules c.args.on.now.rulings.now c.args.on.now.model.now) g.R.Ruling.Said.certified g.R.Ruling.Said.text c.args.on.now.boxes.now) (λ place. place ∷ []) (length c.args.on.now.boxes.now) c.loop-place.place _ _ _ here c.loop-place.invariant.wrote c.in_err-write_box.ensures.err)
