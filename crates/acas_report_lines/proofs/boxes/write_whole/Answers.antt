use Rattle.std.proofs.Common.{arith, refl}
use Rattle.acas_outside.proofs.Appended.{on_err_always}
use Rattle.acas_report_lines.proofs.Subjects.{of_boxes, room_boxes}
use Rattle.acas_report_lines.proofs.Whole.{whole, begun_before, begun_last}
use Rattle.acas_report_lines.proofs.boxes.write_whole.Goals as goal

pub write_boxes-requires-clause-room : goal.write_boxes-requires-clause-room
write_boxes-requires-clause-room g c =
    room_boxes (g.R.BoxSource.rules c.args.on.now.rulings.now c.args.on.now.model.now) g.R.Ruling.Said.certified g.R.Ruling.Said.text c.args.on.now.boxes.now _ (omega arith)
    c.requires.certified c.requires.reported c.requires.clear

pub returns-in_err-write_boxes-clause-err : goal.returns-in_err-write_boxes-clause-err
returns-in_err-write_boxes-clause-err g c =
    let is = of_boxes (g.R.BoxSource.rules c.args.on.now.rulings.now c.args.on.now.model.now) g.R.Ruling.Said.certified g.R.Ruling.Said.text c.args.on.now.boxes.now in
    on_err_always _ (begun_before _ _ _ _ _ _ is _ _ _ c.in_err-write_boxes.ensures.err c.requires.empty)

pub returns-in_err-end-clause-err : goal.returns-in_err-end-clause-err
returns-in_err-end-clause-err g c =
    let is = of_boxes (g.R.BoxSource.rules c.args.on.now.rulings.now c.args.on.now.model.now) g.R.Ruling.Said.certified g.R.Ruling.Said.text c.args.on.now.boxes.now in
    on_err_always _ (begun_last _ _ _ _ _ _ is _ _ _ _ c.in_ok-write_boxes.ensures.ok
    (record { waits = c.requires.empty; certified = c.requires.certified; reported = c.requires.reported; clear = c.requires.clear })
    c.write_box_counts.ensures.value c.in_err-end.ensures.err)

pub returns-clause-ok : goal.returns-clause-ok
returns-clause-ok g c =
    let is = of_boxes (g.R.BoxSource.rules c.args.on.now.rulings.now c.args.on.now.model.now) g.R.Ruling.Said.certified g.R.Ruling.Said.text c.args.on.now.boxes.now in
    whole _ _ _ _ _ _ is _ _ _ _ _ c.in_ok-write_boxes.ensures.ok
    (record { waits = c.requires.empty; certified = c.requires.certified; reported = c.requires.reported; clear = c.requires.clear })
    refl c.write_box_counts.ensures.value c.in_ok-end.ensures.ok
