use Rattle.std.proofs.Common.{◌∷◌, [], ◌-◌, length, ◌≡◌, ◌<◌, ◌∙◌, ap, arith}
use Rattle.std.proofs.lemmas.Grind.{common_steps}
use Rattle.acas_spec.specs.Model.{GridData}
use Rattle.acas_outside.proofs.Appended.{on_err_always}
use Rattle.acas_cells.specs.Cells.{cell_at, plane_cells, row_cells}
use Rattle.acas_report_lines.proofs.Steps.{wrote_none, wrote_more, wrote_all, broke_more, room_left}
use Rattle.acas_report_lines.specs.Plans.{plan_of}
use Rattle.acas_report_lines.proofs.cells.write_block.Goals as goal

pub loop-i-init : goal.loop-i-init
loop-i-init g c = record { wrote = wrote_none _ _; frame = grind arith }

pub loop-j-init : goal.loop-j-init
loop-j-init g c = record { wrote = wrote_none _ _; frame = grind arith }

pub loop-k-init : goal.loop-k-init
loop-k-init g c = record { wrote = wrote_none _ _; frame = grind arith }

pub loop-k-preserved : goal.loop-k-preserved
loop-k-preserved g c = record {
  wrote = wrote_more (plan_of c.args.audit.now) (λ k. cell_at c.args.n c.args.present c.loop-i.i c.loop-j.j k ∷ []) c.loop-k.k _ _ _ c.loop-k.invariant.wrote c.in_ok-write_cell.ensures.ok;
  frame = grind arith;
}

pub loop-j-preserved : goal.loop-j-preserved
loop-j-preserved g c =
    let m = c.args.audit.now.model.now in
    let plan = plan_of c.args.audit.now in
    let same : c.grid.inside.v1 ≡ m.grid.v1 = ap (λ (g : GridData). g.v1) (c.grid.view_is ∙ c.grid-grid.ensures.value) in
    let ends : c.loop-k.k ≡ length m.grid.v1 - 1 = omega (arith, ap length same, c.loop-k-test.false, c.loop-k.auto.k-end) in
    record {
      wrote = wrote_more plan (λ j. row_cells m c.args.n c.args.present c.loop-i.i j) c.loop-j.j _ _ _ c.loop-j.invariant.wrote
          (wrote_all plan (λ k. cell_at c.args.n c.args.present c.loop-i.i c.loop-j.j k ∷ []) _ c.loop-k.k _ _ ends c.loop-k.invariant.wrote);
      frame = grind arith;
    }

pub loop-i-preserved : goal.loop-i-preserved
loop-i-preserved g c =
    let m = c.args.audit.now.model.now in
    let plan = plan_of c.args.audit.now in
    let same : c.grid.inside.v0 ≡ m.grid.v0 = ap (λ (g : GridData). g.v0) (c.grid.view_is ∙ c.grid-grid.ensures.value) in
    let ends : c.loop-j.j ≡ length m.grid.v0 - 1 = omega (arith, ap length same, c.loop-j-test.false, c.loop-j.auto.j-end) in
    record {
      wrote = wrote_more plan (λ i. plane_cells m c.args.n c.args.present i) c.loop-i.i _ _ _ c.loop-i.invariant.wrote
          (wrote_all plan (λ j. row_cells m c.args.n c.args.present c.loop-i.i j) _ c.loop-j.j _ _ ends c.loop-j.invariant.wrote);
      frame = grind arith;
    }

pub write_cell-requires-clause-room : goal.write_cell-requires-clause-room
write_cell-requires-clause-room g c =
    let m = c.args.audit.now.model.now in
    let plan = plan_of c.args.audit.now in
    let same = c.grid.view_is ∙ c.grid-grid.ensures.value in
    let i_within : c.loop-i.i < length m.grid.h - 1 = omega (arith, ap (λ (g : GridData). length g.h) same) in
    let j_within : c.loop-j.j < length m.grid.v0 - 1 = omega (arith, ap (λ (g : GridData). length g.v0) same) in
    let k_within : c.loop-k.k < length m.grid.v1 - 1 = omega (arith, ap (λ (g : GridData). length g.v1) same) in
    let plane = room_left plan (λ i. plane_cells m c.args.n c.args.present i) (length m.grid.h - 1) c.loop-i.i _ _ i_within c.requires.room c.loop-i.invariant.wrote in
    let row = room_left plan (λ j. row_cells m c.args.n c.args.present c.loop-i.i j) (length m.grid.v0 - 1) c.loop-j.j _ _ j_within plane c.loop-j.invariant.wrote in
    room_left plan (λ k. cell_at c.args.n c.args.present c.loop-i.i c.loop-j.j k ∷ []) (length m.grid.v1 - 1) c.loop-k.k _ _ k_within row c.loop-k.invariant.wrote

pub returns-in_err-write_cell-clause-err : goal.returns-in_err-write_cell-clause-err
returns-in_err-write_cell-clause-err g c =
    let m = c.args.audit.now.model.now in
    let plan = plan_of c.args.audit.now in
    let same = c.grid.view_is ∙ c.grid-grid.ensures.value in
    let i_within : c.loop-i.i < length m.grid.h - 1 = omega (arith, ap (λ (g : GridData). length g.h) same) in
    let j_within : c.loop-j.j < length m.grid.v0 - 1 = omega (arith, ap (λ (g : GridData). length g.v0) same) in
    let k_within : c.loop-k.k < length m.grid.v1 - 1 = omega (arith, ap (λ (g : GridData). length g.v1) same) in
    let row = broke_more plan (λ k. cell_at c.args.n c.args.present c.loop-i.i c.loop-j.j k ∷ []) (length m.grid.v1 - 1) c.loop-k.k _ _ _ k_within c.loop-k.invariant.wrote c.in_err-write_cell.ensures.err in
    let plane = broke_more plan (λ j. row_cells m c.args.n c.args.present c.loop-i.i j) (length m.grid.v0 - 1) c.loop-j.j _ _ _ j_within c.loop-j.invariant.wrote row in
    on_err_always _ (broke_more plan (λ i. plane_cells m c.args.n c.args.present i) (length m.grid.h - 1) c.loop-i.i _ _ _ i_within c.loop-i.invariant.wrote plane)

pub returns-in_err-write_cell-clause-frame : goal.returns-in_err-write_cell-clause-frame
returns-in_err-write_cell-clause-frame g c = grind (arith, common_steps)

pub write_cell-requires-clause-cell : goal.write_cell-requires-clause-cell
write_cell-requires-clause-cell g c = grind (arith, common_steps)

pub returns : goal.returns
returns g c = grind (arith, common_steps)
