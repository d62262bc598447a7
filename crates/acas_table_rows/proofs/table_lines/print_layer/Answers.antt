use Rattle.std.proofs.Common.{◌<◌, arith}
use Rattle.acas_spec.specs.Model.{states}
use Rattle.acas_outside.proofs.Appended.{on_err_always}
use Rattle.acas_outside.proofs.PrintedPieces.{part_of_below, prints_below}
use Rattle.acas_table_rows.specs.LayerParts.{layer_data}
use Rattle.acas_table_rows.specs.ValuesText.{listed_line}
use Rattle.acas_table_rows.proofs.Heads.{begins_next}
use Rattle.acas_table_rows.proofs.table_lines.print_layer.Goals as goal

pub returns-in_err-print_state-clause-err : goal.returns-in_err-print_state-clause-err
returns-in_err-print_state-clause-err g c =
    let here : c.loop-state.state < states c.args.model.now.grid = rw (← c.grid.ensures.value, ← c.states-state-end.ensures.value) c.loop-state-test.true in
    on_err_always _ (part_of_below _ _ _ _ _ (listed_line c.args.model.now (layer_data c.args.layer.now)) c.loop-state.state _ here c.loop-state.invariant.printed c.in_err-print_state.ensures.err)

pub loop-state-preserved : goal.loop-state-preserved
loop-state-preserved g c =
    let here : c.loop-state.state < states c.args.model.now.grid = rw (← c.grid.ensures.value, ← c.states-state-end.ensures.value) c.loop-state-test.true in
    record {
      printed = prints_below _ _ _ _ _ _ (listed_line c.args.model.now (layer_data c.args.layer.now)) c.loop-state.state c.loop-state.invariant.printed c.in_ok-print_state.ensures.ok;
      frame = grind arith;
      head = begins_next c.args.model.now c.args.layer.now.n c.loop-state.state _ here c.print_state.ensures.head;
    }
