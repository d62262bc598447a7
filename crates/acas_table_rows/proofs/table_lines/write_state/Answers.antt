use Rattle.std.proofs.Common.{ap, ◌∙◌}
use Rattle.acas_spec.specs.Model.{GridData}
use Rattle.acas_spec.specs.declared.place.Vertex.{Vertex}
use Rattle.acas_grid.specs.States.{state_vertex}
use Rattle.acas_table_rows.specs.LayerParts.{layer_data}
use Rattle.acas_table_rows.proofs.Heads.{line_of_head}
use Rattle.acas_table_rows.proofs.table_lines.write_state.Goals as goal

pub returns-clause-value : goal.returns-clause-value
returns-clause-value c =
    line_of_head c.args.model.now (layer_data c.args.layer.now) c.args.state _ _ _ c.renew_head.ensures
    (ap (λ (x : Vertex). x.k) c.state_vertex.ensures.value ∙ ap (λ (g : GridData). (state_vertex g c.args.state).k) c.grid.ensures.value)
    c.write_entry.ensures.value
