use Rattle.std.proofs.Common.{length, ◌∙◌, ap}
use Rattle.acas_spec.specs.Model.{GridData, states}
use Rattle.acas_table_text.proofs.Shapes.{limited_as}
use Rattle.acas_table_text.proofs.shape.TableShape.of.Goals as goal

pub returns-clause-limited : goal.returns-clause-limited
returns-clause-limited c =
    let same = c.grid.view_is ∙ c.grid-grid.ensures.value in
    limited_as _ _ c.grid-grid.ensures.valid.grid
    (c.len.ensures.value ∙ ap (λ (g : GridData). length g.h) same)
    (c.len-2.ensures.value ∙ ap (λ (g : GridData). length g.v0) same)
    (c.len-3.ensures.value ∙ ap (λ (g : GridData). length g.v1) same)
    (ap (λ (g : GridData). g.advisories) same)
    (ap (λ (g : GridData). g.horizon) same)
    (c.states.ensures.value ∙ ap states c.grid-grid.ensures.value)
