use Rattle.std.proofs.Common.{◌≡◌, ap, ◌∙◌, length}
use Rattle.acas_spec.specs.Model.{GridData}
use Rattle.acas_safeable.proofs.Numbering.{numbered_inside}
use Rattle.acas_safeable.proofs.cells.numbered_cell.Goals as goal

pub returns-clause-inside : goal.returns-clause-inside
returns-clause-inside c =
    let is = c.grid.view_is ∙ c.grid-grid.ensures.value in
    let h : c.len.result ≡ length c.args.model.now.grid.h = c.len.ensures.value ∙ ap (λ (g : GridData). length g.h) is in
    let v : c.len-2.result ≡ length c.args.model.now.grid.v0 = c.len-2.ensures.value ∙ ap (λ (g : GridData). length g.v0) is in
    let w : c.len-3.result ≡ length c.args.model.now.grid.v1 = c.len-3.ensures.value ∙ ap (λ (g : GridData). length g.v1) is in
    rw (ap (λ (g : GridData). g.advisories) is, h, v, w) (numbered_inside c.args.model.now c.args.number c.grid-grid.ensures.valid c.requires)
