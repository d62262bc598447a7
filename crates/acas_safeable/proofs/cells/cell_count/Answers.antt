use Rattle.std.proofs.Common.{◌≡◌, ap, ◌∙◌, length, arith}
use Rattle.acas_spec.specs.Model.{GridData}
use Rattle.acas_safeable.proofs.Numbering.{cells_few, rows_few}
use Rattle.acas_safeable.proofs.cells.cell_count.Goals as goal

pub overflow_mul-result-3 : goal.overflow_mul-result-3
overflow_mul-result-3 c =
    let is = c.grid.view_is ∙ c.grid-grid.ensures.value in
    let h : c.len.result ≡ length c.args.model.now.grid.h = c.len.ensures.value ∙ ap (λ (g : GridData). length g.h) is in
    let v : c.len-2.result ≡ length c.args.model.now.grid.v0 = c.len-2.ensures.value ∙ ap (λ (g : GridData). length g.v0) is in
    rw (ap (λ (g : GridData). g.horizon) is, ap (λ (g : GridData). g.advisories) is, h, v) (omega (arith, rows_few c.args.model.now c.grid-grid.ensures.valid))

pub overflow_mul-result-4 : goal.overflow_mul-result-4
overflow_mul-result-4 c =
    let is = c.grid.view_is ∙ c.grid-grid.ensures.value in
    let h : c.len.result ≡ length c.args.model.now.grid.h = c.len.ensures.value ∙ ap (λ (g : GridData). length g.h) is in
    let v : c.len-2.result ≡ length c.args.model.now.grid.v0 = c.len-2.ensures.value ∙ ap (λ (g : GridData). length g.v0) is in
    let w : c.len-3.result ≡ length c.args.model.now.grid.v1 = c.len-3.ensures.value ∙ ap (λ (g : GridData). length g.v1) is in
    rw (ap (λ (g : GridData). g.horizon) is, ap (λ (g : GridData). g.advisories) is, h, v, w) (omega (arith, cells_few c.args.model.now c.grid-grid.ensures.valid))
