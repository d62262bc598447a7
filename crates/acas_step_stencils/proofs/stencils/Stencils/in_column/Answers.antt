use Rattle.std.proofs.Common.{◌≡◌, ℕ, ◌+◌, ◌*◌, ◌<◌, List, length, get_or, ap, sym, subst, ◌∙◌, arith}
use Rattle.acas_spec.specs.declared.parts.SigmaPoint.{SigmaPoint}
use Rattle.acas_means.specs.Columns.{columns}
use Rattle.acas_step_stencils.specs.Stencils.{IsStencilOf, stencil_count}
use Rattle.acas_step_stencils.specs.declared.column_stencils.ColumnStencil.{ColumnStencil}
use Rattle.acas_step_stencils.proofs.StencilLaws.{number-below, numbered-column, stencil_count-some}
use Rattle.acas_step_stencils.proofs.stencils.Stencils.in_column.Goals as goal

pub index-requires : goal.index-requires
index-requires c =
    let m = c.args.model.now in
    let wide : c.column_count.result ≡ columns m.grid = c.column_count.ensures ∙ ap columns c.grid.ensures.value in
    let row : c.from.result * c.column_count.result + c.args.key.column ≡ c.args.key.advisory * columns m.grid + c.args.key.column =
    ap (λ (n : ℕ). n * c.column_count.result + c.args.key.column) c.from.ensures ∙ ap (λ (w : ℕ). c.args.key.advisory * w + c.args.key.column) wide in
    let below = number-below m c.args.key.advisory c.args.key.column c.args.key.sigma c.requires.advisory c.requires.column c.requires.sigma in
    omega (
      arith,
      below,
      c.requires.usable.stencils.count,
      stencil_count-some m c.requires.usable.horizon,
      ap (λ (r : ℕ). r * length m.sigmas) row,
      ap (λ (points : List SigmaPoint). (c.from.result * c.column_count.result + c.args.key.column) * length points) c.points.ensures,
    )

pub returns : goal.returns
returns c =
    let m = c.args.model.now in
    let u = c.args.self.now.units in
    let column = c.args.key.column in
    let a = c.args.key.advisory in
    let q = c.args.key.sigma in
    let all : List ColumnStencil = c.args.self.now.stencils.items in
    let read : ColumnStencil = c.index.result.now in
    let n : ℕ = (a * columns m.grid + column) * length m.sigmas + q in
    let wide : c.column_count.result ≡ columns m.grid = c.column_count.ensures ∙ ap columns c.grid.ensures.value in
    let row : c.from.result * c.column_count.result + column ≡ a * columns m.grid + column =
    ap (λ (k : ℕ). k * c.column_count.result + column) c.from.ensures ∙ ap (λ (w : ℕ). a * w + column) wide in
    let number : (c.from.result * c.column_count.result + column) * length c.points.result.now + q ≡ n =
    ap (λ (points : List SigmaPoint). (c.from.result * c.column_count.result + column) * length points + q) c.points.ensures ∙ ap (λ (r : ℕ). r * length m.sigmas + q) row in
    let below : n < stencil_count m = omega (arith, number-below m a column q c.requires.advisory c.requires.column c.requires.sigma, stencil_count-some m c.requires.usable.horizon) in
    let is : IsStencilOf m u column a q (get_or all n read) = numbered-column m u column a q (get_or all n read) c.requires.column c.requires.sigma (c.requires.usable.stencils.stencils.each n read below) in
    subst (λ (s : ColumnStencil). IsStencilOf m u column a q s) (sym c.index.ensures) (subst (λ (k : ℕ). IsStencilOf m u column a q (get_or all k read)) (sym number) is)
