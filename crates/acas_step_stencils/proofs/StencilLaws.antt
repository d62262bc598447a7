-- A stencil and the cell that it stands for.
use Rattle.std.proofs.Common.{Bool, false, if◌then◌else◌, nat_eq, ◌≡◌, ℕ, ◌+◌, ◌*◌, ◌/◌, ◌%◌, ◌<◌, ◌≤◌, ℤ, unsigned_abs, List, length, ap, sym, subst, ◌∙◌, arith}
use Rattle.std.proofs.lemmas.Int.{ints}
use Rattle.std.proofs.lemmas.Bool.Decides.{nat_tests}
use Rattle.std.proofs.lemmas.Nat.{div-mul-add, mod-mul-add}
use Rattle.acas_spec.specs.Axis.{place_value}
use Rattle.acas_spec.specs.Model.{GridData, ModelData}
use Rattle.acas_spec.specs.declared.place.Point.{Point}
use Rattle.acas_spec.specs.declared.place.Vertex.{Vertex}
use Rattle.acas_grid.specs.Axis.{IsCell}
use Rattle.acas_grid.specs.Grid.{IsVertex, vertex_number}
use Rattle.acas_grid.specs.States.{vertex_at}
use Rattle.acas_grid.proofs.StateNumbers.{vertex_at-vertex_number}
use Rattle.acas_grid.proofs.Vertices.{row_below}
use Rattle.acas_process.specs.Axis.{distance, gap}
use Rattle.acas_process.proofs.AxisLaws.{distance-add}
use Rattle.acas_means.specs.Columns.{columns}
use Rattle.acas_step.specs.Ends.{column_of}
use Rattle.acas_step.specs.Ends.{FitsGrid, IsEnds, IsRound}
use Rattle.acas_step.specs.declared.cell.Cell.{Cell}
use Rattle.acas_step.specs.declared.cell.Ends.{Ends}
use Rattle.acas_step_stencils.specs.Units.{IsAbove}
use Rattle.acas_step_stencils.specs.Stencils.{IsColumnStencil, IsStencilNumbered, IsStencilOf, stencil_count}
use Rattle.acas_step_stencils.specs.declared.units.Units.{Units}
use Rattle.acas_step_stencils.specs.declared.column_stencils.ColumnStencil.{ColumnStencil}

-- what is left of the gap is the distance to the upper end
pub above-IsEnds : (axis : List ℤ) (unit : ℕ) (x : ℤ) (e : Ends) (offset : ℕ) → IsAbove axis unit x e.cell offset → e.upper ≡ unit * offset → e.lower + e.upper ≡ gap axis e.cell → IsEnds axis x e
above-IsEnds axis unit x e offset is upper whole = record {
  cell = is.cell;
  lower = omega (arith, is.above, upper, whole, distance-add (place_value axis e.cell) x (place_value axis (e.cell + 1)) is.cell.lower is.cell.upper);
  upper = upper ∙ is.above;
}

nat_eq-false : (n : ℕ) → 0 < n → nat_eq n 0 ≡ false
nat_eq-false n some = grind (arith, nat_tests)

-- the ends of a cell give the offset in units of 1
above_ends : (axis : List ℤ) (x : ℤ) (e : Ends) (place offset : ℕ) → IsEnds axis x e → place ≡ e.cell → offset ≡ e.upper → IsAbove axis 1 x place offset
above_ends axis x e place offset is at up = record {
  cell = subst (λ (k : ℕ). IsCell axis k x) (sym at) is.cell;
  above = omega (arith, up, is.upper, ap (λ (k : ℕ). distance (place_value axis k) x) at);
}

-- the cell of the rates gives the stencil of a column in units of 1
pub column_round : (g : GridData) (x : Point) (t : Cell) (climb : ℤ) (s : ColumnStencil) → FitsGrid g t → IsRound g x t → s.column < columns g → s.column ≡ column_of g t →
    s.v0 ≡ t.v0.upper → s.v1 ≡ t.v1.upper → s.climb ≡ climb → unsigned_abs climb ≤ 4_000_000 → IsColumnStencil g (record { h = 1; v0 = 1; v1 = 1 }) x climb s
column_round g x t climb s fits round below column v0 v1 rise small =
    let y : Vertex = record { i = 0; j = t.v0.cell; k = t.v1.cell } in
    let inside : IsVertex g y = record { i = omega (arith, fits.h.place); j = omega (arith, fits.v0.place); k = omega (arith, fits.v1.place) } in
    let number : s.column ≡ vertex_number g y = column ∙ omega arith in
    let at : vertex_at g s.column ≡ y = ap (vertex_at g) number ∙ vertex_at-vertex_number g y inside in
    record {
      column = below;
      v0 = above_ends g.v0 x.v0 t.v0 (vertex_at g s.column).j s.v0 round.v0 (ap (λ (z : Vertex). z.j) at) v0;
      v1 = above_ends g.v1 x.v1 t.v1 (vertex_at g s.column).k s.v1 round.v1 (ap (λ (z : Vertex). z.k) at) v1;
      climb = omega (arith, ints, rise);
      small = subst (λ z. unsigned_abs z ≤ 4_000_000) (sym rise) small;
    }

-- the number of a stencil of an advisory, a column and a sigma point
pub number-below : (m : ModelData) (a c q : ℕ) → a < m.grid.advisories → c < columns m.grid → q < length m.sigmas → (a * columns m.grid + c) * length m.sigmas + q < m.grid.advisories * columns m.grid * length m.sigmas
number-below m a c q known inside here =
    row_below (m.grid.advisories * columns m.grid) (length m.sigmas) (a * columns m.grid + c) q (row_below m.grid.advisories (columns m.grid) a c known inside) here

-- the stencil of this number is theirs
pub numbered-column : (m : ModelData) (u : Units) (c a q : ℕ) (s : ColumnStencil) → c < columns m.grid → q < length m.sigmas → IsStencilNumbered m u ((a * columns m.grid + c) * length m.sigmas + q) s → IsStencilOf m u c a q s
numbered-column m u c a q s inside here is =
    let w : ℕ = columns m.grid in
    let n : ℕ = (a * w + c) * length m.sigmas + q in
    let row : n / length m.sigmas ≡ a * w + c = div-mul-add (a * w + c) (length m.sigmas) q here in
    let point : n % length m.sigmas ≡ q = mod-mul-add (a * w + c) (length m.sigmas) q here in
    let column : n / length m.sigmas % w ≡ c = ap (λ (r : ℕ). r % w) row ∙ mod-mul-add a w c inside in
    let present : n / length m.sigmas / w ≡ a = ap (λ (r : ℕ). r / w) row ∙ div-mul-add a w c inside in
    subst (λ (k : ℕ). IsStencilOf m u c a k s) point
    (subst (λ (p : ℕ). IsStencilOf m u c p (n % length m.sigmas) s) present
    (subst (λ (v : ℕ). IsStencilOf m u v (n / length m.sigmas / w) (n % length m.sigmas) s) column is))

-- with a second to go there is a stencil for each advisory, column and sigma point
pub stencil_count-some : (m : ModelData) → 0 < m.grid.horizon → stencil_count m ≡ m.grid.advisories * columns m.grid * length m.sigmas
stencil_count-some m some = ap (λ (b : Bool). if b then 0 else m.grid.advisories * columns m.grid * length m.sigmas) (nat_eq-false m.grid.horizon some)
