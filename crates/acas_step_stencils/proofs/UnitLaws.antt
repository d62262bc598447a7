-- What is counted in units of the axes: gaps, stencils and cells.
use Rattle.std.proofs.Common.{◌≡◌, ℕ, ◌+◌, ◌*◌, ◌<◌, ◌≤◌, ℤ, List, length, get_or, mul-le-mul_right, refl, ap, sym, subst, ◌∙◌, arith}
use Rattle.std.proofs.lemmas.Int.{ints}
use Rattle.std.proofs.lemmas.List.{get_or_default}
use Rattle.std.proofs.lemmas.Nat.Gcd.{dvd_trans}
use borrow.Author.Count.{below_more}
use Rattle.acas_spec.specs.Axis.{place_value}
use Rattle.acas_spec.specs.Limits.{IsGrid}
use Rattle.acas_spec.specs.Model.{GridData}
use Rattle.acas_spec.specs.declared.place.Point.{Point}
use Rattle.acas_spec.specs.declared.place.Vertex.{Vertex}
use Rattle.acas_grid.specs.Grid.{vertex_number}
use Rattle.acas_grid.specs.States.{vertex_at}
use Rattle.acas_grid.proofs.StateNumbers.{vertex_number-vertex_at}
use Rattle.acas_process.specs.Axis.{gap}
use Rattle.acas_process.proofs.AxisLaws.{distance-add}
use Rattle.acas_step.specs.Ends.{FitsAxis, IsRound}
use Rattle.acas_step.specs.Sizes.{altitude_gap, rate_gap}
use Rattle.acas_step.specs.declared.cell.Cell.{Cell}
use Rattle.acas_step.specs.declared.cell.Ends.{Ends}
use Rattle.acas_step.proofs.CornerLaws.{fits_grid}
use Rattle.acas_step_stencils.specs.Units.{AreGapsWithin, AreUnits, DivideUnits, IsAbove, IsGapIn}
use Rattle.acas_step_stencils.specs.Stencils.{DivideOffsets, IsColumnStencil, IsCountedIn}
use Rattle.acas_step_stencils.specs.Cells.{IsEndsIn, IsKnownCell, IsRoundIn, IsVertexCell}
use Rattle.acas_step_stencils.specs.declared.units.Units.{Units}
use Rattle.acas_step_stencils.specs.declared.column_stencils.ColumnStencil.{ColumnStencil}
use Rattle.acas_step_stencils.specs.declared.vertex_cells.VertexCell.{VertexCell}
use Rattle.acas_step_stencils.proofs.GapLaws.{above-counted, above-same, gaps_within}

-- ---- gaps

pub altitude_gaps : (g : GridData) → IsGrid g → AreGapsWithin g.h altitude_gap
altitude_gaps g valid = gaps_within g.h _ _ 1200000 valid.altitudes_within (omega arith) (omega arith)

pub own_gaps : (g : GridData) → IsGrid g → AreGapsWithin g.v0 rate_gap
own_gaps g valid = gaps_within g.v0 _ _ 10000 valid.own_within (omega arith) (omega arith)

pub intruder_gaps : (g : GridData) → IsGrid g → AreGapsWithin g.v1 rate_gap
intruder_gaps g valid = gaps_within g.v1 _ _ 10000 valid.intruder_within (omega arith) (omega arith)

-- ---- units that divide

offsets_finer : (u w : Units) (s : ColumnStencil) → DivideUnits u w → DivideOffsets w s → DivideOffsets u s
offsets_finer u w s finer divide = record {
  climb = dvd_trans u.h finer.h divide.climb;
  v0 = dvd_trans u.v0 finer.v0 divide.v0;
  v1 = dvd_trans u.v1 finer.v1 divide.v1;
}

pub offsets_more : (u w : Units) (xs : List ColumnStencil) (i : ℕ) (e : ColumnStencil) → i < length xs → DivideUnits u w → ((n : ℕ) (d : ColumnStencil) → n < i → DivideOffsets w (get_or xs n d)) → DivideOffsets u (get_or xs i e)
    → (n : ℕ) (d : ColumnStencil) → n < i + 1 → DivideOffsets u (get_or xs n d)
offsets_more u w xs i e inside finer before here = λ n d.
    below_more (λ (k : ℕ). DivideOffsets u (get_or xs k d)) i
    (λ k h. offsets_finer u w (get_or xs k d) finer (before k d h))
    (subst (λ (s : ColumnStencil). DivideOffsets u s) (get_or_default xs i e d inside) here) n

-- ---- stencils that are counted in units

pub stencil-counted : (g : GridData) (u : Units) (x : Point) (rise : ℤ) (s counted : ColumnStencil) → IsColumnStencil g (record { h = 1; v0 = 1; v1 = 1 }) x rise s → IsCountedIn u s counted → IsColumnStencil g u x rise counted
stencil-counted g u x rise s counted is of = record {
  column = omega (arith, is.column, of.column);
  v0 = above-counted g.v0 u.v0 x.v0 (vertex_at g s.column).j (vertex_at g counted.column).j s.v0 counted.v0 (ap (λ (n : ℕ). (vertex_at g n).j) of.column) is.v0 of.v0;
  v1 = above-counted g.v1 u.v1 x.v1 (vertex_at g s.column).k (vertex_at g counted.column).k s.v1 counted.v1 (ap (λ (n : ℕ). (vertex_at g n).k) of.column) is.v1 of.v1;
  climb = of.climb ∙ omega (arith, ints, is.climb);
  small = of.small;
}

-- what is left of the gap in a unit is the distance to the upper end in it
pub ends_in-IsEndsIn : (axis : List ℤ) (unit place units : ℕ) (x : ℤ) (offset : ℕ) (e : Ends) → IsGapIn axis unit place units → IsAbove axis unit x place offset →
    e.cell ≡ place → e.lower + offset ≡ units → e.upper ≡ offset → IsEndsIn axis unit x e
ends_in-IsEndsIn axis unit place units x offset e gaps is at low up =
    let here : IsAbove axis unit x e.cell offset = above-same unit x offset refl (sym at) is in
    let whole : unit * units ≡ gap axis e.cell = gaps.whole is.cell.before_last ∙ ap (λ (k : ℕ). gap axis k) (sym at) in
    let parts : unit * e.lower + unit * offset ≡ unit * units = omega (arith, ap (λ (n : ℕ). unit * n) low) in
    record {
      cell = here.cell;
      lower = omega (arith, here.above, parts, whole, distance-add (place_value axis e.cell) x (place_value axis (e.cell + 1)) here.cell.lower here.cell.upper);
      upper = ap (λ (n : ℕ). unit * n) up ∙ here.above;
    }

-- ---- a cell in units, and the same in full

abbrev pub exact_ends : ℕ → Ends → Ends
exact_ends unit e = record { cell = e.cell; lower = unit * e.lower; upper = unit * e.upper }

abbrev pub exact : Units → Cell → Cell
exact u t = record { h = exact_ends u.h t.h; v0 = exact_ends u.v0 t.v0; v1 = exact_ends u.v1 t.v1 }

abbrev pub unit_product : Units → ℕ
unit_product u = u.h * (u.v0 * u.v1)

pub exact-IsRound : (g : GridData) (u : Units) (s : Point) (t : Cell) → IsRoundIn g u s t → IsRound g s (exact u t)
exact-IsRound g u s t is = record {
  h = record { cell = is.h.cell; lower = is.h.lower; upper = is.h.upper };
  v0 = record { cell = is.v0.cell; lower = is.v0.lower; upper = is.v0.upper };
  v1 = record { cell = is.v1.cell; lower = is.v1.lower; upper = is.v1.upper };
}

-- ---- what is known of a cell in units

fits_in : (axis : List ℤ) (most unit : ℕ) (e : Ends) → 0 < unit → FitsAxis axis most (exact_ends unit e) → FitsAxis axis most e
fits_in axis most unit e some fits =
    let low : 1 * e.lower ≤ unit * e.lower = mul-le-mul_right e.lower some in
    let high : 1 * e.upper ≤ unit * e.upper = mul-le-mul_right e.upper some in
    record { place = fits.place; short = fits.short; narrow = omega (arith, fits.narrow, low, high) }

number_of : (g : GridData) (n i j k : ℕ) → i ≡ (vertex_at g n).i → j ≡ (vertex_at g n).j → k ≡ (vertex_at g n).k → n ≡ vertex_number g (record { i = i; j = j; k = k })
number_of g n i j k p q r =
    let y : Vertex = vertex_at g n in
    sym (vertex_number-vertex_at g n)
    ∙ ap (λ (m : ℕ). vertex_number g (record { i = m; j = y.j; k = y.k })) (sym p)
    ∙ ap (λ (m : ℕ). vertex_number g (record { i = i; j = m; k = y.k })) (sym q)
    ∙ ap (λ (m : ℕ). vertex_number g (record { i = i; j = j; k = m })) (sym r)

products_same : (a b c a' b' c' : ℕ) → a' ≡ a → b' ≡ b → c' ≡ c → a * b * c ≡ a' * b' * c'
products_same a b c a' b' c' p q r = ap (λ (n : ℕ). n * b * c) (sym p) ∙ ap (λ (n : ℕ). a' * n * c) (sym q) ∙ ap (λ (n : ℕ). a' * b' * n) (sym r)

pub known_cell : (g : GridData) (u : Units) (x : Point) (base : ℕ) (above : VertexCell) (t : Cell) → IsGrid g → AreUnits u → IsVertexCell g u (vertex_at g base) above → IsRoundIn g u x t →
    t.h.cell ≡ above.i → t.v0.cell ≡ above.j → t.v1.cell ≡ above.k → t.h.lower + t.h.upper ≡ above.h → t.v0.lower + t.v0.upper ≡ above.v0 → t.v1.lower + t.v1.upper ≡ above.v1 →
    IsKnownCell g (record { cell = t; base = base; divisor = above.divisor })
known_cell g u x base above t valid units is round i j k h v0 v1 =
    let fits = fits_grid g x (exact u t) valid (exact-IsRound g u x t round) in
    record {
      fits = record {
        h = fits_in g.h altitude_gap u.h t.h units.h fits.h;
        v0 = fits_in g.v0 rate_gap u.v0 t.v0 units.v0 fits.v0;
        v1 = fits_in g.v1 rate_gap u.v1 t.v1 units.v1 fits.v1;
      };
      base = number_of g base t.h.cell t.v0.cell t.v1.cell (i ∙ is.i) (j ∙ is.j) (k ∙ is.k);
      divisor = is.divisor;
      by = is.by ∙ products_same above.h above.v0 above.v1 (t.h.lower + t.h.upper) (t.v0.lower + t.v0.upper) (t.v1.lower + t.v1.upper) h v0 v1;
    }
