-- Gaps of an axis, units that divide them, and how far a number is above a place in a unit.
use Rattle.std.proofs.Common.{◌≡◌, ℕ, ◌+◌, ◌*◌, ◌<◌, ◌≤◌, ℤ, unsigned_abs, List, length, ⊎_elim, refl, ap, sym, subst, arith}
use Rattle.std.specs.Int.{◌∣◌}
use Rattle.std.proofs.lemmas.Bool.{cases_lt}
use Rattle.std.proofs.lemmas.Int.{ints}
use Rattle.std.proofs.lemmas.Nat.Gcd.{dvd_trans}
use Rattle.std.proofs.Math.Nat.{le_of_mul-le-mul_left}
use Rattle.acas_spec.specs.Axis.{IsAxis, IsWithin, place_value}
use Rattle.acas_spec.specs.Model.{GridData}
use Rattle.acas_spec.proofs.Bounds.{unsigned_abs-within}
use Rattle.acas_process.specs.Axis.{gap}
use Rattle.acas_process.proofs.AxisLaws.{distance-add, next_above}
use Rattle.acas_step_stencils.specs.Units.{AreGapsWithin, DivideGaps, DivideUnits, DividesGaps, IsAbove, IsGapIn}
use Rattle.acas_step_stencils.specs.declared.units.Units.{Units}

-- ---- gaps

-- a factor of a number above 0 is above 0
pub factor_some : (a b n : ℕ) → a * b ≡ n → 0 < n → 0 < b
factor_some a b n e some = ⊎_elim (λ (h : 0 < b). h) (λ (h : b ≤ 0). let none : b ≡ 0 = omega arith in absurd (omega (arith, e, some, ap (λ (k : ℕ). a * k) none))) (cases_lt 0 b)

pub gap_some : (axis : List ℤ) (k : ℕ) → IsAxis axis → k + 1 < length axis → 0 < gap axis k
gap_some axis k rising here = omega (arith, ints, next_above axis k rising here)

-- no gap of an axis is more than twice the most by which its numbers are away from 0
pub gaps_within : (axis : List ℤ) (least greatest : ℤ) (most : ℕ) → IsWithin least greatest axis → unsigned_abs least ≤ most → unsigned_abs greatest ≤ most → AreGapsWithin axis (2 * most)
gaps_within axis least greatest most near bottom top = record {
  each = λ k here.
      let low = unsigned_abs-within most least greatest axis k near (omega (arith, here)) bottom top in
      let high = unsigned_abs-within most least greatest axis (k + 1) near here bottom top in
      omega (arith, ints, low, high);
}

-- ---- units that divide

-- a number that divides a unit divides each gap that the unit divides
pub gaps_finer : (axis : List ℤ) (u w : ℕ) → u ∣ w → DividesGaps axis w → DividesGaps axis u
gaps_finer axis u w finer divides = record { each = λ k here. dvd_trans u finer (divides.each k here) }

pub grid_finer : (g : GridData) (u w : Units) → DivideUnits u w → DivideGaps g w → DivideGaps g u
grid_finer g u w finer divide = record {
  h = gaps_finer g.h u.h w.h finer.h divide.h;
  v0 = gaps_finer g.v0 u.v0 w.v0 finer.v0 divide.v0;
  v1 = gaps_finer g.v1 u.v1 w.v1 finer.v1 divide.v1;
}

-- ---- how far a number is above a place

-- the same of an axis and a place that are written in another way
pub above-same : {axis axis' : List ℤ} {place place' : ℕ} (unit : ℕ) (x : ℤ) (offset : ℕ) → axis ≡ axis' → place ≡ place' → IsAbove axis unit x place offset → IsAbove axis' unit x place' offset
above-same {axis} {axis'} {place} {place'} unit x offset p q is = subst (λ (a : List ℤ). IsAbove a unit x place' offset) p (subst (λ (k : ℕ). IsAbove axis unit x k offset) q is)

-- and of a number and an offset too
pub above-moved : (axis : List ℤ) (unit : ℕ) {x x' : ℤ} {place place' offset offset' : ℕ} → x ≡ x' → place ≡ place' → offset ≡ offset' → IsAbove axis unit x place offset → IsAbove axis unit x' place' offset'
above-moved axis unit {x} {x'} {place} {place'} {offset} {offset'} p q r is =
    subst (λ (z : ℤ). IsAbove axis unit z place' offset') p (subst (λ (k : ℕ). IsAbove axis unit x k offset') q (subst (λ (n : ℕ). IsAbove axis unit x place n) r is))

-- an offset is at most the gap of its cell
pub offset-le : (axis : List ℤ) (unit : ℕ) (x : ℤ) (place offset : ℕ) → IsAbove axis unit x place offset → unit * offset ≤ gap axis place
offset-le axis unit x place offset is = omega (arith, is.above, distance-add (place_value axis place) x (place_value axis (place + 1)) is.cell.lower is.cell.upper)

-- an offset in a unit is at most the gap in it
pub offset-within : (axis : List ℤ) (unit place units : ℕ) (x : ℤ) (offset : ℕ) → 0 < unit → IsGapIn axis unit place units → IsAbove axis unit x place offset → offset ≤ units
offset-within axis unit place units x offset some gaps is =
    le_of_mul-le-mul_left {k = unit} (omega (arith, offset-le axis unit x place offset is, gaps.whole is.cell.before_last)) some

-- an offset in units of 1, counted in a unit
pub above-counted : (axis : List ℤ) (unit : ℕ) (x : ℤ) (place place' offset counted : ℕ) → place' ≡ place → IsAbove axis 1 x place offset → unit * counted ≡ offset → IsAbove axis unit x place' counted
above-counted axis unit x place place' offset counted at is e =
    let here : IsAbove axis unit x place counted = record { cell = is.cell; above = omega (arith, e, is.above) } in
    above-same unit x counted refl (sym at) here
