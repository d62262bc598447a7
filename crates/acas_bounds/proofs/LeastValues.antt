-- The least lower values that are found choice by choice, from the last to the first.
use Rattle.std.specs.Int.{int_min}
use Rattle.std.proofs.Common.{◌≡◌, ◌≢◌, ◌∙◌, ℕ, suc, ◌+◌, ◌<◌, ◌≤◌, ℤ, pos, ◌+ℤ◌, List, length, get_or, set, ap, sym, subst, arith}
use Rattle.std.proofs.lemmas.List.{get_or-set_other, get_or-set_same}
use borrow.Author.Count.{below_more}
use Rattle.acas_spec.specs.Model.{ModelData, choices_at, vertices}
use Rattle.acas_units.specs.declared.pair.Pair.{Pair}
use Rattle.acas_grid.specs.States.{vertex_at}
use Rattle.acas_process.proofs.Least.{least-drop}
use Rattle.acas_means.specs.Choices.{listed_choice, no_choice, value_by_mean}
use Rattle.acas_means.specs.Layer.{value_at}
use Rattle.acas_means.specs.declared.layer.Side.TheVariants.{Lower}
use Rattle.acas_bounds.specs.Leasts.{AreLeastsFrom, AreLowered, least_from}
use Rattle.acas_bounds.specs.Means.{formed_lower}
use Rattle.acas_bounds.specs.Planes.{IsPlane, IsPlaneChoice, no_plane_choice}
use Rattle.acas_bounds.specs.declared.plane.Plane.{Plane}
use Rattle.acas_bounds.specs.declared.plane.PlaneChoice.{PlaneChoice}

-- ---- a value that is put at a place

-- the values at the places before it, and its own
pub set_first : (values : List ℤ) (v : ℕ) (value : ℤ) (wanted : ℕ → ℤ) → v < length values → value ≡ wanted v → ((u : ℕ) → u < v → get_or values u (pos 0) ≡ wanted u)
    → (u : ℕ) → u < v + 1 → get_or (set values v value) u (pos 0) ≡ wanted u
set_first values v value wanted within is before =
    below_more (λ (u : ℕ). get_or (set values v value) u (pos 0) ≡ wanted u) v
    (λ u h. let apart : u ≢ v = λ e. absurd (omega arith) in get_or-set_other values v u value (pos 0) apart ∙ before u h)
    (get_or-set_same values v value (pos 0) within ∙ is)

-- those behind it
pub set_rest : (values initial : List ℤ) (v : ℕ) (value : ℤ) → ((u : ℕ) → v ≤ u → get_or values u (pos 0) ≡ get_or initial u (pos 0))
    → (u : ℕ) → v + 1 ≤ u → get_or (set values v value) u (pos 0) ≡ get_or initial u (pos 0)
set_rest values initial v value behind u h = let apart : u ≢ v = λ e. absurd (omega arith) in get_or-set_other values v u value (pos 0) apart ∙ behind u (omega (arith, h))

-- ---- one choice after another

-- the means under the advisory of a choice stand by the numbers of the vertices
pub record AreMeansUnder (m : ModelData) (means under : List Pair) (a : ℕ) : Type 0 where
  pub count : length under ≡ vertices m.grid
  pub values : (v : ℕ) → v < vertices m.grid → value_at Lower under v ≡ formed_lower m means (vertex_at m.grid v) a

-- the mean with the cost is the lower value of the choice
choice_value : (m : ModelData) (means under : List Pair) (plane : Plane) (k v : ℕ) (choice : PlaneChoice) → IsPlaneChoice m plane.present choice → choice.advisory ≡ (listed_choice m plane.present k).advisory
    → AreMeansUnder m means under choice.advisory → v < vertices m.grid → value_at Lower under v +ℤ choice.cost ≡ value_by_mean m plane.present (formed_lower m means (vertex_at m.grid v)) (listed_choice m plane.present k).advisory
choice_value m means under plane k v choice is same are within =
    ap (λ (mean : ℤ). mean +ℤ choice.cost) (are.values v within)
    ∙ ap (λ (cost : ℤ). formed_lower m means (vertex_at m.grid v) choice.advisory +ℤ cost) is.cost
    ∙ ap (value_by_mean m plane.present (formed_lower m means (vertex_at m.grid v))) same

-- the values of the choices behind one, lowered by its own
pub leasts_next : (m : ModelData) (means under : List Pair) (plane : Plane) (k next : ℕ) (old new : List ℤ) → IsPlane m plane → suc k ≡ next → next < plane.count → AreMeansUnder m means under (get_or plane.choices k no_plane_choice).advisory
    → length new ≡ length under → AreLowered under (get_or plane.choices k no_plane_choice).cost old new → AreLeastsFrom m means plane.present next old → AreLeastsFrom m means plane.present k new
leasts_next m means under plane k next old new is after more are long lowered behind = record {
  count = long ∙ are.count;
  each = λ v within.
      let value : ℕ → ℤ = value_by_mean m plane.present (formed_lower m means (vertex_at m.grid v)) in
      let inside : k < plane.count = omega (arith, after, more) in
      lowered.each v (omega (arith, are.count, within))
      ∙ ap (λ (z : ℤ). int_min z (get_or old v (pos 0))) (choice_value m means under plane k v (get_or plane.choices k no_plane_choice) (is.choice k inside) (is.advisory k inside) are within)
      ∙ ap (int_min (value (listed_choice m plane.present k).advisory)) (subst (λ (n : ℕ). get_or old v (pos 0) ≡ least_from m means plane.present n v) (sym after) (behind.each v within))
      ∙ sym (least-drop value (choices_at m plane.present) k no_choice (omega (arith, after, more, is.count)));
}
