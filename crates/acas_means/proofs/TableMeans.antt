-- Means of a layer that is a table's, by number and by vertex, and lists of pairs of which one more is written.
use Rattle.std.proofs.Common.{◌≡◌, ℕ, ◌<◌, ◌≤◌, unsigned_abs, List, length, refl, inl, inr, sym, subst, ◌∙◌, arith}
use Rattle.acas_spec.specs.Limits.{IsModel}
use Rattle.acas_spec.specs.Model.{GridData, ModelData, states}
use Rattle.acas_spec.specs.Table.{Table}
use Rattle.acas_spec.specs.declared.place.Vertex.{Vertex}
use Rattle.acas_frac.specs.Rounding.{down, up}
use Rattle.acas_grid.specs.Grid.{state_number, vertex_number}
use Rattle.acas_grid.specs.States.{state_present, state_vertex}
use Rattle.acas_grid.proofs.StateNumbers.{state_present-below}
use Rattle.acas_units.specs.declared.pair.Pair.{Pair}
use Rattle.acas_process.specs.Values.{mean_value}
use Rattle.acas_process.proofs.SameLaws.{mean_same}
use Rattle.acas_process.proofs.SizeLaws.{mean_bounded}
use Rattle.acas_means.specs.Layer.{AreValuesOf, AreWithin, layer_values, pair_at, value_of}
use Rattle.acas_means.specs.Means.{AreMeansAt, AreMeansOf}
use Rattle.acas_means.specs.Reach.{IsReach}
use Rattle.acas_means.specs.declared.layer.Side.{Side}
use Rattle.acas_means.specs.declared.layer.Side.TheVariants.{Lower, Upper}
use Rattle.acas_means.specs.declared.reach.Reach.{Reach}
use Rattle.acas_means.proofs.NumberedStates.{layer_values-is, state_number-below}

-- a mean of the values of a table's layer is that of the layer
pub upper_mean-is : (m : ModelData) (t : Table) (n : ℕ) (pairs : List Pair) (x : Vertex) (a : ℕ) → a < m.grid.advisories → AreValuesOf m t n pairs
    → mean_value up m (layer_values Upper m.grid pairs) x a ≡ mean_value up m (t.upper n) x a
upper_mean-is m t n pairs x a known are = mean_same up m (layer_values Upper m.grid pairs) (t.upper n) x a (λ y inside. layer_values-is m.grid Upper pairs (t.upper n) are.upper a y known inside)

pub lower_mean-is : (m : ModelData) (t : Table) (n : ℕ) (pairs : List Pair) (x : Vertex) (a : ℕ) → a < m.grid.advisories → AreValuesOf m t n pairs
    → mean_value down m (layer_values Lower m.grid pairs) x a ≡ mean_value down m (t.lower n) x a
lower_mean-is m t n pairs x a known are = mean_same down m (layer_values Lower m.grid pairs) (t.lower n) x a (λ y inside. layer_values-is m.grid Lower pairs (t.lower n) are.lower a y known inside)

-- the means of all states, written one after the other, are those of a table's layer
pub means_written : (m : ModelData) (below means : List Pair) → ((s : ℕ) → s < states m.grid → AreMeansAt m below (state_vertex m.grid s) (state_present m.grid s) (pair_at means s))
    → (t : Table) (n : ℕ) → AreValuesOf m t n below → AreMeansOf m t n means
means_written m below means are t n values = record {
  upper = λ s here. (are s here).upper ∙ upper_mean-is m t n below (state_vertex m.grid s) (state_present m.grid s) (state_present-below m.grid s here) values;
  lower = λ s here. (are s here).lower ∙ lower_mean-is m t n below (state_vertex m.grid s) (state_present m.grid s) (state_present-below m.grid s here) values;
}

-- no mean is larger than the largest value
pub means_bounded : (m : ModelData) (below : List Pair) (x : Vertex) (a : ℕ) (pair : Pair) (most : ℕ) (side : Side) → IsModel m → a < m.grid.advisories → length below ≡ states m.grid → AreMeansAt m below x a pair →
    AreWithin most side below → unsigned_abs (value_of side pair) ≤ most
means_bounded m below x a pair most Upper valid known all are within =
    subst (λ z. unsigned_abs z ≤ most) (sym are.upper)
    (mean_bounded up (inr refl) m (layer_values Upper m.grid below) x a most valid
    (λ y inside. within.bounded (state_number m.grid a (vertex_number m.grid y)) (omega (arith, all, state_number-below m.grid a y known inside))))
means_bounded m below x a pair most Lower valid known all are within =
    subst (λ z. unsigned_abs z ≤ most) (sym are.lower)
    (mean_bounded down (inl refl) m (layer_values Lower m.grid below) x a most valid
    (λ y inside. within.bounded (state_number m.grid a (vertex_number m.grid y)) (omega (arith, all, state_number-below m.grid a y known inside))))

-- the reach of a layer bounds both sides
reach_within : (g : GridData) (below : List Pair) (r : Reach) (side : Side) → IsReach g below r → AreWithin r.size side below
reach_within g below r Upper reach = reach.upper
reach_within g below r Lower reach = reach.lower

-- no mean of all states is larger than the reach of the layer says
pub means_within : (m : ModelData) (below means : List Pair) (r : Reach) → IsModel m → length below ≡ states m.grid → length means ≡ states m.grid → IsReach m.grid below r
    → ((s : ℕ) → s < states m.grid → AreMeansAt m below (state_vertex m.grid s) (state_present m.grid s) (pair_at means s)) → (side : Side) → AreWithin r.size side means
means_within m below means r valid all count reach are side = record {
  bounded = λ s here.
      let inside : s < states m.grid = omega (arith, count, here) in
      means_bounded m below (state_vertex m.grid s) (state_present m.grid s) (pair_at means s) r.size side valid (state_present-below m.grid s inside) all (are s inside) (reach_within m.grid below r side reach);
}
