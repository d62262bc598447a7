-- The layer below one that is written, and the layer over it.
use Rattle.std.proofs.Common.{◌≡◌, ℕ, suc, ◌%◌, ◌<◌, inl, inr, List, length, refl, ◌∙◌, arith}
use Rattle.acas_spec.specs.Limits.{IsModel}
use Rattle.acas_spec.specs.Model.{ModelData, states, vertices}
use Rattle.acas_grid.specs.Grid.{IsVertex}
use Rattle.acas_spec.specs.declared.place.Vertex.{Vertex}
use Rattle.acas_grid.proofs.Vertices.{some_width}
use Rattle.std.proofs.lemmas.Nat.{mod_below}
use Rattle.acas_frac.specs.Rounding.{down, up}
use Rattle.acas_units.specs.declared.pair.Pair.{Pair}
use Rattle.acas_process.specs.Compiled.{compiled, compiled_values}
use Rattle.acas_process.proofs.SameLaws.{next_advice, next_layer}
use Rattle.acas_process.proofs.SizeLaws.{compiled_size}
use Rattle.acas_means.specs.Entries.{IsStateEntry}
use Rattle.acas_means.specs.Layer.{AreValuesOf, layer_values}
use Rattle.acas_means.proofs.NumberedStates.{layer_values-is}
use Rattle.acas_grid.specs.States.{state_present, state_vertex}
use Rattle.acas_means.specs.declared.layer.Side.TheVariants.{Upper, Lower}
use Rattle.acas_sweep.specs.Entries.{AreOver, IsWhole, listed_entry}
use Rattle.acas_sweep.proofs.Turns.{turn-below}
use Rattle.acas_grid.proofs.StateNumbers.{state_present-below}

-- the pairs of a layer of the compiled table
pub record ArePairs (m : ModelData) (n : ℕ) (pairs : List Pair) : Type 0 where
  pub count : length pairs ≡ states m.grid
  pub values : AreValuesOf m (compiled m) n pairs

-- it has a small pair for each state
pub is_whole : (m : ModelData) (k : ℕ) (pairs : List Pair) → IsModel m → k < m.grid.horizon → ArePairs m k pairs → IsWhole m pairs
is_whole m k pairs valid below are = record {
  count = are.count;
  small = record {
    upper = record { bounded = λ s h. rw (are.values.upper s (inside s h)) (omega (arith, valid.grid.horizon, compiled_size up (inr refl) m valid k (state_present m.grid s) (state_vertex m.grid s) (state_present-below m.grid s (inside s h)))) };
    lower = record { bounded = λ s h. rw (are.values.lower s (inside s h)) (omega (arith, valid.grid.horizon, compiled_size down (inl refl) m valid k (state_present m.grid s) (state_vertex m.grid s) (state_present-below m.grid s (inside s h)))) };
  };
}
  where
    inside : (s : ℕ) → s < length pairs → s < states m.grid
    inside s h = omega (arith, are.count)

-- what is over it is the next layer of the compiled table
pub next_entry : (m : ModelData) (k : ℕ) (below pairs : List Pair) (advice : List ℕ) → IsModel m → ArePairs m k below → AreOver m below (vertices m.grid) pairs advice
    → (s : ℕ) → s < states m.grid → IsStateEntry m (compiled m) (suc k) s (listed_entry pairs advice s)
next_entry m k below pairs advice valid are over s h =
    let known = state_present-below m.grid s h in
    let here = over.entry s h (turn-below m.grid (s % vertices m.grid) (mod_below s (vertices m.grid) (some_width m.grid.advisories (vertices m.grid) s h))) in
    record {
      upper = here.upper ∙ next_layer up m k (layer_values Upper m.grid below) valid upper (state_present m.grid s) (state_vertex m.grid s) known;
      lower = here.lower ∙ next_layer down m k (layer_values Lower m.grid below) valid lower (state_present m.grid s) (state_vertex m.grid s) known;
      advice = here.advice ∙ next_advice up m k (layer_values Upper m.grid below) valid upper (state_present m.grid s) (state_vertex m.grid s) known;
    }
  where
    upper : (p : ℕ) (y : Vertex) → p < m.grid.advisories → IsVertex m.grid y → layer_values Upper m.grid below p y ≡ compiled_values up m k p y
    upper = layer_values-is m.grid Upper below (compiled_values up m k) are.values.upper

    lower : (p : ℕ) (y : Vertex) → p < m.grid.advisories → IsVertex m.grid y → layer_values Lower m.grid below p y ≡ compiled_values down m k p y
    lower = layer_values-is m.grid Lower below (compiled_values down m k) are.values.lower
