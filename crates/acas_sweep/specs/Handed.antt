-- Layers that are handed to a sink, one after the other.
use Rattle.std.specs.Prelude.{◌≡◌, ℕ, zero, suc, ◌<◌, List, Option, map}
use Rattle.std.specs.List.{range_with_len}
use Rattle.acas_spec.specs.Model.{ModelData, states}
use Rattle.acas_spec.specs.Table.{Table}
use Rattle.acas_grid.specs.States.{state_present, state_vertex}
use Rattle.acas_units.specs.declared.pair.Pair.{Pair}
use Rattle.acas_process.specs.Compiled.{compiled}
use Rattle.acas_sweep.specs.Filled.{pairs_in}

-- a layer of a table: how many seconds are to go, and the pair and the advice of each state by its number
pub record LayerData : Type 0 where
  pub n : ℕ
  pub pairs : List Pair
  pub advice : List ℕ

-- the layer that stands in a written plane, with these advices
abbrev pub plane_layer : ℕ → List (Option Pair) → List ℕ → LayerData
plane_layer n places advice = record { n = n; pairs = pairs_in places; advice = advice }

-- the pair of a state by its number
abbrev pub state_pair : ModelData → Table → ℕ → ℕ → Pair
state_pair m t n s = record {
  upper = t.upper n (state_present m.grid s) (state_vertex m.grid s);
  lower = t.lower n (state_present m.grid s) (state_vertex m.grid s);
}

-- the advice of a state by its number
abbrev pub state_advice : ModelData → Table → ℕ → ℕ → ℕ
state_advice m t n s = t.advice n (state_present m.grid s) (state_vertex m.grid s)

-- the layer of a model's compiled table
abbrev pub compiled_layer : ModelData → ℕ → LayerData
compiled_layer m n = record {
  n = n;
  pairs = map (state_pair m (compiled m) n) (range_with_len 0 (states m.grid));
  advice = map (state_advice m (compiled m) n) (range_with_len 0 (states m.grid));
}

module _ {S : Type 0} (adds : S → LayerData → S → Type 0) (layer : ℕ → LayerData) where
  -- the layers below a number were added to a sink, in order
  abbrev pub AddsBelow : S → ℕ → S → Type 0
  AddsBelow before zero after = before ≡ after
  AddsBelow before (suc n) after = (between : S) × AddsBelow before n between × adds between (layer n) after

  -- those below some number of so many were added, and the layer of that number was cut
  abbrev pub CutBelow : (S → LayerData → S → Type 0) → S → ℕ → S → Type 0
  CutBelow cuts before count after =
      (n : ℕ) × (n < count) × (between : S) × AddsBelow before n between × cuts between (layer n) after
