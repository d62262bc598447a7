-- The layers that a sweep hands on are those of the compiled table.
use Rattle.std.proofs.Common.{◌≡◌, ℕ, suc, ◌+◌, ◌<◌, ℤ, List, length, get_or, refl, sym, subst, ◌∙◌, arith}
use Rattle.std.proofs.lemmas.List.{ext_get_or}
use Rattle.std.proofs.lemmas.List.FromFn.{length-map-range_with_len, get_or-map-range_with_len}
use Rattle.acas_spec.specs.Limits.{IsModel}
use Rattle.acas_spec.specs.Model.{ModelData, states, vertices}
use Rattle.acas_units.specs.declared.pair.Pair.{Pair}
use Rattle.acas_process.specs.Compiled.{compiled}
use Rattle.acas_means.specs.Entries.{IsStateEntry}
use Rattle.acas_means.specs.Layer.{IsLayer, no_pair}
use Rattle.acas_sweep.specs.Entries.{AreOver, listed_entry}
use Rattle.acas_sweep.specs.Handed.{AddsBelow, LayerData, compiled_layer, state_advice, state_pair}
use Rattle.acas_sweep.proofs.Below.{ArePairs, next_entry}

-- ---- one layer

pub layer_of_entries : (m : ModelData) (n : ℕ) (pairs : List Pair) (advice : List ℕ) → length pairs ≡ states m.grid → length advice ≡ states m.grid
    → ((s : ℕ) → s < states m.grid → IsStateEntry m (compiled m) n s (listed_entry pairs advice s)) → IsLayer m (compiled m) n pairs advice
layer_of_entries m n pairs advice long enough entries = record {
  pair_count = long;
  advice_count = enough;
  values = record { upper = λ s inside. (entries s inside).upper; lower = λ s inside. (entries s inside).lower };
  advices = λ s inside. (entries s inside).advice;
}

-- over the layer below it
pub layer_over : (m : ModelData) (n : ℕ) (below pairs : List Pair) (advice : List ℕ) → IsModel m → ArePairs m n below → AreOver m below (vertices m.grid) pairs advice
    → length pairs ≡ states m.grid → length advice ≡ states m.grid → IsLayer m (compiled m) (n + 1) pairs advice
layer_over m n below pairs advice valid are over long enough =
    let next : suc n ≡ n + 1 = omega arith in
    subst (λ (k : ℕ). IsLayer m (compiled m) k pairs advice) next (layer_of_entries m (suc n) pairs advice long enough (next_entry m n below pairs advice valid are over))

pub pairs_of_layer : (m : ModelData) (n : ℕ) (pairs : List Pair) (advice : List ℕ) → IsLayer m (compiled m) n pairs advice → ArePairs m n pairs
pairs_of_layer m n pairs advice layer = record { count = layer.pair_count; values = layer.values }

pair_is : (p : Pair) (upper lower : ℤ) → p.upper ≡ upper → p.lower ≡ lower → p ≡ record { upper = upper; lower = lower }
pair_is p upper lower u l = rw (← u, ← l) refl

pub compiled_layer-is : (m : ModelData) (n : ℕ) (pairs : List Pair) (advice : List ℕ) → IsLayer m (compiled m) n pairs advice
    → ◌≡◌ {A = LayerData} (record { n = n; pairs = pairs; advice = advice }) (compiled_layer m n)
compiled_layer-is m n pairs advice layer = λ i. record { n = n; pairs = same_pairs i; advice = same_advice i }
  where
    all : ℕ
    all = states m.grid

    same_pairs : pairs ≡ (compiled_layer m n).pairs
    same_pairs = ext_get_or no_pair pairs (compiled_layer m n).pairs (layer.pair_count ∙ sym (length-map-range_with_len (state_pair m (compiled m) n) 0 all)) (λ s within.
        let inside : s < all = omega (arith, within, layer.pair_count) in
        pair_is (get_or pairs s no_pair) _ _ (layer.values.upper s inside) (layer.values.lower s inside) ∙ sym (get_or-map-range_with_len (state_pair m (compiled m) n) 0 all s s no_pair inside (omega arith)))

    same_advice : advice ≡ (compiled_layer m n).advice
    same_advice = ext_get_or 0 advice (compiled_layer m n).advice (layer.advice_count ∙ sym (length-map-range_with_len (state_advice m (compiled m) n) 0 all)) (λ s within.
        let inside : s < all = omega (arith, within, layer.advice_count) in
        layer.advices s inside ∙ sym (get_or-map-range_with_len (state_advice m (compiled m) n) 0 all s s 0 inside (omega arith)))

-- ---- one layer more

pub AddsBelow-more : {S : Type 0} (adds : S → LayerData → S → Type 0) (layer : ℕ → LayerData) (before : S) (n : ℕ) (between after : S)
    → AddsBelow adds layer before n between → adds between (layer n) after → AddsBelow adds layer before (n + 1) after
AddsBelow-more adds layer before n between after below added =
    let next : suc n ≡ n + 1 = omega arith in subst (λ (k : ℕ). AddsBelow adds layer before k after) next (between, below, added)
