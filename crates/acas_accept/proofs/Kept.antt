-- What is kept of a layer more.
use borrow.Author.Count.{below_more}
use Rattle.std.proofs.Common.{◌≡◌, ◌≢◌, ℕ, zero, suc, ◌+◌, ◌-◌, ◌*◌, ◌<◌, ◌≤◌, List, [], ◌∷◌, length, get_or, set, refl, sym, ◌∙◌, ap, subst, arith}
use Rattle.std.proofs.lemmas.List.{get_or-set_other, get_or-set_same, length-set}
use Rattle.std.proofs.lemmas.List.FromFn.{fill_by_all}
use Rattle.std.proofs.Math.Nat.{mul-le-mul_right}
use Rattle.acas_spec.specs.Limits.{IsModel}
use Rattle.acas_spec.specs.Model.{ModelData, states}
use Rattle.acas_grid.specs.States.{state_present}
use Rattle.acas_grid.proofs.StateNumbers.{state_present-below}
use Rattle.acas_process.specs.Cost.{MayChoose}
use Rattle.acas_process.proofs.ModelLaws.{is_chosen}
use Rattle.acas_units.specs.declared.pair.Entry.{Entry}
use Rattle.acas_units.specs.declared.pair.Pair.{Pair}
use Rattle.acas_base.specs.Advices.{AdvicesData, AreAdvicesOf, advice_at, advice_place}
use Rattle.acas_base.specs.Layers.{GainsLayer, LayersData, advice_of, pairs_of}
use Rattle.acas_table_text.specs.Shape.{shape_of}
use Rattle.acas_table_text.specs.Tables.{layer_at, no_entry}
use Rattle.acas_table_text.specs.Text.{entry_at, layer_of}
use Rattle.acas_accept.specs.GivenTable.{entry_place}
use Rattle.acas_accept.specs.Keeping.{AreAdvicesBelow, AreAllowedBelow, AreLayersBelow, AreRead, KeepsLayer, MayBeChosen, listed_entry}

-- ---- layers

length-layer_of : (pairs : List Pair) (advice : List ℕ) → length pairs ≡ length advice → length (layer_of pairs advice) ≡ length pairs
length-layer_of [] advice same = refl
length-layer_of (pair ∷ pairs) [] same = absurd (omega arith)
length-layer_of (pair ∷ pairs) (byte ∷ advice) same = ap suc (length-layer_of pairs advice (omega arith))

layer_of-at : (pairs : List Pair) (advice : List ℕ) (s : ℕ) → length pairs ≡ length advice → get_or (layer_of pairs advice) s no_entry ≡ listed_entry pairs advice s
layer_of-at [] [] s same = refl
layer_of-at [] (byte ∷ advice) s same = absurd (omega arith)
layer_of-at (pair ∷ pairs) [] s same = absurd (omega arith)
layer_of-at (pair ∷ pairs) (byte ∷ advice) zero same = refl
layer_of-at (pair ∷ pairs) (byte ∷ advice) (suc s) same = layer_of-at pairs advice s (omega arith)

-- the layer that was read is that of the bytes
read_layer : (m : ModelData) (bytes : List ℕ) (n : ℕ) (pairs : List Pair) (advice : List ℕ) → length pairs ≡ states m.grid → length advice ≡ states m.grid → AreRead m bytes n (states m.grid) pairs advice
    → layer_of pairs advice ≡ layer_at (shape_of m.grid) bytes n
read_layer m bytes n pairs advice long enough read =
    fill_by_all (λ (state : ℕ). entry_at (shape_of m.grid) bytes (entry_place m.grid n state)) (layer_of pairs advice) (states m.grid) no_entry (length-layer_of pairs advice (omega arith) ∙ long)
    (λ state below. layer_of-at pairs advice state (omega arith) ∙ read.each state below)

pub layers_next : (m : ModelData) (bytes : List ℕ) (n : ℕ) (old new : LayersData) (pairs : List Pair) (advice : List ℕ) → old.count ≡ n → GainsLayer old new pairs advice
    → length pairs ≡ states m.grid → length advice ≡ states m.grid → AreRead m bytes n (states m.grid) pairs advice → AreLayersBelow m bytes n old → AreLayersBelow m bytes (n + 1) new
layers_next m bytes n old new pairs advice stands gains long enough read before = record {
  each =
      below_more (λ (k : ℕ). layer_of (pairs_of new k) (advice_of new k) ≡ layer_at (shape_of m.grid) bytes k) n
      (λ k below.
      let inside : k < old.count = omega arith in
      ap (λ (ps : List Pair). layer_of ps (advice_of new k)) (gains.same_pairs k inside) ∙ ap (λ (given : List ℕ). layer_of (pairs_of old k) given) (gains.same_advice k inside) ∙ before.each k below)
      (subst (λ (k : ℕ). layer_of (pairs_of new k) (advice_of new k) ≡ layer_at (shape_of m.grid) bytes n) stands
      (ap (λ (ps : List Pair). layer_of ps (advice_of new old.count)) gains.new_pairs ∙ ap (λ (given : List ℕ). layer_of pairs given) gains.new_advice ∙ read_layer m bytes n pairs advice long enough read));
}

-- ---- advices

-- an advice that may be chosen is the number of an advisory
pub known_advice : (m : ModelData) (n state : ℕ) (advice : List ℕ) → IsModel m → 1 ≤ n → state < states m.grid → MayBeChosen m n (states m.grid) advice → get_or advice state 0 < m.grid.advisories
known_advice m n state advice v some inside allowed =
    (is_chosen m (state_present m.grid state) (get_or advice state 0) v (state_present-below m.grid state inside) (allowed.each state some inside)).inside

row_end : (n count width : ℕ) → n < count → n * width + width ≤ count * width
row_end n count width below = let next : n + 1 ≤ count = omega arith in omega (arith, mul-le-mul_right width next)

-- one more advice
abbrev written : AdvicesData → ℕ → ℕ → ℕ → AdvicesData
written a n state advice = record a { advice = set a.advice (advice_place a n state) advice }

pub AreAdvicesOf-written : (m : ModelData) (a : AdvicesData) (n state advice : ℕ) → AreAdvicesOf m a → AreAdvicesOf m (written a n state advice)
AreAdvicesOf-written m a n state advice are = record {
  horizon = are.horizon;
  states = are.states;
  advisories = are.advisories;
  count = length-set a.advice (advice_place a n state) advice ∙ are.count;
}

place_inside : (m : ModelData) (a : AdvicesData) (n state : ℕ) → AreAdvicesOf m a → 1 ≤ n → n ≤ m.grid.horizon → state < states m.grid → advice_place a n state < length a.advice
place_inside m a n state are some seconds inside = omega (arith, are.count, are.horizon, are.states, row_end (n - 1) a.horizon a.states (omega (arith, are.horizon)))

-- the advices of the layer's states up to the one that is written
pub here_next : (m : ModelData) (a : AdvicesData) (n state : ℕ) (advice : List ℕ) → AreAdvicesOf m a → 1 ≤ n → n ≤ m.grid.horizon → state < states m.grid
    → ((s : ℕ) → s < state → advice_at a n s ≡ get_or advice s 0) → (s : ℕ) → s < state + 1 → advice_at (written a n state (get_or advice state 0)) n s ≡ get_or advice s 0
here_next m a n state advice are some seconds inside before =
    below_more (λ (s : ℕ). advice_at (written a n state (get_or advice state 0)) n s ≡ get_or advice s 0) state
    (λ s below.
    let apart : advice_place a n s ≢ advice_place a n state = λ e. absurd (omega (arith, e)) in
    get_or-set_other a.advice (advice_place a n state) (advice_place a n s) (get_or advice state 0) 0 apart ∙ before s below)
    (get_or-set_same a.advice (advice_place a n state) (get_or advice state 0) 0 (place_inside m a n state are some seconds inside))

-- those of the layers below
pub below_same : (m : ModelData) (a : AdvicesData) (n state advice k s : ℕ) → AreAdvicesOf m a → 1 ≤ k → k < n → s < states m.grid → advice_at (written a n state advice) k s ≡ advice_at a k s
below_same m a n state advice k s are some below inside =
    let apart : advice_place a k s ≢ advice_place a n state = λ e. absurd (omega (arith, e, are.states, row_end (k - 1) (n - 1) a.states (omega arith))) in
    get_or-set_other a.advice (advice_place a n state) (advice_place a k s) advice 0 apart

-- what holds of all advices of the layers below, and of the layer's own, holds of those below the next
each_kept : (m : ModelData) (n : ℕ) (old new : AdvicesData) (advice : List ℕ) (P : ℕ → ℕ → ℕ → Type 0) → KeepsLayer m n old new advice
    → ((k s : ℕ) → 1 ≤ k → k < n → s < states m.grid → P k s (advice_at old k s)) → ((s : ℕ) → s < states m.grid → P n s (get_or advice s 0))
    → (k s : ℕ) → 1 ≤ k → k < n + 1 → s < states m.grid → P k s (advice_at new k s)
each_kept m n old new advice P keeps before here k s some below inside =
    below_more (λ (j : ℕ). 1 ≤ j → P j s (advice_at new j s)) n
    (λ j h least. subst (P j s) (sym (keeps.below j s least h inside)) (before j s least h inside))
    (λ least. subst (P n s) (sym (keeps.here s inside)) (here s inside)) k below some

pub allowed_next : (m : ModelData) (n : ℕ) (old new : AdvicesData) (advice : List ℕ) → KeepsLayer m n old new advice → 1 ≤ n → MayBeChosen m n (states m.grid) advice → AreAllowedBelow m n old → AreAllowedBelow m (n + 1) new
allowed_next m n old new advice keeps some allowed before = record {
  are = keeps.are;
  each = each_kept m n old new advice (λ k s a. MayChoose m (state_present m.grid s) a) keeps before.each (λ s inside. allowed.each s some inside);
}

pub advices_next : (m : ModelData) (bytes : List ℕ) (n : ℕ) (old new : AdvicesData) (pairs : List Pair) (advice : List ℕ) → KeepsLayer m n old new advice → AreRead m bytes n (states m.grid) pairs advice
    → AreAdvicesBelow m bytes n old → AreAdvicesBelow m bytes (n + 1) new
advices_next m bytes n old new pairs advice keeps read before = record {
  each = each_kept m n old new advice (λ k s a. a ≡ (entry_at (shape_of m.grid) bytes (entry_place m.grid k s)).advice) keeps before.each (λ s inside. ap (λ (e : Entry). e.advice) (read.each s inside));
}
