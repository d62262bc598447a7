-- The layers below a number of seconds to go, layer by layer.
use Rattle.std.proofs.Common.{◌≡◌, ℕ, zero, suc, ◌+◌, ◌-◌, ◌*◌, ◌<◌, ◌≤◌, ⊎_elim, pos, List, length, get_or, take, drop, ◌++◌, refl, ap, sym, subst, ◌∙◌, arith}
use Rattle.std.proofs.lemmas.List.{get_or-append-add, get_or-drop, get_or-take, get_or_append_left, length-drop, length-take, take_all}
use Rattle.std.proofs.Math.Nat.{mul-le-mul_right}
use Rattle.std.proofs.Math.Seq.{take-append_seam}
use Rattle.std.specs.List.{slice_range}
use Rattle.acas_spec.specs.Limits.{IsModel}
use Rattle.acas_spec.specs.Model.{GridData, ModelData, entries, states, vertices}
use Rattle.acas_grid.proofs.Vertices.{row_below}
use Rattle.acas_units.specs.declared.pair.Pair.{Pair}
use Rattle.acas_process.specs.Compiled.{compiled}
use Rattle.acas_means.specs.Entries.{IsStateEntry}
use Rattle.acas_means.specs.Layer.{IsLayer, no_pair}
use Rattle.acas_plain.specs.Below.{AreBelow}
use Rattle.acas_sweep.specs.Entries.{AreOver, IsWhole, listed_entry}
use Rattle.acas_base.specs.Layers.{all_layers}
use Rattle.acas_sweep.specs.Layers.{AreLayers}
use Rattle.acas_sweep.proofs.Placed.{below_or_at}
use Rattle.acas_sweep.proofs.Below.{ArePairs, is_whole, next_entry}

pub below_one : (m : ModelData) (pairs : List Pair) (advice : List ℕ)
    → ((s : ℕ) → s < states m.grid → IsStateEntry m (compiled m) 0 s (listed_entry pairs advice s)) → AreBelow m 1 pairs advice
below_one m pairs advice first = record { entry = at }
  where
    at : (k s : ℕ) → k < 1 → s < states m.grid → IsStateEntry m (compiled m) k s (listed_entry pairs advice (k * states m.grid + s))
    at zero s h inside =
        let place : s ≡ 0 * states m.grid + s = omega arith in
        subst (λ (n : ℕ). IsStateEntry m (compiled m) 0 s (listed_entry pairs advice n)) place (first s inside)
    at (suc k) s h inside = absurd (omega arith)

-- the last of the layers below
pub last_pairs : (m : ModelData) (k first : ℕ) (pairs : List Pair) (advice : List ℕ) → first ≡ suc k * states m.grid → first ≤ length pairs → AreBelow m (suc k) pairs advice
    → ArePairs m k (drop (first - states m.grid) (take first pairs))
last_pairs m k first pairs advice begins long below = record {
  count = length-drop (first - states m.grid) (take first pairs) ∙ omega (arith, length-take first pairs);
  values = record {
    upper = λ s h. rw (at s h) ((below.entry k s (omega arith) h).upper);
    lower = λ s h. rw (at s h) ((below.entry k s (omega arith) h).lower);
  };
}
  where
    place : first - states m.grid ≡ k * states m.grid
    place = omega arith

    at : (s : ℕ) → s < states m.grid → get_or (drop (first - states m.grid) (take first pairs)) s no_pair ≡ get_or pairs (k * states m.grid + s) no_pair
    at s h =
        get_or-drop (first - states m.grid) (take first pairs) s no_pair
        ∙ get_or-take first pairs (first - states m.grid + s) no_pair (omega arith)
        ∙ ap (λ (n : ℕ). get_or pairs (n + s) no_pair) place

-- the layers so far stay, and one more stands after them
pub below_next : (m : ModelData) (n first : ℕ) (pairs : List Pair) (advice : List ℕ) (pairs' : List Pair) (advice' : List ℕ) → first ≡ n * states m.grid → first ≤ length pairs → first ≤ length advice
    → AreBelow m n pairs advice
    → ((s : ℕ) → s < states m.grid → IsStateEntry m (compiled m) n s (listed_entry pairs' advice' s))
    → AreBelow m (n + 1) (take first pairs ++ pairs') (take first advice ++ advice')
below_next m n first pairs advice pairs' advice' begins long enough below here = record { entry = λ k s l h. at k s l h }
  where
    d : Pair
    d = record { upper = pos 0; lower = pos 0 }

    pair_before : (i : ℕ) → i < first → get_or (take first pairs ++ pairs') i no_pair ≡ get_or pairs i no_pair
    pair_before i l = get_or_append_left (take first pairs) pairs' no_pair i (omega (arith, length-take first pairs)) ∙ get_or-take first pairs i no_pair l

    advice_before : (i : ℕ) → i < first → get_or (take first advice ++ advice') i 0 ≡ get_or advice i 0
    advice_before i l = get_or_append_left (take first advice) advice' 0 i (omega (arith, length-take first advice)) ∙ get_or-take first advice i 0 l

    pair_after : (s : ℕ) → get_or (take first pairs ++ pairs') (first + s) no_pair ≡ get_or pairs' s no_pair
    pair_after s =
        let count : length (take first pairs) ≡ first = omega (arith, length-take first pairs) in
        subst (λ (n : ℕ). get_or (take first pairs ++ pairs') (n + s) no_pair ≡ get_or pairs' s no_pair) count (get_or-append-add (take first pairs) pairs' s no_pair)

    advice_after : (s : ℕ) → get_or (take first advice ++ advice') (first + s) 0 ≡ get_or advice' s 0
    advice_after s =
        let count : length (take first advice) ≡ first = omega (arith, length-take first advice) in
        subst (λ (n : ℕ). get_or (take first advice ++ advice') (n + s) 0 ≡ get_or advice' s 0) count (get_or-append-add (take first advice) advice' s 0)

    at : (k s : ℕ) → k < n + 1 → s < states m.grid → IsStateEntry m (compiled m) k s (listed_entry (take first pairs ++ pairs') (take first advice ++ advice') (k * states m.grid + s))
    at k s l h = ⊎_elim
        (λ (earlier : k < n).
        let inside : k * states m.grid + s < first = subst (λ (z : ℕ). k * states m.grid + s < z) (sym begins) (row_below n (states m.grid) k s earlier h) in
        rw (pair_before (k * states m.grid + s) inside, advice_before (k * states m.grid + s) inside) (below.entry k s earlier h))
        (λ (now : k ≡ n).
        subst (λ (j : ℕ). IsStateEntry m (compiled m) j s (listed_entry (take first pairs ++ pairs') (take first advice ++ advice') (j * states m.grid + s))) (sym now)
        (subst (λ (f : ℕ). IsStateEntry m (compiled m) n s (listed_entry (take first pairs ++ pairs') (take first advice ++ advice') (f + s))) begins
        (rw (pair_after s, advice_after s) (here s h))))
        (below_or_at k n l)

-- ---- the same by the number of a layer above layer 0

-- the layer below the one with n seconds to go, among all layers
abbrev pub layer_before : ModelData → ℕ → List Pair → List Pair
layer_before m n pairs =
    let first = n * states m.grid in
    take (length (take first pairs) - (first - states m.grid)) (drop (first - states m.grid) (take first pairs))

room : (m : ModelData) (n count : ℕ) → n ≤ m.grid.horizon → count ≡ entries m.grid → n * states m.grid ≤ count
room m n count h long = let next : n ≤ m.grid.horizon + 1 = omega arith in omega (arith, mul-le-mul_right (states m.grid) next)

before_is : (m : ModelData) (n : ℕ) (pairs : List Pair) (advice : List ℕ) → 0 < n → n ≤ m.grid.horizon → length pairs ≡ entries m.grid → AreBelow m n pairs advice → ArePairs m (n - 1) (layer_before m n pairs)
before_is m n pairs advice some h long below =
    let k : n ≡ suc (n - 1) = omega arith in
    let begins : n * states m.grid ≡ suc (n - 1) * states m.grid = ap (λ (j : ℕ). j * states m.grid) k in
    let so_far : AreBelow m (suc (n - 1)) pairs advice = subst (λ (j : ℕ). AreBelow m j pairs advice) k below in
    let first : ℕ = n * states m.grid in
    let whole : take (length (take first pairs) - (first - states m.grid)) (drop (first - states m.grid) (take first pairs)) ≡ drop (first - states m.grid) (take first pairs) =
    take_all (length (take first pairs) - (first - states m.grid)) (drop (first - states m.grid) (take first pairs)) (omega (arith, length-drop (first - states m.grid) (take first pairs))) in
    subst (λ (xs : List Pair). ArePairs m (n - 1) xs) (sym whole) (last_pairs m (n - 1) first pairs advice begins (room m n (length pairs) h long) so_far)

pub whole_below : (m : ModelData) (n : ℕ) (pairs : List Pair) (advice : List ℕ) → IsModel m → 0 < n → n ≤ m.grid.horizon → length pairs ≡ entries m.grid → AreBelow m n pairs advice → IsWhole m (layer_before m n pairs)
whole_below m n pairs advice valid some h long below = is_whole m (n - 1) (layer_before m n pairs) valid (omega arith) (before_is m n pairs advice some h long below)

pub next_below : (m : ModelData) (n : ℕ) (pairs : List Pair) (advice : List ℕ) (pairs' : List Pair) (advice' : List ℕ) → IsModel m → 0 < n → n ≤ m.grid.horizon
    → length pairs ≡ entries m.grid → length advice ≡ entries m.grid → AreBelow m n pairs advice → AreOver m (layer_before m n pairs) (vertices m.grid) pairs' advice'
    → AreBelow m (n + 1) (take (n * states m.grid) pairs ++ pairs') (take (n * states m.grid) advice ++ advice')
next_below m n pairs advice pairs' advice' valid some h long enough below over =
    let k : suc (n - 1) ≡ n = omega arith in
    below_next m n (n * states m.grid) pairs advice pairs' advice' refl (room m n (length pairs) h long) (room m n (length advice) h enough) below
    (λ s i. subst (λ (j : ℕ). IsStateEntry m (compiled m) j s (listed_entry pairs' advice' s)) k
    (next_entry m (n - 1) (layer_before m n pairs) pairs' advice' valid (before_is m n pairs advice some h long below) over s i))

-- ---- all layers

pub are_layers : (m : ModelData) (pairs : List Pair) (advice : List ℕ) → length pairs ≡ entries m.grid → length advice ≡ entries m.grid → AreBelow m (m.grid.horizon + 1) pairs advice
    → AreLayers m (all_layers m.grid pairs advice)
are_layers m pairs advice pair_count advice_count below = record { horizon = refl; count = refl; layer = λ n h. layer n h }
  where
    ends : (n : ℕ) → n ≤ m.grid.horizon → n * states m.grid + states m.grid ≤ entries m.grid
    ends n h = let next : n + 1 ≤ m.grid.horizon + 1 = omega arith in omega (arith, mul-le-mul_right (states m.grid) next)

    at : {A : Type 0} (xs : List A) (n s : ℕ) (d : A) → s < states m.grid → get_or (slice_range xs (n * states m.grid) (n * states m.grid + states m.grid)) s d ≡ get_or xs (n * states m.grid + s) d
    at {A} xs n s d h =
        let width : s < n * states m.grid + states m.grid - n * states m.grid = omega arith in
        get_or-take (n * states m.grid + states m.grid - n * states m.grid) (drop (n * states m.grid) xs) s d width ∙ get_or-drop (n * states m.grid) xs s d

    count : {A : Type 0} (xs : List A) (n : ℕ) → n ≤ m.grid.horizon → length xs ≡ entries m.grid → length (slice_range xs (n * states m.grid) (n * states m.grid + states m.grid)) ≡ states m.grid
    count {A} xs n h long = length-take (n * states m.grid + states m.grid - n * states m.grid) (drop (n * states m.grid) xs) ∙ omega (arith, length-drop (n * states m.grid) xs, ends n h)

    layer : (n : ℕ) → n ≤ m.grid.horizon → IsLayer m (compiled m) n (slice_range pairs (n * states m.grid) (n * states m.grid + states m.grid)) (slice_range advice (n * states m.grid) (n * states m.grid + states m.grid))
    layer n h = record {
      pair_count = count pairs n h pair_count;
      advice_count = count advice n h advice_count;
      values = record {
        upper = λ s i. rw (at pairs n s no_pair i) ((below.entry n s (omega arith) i).upper);
        lower = λ s i. rw (at pairs n s no_pair i) ((below.entry n s (omega arith) i).lower);
      };
      advices = λ s i. rw (at advice n s 0 i) ((below.entry n s (omega arith) i).advice);
    }

pub same_lists : (g : GridData) (pairs pairs' : List Pair) (advice advice' : List ℕ) → pairs ≡ pairs' → advice ≡ advice' → all_layers g pairs advice ≡ all_layers g pairs' advice'
same_lists g pairs pairs' advice advice' p a = rw (p, a) refl

-- a list that is written back at its own length
pub written_back : {A : Type 0} (n : ℕ) (xs ys : List A) → n ≡ length xs → take n (xs ++ ys) ≡ xs
written_back {A} n xs ys h = rw (h, take-append_seam xs ys) refl
