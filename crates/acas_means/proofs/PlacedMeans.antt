-- Pairs that are written at a vertex advisory by advisory.
use Rattle.std.proofs.Common.{◌≡◌, ◌≢◌, ℕ, ◌+◌, ◌%◌, ◌<◌, ◌≤◌, ◌⊎◌, inl, inr, ⊎_elim, List, length, set, ap, sym, subst, ◌∙◌, arith}
use Rattle.std.proofs.lemmas.Bool.{cases_lt}
use Rattle.std.proofs.lemmas.List.{get_or-set_other, get_or-set_same}
use Rattle.std.proofs.lemmas.Nat.{mod-mul-add, same_from_place}
use Rattle.acas_spec.specs.Model.{GridData, vertices}
use Rattle.acas_grid.specs.Grid.{state_number}
use Rattle.acas_units.specs.declared.pair.Pair.{Pair}
use Rattle.acas_means.specs.Layer.{no_pair, pair_at}

-- a number below the next one is below or at this one
pub below_or_at : (k n : ℕ) → k < n + 1 → (k < n) ⊎ (k ≡ n)
below_or_at k n h = ⊎_elim (λ (l : k < n). inl l) (λ (g : n ≤ k). inr (omega arith)) (cases_lt k n)

-- the pairs at a vertex under the first advisories, and the one that is written
pub pairs_next : (g : GridData) (v a : ℕ) (pairs from : List Pair) (pair : Pair) → v < vertices g → state_number g a v < length pairs → pair ≡ pair_at from a
    → ((b : ℕ) → b < a → pair_at pairs (state_number g b v) ≡ pair_at from b) → (b : ℕ) → b < a + 1 → pair_at (set pairs (state_number g a v) pair) (state_number g b v) ≡ pair_at from b
pairs_next g v a pairs from pair inside room is so_far b below = ⊎_elim
    (λ (l : b < a). let apart : state_number g b v ≢ state_number g a v = λ same. absurd (omega (arith, (same_from_place b v a v (vertices g) inside inside same).0)) in
    get_or-set_other pairs (state_number g a v) (state_number g b v) pair no_pair apart ∙ so_far b l)
    (λ (here : b ≡ a). subst (λ (c : ℕ). pair_at (set pairs (state_number g a v) pair) (state_number g c v) ≡ pair_at from c) (sym here)
    (get_or-set_same pairs (state_number g a v) pair no_pair room ∙ is))
    (below_or_at b a below)

-- a pair at one vertex is written at no other
pub pairs_elsewhere : (g : GridData) (v a : ℕ) (pairs : List Pair) (pair : Pair) → v < vertices g → (s : ℕ) → s % vertices g ≢ v → pair_at (set pairs (state_number g a v) pair) s ≡ pair_at pairs s
pairs_elsewhere g v a pairs pair inside s other =
    let apart : s ≢ state_number g a v = λ same. other (ap (λ (n : ℕ). n % vertices g) same ∙ mod-mul-add a (vertices g) v inside) in
    get_or-set_other pairs (state_number g a v) s pair no_pair apart
