-- A plane that is written vertex by vertex in the order of turns, and at a vertex present advisory by present advisory.
use Rattle.std.proofs.Common.{◌≡◌, ◌≢◌, ℕ, ◌+◌, ◌<◌, ◌≤◌, inl, inr, ⊎_elim, List, [], ◌∷◌, length, map, set, replicate, refl, ap, sym, subst, ◌∙◌, arith}
use Rattle.std.specs.Prelude.{Option, Some, None, unwrap_or}
use Rattle.std.proofs.lemmas.List.{get_or-replicate, length-map, length-replicate, length-set, map-set}
use Rattle.std.proofs.lemmas.Nat.{same_from_place}
use Rattle.std.proofs.lemmas.Option.{slice_get-get_or}
use Rattle.circular_buffer.proofs.Places.{slice_get-set_other}
use Rattle.acas_spec.specs.Model.{GridData, states, vertices}
use Rattle.acas_grid.specs.Grid.{state_number}
use Rattle.acas_grid.proofs.Vertices.{row_below}
use Rattle.acas_units.specs.declared.pair.Pair.{Pair}
use Rattle.acas_plane.specs.Plane.{IsFree, Plane, missing_in, with_pair}
use Rattle.acas_plane.proofs.Masks.{missing_in-none, missing_in-set}
use Rattle.acas_means.specs.Layer.{no_pair}
use Rattle.acas_sweep.specs.Filled.{IsAhead, IsFilledTo, pairs_in}
use Rattle.acas_sweep.specs.Turns.{turn}

-- ---- the pairs that were written

pub length-pairs_in : (places : List (Option Pair)) → length (pairs_in places) ≡ length places
length-pairs_in places = length-map places (λ place. unwrap_or place no_pair)

pub pairs_in-set : (places : List (Option Pair)) (i : ℕ) (x : Pair) → pairs_in (set places i (Some x)) ≡ set (pairs_in places) i x
pairs_in-set places i x = map-set (λ place. unwrap_or place no_pair) places i (Some x)

pairs_in-some : (xs : List Pair) → pairs_in (map Some xs) ≡ xs
pairs_in-some [] = refl
pairs_in-some (x ∷ xs) = ap (λ l. x ∷ l) (pairs_in-some xs)

-- where all places were written
pub pairs_in-all : (xs : List Pair) (places : List (Option Pair)) → map Some xs ≡ places → xs ≡ pairs_in places
pairs_in-all xs places all = sym (pairs_in-some xs) ∙ ap pairs_in all

-- ---- how far a plane is written

free-none : (n i : ℕ) → i < n → let none : Option Pair = None in IsFree (replicate n none) i
free-none n i h = let none : Option Pair = None in slice_get-get_or (replicate n none) i none (omega (arith, length-replicate n none)) ∙ ap Some (get_or-replicate n i none none h)

pub filled_none : (g : GridData) (plane : Plane) → plane.states ≡ states g → plane.work ≡ replicate (states g) None → IsFilledTo g 0 0 plane
filled_none g plane same empty = record {
  state_count = same;
  place_count = ap length empty ∙ length-replicate (states g) None;
  missing = let all : missing_in plane.work ≡ states g = ap missing_in empty ∙ missing_in-none Pair (states g) in omega (arith, all);
  free = λ w q inside known ahead. subst (λ (places : List (Option Pair)). IsFree places (state_number g q w)) (sym empty) (free-none (states g) (state_number g q w) (row_below g.advisories (vertices g) q w known inside));
}

-- the next place was not written
pub next_free : (g : GridData) (v p : ℕ) (plane : Plane) → v < vertices g → p < g.advisories → IsFilledTo g (turn g v) p plane → IsFree plane.work (state_number g p v)
next_free g v p plane inside known so_far = so_far.free v p inside known (inr (refl, omega arith))

pub filled_next : (g : GridData) (v p : ℕ) (plane : Plane) (x : Pair) → v < vertices g → p < g.advisories → IsFilledTo g (turn g v) p plane → IsFilledTo g (turn g v) (p + 1) (with_pair plane (state_number g p v) x)
filled_next g v p plane x inside known so_far = record {
  state_count = so_far.state_count;
  place_count = length-set plane.work (state_number g p v) (Some x) ∙ so_far.place_count;
  missing = omega (arith, so_far.missing, missing_in-set plane.work (state_number g p v) x (next_free g v p plane inside known so_far));
  free = λ w q wi qi ahead. slice_get-set_other plane.work (state_number g p v) (state_number g q w) (Some x) (apart w q wi ahead) ∙ so_far.free w q wi qi (earlier w q ahead);
}
  where
    earlier : (w q : ℕ) → IsAhead (turn g v) (p + 1) (turn g w) q → IsAhead (turn g v) p (turn g w) q
    earlier w q ahead = ⊎_elim (λ (l : turn g v < turn g w). inl l) (λ (h : (turn g w ≡ turn g v) × (p + 1 ≤ q)). inr (h.0, omega (arith, h.1))) ahead

    apart : (w q : ℕ) → w < vertices g → IsAhead (turn g v) (p + 1) (turn g w) q → state_number g q w ≢ state_number g p v
    apart w q wi ahead same =
        let parts = same_from_place q w p v (vertices g) wi inside same in
        ⊎_elim (λ (l : turn g v < turn g w). absurd (omega (arith, ap (λ (u : ℕ). turn g u) parts.1))) (λ (h : (turn g w ≡ turn g v) × (p + 1 ≤ q)). absurd (omega (arith, parts.0, h.1))) ahead
