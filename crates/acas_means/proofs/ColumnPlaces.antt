-- Means that are written column by column, and in a column vertex by vertex.
use Rattle.std.proofs.Common.{◌≡◌, ◌≢◌, ℕ, ◌+◌, ◌*◌, ◌/◌, ◌%◌, ◌<◌, ⊎_elim, List, [], length, set, ap, sym, subst, ◌∙◌, arith}
use Rattle.std.proofs.lemmas.Bool.{cases_eq}
use Rattle.std.proofs.lemmas.Grind.{get_or-set_at}
use Rattle.std.proofs.lemmas.List.{get_or-set_other}
use Rattle.std.proofs.lemmas.Nat.{div-add-mod', div_below, mod_below, mod-mul-add, same_from_place}
use Rattle.acas_spec.specs.Model.{GridData, ModelData, states, vertices}
use Rattle.acas_grid.specs.Grid.{state_number}
use Rattle.acas_grid.specs.States.{state_present, state_vertex, vertex_at}
use Rattle.acas_grid.proofs.StateNumbers.{state_present-below}
use Rattle.acas_grid.proofs.Vertices.{some_width}
use Rattle.acas_units.specs.declared.pair.Pair.{Pair}
use Rattle.acas_means.specs.Columns.{AreColumnMeans, columns, pairs_at, vertex_in}
use Rattle.acas_means.specs.Layer.{pair_at}
use Rattle.acas_means.specs.Means.{AreMeansAt}
use Rattle.acas_means.proofs.ColumnLaws.{all_columns, vertex_in-below}
use Rattle.acas_means.proofs.PlacedMeans.{below_or_at}

-- a state at another vertex of a column, or in another column, is at another vertex
other_state : (g : GridData) (column i j a : ℕ) → column < columns g → i < length g.h → i ≢ j → state_number g a (vertex_in g column i) % vertices g ≢ vertex_in g column j
other_state g column i j a inside here apart =
    λ same. apart (same_from_place i column j column (columns g) inside inside (sym (mod-mul-add a (vertices g) (vertex_in g column i) (vertex_in-below g column i inside here)) ∙ same)).0

pub other_vertex : (g : GridData) (column i s : ℕ) → column < columns g → s % vertices g % columns g ≢ column → s % vertices g ≢ vertex_in g column i
other_vertex g column i s inside apart = λ same. apart (ap (λ (v : ℕ). v % columns g) same ∙ mod-mul-add i (columns g) column inside)

-- the pairs at the first vertices of a column, and those at one more
pub vertex_written : (g : GridData) (column j : ℕ) (pairs pairs' : List Pair) (lists : List (List Pair)) → column < columns g → j < length g.h
    → ((i a : ℕ) → i < j → a < g.advisories → pair_at pairs (state_number g a (vertex_in g column i)) ≡ pair_at (pairs_at lists i) a)
    → ((a : ℕ) → a < g.advisories → pair_at pairs' (state_number g a (vertex_in g column j)) ≡ pair_at (pairs_at lists j) a)
    → ((s : ℕ) → s % vertices g ≢ vertex_in g column j → pair_at pairs' s ≡ pair_at pairs s)
    → (i a : ℕ) → i < j + 1 → a < g.advisories → pair_at pairs' (state_number g a (vertex_in g column i)) ≡ pair_at (pairs_at lists i) a
vertex_written g column j pairs pairs' lists inside here so_far written others i a below known = ⊎_elim
    (λ (l : i < j). others (state_number g a (vertex_in g column i)) (other_state g column i j a inside (omega arith) (λ (same : i ≡ j). absurd (omega arith))) ∙ so_far i a l known)
    (λ (at : i ≡ j). subst (λ (k : ℕ). pair_at pairs' (state_number g a (vertex_in g column k)) ≡ pair_at (pairs_at lists k) a) (sym at) (written a known))
    (below_or_at i j below)

-- a vertex is in its column at one of the places of the altitudes
place_below : (g : GridData) (v : ℕ) → v < vertices g → v / columns g < length g.h
place_below g v inside =
    let all : v < length g.h * columns g = omega (arith, all_columns g, inside) in
    div_below v (columns g) (length g.h) (some_width (length g.h) (columns g) v all) all

pub column_below : (g : GridData) (s : ℕ) → s < states g → s % vertices g % columns g < columns g
column_below g s here =
    let v : s % vertices g < length g.h * columns g = omega (arith, all_columns g, mod_below s (vertices g) (some_width g.advisories (vertices g) s here)) in
    mod_below (s % vertices g) (columns g) (some_width (length g.h) (columns g) (s % vertices g) v)

-- the means at the vertices of the columns below one, and those of that column
pub column_written : (m : ModelData) (below : List Pair) (column : ℕ) (lists : List (List Pair)) (means means' : List Pair)
    → ((s : ℕ) → s < states m.grid → s % vertices m.grid % columns m.grid < column → AreMeansAt m below (state_vertex m.grid s) (state_present m.grid s) (pair_at means s)) → AreColumnMeans m below column lists
    → ((i a : ℕ) → i < length m.grid.h → a < m.grid.advisories → pair_at means' (state_number m.grid a (vertex_in m.grid column i)) ≡ pair_at (pairs_at lists i) a)
    → ((s : ℕ) → s % vertices m.grid % columns m.grid ≢ column → pair_at means' s ≡ pair_at means s)
    → (s : ℕ) → s < states m.grid → s % vertices m.grid % columns m.grid < column + 1 → AreMeansAt m below (state_vertex m.grid s) (state_present m.grid s) (pair_at means' s)
column_written m below column lists means means' so_far formed written others s inside h =
    let g = m.grid in
    let v = s % vertices g in
    let a = state_present g s in
    let known : a < g.advisories = state_present-below g s inside in
    let place : v / columns g < length g.h = place_below g v (mod_below s (vertices g) (some_width g.advisories (vertices g) s inside)) in
    ⊎_elim
    (λ (l : v % columns g < column). subst (λ (p : Pair). AreMeansAt m below (vertex_at g v) a p) (sym (others s (λ (same : v % columns g ≡ column). absurd (omega arith)))) (so_far s inside l))
    (λ (here : v % columns g ≡ column).
    let number : vertex_in g column (v / columns g) ≡ v = ap (λ (c : ℕ). v / columns g * columns g + c) (sym here) ∙ div-add-mod' v (columns g) in
    let state : state_number g a (vertex_in g column (v / columns g)) ≡ s = ap (λ (w : ℕ). state_number g a w) number ∙ div-add-mod' s (vertices g) in
    let pair : pair_at means' s ≡ pair_at (pairs_at lists (v / columns g)) a = ap (λ (n : ℕ). pair_at means' n) (sym state) ∙ written (v / columns g) a place known in
    subst (λ (p : Pair). AreMeansAt m below (vertex_at g v) a p) (sym pair)
    (subst (λ (w : ℕ). AreMeansAt m below (vertex_at g w) a (pair_at (pairs_at lists (v / columns g)) a)) number ((formed.each (v / columns g) place).each a known)))
    (below_or_at (v % columns g) column h)

-- of the pairs under the advisories before one, after that of this one is written at a vertex of a column
pub earlier_kept : (P : ℕ → ℕ → Pair → Type 0) (count i a : ℕ) (lists : List (List Pair)) (pairs : List Pair) → i < length lists → ((b : ℕ) → b ≢ a → pair_at pairs b ≡ pair_at (pairs_at lists i) b)
    → ((j b : ℕ) → j < count → b < a → P j b (pair_at (pairs_at lists j) b)) → (j b : ℕ) → j < count → b < a → P j b (pair_at (pairs_at (set lists i pairs) j) b)
earlier_kept P count i a lists pairs inside others before j b here below = ⊎_elim
    (λ (at : j ≡ i).
    let kept : pair_at (pairs_at (set lists i pairs) j) b ≡ pair_at (pairs_at lists j) b =
    ap (λ (l : List Pair). pair_at l b) (get_or-set_at lists i j pairs [] at inside) ∙ others b (λ (same : b ≡ a). absurd (omega arith)) ∙ ap (λ (n : ℕ). pair_at (pairs_at lists n) b) (sym at) in
    subst (λ (p : Pair). P j b p) (sym kept) (before j b here below))
    (λ (apart : j ≢ i). subst (λ (l : List Pair). P j b (pair_at l b)) (sym (get_or-set_other lists i j pairs [] apart)) (before j b here below))
    (cases_eq j i)
