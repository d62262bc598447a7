-- Pairs of states that are written turn by turn, by whatever numbers the turns.
use Rattle.std.proofs.Common.{◌≡◌, ◌≢◌, ℕ, ◌+◌, ◌*◌, ◌/◌, ◌%◌, ◌<◌, ℤ, ⊎_elim, List, ◌++◌, length, set, take, refl, ap, sym, subst, ◌∙◌, arith}
use Rattle.std.proofs.lemmas.List.{get_or-set_other, get_or-set_same}
use Rattle.std.proofs.Math.Seq.{take-append_seam}
use Rattle.std.proofs.lemmas.Nat.{div-add-mod', div-mul-add, div_below, mod-mul-add, mod_below}
use Rattle.acas_spec.specs.Model.{GridData, states, vertices}
use Rattle.acas_spec.specs.Table.{Policy}
use Rattle.acas_grid.specs.Grid.{state_number}
use Rattle.acas_grid.specs.States.{state_present}
use Rattle.acas_grid.proofs.StateNumbers.{state_present-state_number}
use Rattle.acas_grid.proofs.Vertices.{some_width}
use Rattle.acas_units.specs.declared.pair.Pair.{Pair}
use Rattle.acas_means.specs.Columns.{columns, pairs_at, vertex_in}
use Rattle.acas_means.specs.Layer.{no_pair, pair_at}
use Rattle.acas_means.proofs.ColumnLaws.{all_columns}
use Rattle.acas_means.proofs.PlacedMeans.{below_or_at}
use Rattle.acas_risk.specs.Counts.{second_cost}
use Rattle.acas_risk.specs.Layers.{IsPlanned, altitude_at, column_at, given_at, with_cost}

-- what holds of the pairs of the states whose turn has come, and of those whose turn it is
pub turn_next : (turn : ℕ → ℕ) (P : ℕ → Pair → Type 0) (now : ℕ) (pairs pairs' : List Pair)
    → ((s : ℕ) → turn s < now → P s (pair_at pairs s)) → ((s : ℕ) → turn s ≡ now → P s (pair_at pairs' s)) → ((s : ℕ) → turn s ≢ now → P s (pair_at pairs s) → P s (pair_at pairs' s))
    → (s : ℕ) → turn s < now + 1 → P s (pair_at pairs' s)
turn_next turn P now pairs pairs' before here others s h = ⊎_elim
    (λ (l : turn s < now). others s (λ same. absurd (omega arith)) (before s l))
    (λ (at : turn s ≡ now). here s at)
    (below_or_at (turn s) now h)

-- a state by its present advisory and its vertex
pub state_of : (g : GridData) (s p v : ℕ) → state_present g s ≡ p → s % vertices g ≡ v → s ≡ state_number g p v
state_of g s p v present vertex = sym (div-add-mod' s (vertices g)) ∙ ap (λ (q : ℕ). q * vertices g + s % vertices g) present ∙ ap (λ (w : ℕ). p * vertices g + w) vertex

-- a vertex by its column and the place of its altitude
pub vertex_of : (g : GridData) (s column i : ℕ) → column_at g s ≡ column → altitude_at g s ≡ i → s % vertices g ≡ vertex_in g column i
vertex_of g s column i c a = sym (div-add-mod' (s % vertices g) (columns g)) ∙ ap (λ (j : ℕ). j * columns g + column_at g s) a ∙ ap (λ (d : ℕ). i * columns g + d) c

pub column_of_vertex : (g : GridData) (s column i : ℕ) → column < columns g → s % vertices g ≡ vertex_in g column i → column_at g s ≡ column
column_of_vertex g s column i inside at = ap (λ (v : ℕ). v % columns g) at ∙ mod-mul-add i (columns g) column inside

pub altitude_of_vertex : (g : GridData) (s column i : ℕ) → column < columns g → s % vertices g ≡ vertex_in g column i → altitude_at g s ≡ i
altitude_of_vertex g s column i inside at = ap (λ (v : ℕ). v / columns g) at ∙ div-mul-add i (columns g) column inside

-- the altitudes of the vertices of states
pub altitude-below : (g : GridData) (s : ℕ) → s < states g → altitude_at g s < length g.h
altitude-below g s inside =
    let v : s % vertices g < length g.h * columns g = omega (arith, all_columns g, mod_below s (vertices g) (some_width g.advisories (vertices g) s inside)) in
    div_below (s % vertices g) (columns g) (length g.h) (some_width (length g.h) (columns g) (s % vertices g) v) v

-- a pair that is written, and the others
pub pair-written : (pairs : List Pair) (place : ℕ) (pair : Pair) → place < length pairs → pair_at (set pairs place pair) place ≡ pair
pair-written pairs place pair inside = get_or-set_same pairs place pair no_pair inside

pub pair-other : (pairs : List Pair) (place other : ℕ) (pair : Pair) → other ≢ place → pair_at (set pairs place pair) other ≡ pair_at pairs other
pair-other pairs place other pair apart = get_or-set_other pairs place other pair no_pair apart

-- pairs that are written back at their own count
pub written_back : (n : ℕ) (pairs rest : List Pair) → n ≡ length pairs → take n (pairs ++ rest) ≡ pairs
written_back n pairs rest h = rw (h, take-append_seam pairs rest) refl

-- ---- at a vertex

-- what is written at a state, by what was read
pub planned : (g : GridData) (costs : List (List ℤ)) (policy : Policy) (n : ℕ) (means : List Pair) (place : ℕ) (pair : Pair) (p a b : ℕ)
    → p ≡ state_present g place → a ≡ given_at g policy n place → b ≡ given_at g policy n place → b < g.advisories → pair ≡ with_cost (pair_at means a) (second_cost costs p b)
    → IsPlanned g costs policy n means place pair
planned g costs policy n means place pair p a b present from given known is = record { known = omega (arith, known, given); value = is ∙ rw (present, from, given) refl }

pub vertex_next : (g : GridData) (costs : List (List ℤ)) (policy : Policy) (n v p place : ℕ) (means pairs : List Pair) (pair : Pair) → place ≡ state_number g p v → v < vertices g → place < length pairs
    → ((s : ℕ) → state_present g s < p → s % vertices g ≡ v → IsPlanned g costs policy n means s (pair_at pairs s)) → IsPlanned g costs policy n means place pair
    → (s : ℕ) → state_present g s < p + 1 → s % vertices g ≡ v → IsPlanned g costs policy n means s (pair_at (set pairs place pair) s)
vertex_next g costs policy n v p place means pairs pair is inside room before written =
    turn_next (λ s. state_present g s) (λ s x. s % vertices g ≡ v → IsPlanned g costs policy n means s x) p pairs (set pairs place pair) before
    (λ s now here.
    let same : place ≡ s = is ∙ sym (state_of g s p v now here) in
    subst (λ (k : ℕ). IsPlanned g costs policy n means k (pair_at (set pairs place pair) k)) same (subst (λ (x : Pair). IsPlanned g costs policy n means place x) (sym (pair-written pairs place pair room)) written))
    (λ s other so_far here.
    let apart : s ≢ place = λ same. other (ap (λ (k : ℕ). k / vertices g) (same ∙ is) ∙ state_present-state_number g p v inside) in
    subst (λ (x : Pair). IsPlanned g costs policy n means s x) (sym (pair-other pairs place s pair apart)) (so_far here))

pub other_vertex : (g : GridData) (s p v place : ℕ) (pairs : List Pair) (pair : Pair) → place ≡ state_number g p v → v < vertices g → s % vertices g ≢ v → pair_at (set pairs place pair) s ≡ pair_at pairs s
other_vertex g s p v place pairs pair is inside other =
    pair-other pairs place s pair (λ same. other (ap (λ (k : ℕ). k % vertices g) (same ∙ is) ∙ mod-mul-add p (vertices g) v inside))

-- ---- in a column

pub column_next : (g : GridData) (costs : List (List ℤ)) (policy : Policy) (n column i v : ℕ) (lists : List (List Pair)) (pairs pairs' : List Pair) → v ≡ vertex_in g column i → column < columns g
    → ((s : ℕ) → altitude_at g s < i → s < states g → column_at g s ≡ column → IsPlanned g costs policy n (pairs_at lists (altitude_at g s)) s (pair_at pairs s))
    → ((s : ℕ) → s < states g → s % vertices g ≡ v → IsPlanned g costs policy n (pairs_at lists i) s (pair_at pairs' s))
    → ((s : ℕ) → s % vertices g ≢ v → pair_at pairs' s ≡ pair_at pairs s)
    → (s : ℕ) → altitude_at g s < i + 1 → s < states g → column_at g s ≡ column → IsPlanned g costs policy n (pairs_at lists (altitude_at g s)) s (pair_at pairs' s)
column_next g costs policy n column i v lists pairs pairs' is inside before written others =
    turn_next (λ s. altitude_at g s) (λ s x. s < states g → column_at g s ≡ column → IsPlanned g costs policy n (pairs_at lists (altitude_at g s)) s x) i pairs pairs' before
    (λ s now within here. subst (λ (j : ℕ). IsPlanned g costs policy n (pairs_at lists j) s (pair_at pairs' s)) (sym now) (written s within (vertex_of g s column i here now ∙ sym is)))
    (λ s other so_far within here.
    let apart : s % vertices g ≢ v = λ same. other (altitude_of_vertex g s column i inside (same ∙ is)) in
    subst (λ (x : Pair). IsPlanned g costs policy n (pairs_at lists (altitude_at g s)) s x) (sym (others s apart)) (so_far within here))
