-- Entries at one vertex, present advisory by present advisory, and then vertex by vertex.
use Rattle.std.proofs.Common.{◌≡◌, ◌≢◌, ℕ, ◌+◌, ◌*◌, ◌%◌, ◌<◌, ◌≤◌, ◌⊎◌, inl, inr, ⊎_elim, List, length, set, ap, sym, subst, ◌∙◌, arith}
use Rattle.std.proofs.lemmas.Bool.{cases_lt}
use Rattle.std.proofs.lemmas.Nat.{div-add-mod', mod_below, same_from_place}
use Rattle.acas_spec.specs.Model.{GridData, ModelData, states, vertices}
use Rattle.acas_grid.specs.Grid.{state_number}
use Rattle.acas_grid.specs.States.{state_present, vertex_at}
use Rattle.acas_grid.proofs.StateNumbers.{state_present-below}
use Rattle.acas_grid.proofs.Vertices.{some_width}
use Rattle.acas_units.specs.declared.pair.Entry.{Entry}
use Rattle.acas_units.specs.declared.pair.Pair.{Pair}
use Rattle.acas_process.specs.Compiled.{compiled}
use Rattle.acas_means.specs.Entries.{IsEntryOf, IsStateEntry}
use Rattle.acas_sweep.specs.Best.{entry_at}
use Rattle.acas_sweep.specs.Entries.{AreWritten, SameElsewhere, listed_entry}
use Rattle.acas_sweep.specs.Turns.{turn}
use Rattle.acas_sweep.proofs.Turns.{turn-same}
use Rattle.acas_sweep.proofs.Written.{listed_entry-other, listed_entry-written}

-- a number below the next one is below or at this one
pub below_or_at : (k n : ℕ) → k < n + 1 → (k < n) ⊎ (k ≡ n)
below_or_at k n h = ⊎_elim (λ (l : k < n). inl l) (λ (g : n ≤ k). inr (omega arith)) (cases_lt k n)

-- of the entries at a vertex under the first present advisories, and of the one that is written
pub entries_next : (g : GridData) (P : ℕ → Entry → Type 0) (v p : ℕ) (pairs : List Pair) (advice : List ℕ) (e : Entry) → v < vertices g
    → state_number g p v < length pairs → state_number g p v < length advice → ((q : ℕ) → q < p → P q (listed_entry pairs advice (state_number g q v))) → P p e
    → (q : ℕ) → q < p + 1 → P q (listed_entry (set pairs (state_number g p v) e.pair) (set advice (state_number g p v) e.advice) (state_number g q v))
entries_next g P v p pairs advice e inside h k so_far written q below = ⊎_elim
    (λ (l : q < p). let apart : state_number g q v ≢ state_number g p v = λ same. absurd (omega (arith, (same_from_place q v p v (vertices g) inside inside same).0)) in
    subst (λ (x : Entry). P q x) (sym (listed_entry-other pairs advice (state_number g p v) (state_number g q v) e apart)) (so_far q l))
    (λ (here : q ≡ p). subst (λ (r : ℕ). P r (listed_entry (set pairs (state_number g p v) e.pair) (set advice (state_number g p v) e.advice) (state_number g r v))) (sym here)
    (subst (λ (x : Entry). P p x) (sym (listed_entry-written pairs advice (state_number g p v) e h k)) written))
    (below_or_at q p below)

-- of the entries at the vertices before one in the order of turns, and of those at that vertex
pub states_next : (g : GridData) (P : ℕ → ℕ → Entry → Type 0) (v c : ℕ) (pairs : List Pair) (advice : List ℕ) (pairs' : List Pair) (advice' : List ℕ)
    → v < vertices g → turn g v ≡ c
    → ((s : ℕ) → s < states g → turn g (s % vertices g) < c → P (state_present g s) (s % vertices g) (listed_entry pairs advice s))
    → ((p : ℕ) → p < g.advisories → P p v (listed_entry pairs' advice' (state_number g p v))) → SameElsewhere g v pairs advice pairs' advice'
    → (s : ℕ) → s < states g → turn g (s % vertices g) < c + 1 → P (state_present g s) (s % vertices g) (listed_entry pairs' advice' s)
states_next g P v c pairs advice pairs' advice' known is so_far at_vertex others s inside h = ⊎_elim
    (λ (l : turn g (s % vertices g) < c). let apart : s % vertices g ≢ v = λ same. absurd (omega (arith, is, ap (λ (w : ℕ). turn g w) same)) in
    subst (λ (x : Entry). P (state_present g s) (s % vertices g) x) (sym (others.entry s apart)) (so_far s inside l))
    (λ (now : turn g (s % vertices g) ≡ c).
    let place = mod_below s (vertices g) (some_width g.advisories (vertices g) s inside) in
    let here : s % vertices g ≡ v = turn-same g (s % vertices g) v place known (now ∙ sym is) in
    let number : state_number g (state_present g s) v ≡ s = ap (λ (n : ℕ). state_present g s * vertices g + n) (sym here) ∙ div-add-mod' s (vertices g) in
    subst (λ (n : ℕ). P (state_present g s) n (listed_entry pairs' advice' s)) (sym here)
    (subst (λ (n : ℕ). P (state_present g s) v (listed_entry pairs' advice' n)) number (at_vertex (state_present g s) (state_present-below g s inside))))
    (below_or_at (turn g (s % vertices g)) c h)

-- ---- with no second to go

-- the entry that is written at a vertex under each present advisory is the ending there
pub first_next : (m : ModelData) (v c : ℕ) (entries : List Entry) (e : Entry) (pairs : List Pair) (advice : List ℕ) (pairs' : List Pair) (advice' : List ℕ)
    → v < vertices m.grid → turn m.grid v ≡ c
    → ((s : ℕ) → s < states m.grid → turn m.grid (s % vertices m.grid) < c → IsStateEntry m (compiled m) 0 s (listed_entry pairs advice s))
    → ((p : ℕ) → p < m.grid.advisories → entry_at entries p ≡ e) → IsEntryOf (compiled m) 0 0 (vertex_at m.grid v) e
    → AreWritten m.grid v m.grid.advisories entries pairs' advice' → SameElsewhere m.grid v pairs advice pairs' advice'
    → (s : ℕ) → s < states m.grid → turn m.grid (s % vertices m.grid) < c + 1 → IsStateEntry m (compiled m) 0 s (listed_entry pairs' advice' s)
first_next m v c entries e pairs advice pairs' advice' known is so_far same ending written others =
    states_next m.grid (λ (p w : ℕ) (x : Entry). IsEntryOf (compiled m) 0 p (vertex_at m.grid w) x) v c pairs advice pairs' advice' known is so_far
    (λ p below. subst (λ (x : Entry). IsEntryOf (compiled m) 0 p (vertex_at m.grid v) x) (sym (written.entry p below ∙ same p below))
    (record { upper = ending.upper; lower = ending.lower; advice = ending.advice })) others
