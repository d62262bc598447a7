-- Entries over the layer below, vertex by vertex.
use Rattle.std.proofs.Common.{◌≡◌, ◌≢◌, ℕ, ◌+◌, ◌%◌, ◌^◌, ◌<◌, List, length, set, refl, ap, subst, sym, ◌∙◌, arith}
use Rattle.std.proofs.lemmas.Nat.{mod-mul-add}
use Rattle.acas_spec.specs.Model.{GridData, ModelData, vertices}
use Rattle.acas_grid.specs.Grid.{state_number}
use Rattle.acas_grid.specs.States.{vertex_at}
use Rattle.acas_units.specs.declared.pair.Entry.{Entry}
use Rattle.acas_units.specs.declared.pair.Pair.{Pair}
use Rattle.acas_sweep.specs.Best.{AreVertexEntries, IsOver, entry_at}
use Rattle.acas_means.specs.Layer.{AreWithin}
use Rattle.acas_means.specs.declared.layer.Side.{Side}
use Rattle.acas_means.specs.declared.layer.Side.TheVariants.{Upper, Lower}
use Rattle.acas_sweep.specs.Entries.{AreOver, AreSmall, AreWritten, SameElsewhere}
use Rattle.acas_sweep.specs.Turns.{turn}
use Rattle.acas_sweep.proofs.Placed.{entries_next, states_next}
use Rattle.acas_sweep.proofs.Written.{listed_entry-other}

-- there is room for a cost beside each value of a table
pub small_within : (pairs : List Pair) → AreSmall pairs → (side : Side) → AreWithin (2 ^ 62) side pairs
small_within pairs small Upper = record { bounded = λ place room. omega (arith, small.upper.bounded place room) }
small_within pairs small Lower = record { bounded = λ place room. omega (arith, small.lower.bounded place room) }

-- ---- present by present

pub written_next : (g : GridData) (entries : List Entry) (v p : ℕ) (pairs : List Pair) (advice : List ℕ) → v < vertices g
    → state_number g p v < length pairs → state_number g p v < length advice → AreWritten g v p entries pairs advice
    → AreWritten g v (p + 1) entries (set pairs (state_number g p v) (entry_at entries p).pair) (set advice (state_number g p v) (entry_at entries p).advice)
written_next g entries v p pairs advice inside h k so_far = record {
  entry = entries_next g (λ (q : ℕ) (x : Entry). x ≡ entry_at entries q) v p pairs advice (entry_at entries p) inside h k so_far.entry refl;
}

pub elsewhere_next : (g : GridData) (v p : ℕ) (pairs : List Pair) (advice : List ℕ) (pairs' : List Pair) (advice' : List ℕ) (e : Entry) → v < vertices g → SameElsewhere g v pairs advice pairs' advice'
    → SameElsewhere g v pairs advice (set pairs' (state_number g p v) e.pair) (set advice' (state_number g p v) e.advice)
elsewhere_next g v p pairs advice pairs' advice' e inside so_far = record {
  entry = λ s other.
      let apart : s ≢ state_number g p v = λ same. other (ap (λ (n : ℕ). n % vertices g) same ∙ mod-mul-add p (vertices g) v inside) in
      listed_entry-other pairs' advice' (state_number g p v) s e apart ∙ so_far.entry s other;
}

-- ---- vertex by vertex

pub over_next : (m : ModelData) (below : List Pair) (entries : List Entry) (v c : ℕ) (pairs : List Pair) (advice : List ℕ) (pairs' : List Pair) (advice' : List ℕ)
    → v < vertices m.grid → turn m.grid v ≡ c → AreVertexEntries m below (vertex_at m.grid v) entries
    → AreOver m below c pairs advice → AreWritten m.grid v m.grid.advisories entries pairs' advice' → SameElsewhere m.grid v pairs advice pairs' advice' → AreOver m below (c + 1) pairs' advice'
over_next m below entries v c pairs advice pairs' advice' inside is are so_far written others = record {
  entry = states_next m.grid (λ (p w : ℕ) (x : Entry). IsOver m below p (vertex_at m.grid w) x) v c pairs advice pairs' advice' inside is so_far.entry
      (λ p known. subst (λ (x : Entry). IsOver m below p (vertex_at m.grid v) x) (sym (written.entry p known)) (are.each p known)) others;
}
