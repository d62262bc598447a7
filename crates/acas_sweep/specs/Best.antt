-- The best entries of the states at a vertex, by the means there under each advisory and by the layer below.
use Rattle.std.specs.Prelude.{◌≡◌, ◌≢◌, ℕ, ◌^◌, ◌<◌, ◌≤◌, unsigned_abs, List, [], length, get_or}
use Rattle.acas_spec.specs.Model.{ModelData, choices_at}
use Rattle.acas_spec.specs.declared.parts.Choice.{Choice}
use Rattle.acas_spec.specs.declared.place.Vertex.{Vertex}
use Rattle.acas_frac.specs.Rounding.{down, up}
use Rattle.acas_grid.specs.States.{vertex_at}
use Rattle.acas_units.specs.declared.pair.Entry.{Entry}
use Rattle.acas_units.specs.declared.pair.Pair.{Pair}
use Rattle.acas_process.specs.Values.{choice_value}
use Rattle.acas_process.specs.Compiled.{first_least, least}
use Rattle.acas_means.specs.Choices.{value_by_mean}
use Rattle.acas_means.specs.Columns.{pairs_at, vertex_in}
use Rattle.acas_means.specs.Layer.{layer_values, no_pair, value_at}
use Rattle.acas_means.specs.declared.layer.Side.{Side}
use Rattle.acas_means.specs.declared.layer.Side.TheVariants.{Upper, Lower}

-- an entry has the least values of the choices over the layer below, and the first choice that has the least upper value
pub record IsOver (m : ModelData) (below : List Pair) (p : ℕ) (x : Vertex) (e : Entry) : Type 0 where
  pub upper : e.pair.upper ≡ least (choice_value up m (layer_values Upper m.grid below) p x) (choices_at m p)
  pub lower : e.pair.lower ≡ least (choice_value down m (layer_values Lower m.grid below) p x) (choices_at m p)
  pub advice : e.advice
      ≡ first_least (choice_value up m (layer_values Upper m.grid below) p x) (choices_at m p)

-- the entry that a list holds where it ends
abbrev pub no_entry : Entry
no_entry = record { pair = no_pair; advice = 0 }

-- the entry at a place, as that of a present advisory by its number
abbrev pub entry_at : List Entry → ℕ → Entry
entry_at entries place = get_or entries place no_entry

-- entries by the number of a present advisory are those at the vertex x over the layer below
pub record AreVertexEntries (m : ModelData) (below : List Pair) (x : Vertex) (entries : List Entry) : Type 0 where
  pub each : (p : ℕ) → p < m.grid.advisories → IsOver m below p x (entry_at entries p)

-- what a list by the places of the altitudes holds at one of them
abbrev pub entries_in : List (List Entry) → ℕ → List Entry
entries_in lists i = get_or lists i []

-- lists by the places of the altitudes have the entries at the vertices of a column over the layer below
pub record AreColumnEntries (m : ModelData) (below : List Pair) (column : ℕ) (lists : List (List Entry)) : Type 0 where
  pub each : (i : ℕ) → i < length m.grid.h
      → AreVertexEntries m below (vertex_at m.grid (vertex_in m.grid column i)) (entries_in lists i)

-- ---- by the means at the vertex

-- no mean under an advisory of the model is so large that there is no room for a cost beside it
pub record LeaveRoom (m : ModelData) (vertex_means : List Pair) : Type 0 where
  pub each : (side : Side) (a : ℕ) → a < m.grid.advisories → unsigned_abs (value_at side vertex_means a) ≤ 2 ^ 62

-- a pair has the two values of choosing the advisory a
pub record IsValued (m : ModelData) (vertex_means : List Pair) (p a : ℕ) (pair : Pair) : Type 0 where
  pub upper : pair.upper ≡ value_by_mean m p (value_at Upper vertex_means) a
  pub lower : pair.lower ≡ value_by_mean m p (value_at Lower vertex_means) a

-- a pair has the least values of some choices
pub record IsLeast (m : ModelData) (vertex_means : List Pair) (p : ℕ) (choices : List Choice) (pair : Pair)
    : Type 0 where
  pub upper : pair.upper ≡ least (value_by_mean m p (value_at Upper vertex_means)) choices
  pub lower : pair.lower ≡ least (value_by_mean m p (value_at Lower vertex_means)) choices

-- an entry has the least values of some choices, and the first choice that has the least upper value
pub record IsBest (m : ModelData) (vertex_means : List Pair) (p : ℕ) (choices : List Choice) (e : Entry)
    : Type 0 where
  pub upper : e.pair.upper ≡ least (value_by_mean m p (value_at Upper vertex_means)) choices
  pub lower : e.pair.lower ≡ least (value_by_mean m p (value_at Lower vertex_means)) choices
  pub advice : e.advice ≡ first_least (value_by_mean m p (value_at Upper vertex_means)) choices

-- the entries under the first present advisories are the best of their choices
pub record AreBest (m : ModelData) (vertex_means : List Pair) (count : ℕ) (entries : List Entry) : Type 0 where
  pub each : (p : ℕ) → p < count → IsBest m vertex_means p (choices_at m p) (entry_at entries p)

-- ---- under one present advisory

-- the entries under other present advisories than p are what they were
pub record LeaveOthers (p : ℕ) (old new : List Entry) : Type 0 where
  pub each : (q : ℕ) → q ≢ p → entry_at new q ≡ entry_at old q

-- so they are at each place of a column
pub record LeaveColumnOthers (p : ℕ) (old new : List (List Entry)) : Type 0 where
  pub each : (i : ℕ) → LeaveOthers p (entries_in old i) (entries_in new i)

-- at the first places of a column the entries under the present advisory p are the best of its choices
pub record AreBestUnder (m : ModelData) (means : List (List Pair)) (p count : ℕ) (lists : List (List Entry))
    : Type 0 where
  pub each : (i : ℕ) → i < count → IsBest m (pairs_at means i) p (choices_at m p) (entry_at (entries_in lists i) p)

-- ---- by the means at the vertices of a column

-- beside the means at each place there is room for a cost
pub record ColumnLeavesRoom (m : ModelData) (means : List (List Pair)) : Type 0 where
  pub each : (i : ℕ) → i < length m.grid.h → LeaveRoom m (pairs_at means i)

-- at each place the entries under the first present advisories are the best of their choices
pub record AreColumnBest (m : ModelData) (means : List (List Pair)) (count : ℕ) (lists : List (List Entry))
    : Type 0 where
  pub each : (i : ℕ) → i < length m.grid.h → AreBest m (pairs_at means i) count (entries_in lists i)
