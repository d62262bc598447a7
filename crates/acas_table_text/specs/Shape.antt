-- The numbers of a table.
use Rattle.std.specs.Prelude.{ℕ, ◌+◌, ◌*◌, ◌≤◌, length}
use Rattle.acas_units.specs.declared.limits.TheConstants.{GREATEST_ADVISORIES, GREATEST_ENTRIES, GREATEST_HORIZON, GREATEST_VERTICES}
use Rattle.acas_spec.specs.Model.{GridData, states}
use Rattle.acas_table_text.specs.declared.shape.TableShape.{TableShape}

-- what a table takes from the grid of its model
abbrev pub shape_of : GridData → TableShape
shape_of g = record {
  altitudes = length g.h;
  own_rates = length g.v0;
  intruder_rates = length g.v1;
  advisories = g.advisories;
  horizon = g.horizon;
  states = states g;
}

-- a table has an entry for each state in each of its layers, 0 to the horizon
abbrev pub entry_count : TableShape → ℕ
entry_count s = (s.horizon + 1) * s.states

-- a shape is within the limits of a model
pub record IsShape (s : TableShape) : Type 0 where
  pub altitudes : s.altitudes ≤ GREATEST_VERTICES
  pub own_rates : s.own_rates ≤ GREATEST_VERTICES
  pub intruder_rates : s.intruder_rates ≤ GREATEST_VERTICES
  pub advisories : s.advisories ≤ GREATEST_ADVISORIES
  pub horizon : s.horizon ≤ GREATEST_HORIZON
  pub some_states : 1 ≤ s.states
  pub few_entries : entry_count s ≤ GREATEST_ENTRIES
