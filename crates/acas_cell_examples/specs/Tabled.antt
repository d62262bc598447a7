-- A model of two cells along the axis of altitude, and the advices of a table for it.
use Rattle.std.specs.Prelude.{ℕ, pos, List, [], ◌∷◌, ◌++◌}
use Rattle.acas_spec.specs.Model.{ModelData}
use Rattle.acas_spec.specs.declared.place.Vertex.{Vertex}
use Rattle.acas_base.specs.Advices.{AdvicesData}
use Rattle.acas_cells.specs.declared.block.Block.{Block}
use Rattle.acas_cells.specs.declared.name.CellName.{CellName}
use Rattle.acas_cells.specs.declared.set.AdviceSet.{AdviceSet}
use Rattle.acas_audit_blocks.specs.Audits.{BlockAuditData}
use Rattle.acas_audit_blocks.specs.declared.block_audit.CellSets.{CellSets}
use Rattle.acas_flight_examples.specs.Flown.{small}

-- the small model with altitudes of 0, 120 and 240 ticks
abbrev pub stacked : ModelData
stacked = record small { grid = record small.grid { h = pos 0 ∷ pos 120 ∷ pos 240 ∷ [] } }

-- the advices of an altitude, by own rate and then by intruder rate
abbrev pub none_at : List ℕ
none_at = 0 ∷ 0 ∷ 0 ∷ 0 ∷ []

abbrev pub climb_at_first : List ℕ
climb_at_first = 1 ∷ 0 ∷ 0 ∷ 0 ∷ []

abbrev pub climb_at_last : List ℕ
climb_at_last = 0 ∷ 0 ∷ 0 ∷ 1 ∷ []

-- In layer 1, clear of conflict being present, climb stands at the last corner of 0 ticks and at the first of 240; climb being present,
-- at the last corner of 240. In layer 2 it stands under clear of conflict at the first corner of 0 ticks.
abbrev pub tabled : AdvicesData
tabled = record {
  horizon = 2;
  states = 24;
  advisories = 2;
  advice =
      (climb_at_last ++ none_at ++ climb_at_first)
      ++ (none_at ++ none_at ++ climb_at_last)
      ++ (climb_at_first ++ none_at ++ none_at)
      ++ (none_at ++ none_at ++ none_at);
}

-- the vertex at these places
abbrev pub vertex : ℕ → ℕ → ℕ → Vertex
vertex i j k = record { i = i; j = j; k = k }

-- the cell of n seconds and a present advisory, at a place of the altitude, under climb
abbrev pub under_climb : ℕ → ℕ → ℕ → CellName
under_climb n present i = record { n = n; present = present; i = i; j = 0; k = 0; advice = 1 }

-- the block from one place of each axis to another
abbrev pub block : ℕ → ℕ → ℕ → ℕ → ℕ → ℕ → Block
block i0 i1 j0 j1 k0 k1 = record { i0 = i0; i1 = i1; j0 = j0; j1 = j1; k0 = k0; k1 = k1 }

-- the set of these bits
abbrev pub set : ℕ → AdviceSet
set bits = record { bits = bits }

-- the sets of a cell with these bits: the advices under which it is certified, and those under which it is reported
abbrev pub sets_of : ℕ → ℕ → CellSets
sets_of certified reported = record { certified = set certified; reported = set reported }

-- an audit of the model's two cells with these sets
abbrev pub audit_of : List CellSets → BlockAuditData
audit_of sets = record { altitudes = 2; own_rates = 1; intruder_rates = 1; sets = sets }
