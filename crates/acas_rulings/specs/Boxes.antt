-- Boxes under an advisory, and those that a model can audit.
use Rattle.std.specs.Prelude.{ℕ, ◌<◌, List, length, get_or, pos}
use Rattle.acas_spec.specs.Model.{ModelData}
use Rattle.acas_flight.specs.State.{Box, Interval}
use Rattle.acas_areas.specs.Limits.{IsFlownInTime, interval_of}
use Rattle.acas_rulings.specs.declared.audit_box.AuditBox.{AuditBox}

-- a box of states, and the number of the advisory that is followed from there
pub record AuditedBox : Type 0 where
  pub advisory : ℕ
  pub states : Box

-- what an `AuditBox` stands for
abbrev pub audited : AuditBox → AuditedBox
audited b = record {
  advisory = b.advisory;
  states = record {
    range = interval_of b.range;
    closing = interval_of b.closing;
    altitude = interval_of b.area.h;
    own = interval_of b.area.v0;
    intruder = interval_of b.area.v1;
  };
}

-- the advisory is one of the model's, and the ranges are flown within the seconds of a window
pub record IsBoxOf (m : ModelData) (b : AuditedBox) : Type 0 where
  pub advisory : b.advisory < m.grid.advisories
  pub flown : IsFlownInTime m b.states.range b.states.closing

abbrev pub no_interval : Interval
no_interval = record { least = pos 0; greatest = pos 0 }

-- the box that a list holds where it ends
abbrev pub no_box : AuditedBox
no_box = record { advisory = 0; states = record { range = no_interval; closing = no_interval; altitude = no_interval; own = no_interval; intruder = no_interval } }

-- the box at a place of a list
abbrev pub box_at : List AuditedBox → ℕ → AuditedBox
box_at boxes place = get_or boxes place no_box

-- each box is one that the model can audit
pub record AreBoxesOf (m : ModelData) (boxes : List AuditedBox) : Type 0 where
  pub each : (place : ℕ) → place < length boxes → IsBoxOf m (box_at boxes place)
