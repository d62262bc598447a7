-- Boxes whose intruder's rates are within what it may do.
use Rattle.std.specs.Prelude.{ℕ, ◌<◌, nat_le, not, ◌&&◌, Bool, List, length, unsigned_abs, position, Option, Some, None, Result, Ok, Err}
use Rattle.acas_spec.specs.Model.{ModelData}
use Rattle.acas_spec.specs.Steps.{◌>>=◌, ◌>>◌}
use Rattle.acas_flight.specs.State.{Interval}
use Rattle.acas_rulings.specs.Boxes.{AuditedBox, box_at}
use Rattle.acas_rulings.specs.Intruder.{Manoeuvre, RatesFit}
use Rattle.acas_doc.specs.declared.input_fault.InputFault.{InputFault}
use Rattle.acas_doc.specs.declared.input_fault.InputFault.TheVariants.{Rate}
use Rattle.acas_boxes.specs.Whole.{boxes_of}

-- the rates are of at most the size that the intruder may have
abbrev pub are_within : Manoeuvre → Interval → Bool
are_within may rates = nat_le (unsigned_abs rates.least) may.rate && nat_le (unsigned_abs rates.greatest) may.rate

-- nothing, or the place of a box whose rates are not
abbrev pub or_rate : Option ℕ → Result (Unit {0}) InputFault
or_rate None = Ok tt
or_rate (Some place) = Err (Rate place)

-- the intruder's rates of each box are within that, or the first whose are not
unfoldable pub rates_in : Manoeuvre → List AuditedBox → Result (Unit {0}) InputFault
rates_in may boxes = or_rate (position (λ b. not (are_within may b.states.intruder)) boxes)

-- the boxes that a text says, where their intruder's rates are within that: this is the last rule
unfoldable pub fitting_boxes_of : ModelData → Manoeuvre → List ℕ → Result (List AuditedBox) InputFault
fitting_boxes_of m may bytes = do
  boxes ← boxes_of m bytes
  rates_in may boxes
  Ok boxes

-- ---- in the words of the subject

-- the intruder's rates of each box are within what it may do
pub record AllRatesFit (may : Manoeuvre) (boxes : List AuditedBox) : Type 0 where
  pub each : (place : ℕ) → place < length boxes → RatesFit may (box_at boxes place).states.intruder

-- the place is that of the first box whose are not
pub record IsFirstUnfit (may : Manoeuvre) (boxes : List AuditedBox) (place : ℕ) : Type 0 where
  pub there : place < length boxes
  pub unfit : ¬ RatesFit may (box_at boxes place).states.intruder
  pub before : (k : ℕ) → k < place → RatesFit may (box_at boxes k).states.intruder
