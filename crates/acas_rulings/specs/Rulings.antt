-- What a ruling says of a cell or a box under an advisory.
use Rattle.std.specs.Prelude.{◌≡◌, ℕ, List, pos, ◌*ℤ◌}
use Rattle.std.specs.List.{All}
use Rattle.acas_spec.specs.Model.{ModelData}
use Rattle.acas_frac.specs.Fraction.{IsReduced}
use Rattle.acas_flight.specs.Response.{Segment, demand_of, lasting}
use Rattle.acas_flight.specs.State.{State, IsInBox, IsInCell}
use Rattle.acas_flight.specs.Contact.{EndsInContact, IsEndangered}
use Rattle.acas_flight.specs.Window.{IsWindowOfBox, IsWindowOfCell, Times}
use Rattle.acas_flight.specs.Clear.{area_of_box, area_of_cell}
use Rattle.acas_flight.specs.Values.{IsOver}
use Rattle.acas_rulings.specs.Printed.{AreParts, fractions_of, segments_of}
use Rattle.acas_rulings.specs.Ranges.{IsBoxesRange, IsCellsRange}
use Rattle.acas_rulings.specs.Witness.{IsWitnessOf}
use Rattle.acas_rulings.specs.declared.flight.Witness.{Witness}
use Rattle.acas_rulings.specs.Boxes.{AuditedBox}
use Rattle.acas_cells.specs.declared.name.CellName.{CellName}
use Rattle.acas_rulings.specs.declared.ruling.Ruling.{Ruling}
use Rattle.acas_rulings.specs.declared.ruling.Ruling.TheVariants.{Certified, Reported}

-- Over some q the fractions of the witness are a state of the set, and its printed response lasts the printed time, meets the advisory
-- and ends in contact from there; and each printed fraction is in lowest terms.
pub record ShowsDanger (m : ModelData) (advisory : ℕ) (IsIn : ℕ → State → Type 0) (w : Witness) : Type 0 where
  pub q : ℕ
  pub state : State
  pub response : List Segment
  pub range : IsOver q state.range w.range
  pub closing : IsOver q state.closing w.speed
  pub altitude : state.altitude ≡ w.flight.h *ℤ pos q
  pub own : IsOver q state.own w.flight.v0
  pub intruder : IsOver q state.intruder w.flight.v1
  pub time : IsOver q (pos (lasting response)) w.flight.time
  pub flown : AreParts q response (segments_of w.flight)
  pub contact : EndsInContact m advisory IsIn q state response
  pub reduced : All IsReduced (fractions_of w)

-- the witness of a cell under an advice, by the rule: that of its area in its window, with the range and the speed of the cell
pub record IsWitnessOfCell (m : ModelData) (name : CellName) (w : Witness) : Type 0 where
  pub times : Times
  pub window : IsWindowOfCell m name.n times
  pub flight : IsWitnessOf m.half (demand_of m name.advice) (area_of_cell m name.i name.j name.k) times w.flight
  pub range : IsCellsRange m name.n w.flight.time w.range w.speed

-- the witness of a box, by the rule
pub record IsWitnessOfBox (m : ModelData) (b : AuditedBox) (w : Witness) : Type 0 where
  pub times : Times
  pub window : IsWindowOfBox m b.states.range b.states.closing times
  pub flight : IsWitnessOf m.half (demand_of m b.advisory) (area_of_box b.states) times w.flight
  pub range : IsBoxesRange m.radius b.states.range b.states.closing w.flight.time w.range w.speed

-- the set of states is endangered under the advisory, and the witness is that of the rule and shows it
pub record IsReported (m : ModelData) (advisory : ℕ) (IsIn : ℕ → State → Type 0) (IsRule : Witness → Type 0) (w : Witness) : Type 0 where
  pub endangered : IsEndangered m advisory IsIn
  pub rule : IsRule w
  pub shown : ShowsDanger m advisory IsIn w

-- certified: the set of states is not endangered; reported: it is, with this witness
abbrev pub IsRuling : ModelData → ℕ → (ℕ → State → Type 0) → (Witness → Type 0) → Ruling → Type 0
IsRuling m advisory IsIn IsRule Certified = ¬ IsEndangered m advisory IsIn
IsRuling m advisory IsIn IsRule (Reported w) = IsReported m advisory IsIn IsRule w

-- of a cell under an advice
abbrev pub IsRulingOfCell : ModelData → CellName → Ruling → Type 0
IsRulingOfCell m name ruling = IsRuling m name.advice (IsInCell m name.n name.i name.j name.k) (IsWitnessOfCell m name) ruling

-- of a box
abbrev pub IsRulingOfBox : ModelData → AuditedBox → Ruling → Type 0
IsRulingOfBox m b ruling = IsRuling m b.advisory (IsInBox b.states) (IsWitnessOfBox m b) ruling
