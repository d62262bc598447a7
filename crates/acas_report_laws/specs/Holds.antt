-- That what a line says is so.
use Rattle.std.specs.Prelude.{ℕ, List}
use Rattle.acas_spec.specs.Model.{ModelData}
use Rattle.acas_flight.specs.State.{State, IsInBox, IsInCell}
use Rattle.acas_flight.specs.Contact.{IsEndangered}
use Rattle.acas_rulings.specs.Boxes.{AuditedBox, box_at}
use Rattle.acas_rulings.specs.Rulings.{ShowsDanger}
use Rattle.acas_cells.specs.declared.name.CellName.{CellName}
use Rattle.acas_rulings.specs.declared.ruling.Ruling.{Ruling}
use Rattle.acas_rulings.specs.declared.ruling.Ruling.TheVariants.{Certified, Reported}
use Rattle.acas_rulings.specs.Intruder.{Manoeuvre}
use Rattle.acas_rulings.specs.Meeting.{IsEndangeredBy}
use Rattle.acas_rulings.specs.Verdicts.{ShowsMeeting}
use Rattle.acas_rulings.specs.declared.verdict.MeetVerdict.{MeetVerdict}
use Rattle.acas_rulings.specs.declared.verdict.MeetVerdict.TheVariants as met
use Rattle.acas_report_lines.specs.Report.{Ruled}
use Rattle.acas_report_laws.specs.Told.{IsShortMeeting, IsShortWitness}

-- certified: the set of states is not endangered; reported: it is, and the witness shows it, where no number of it has more than 63
-- digits
abbrev pub Holds : ModelData → ℕ → (ℕ → State → Type 0) → Ruling → Type 0
Holds m advisory IsIn Certified = ¬ IsEndangered m advisory IsIn
Holds m advisory IsIn (Reported w) = IsEndangered m advisory IsIn × (IsShortWitness w → ShowsDanger m advisory IsIn w)

-- what is said of a cell under an advice
abbrev pub HoldsOfCell : ModelData → Ruled CellName Ruling → Type 0
HoldsOfCell m r = Holds m r.name.advice (IsInCell m r.name.n r.name.i r.name.j r.name.k) r.ruling

-- what is said of a box, by its place
abbrev pub HoldsOfBox : ModelData → List AuditedBox → Ruled ℕ Ruling → Type 0
HoldsOfBox m boxes r = Holds m (box_at boxes r.name).advisory (IsInBox (box_at boxes r.name).states) r.ruling

-- that of a box against an intruder that may change its rate. Certified: no manoeuvre endangers it; reported: one does, and the meeting
-- shows it, where no number of it has more than 63 digits
abbrev pub HoldsOfVerdict : ModelData → Manoeuvre → AuditedBox → MeetVerdict → Type 0
HoldsOfVerdict m may b met.Certified = ¬ IsEndangeredBy m b.advisory may b.states
HoldsOfVerdict m may b (met.Reported w) = IsEndangeredBy m b.advisory may b.states × (IsShortMeeting w → ShowsMeeting m may b w)

-- what is said of a box, by its place
abbrev pub HoldsOfMeeting : ModelData → Manoeuvre → List AuditedBox → Ruled ℕ MeetVerdict → Type 0
HoldsOfMeeting m may boxes r = HoldsOfVerdict m may (box_at boxes r.name) r.ruling
