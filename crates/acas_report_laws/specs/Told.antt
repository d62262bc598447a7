-- What the lines of a report say.
use Rattle.std.specs.Prelude.{◌<◌, ◌^◌, ℤ, unsigned_abs, List, Option, None, Some, All, map}
use Rattle.acas_spec.specs.Model.{ModelData}
use Rattle.acas_frac.specs.Fraction.{Fraction}
use Rattle.acas_rulings.specs.declared.flight.Segment.{Segment}
use Rattle.acas_rulings.specs.declared.flight.Witness.{Witness}
use Rattle.acas_cells.specs.Cells.{IsCellOf}
use Rattle.acas_cells.specs.Order.{cell_of}
use Rattle.acas_cells.specs.declared.name.CellName.{CellName}
use Rattle.acas_rulings.specs.declared.ruling.Ruling.{Ruling}
use Rattle.acas_rulings.specs.declared.ruling.Ruling.TheVariants.{Certified, Reported}
use Rattle.acas_rulings.specs.Printed.{fractions_of, segments_of}
use Rattle.acas_rulings.specs.PrintedMeetings.{against_of, meeting_fractions}
use Rattle.acas_rulings.specs.declared.meeting.Meeting.{Meeting}
use Rattle.acas_rulings.specs.declared.verdict.MeetVerdict.{MeetVerdict}
use Rattle.acas_rulings.specs.declared.verdict.MeetVerdict.TheVariants as met
use Rattle.acas_report_lines.specs.Report.{Ruled}

-- what is printed of a witness: its numbers, and the segments of its response in order, whichever of them the struct calls a hold
pub record ToldWitness : Type 0 where
  pub time : Fraction
  pub range : Fraction
  pub speed : Fraction
  pub altitude : ℤ
  pub own : Fraction
  pub intruder : Fraction
  pub response : List Segment

abbrev pub told_witness : Witness → ToldWitness
told_witness w = record {
  time = w.flight.time;
  range = w.range;
  speed = w.speed;
  altitude = w.flight.h;
  own = w.flight.v0;
  intruder = w.flight.v1;
  response = segments_of w.flight;
}

-- what is printed of a ruling: nothing more, where it is certified, and else the witness
abbrev pub told_of : Ruling → Option ToldWitness
told_of Certified = None
told_of (Reported w) = Some (told_witness w)

-- what is printed of a meeting: that of its witness, and the segments of the intruder in order
pub record ToldMeeting : Type 0 where
  pub witness : ToldWitness
  pub against : List Segment

abbrev pub told_meeting : Meeting → ToldMeeting
told_meeting w = record { witness = told_witness w.witness; against = against_of w }

-- what is printed of a verdict: nothing more, where it is certified, and else the meeting
abbrev pub told_verdict : MeetVerdict → Option ToldMeeting
told_verdict met.Certified = None
told_verdict (met.Reported w) = Some (told_meeting w)

-- what a line says: of what, and the ruling as it is printed
pub record Told (N T : Type 0) : Type 0 where
  pub name : N
  pub ruling : Option T

abbrev pub told_by : {N R T : Type 0} → (R → Option T) → Ruled N R → Told N T
told_by tell r = record { name = r.name; ruling = tell r.ruling }

abbrev pub told : {N : Type 0} → Ruled N Ruling → Told N ToldWitness
told r = told_by told_of r

abbrev pub told_met : {N : Type 0} → Ruled N MeetVerdict → Told N ToldMeeting
told_met r = told_by told_verdict r

-- ---- what may be printed

-- of what the lines are, in order
abbrev pub names_of : {N R : Type 0} → List (Ruled N R) → List N
names_of {N} {R} ruled = map (λ (r : Ruled N R). r.name) ruled

-- a cell of the model under an advice of it
pub record IsNameOf (m : ModelData) (name : CellName) : Type 0 where
  pub cell : IsCellOf m (cell_of name)
  pub advice : name.advice < m.grid.advisories

-- a numerator and a denominator of at most 63 digits each
pub record IsShort (f : Fraction) : Type 0 where
  pub num : unsigned_abs f.num < 10 ^ 63
  pub den : f.den < 10 ^ 63

-- no number of the witness has more than 63 digits
pub record IsShortWitness (w : Witness) : Type 0 where
  pub fractions : All IsShort (fractions_of w)
  pub altitude : unsigned_abs w.flight.h < 10 ^ 63

abbrev pub IsShortRuling : Ruling → Type 0
IsShortRuling Certified = Unit {0}
IsShortRuling (Reported w) = IsShortWitness w

-- no number of the meeting has more than 63 digits
pub record IsShortMeeting (w : Meeting) : Type 0 where
  pub fractions : All IsShort (meeting_fractions w)
  pub altitude : unsigned_abs w.witness.flight.h < 10 ^ 63

abbrev pub IsShortVerdict : MeetVerdict → Type 0
IsShortVerdict met.Certified = Unit {0}
IsShortVerdict (met.Reported w) = IsShortMeeting w
