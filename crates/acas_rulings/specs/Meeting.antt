-- Contact with an intruder that may change its rate, and what an advisory leaves in danger of it. The closing speed stays.
use Rattle.std.specs.Prelude.{◌≡◌, ℕ, ◌*◌, ◌<◌, ◌≤◌, List, ℤ, pos, ◌+ℤ◌, ◌-ℤ◌, ◌*ℤ◌, unsigned_abs}
use Rattle.acas_spec.specs.Model.{ModelData}
use Rattle.acas_flight.specs.Response.{Segment, Demand, demand_of, scaled, climb, lasting, Meets}
use Rattle.acas_flight.specs.State.{State, IsInside, Box, IsInBox}
use Rattle.acas_flight.specs.Contact.{IsHorizontalContact}
use Rattle.acas_flight.specs.Window.{Times, IsDuring}
use Rattle.acas_flight.specs.Clear.{Area}
use Rattle.acas_rulings.specs.Intruder.{Manoeuvre, over, IsFlown}

-- the intruder starts at an altitude above and climbs y, the own aircraft climbs z: over q^3, it ends at most the half height above
-- or below
abbrev pub IsClose : ℕ → ℕ → ℤ → ℤ → ℤ → Type 0
IsClose half q altitude y z = unsigned_abs (altitude *ℤ pos (q * q) +ℤ y -ℤ z) ≤ half * (q * q * q)

-- From a state of the box, over q, the response meets the advisory, the intruder may fly the flight, both last as long, and there the
-- two are in contact.
pub record IsMeeting (m : ModelData) (advisory : ℕ) (may : Manoeuvre) (box : Box) (q : ℕ) (s : State) (response flight : List Segment) : Type 0 where
  pub some : 0 < q
  pub inside : IsInBox box q s
  pub meets : Meets (scaled q (demand_of m advisory)) (s.own *ℤ pos q) response
  pub flown : IsFlown (over q may) (s.intruder *ℤ pos q) flight
  pub together : lasting flight ≡ lasting response
  pub horizontal : IsHorizontalContact m.radius q s.range s.closing (lasting response)
  pub vertical : IsClose m.half q s.altitude (climb (s.intruder *ℤ pos q) flight) (climb (s.own *ℤ pos q) response)

-- the box is endangered by a manoeuvre: over some q there is such a meeting
abbrev pub IsEndangeredBy : ModelData → ℕ → Manoeuvre → Box → Type 0
IsEndangeredBy m advisory may box =
    (q : ℕ) × (s : State) × (response : List Segment) × (flight : List Segment) × IsMeeting m advisory may box q s response flight

-- the same of an area during a window: the altitude h and the rates v and x, over q, are of the area, and the flights last one of
-- the times
pub record MeetsDuring (half : ℕ) (a : Demand) (may : Manoeuvre) (area : Area) (w : Times) (q : ℕ) (h v x : ℤ) (response flight : List Segment) : Type 0 where
  pub some : 0 < q
  pub altitude : IsInside q area.altitude h
  pub own : IsInside q area.own v
  pub intruder : IsInside q area.intruder x
  pub time : IsDuring q w (lasting response)
  pub meets : Meets (scaled q a) (v *ℤ pos q) response
  pub flown : IsFlown (over q may) (x *ℤ pos q) flight
  pub together : lasting flight ≡ lasting response
  pub close : IsClose half q h (climb (x *ℤ pos q) flight) (climb (v *ℤ pos q) response)

abbrev pub IsEndangeredDuringBy : ℕ → Demand → Manoeuvre → Area → Times → Type 0
IsEndangeredDuringBy half a may area w =
    (q : ℕ) × (h : ℤ) × (v : ℤ) × (x : ℤ) × (response : List Segment) × (flight : List Segment) × MeetsDuring half a may area w q h v x response flight
