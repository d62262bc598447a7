-- An area has one meeting in a window, and a box one verdict.
use Rattle.std.proofs.Common.{◌≡◌, ℕ, ◌*◌, ◌<◌, refl, sym, ap, ap₂, subst, arith, List, [], ◌∷◌, ◌++◌, ℤ, mul-pos}
use Rattle.std.proofs.lemmas.Int.{ints}
use Rattle.std.proofs.lemmas.List.Elements.{recursion_from_All, All-from_recursion}
use Rattle.std.specs.List.{All, AllByRecursion}
use Rattle.acas_spec.specs.Model.{ModelData}
use Rattle.acas_spec.specs.Limits.{IsModel}
use Rattle.acas_frac.specs.Fraction.{Fraction, IsReduced}
use Rattle.acas_flight.specs.Response.{Demand, demand_of}
use Rattle.acas_flight.specs.Parts.{CanBeMet}
use Rattle.acas_flight.specs.Clear.{Area, area_of_box}
use Rattle.acas_flight.specs.Window.{Times}
use Rattle.acas_flight_lemmas.proofs.Models.{demand_can_be_met}
use Rattle.acas_flight_lemmas.proofs.Extremes.{extreme-same, extreme-windows}
use Rattle.acas_areas.specs.Search.{unit}
use Rattle.acas_pass_lemmas.proofs.Ends.{found-one}
use Rattle.acas_rulings.specs.Boxes.{AuditedBox, IsBoxOf}
use Rattle.acas_rulings.specs.Printed.{flight_fractions, fractions_of, some_part}
use Rattle.acas_rulings.specs.Ranges.{IsBoxesRange}
use Rattle.acas_rulings.specs.Witness.{search_between}
use Rattle.acas_rulings.specs.Intruder.{Manoeuvre}
use Rattle.acas_rulings.specs.Race.{high_race, low_race, race_gap, turned}
use Rattle.acas_rulings.specs.Hunt.{Course, Finds, Hunt, accel, high_course, low_course, passes, value}
use Rattle.acas_rulings.specs.PrintedMeetings.{PrintsCourse, against_of, meeting_fractions}
use Rattle.acas_rulings.specs.Verdicts.{IsMeetVerdict, IsMeetingOf, IsMet, hunt_between}
use Rattle.acas_rulings.specs.declared.meeting.Meeting.{Meeting}
use Rattle.acas_rulings.specs.declared.verdict.MeetVerdict.{MeetVerdict}
use Rattle.acas_rulings.specs.declared.verdict.MeetVerdict.TheVariants.{Certified, Reported}
use Rattle.acas_ruling_laws.proofs.Ones.{AreSameTimes, unit_some}
use Rattle.acas_ruling_laws.proofs.Parts.{AreReduced, parts_fractions}
use Rattle.acas_ruling_laws.proofs.Prints.{flight-printed_one, segments-printed_one}
use Rattle.acas_ruling_laws.proofs.RangeOnes.{boxes_range-one}
use Rattle.acas_ruling_laws.proofs.RulingOnes.{same_times_of_box, same_witness}
use Rattle.acas_ruling_laws.proofs.CoursePulls.{found_course-pull}

-- ---- what is printed of a course is one

-- what is printed of a meeting but its range and speed
pub record IsSameMeeting (x y : Meeting) : Type 0 where
  pub flight : x.witness.flight ≡ y.witness.flight
  pub first : x.intruder_first ≡ y.intruder_first
  pub second : x.intruder_second ≡ y.intruder_second

abbrev AreLowest : List Fraction → Type 0
AreLowest fs = AllByRecursion IsReduced fs

halves : (fs gs : List Fraction) → AreLowest (fs ++ gs) → AreLowest fs × AreLowest gs
halves [] gs r = (tt, r)
halves (f ∷ fs) gs r = let more = halves fs gs r.1 in ((r.0, more.0), more.1)

-- the fractions of a meeting are in lowest terms: those of its witness, and those of the intruder's segments
pub record AreLowestOf (w : Meeting) : Type 0 where
  pub range : IsReduced w.witness.range
  pub speed : IsReduced w.witness.speed
  pub flight : All IsReduced (flight_fractions w.witness.flight)
  pub against : AreReduced (some_part w.intruder_first ++ some_part w.intruder_second)

pub lowest_of : (w : Meeting) → All IsReduced (meeting_fractions w) → AreLowestOf w
lowest_of w r =
    let pair = halves (fractions_of w.witness) (parts_fractions (against_of w)) (recursion_from_All IsReduced (meeting_fractions w) r) in
    record { range = pair.0.0; speed = pair.0.1.0; flight = All-from_recursion IsReduced (flight_fractions w.witness.flight) pair.0.1.1; against = pair.1 }

printed_one : (q a : ℕ) (c : Course) (x y : Meeting) → 0 < q → 0 < a → 0 < c.own.pull → PrintsCourse q a c x → PrintsCourse q a c y → AreLowestOf x → AreLowestOf y → IsSameMeeting x y
printed_one q a c x y p s b i j r t =
    let pair = segments-printed_one q c.own.intruder c.goal a (c.own.time * (q * a)) x.intruder_first x.intruder_second y.intruder_first y.intruder_second (mul-pos p (mul-pos p s)) i.against j.against r.against t.against in
    record { flight = flight-printed_one q c.own x.witness.flight y.witness.flight p b i.own j.own r.flight t.flight; first = pair.0; second = pair.1 }

meeting-one : (half : ℕ) (a : Demand) (may : Manoeuvre) (area : Area) (w u : Times) (x y : Meeting) → CanBeMet a → 0 < may.accel → AreSameTimes u w →
    IsMeetingOf half a may area w x → IsMeetingOf half a may area u y → AreLowestOf x → AreLowestOf y → IsSameMeeting x y
meeting-one half a may area w u x y can some same i j r t =
    let low_gap : ℕ → ℕ → ℤ = λ q t. race_gap (low_race a may area) q t in
    let high_gap : ℕ → ℕ → ℤ = λ q t. race_gap (turned (high_race a may area)) q t in
    let low = extreme-same low_gap w j.low i.low (extreme-windows low_gap u w j.low same j.at_low) i.at_low in
    let high = extreme-same high_gap w j.high i.high (extreme-windows high_gap u w j.high same j.at_high) i.at_high in
    let h = hunt_between a may area i.low i.high in
    let hunts : hunt_between a may area j.low j.high ≡ h = ap₂ (λ (l g : Fraction). hunt_between a may area l g) low high in
    let found = subst (λ (g : Hunt). Finds half g j.course) hunts j.found in
    let prints = subst (λ (g : Hunt). PrintsCourse (unit g.search) (accel g) j.course y) hunts j.prints in
    let courses = found-one (value (unit h.search) (accel h)) half (low_course h) (high_course h) (passes h) j.course i.course found i.found in
    let n = unit_some a area i.low i.high i.at_low.reduced.some i.at_high.reduced.some in
    printed_one (unit h.search) (accel h) i.course x y n (mul-pos some n) (found_course-pull h can n half i.course i.found) i.prints
    (subst (λ (c : Course). PrintsCourse (unit h.search) (accel h) c y) courses prints) r t

-- ---- boxes

same_all : (x y : Meeting) → IsSameMeeting x y → x.witness.range ≡ y.witness.range → x.witness.speed ≡ y.witness.speed → x ≡ y
same_all x y s r v = λ i. record {
  witness = same_witness x.witness y.witness r v s.flight i;
  intruder_first = s.first i;
  intruder_second = s.second i;
}

met-one : (m : ModelData) (may : Manoeuvre) (b : AuditedBox) → IsModel m → IsBoxOf m b → 0 < may.accel → (x y : Meeting) → IsMet m may b x → IsMet m may b y → x ≡ y
met-one m may b is of some x y i j =
    let a = demand_of m b.advisory in
    let area = area_of_box b.states in
    let r = lowest_of x i.shown.reduced in
    let t = lowest_of y j.shown.reduced in
    let same = meeting-one m.half a may area i.rule.times j.rule.times x y (demand_can_be_met m b.advisory is of.advisory) some
    (same_times_of_box m b j.rule.times i.rule.times j.rule.window i.rule.window) i.rule.of_area j.rule.of_area r t in
    let back = sym same.flight in
    let carried : IsBoxesRange m.radius b.states.range b.states.closing x.witness.flight.time y.witness.range y.witness.speed = rw back at j.rule.range in
    let f = i.rule.of_area in
    let pair = boxes_range-one m.radius b.states.range b.states.closing x.witness.flight.time x.witness.range y.witness.range x.witness.speed y.witness.speed
    (unit (search_between a area f.low f.high)) f.course.own.time
    (omega (arith, ints, of.flown.slow)) (unit_some a area f.low f.high f.at_low.reduced.some f.at_high.reduced.some) f.prints.own.time i.rule.range carried r.range t.range r.speed t.speed in
    same_all x y same pair.0 pair.1

pub verdict-one : (m : ModelData) (may : Manoeuvre) (b : AuditedBox) → IsModel m → IsBoxOf m b → 0 < may.accel → (v u : MeetVerdict) → IsMeetVerdict m may b v → IsMeetVerdict m may b u → v ≡ u
verdict-one m may b is of some Certified Certified i j = refl
verdict-one m may b is of some Certified (Reported y) i j = absurd (i j.endangered)
verdict-one m may b is of some (Reported x) Certified i j = absurd (j i.endangered)
verdict-one m may b is of some (Reported x) (Reported y) i j = ap (λ (z : Meeting). Reported z) (met-one m may b is of some x y i j)
