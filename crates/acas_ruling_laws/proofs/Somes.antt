-- Each area that is not clear in a window has a witness.
use Rattle.std.proofs.Common.{◌≡◌, ℕ, ◌<◌, inl, inr, ◌⊎◌, sym, arith, pos, ◌≤ℤ◌, unsigned_abs}
use Rattle.std.specs.List.{All}
use Rattle.std.proofs.lemmas.Int.{ints}
use Rattle.std.proofs.lemmas.List.Elements.{recursion_from_All}
use Rattle.acas_spec.specs.Model.{ModelData, advisory_at}
use Rattle.acas_spec.specs.Limits.{IsModel, IsAdvisory}
use Rattle.acas_frac.specs.Fraction.{Fraction, IsReduced}
use Rattle.acas_frac.proofs.Reduced.{num_ahead}
use Rattle.acas_flight.specs.Response.{Demand, demand_of, lasting}
use Rattle.acas_flight.specs.Window.{Times, IsDuring}
use Rattle.acas_flight.specs.Clear.{Area, IsClear, IsEndangeredDuring}
use Rattle.acas_flight_lemmas.proofs.Models.{demand_can_be_met}
use Rattle.acas_areas.specs.Limits.{AreEnds}
use Rattle.acas_areas.specs.Search.{AreRates, CanMeet, IsMoment, IsSearch, unit}
use Rattle.acas_pass_lemmas.proofs.Founds.{finds}
use Rattle.acas_rulings.specs.declared.flight.Flight as printed
use Rattle.acas_witness.proofs.Contacts.{contact_at, during_of}
use Rattle.acas_witness_lemmas.proofs.Extremes.{HasHighExtreme, HasLowExtreme, high_reached, low_reached}
use Rattle.acas_witness_lemmas.proofs.Meetings.{clear_or_meet}
use Rattle.acas_rulings.specs.Witness.{IsFlightInContact, IsWitnessOf, search_between}
use Rattle.acas_rulings.specs.Printed.{flight_fractions}
use Rattle.acas_ruling_laws.proofs.Ones.{unit_some}
use Rattle.acas_ruling_laws.proofs.Printed.{printed_flight}
use Rattle.acas_ruling_laws.proofs.Pulls.{found-pull}

-- ---- the search

-- an area within the limits, in order
pub record IsFlyable (area : Area) : Type 0 where
  pub altitude : area.altitude.least ≤ℤ area.altitude.greatest
  pub own : AreRates area.own
  pub intruder : AreRates area.intruder

pub search_of : (m : ModelData) (advisory : ℕ) (area : Area) (low high : Fraction) → IsModel m → advisory < m.grid.advisories → IsFlyable area → IsMoment low → IsMoment high →
    IsSearch (search_between (demand_of m advisory) area low high)
search_of m advisory area low high is known flyable l h =
    let asked : IsAdvisory (advisory_at m advisory) = is.advisories advisory known in
    record {
      demand = demand_can_be_met m advisory is known;
      aims = record { least = omega (arith, ints, asked.low, asked.rising, asked.high); greatest = omega (arith, ints, asked.low, asked.rising, asked.high); ordered = asked.rising };
      altitude = flyable.altitude;
      own = flyable.own;
      intruder = flyable.intruder;
      low = l;
      high = h;
    }

-- ---- the witness

pub record HasWitness (half : ℕ) (a : Demand) (area : Area) (w : Times) : Type 0 where
  pub flight : printed.Flight
  pub is : IsWitnessOf half a area w flight
  pub reduced : All IsReduced (flight_fractions flight)
  pub contact : IsFlightInContact half a area w flight

pub met : (m : ModelData) (advisory : ℕ) (area : Area) (w : Times) → IsModel m → advisory < m.grid.advisories → IsFlyable area →
    (low : HasLowExtreme (demand_of m advisory) area w) (high : HasHighExtreme (demand_of m advisory) area w) → CanMeet m.half (search_between (demand_of m advisory) area low.time high.time) →
    HasWitness m.half (demand_of m advisory) area w
met m advisory area w is known flyable low high meets =
    let a = demand_of m advisory in
    let s = search_between a area low.time high.time in
    let search = search_of m advisory area low.time high.time is known flyable low.moment high.moment in
    let some = unit_some a area low.time high.time low.moment.some high.moment.some in
    let c = finds m.half s search meets in
    let f = printed_flight (unit s) c.0 some (found-pull s search.demand some m.half c.0 c.1) in
    record {
      flight = f.flight;
      is = record { low = low.time; high = high.time; at_low = low.extreme; at_high = high.extreme; flight = c.0; found = c.1; prints = f.prints };
      reduced = f.reduced;
      contact = contact_at m.half s w c.0 f.flight (omega (arith, is.some_half)) search
          (record { low_after = low.extreme.first.after; low_before = low.extreme.first.before; high_after = high.extreme.first.after; high_before = high.extreme.first.before }) meets c.1 f.prints f.reduced;
    }

pub clear_or_witness : (m : ModelData) (advisory : ℕ) (area : Area) (w : Times) → IsModel m → advisory < m.grid.advisories → IsFlyable area → AreEnds w →
    IsClear m.half (demand_of m advisory) area w ⊎ HasWitness m.half (demand_of m advisory) area w
clear_or_witness m advisory area w is known flyable ends =
    let can = demand_can_be_met m advisory is known in
    let low = low_reached (demand_of m advisory) area w can ends in
    let high = high_reached (demand_of m advisory) area w can ends in
    elim (clear_or_meet m.half (demand_of m advisory) area w low.time high.time low.extreme high.extreme) [
      | inl clear ↦ inl clear
      | inr meets ↦ inr (met m advisory area w is known flyable low high meets)
    ]

pub not_clear : (m : ModelData) (advisory : ℕ) (area : Area) (w : Times) → IsModel m → advisory < m.grid.advisories → IsFlyable area → AreEnds w →
    ¬ IsClear m.half (demand_of m advisory) area w → HasWitness m.half (demand_of m advisory) area w
not_clear m advisory area w is known flyable ends none = elim (clear_or_witness m advisory area w is known flyable ends) [
  | inl clear ↦ absurd (none clear)
  | inr x ↦ x
]

-- ---- what a flight in contact says

-- its time is one of the window
pub record HasTime (w : Times) (time : Fraction) : Type 0 where
  pub some : 0 < time.den
  pub ahead : time.num ≡ pos (unsigned_abs time.num)
  pub during : IsDuring time.den w (unsigned_abs time.num)

pub time_of : (half : ℕ) (a : Demand) (area : Area) (w : Times) (x : HasWitness half a area w) → HasTime w x.flight.time
time_of half a area w x =
    let r = recursion_from_All IsReduced (flight_fractions x.flight) x.reduced in
    let c = x.contact in
    let ahead = num_ahead x.flight.time (pos (lasting c.response)) c.q c.contact.some (sym c.time_over) (omega (arith, ints)) in
    record {
      some = (r.0).some;
      ahead = omega (arith, ints, ahead);
      during = during_of w x.flight.time c.q (lasting c.response) c.contact.some ahead c.time_over c.contact.time;
    }

-- it endangers the area
pub endangered : (half : ℕ) (a : Demand) (area : Area) (w : Times) → HasWitness half a area w → IsEndangeredDuring half a area w
endangered half a area w x = let c = x.contact in (c.q, c.altitude, c.own, c.intruder, c.response, c.contact)
