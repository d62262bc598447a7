-- What is reached from a cell within a second under clear of conflict is in the area that is reached.
use Rattle.std.proofs.Common.{◌≡◌, ℕ, ◌*◌, ◌<◌, arith, List, pos, ◌*ℤ◌}
use Rattle.acas_spec.specs.Limits.{IsModel}
use Rattle.acas_spec.specs.Model.{ModelData}
use Rattle.acas_flight_lemmas.proofs.Models.{demand_can_be_met}
use Rattle.acas_flight.specs.Contact.{vertical_separation}
use Rattle.acas_flight.specs.Response.{Meets, Segment, climb, demand_of, lasting, scaled}
use Rattle.acas_flight.specs.State.{IsInCell, IsInside, State, from_place}
use Rattle.acas_safeable.specs.Reached.{reached_area}
use Rattle.acas_safeable.specs.Safe.{rate_left}
use Rattle.acas_safeable.proofs.Altitudes.{greatest_altitude-holds, greatest_rate-holds, least_altitude-holds, least_rate-holds}

pub is_reached : (m : ModelData) (n i j k q : ℕ) (s : State) (first : List Segment) → IsModel m → 0 < q → IsInCell m n i j k q s →
    Meets (scaled q (demand_of m 0)) (s.own *ℤ pos q) first → lasting first ≡ q →
    IsInside (q * q * q) (reached_area m i j k).altitude (vertical_separation q s.altitude s.intruder q (climb (s.own *ℤ pos q) first))
    × IsInside (q * q) (reached_area m i j k).own (rate_left (s.own *ℤ pos q) first)
    × IsInside q (reached_area m i j k).intruder s.intruder
is_reached m n i j k q s first is some inside meets one =
    let a = demand_of m 0 in
    let fine = demand_can_be_met m 0 is (omega (arith, is.grid.some_advisories)) in
    let h = from_place m.grid.h i in
    let v = from_place m.grid.v0 j in
    let w = from_place m.grid.v1 k in (
      (
        least_altitude-holds a v q s.own first meets one fine some h w s.altitude s.intruder inside.own.1 inside.altitude.0 inside.intruder.0,
        greatest_altitude-holds a v q s.own first meets one fine some h w s.altitude s.intruder inside.own.0 inside.altitude.1 inside.intruder.1,
      ),
      (
        least_rate-holds a v q s.own first meets one inside.own.0,
        greatest_rate-holds a v q s.own first meets one inside.own.1,
      ),
      inside.intruder,
    )
