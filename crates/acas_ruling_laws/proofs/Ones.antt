-- An area has one witness in a window.
use Rattle.std.proofs.Common.{◌≡◌, ◌↔◌, ℕ, ◌<◌, arith, mul-pos, neg_ℤ}
use Rattle.std.specs.List.{All}
use Rattle.acas_frac.specs.Fraction.{Fraction, IsReduced}
use Rattle.acas_flight.specs.Response.{Demand}
use Rattle.acas_flight.specs.Parts.{CanBeMet}
use Rattle.acas_flight.specs.Window.{Times, IsDuring}
use Rattle.acas_flight.specs.Clear.{Area, greatest_gap, least_gap}
use Rattle.acas_flight_lemmas.proofs.Extremes.{extreme-same, extreme-windows}
use Rattle.acas_areas.specs.Flights.{Flight, value}
use Rattle.acas_areas.specs.Search.{Search, IsFound, unit, low_flight, high_flight, passes}
use Rattle.acas_pass_lemmas.proofs.Ends.{found-one}
use Rattle.acas_rulings.specs.declared.flight.Flight as printed
use Rattle.acas_rulings.specs.Witness.{IsWitnessOf, search_between}
use Rattle.acas_rulings.specs.Printed.{Prints, flight_fractions}
use Rattle.acas_ruling_laws.proofs.Pulls.{found-pull}
use Rattle.acas_ruling_laws.proofs.Prints.{flight-printed_one}

-- one search finds one flight, and prints it in one way
pub searched_one : (half : ℕ) (s : Search) (c d : Flight) (f g : printed.Flight) → CanBeMet s.demand → 0 < unit s →
    IsFound half s c → IsFound half s d → Prints (unit s) c f → Prints (unit s) d g → All IsReduced (flight_fractions f) → All IsReduced (flight_fractions g) → f ≡ g
searched_one half s c d f g can some i j p q r t =
    let same = found-one (value (unit s)) half (low_flight s) (high_flight s) (passes s) d c j i in
    flight-printed_one (unit s) c f g some (found-pull s can some half c i) p (rw same at q) r t

pub unit_some : (a : Demand) (area : Area) (low high : Fraction) → 0 < low.den → 0 < high.den → 0 < unit (search_between a area low high)
unit_some a area low high p q = mul-pos (omega arith) (mul-pos p q)

-- two windows have the same times
abbrev pub AreSameTimes : Times → Times → Type 0
AreSameTimes v w = (q t : ℕ) → 0 < q → IsDuring q v t ↔ IsDuring q w t

pub witness-one : (half : ℕ) (a : Demand) (area : Area) (w u : Times) (f g : printed.Flight) → CanBeMet a → AreSameTimes u w →
    IsWitnessOf half a area w f → IsWitnessOf half a area u g → All IsReduced (flight_fractions f) → All IsReduced (flight_fractions g) → f ≡ g
witness-one half a area w u f g can same i j r t =
    let low = extreme-same (λ q t. least_gap q a area t) w j.low i.low (extreme-windows (λ q t. least_gap q a area t) u w j.low same j.at_low) i.at_low in
    let high = extreme-same (λ q t. neg_ℤ (greatest_gap q a area t)) w j.high i.high (extreme-windows (λ q t. neg_ℤ (greatest_gap q a area t)) u w j.high same j.at_high) i.at_high in
    let s = search_between a area i.low i.high in
    searched_one half s i.flight j.flight f g can (unit_some a area i.low i.high i.at_low.reduced.some i.at_high.reduced.some)
    i.found (rw (low, high) at j.found) i.prints (rw (low, high) at j.prints) r t
