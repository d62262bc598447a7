-- Each flight of each pass has some pull, so that its value is a fraction, and responds to the demand.
use Rattle.std.proofs.Common.{ℕ, ◌*◌, ◌<◌, arith, pos, mul-pos}
use Rattle.std.proofs.lemmas.Int.{ints}
use Rattle.acas_flight.specs.Window.{Times}
use Rattle.acas_areas.specs.Flights.{Flight, value}
use Rattle.acas_areas.specs.Passes.{Each}
use Rattle.acas_areas.specs.Search.{Search, IsSearch, IsTimed, unit, over_square, low_flight, high_flight, passes}
use Rattle.acas_areas.specs.Responses.{IsFlightFrom, RespondsTo}
use Rattle.acas_pass_lemmas.proofs.Neighbours.{unit_some, pull_some}
use Rattle.acas_pass_lemmas.proofs.Ends.{AllSome, map_each}
use Rattle.acas_pass_lemmas.proofs.Touching.{meets, lasts}
use Rattle.acas_pass_lemmas.proofs.Within.{AllFrom, each_from, of_low, of_from}
use Rattle.acas_flight_lemmas.proofs.Rising.{scaled_le}
use Rattle.acas_units.specs.declared.limits.TheConstants.{WINDOW_SECONDS}

pub some_of : (s : Search) (is : IsSearch s) (w : Times) (c : Flight) → IsFlightFrom s.demand s.area w (unit s) c → (0 < c.pull) × (0 < (value (unit s) c).den)
some_of s is w c of =
    let p : 0 < c.pull = omega (arith, of.pull_least, pull_some s is) in
    (p, mul-pos (mul-pos (mul-pos (unit_some s is) (unit_some s is)) (unit_some s is)) p)

abbrev wide : Times
wide = record { from = record { num = pos 0; den = 1 }; to = record { num = pos WINDOW_SECONDS; den = 1 } }

timed_wide : (s : Search) → IsSearch s → IsTimed s wide
timed_wide s is = record {
  low_after = omega (arith, ints, is.low.least);
  low_before = omega (arith, ints, is.low.most);
  high_after = omega (arith, ints, is.high.least);
  high_before = omega (arith, ints, is.high.most);
}

pub each_some : (s : Search) → IsSearch s → Each (AllSome (value (unit s))) (passes s)
each_some s is = map_each (AllFrom s is wide (timed_wide s is)) (AllSome (value (unit s))) (passes s) (λ p a i. (some_of s is wide (p.point i) (a i)).1) (each_from s is wide (timed_wide s is))

pub low_some : (s : Search) → IsSearch s → 0 < (value (unit s) (low_flight s)).den
low_some s is = (some_of s is wide (low_flight s) (of_low s is wide (timed_wide s is))).1

pub high_some : (s : Search) → IsSearch s → 0 < (value (unit s) (high_flight s)).den
high_some s is = (some_of s is wide (high_flight s) (of_from s is wide (timed_wide s is) (over_square s s.area.own.greatest) (scaled_le s.area.own.least s.area.own.greatest (unit s * unit s) is.own.ordered, omega (arith, ints)))).1

responds : (s : Search) (is : IsSearch s) (c : Flight) → IsFlightFrom s.demand s.area wide (unit s) c → RespondsTo s.demand (unit s) c
responds s is c of = record {
  meets = λ h r i. meets 0 s.demand s.area wide (unit s) c (unit_some s is) (some_of s is wide c of).0 of h r i;
  lasts = λ h r i. lasts (unit s) c h r i;
}

pub each_responds : (s : Search) → IsSearch s → Each (λ p. (i : ℕ) → RespondsTo s.demand (unit s) (p.point i)) (passes s)
each_responds s is = map_each (AllFrom s is wide (timed_wide s is)) (λ p. (i : ℕ) → RespondsTo s.demand (unit s) (p.point i)) (passes s) (λ p a i. responds s is (p.point i) (a i)) (each_from s is wide (timed_wide s is))
