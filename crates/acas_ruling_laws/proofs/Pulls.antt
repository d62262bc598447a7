-- Each flight that a search finds has some pull.
use Rattle.std.proofs.Common.{ℕ, ◌*◌, ◌<◌, ◌≤◌, arith, ℤ, mul-pos, mul-le-mul_right}
use Rattle.acas_flight.specs.Response.{scaled}
use Rattle.acas_flight.specs.Parts.{CanBeMet}
use Rattle.acas_areas.specs.Flights.{Flight, value}
use Rattle.acas_areas.specs.Passes.{Each, toward, at_low, at_high, between}
use Rattle.acas_areas.specs.Search.{Search, IsFound, grain, unit, passes, over_square, pull_at_low, pull_at_high}
use Rattle.acas_pass_lemmas.proofs.Ends.{ends-in}
use Rattle.acas_pass_lemmas.proofs.Neighbours.{low_pull_within, high_pull_within}

pub toward_some : (from to n : ℕ) → 0 < from → 0 < to → 0 < toward from to n
toward_some from to n p q = omega arith

module _ (s : Search) (demand : CanBeMet s.demand) (some : 0 < unit s) where
  least : 0 < s.demand.pull * unit s
  least = mul-pos demand.some_pull some

  within : s.demand.pull * unit s ≤ s.demand.limit * unit s
  within = mul-le-mul_right (unit s) demand.pull_within

  pub low : 0 < pull_at_low s
  low = (low_pull_within (scaled (unit s) s.demand) (over_square s s.area.own.least) least within).2

  pub high : (v : ℤ) → 0 < pull_at_high s v
  high v = (high_pull_within (scaled (unit s) s.demand) v least within).2

  pub each_pull : Each (λ p. (i : ℕ) → 0 < (p.point i).pull) (passes s)
  each_pull = (
    (λ i. low),
    ((λ i. low), ((λ i. low), ((λ i. low), ((λ i. toward_some (pull_at_low s) (pull_at_high s (over_square s s.area.own.least)) (i * grain s) low (high _)), ((λ i. high _), ((λ i. high _), tt)))))),
  )

  pub found-pull : (half : ℕ) (c : Flight) → IsFound half s c → 0 < c.pull
  found-pull half _ (at_low i) = low
  found-pull half _ (at_high n i) = high _
  found-pull half _ (between c n m e) = ends-in (value (unit s)) (λ x. 0 < x.pull) half (passes s) c each_pull e
