-- Each course that a hunt finds has some pull.
use Rattle.std.proofs.Common.{ℕ, ◌<◌}
use Rattle.acas_flight.specs.Parts.{CanBeMet}
use Rattle.acas_areas.specs.Passes.{Each, at_low, at_high, between}
use Rattle.acas_areas.specs.Search.{unit}
use Rattle.acas_pass_lemmas.proofs.Ends.{ends-in}
use Rattle.acas_ruling_laws.proofs.Pulls as own
use Rattle.acas_rulings.specs.Hunt.{Course, Finds, Hunt, accel, passes, value}

module _ (h : Hunt) (demand : CanBeMet h.search.demand) (some : 0 < unit h.search) where
  each_pull : Each (λ p. (i : ℕ) → 0 < (p.point i).own.pull) (passes h)
  each_pull =
      let e = own.each_pull h.search demand some in
      (e.0, (e.1.0, ((λ i. own.low h.search demand some), (e.1.1.0, (e.1.1.1.0, (e.1.1.1.1.0, (e.1.1.1.1.1.0, (e.1.1.1.1.1.1.0, tt))))))))

  pub found_course-pull : (half : ℕ) (c : Course) → Finds half h c → 0 < c.own.pull
  found_course-pull half _ (at_low i) = own.low h.search demand some
  found_course-pull half _ (at_high n i) = own.high h.search demand some _
  found_course-pull half _ (between c n m e) = ends-in (value (unit h.search) (accel h)) (λ (x : Course). 0 < x.own.pull) half (passes h) c each_pull e
