-- The value of each course of each pass is a fraction.
use Rattle.std.proofs.Common.{◌<◌, mul-pos}
use Rattle.acas_areas.specs.Flights as flights
use Rattle.acas_areas.specs.Flights.{Flight}
use Rattle.acas_areas.specs.Passes.{Each}
use Rattle.acas_areas.specs.Search.{unit, intruder_pass}
use Rattle.acas_pass_lemmas.proofs.Ends.{AllSome}
use Rattle.acas_pass_lemmas.proofs.Neighbours.{unit_some}
use Rattle.acas_pass_lemmas.proofs.Somes as own
use Rattle.acas_rulings.specs.Hunt.{Hunt, IsHunt, accel, goal_pass, high_course, low_course, passes, value}

module _ (h : Hunt) (is : IsHunt h) where
  -- some acceleration over the common denominator
  pub accel_some : 0 < accel h
  accel_some = mul-pos is.some (unit_some h.search is.search)

  -- the pass over the goal has the pull of the next pass
  goal_some : AllSome (flights.value (unit h.search)) (intruder_pass h.search) → AllSome (value (unit h.search) (accel h)) (goal_pass h)
  goal_some some i = mul-pos (some 0) accel_some

  -- the denominator of the value of each point of each pass
  pub each_some : Each (AllSome (value (unit h.search) (accel h))) (passes h)
  each_some =
      let e = own.each_some h.search is.search in (
        (λ i. mul-pos (e.0 i) accel_some),
        (
          (λ i. mul-pos (e.1.0 i) accel_some),
          (
            goal_some e.1.1.0,
            (
              (λ i. mul-pos (e.1.1.0 i) accel_some),
              (
                (λ i. mul-pos (e.1.1.1.0 i) accel_some),
                ((λ i. mul-pos (e.1.1.1.1.0 i) accel_some), ((λ i. mul-pos (e.1.1.1.1.1.0 i) accel_some), ((λ i. mul-pos (e.1.1.1.1.1.1.0 i) accel_some), tt))),
              ),
            ),
          ),
        ),
      )

  -- that of the low and of the high course
  pub low_some : 0 < (value (unit h.search) (accel h) (low_course h)).den
  low_some = mul-pos (own.low_some h.search is.search) accel_some

  pub high_some : 0 < (value (unit h.search) (accel h) (high_course h)).den
  high_some = mul-pos (own.high_some h.search is.search) accel_some
