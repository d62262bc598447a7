-- Where a pass of a hunt ends the next one begins.
use Rattle.std.proofs.Common.{◌≡◌, ℕ, ◌*◌, ap, ap₂, ◌∙◌, sym, arith, ℤ, pos, neg_ℤ, ◌≤ℤ◌}
use Rattle.std.proofs.lemmas.Int.{ints}
use Rattle.acas_flight_lemmas.proofs.Rising.{scaled_le}
use Rattle.acas_areas.specs.Passes.{Pass, IsLast, AreJoined}
use Rattle.acas_areas.specs.Flights.{Flight}
use Rattle.acas_areas.specs.Search.{unit, rate_step, over_square, after_altitude, time_pass, altitude_pass, intruder_pass, own_pass}
use Rattle.acas_pass_lemmas.proofs.Joins as joins
use Rattle.acas_pass_lemmas.proofs.Joins.{falling-end, falling-start}
use Rattle.acas_rulings.specs.Hunt.{course, Hunt, IsHunt, top, bottom, low_course, high_course, toward, goal_pass, passes}

-- the last point is the same with a goal and without
pub IsLast-own : (m : ℤ) (p : Pass Flight) (last : ℕ) → IsLast (toward m p) last → IsLast p last
IsLast-own m p last l = record { reaches = l.reaches; first = l.first }

-- the first pass begins at the low course
pub time-start : (h : Hunt) → (toward (top h) (time_pass h.search)).point 0 ≡ low_course h
time-start h = ap (λ c. course c (top h)) (joins.time-start h.search)

module _ (h : Hunt) (is : IsHunt h) where
  -- the least rate is at most the greatest
  pub goals : bottom h ≤ℤ top h
  goals = scaled_le (neg_ℤ (pos h.may.rate)) (pos h.may.rate) (unit h.search * unit h.search) (omega (arith, ints))

  -- the intruder has its start rate before its pass
  pub intruder-start : (intruder_pass h.search).point 0 ≡ after_altitude h.search
  intruder-start = ap (λ w. record (after_altitude h.search) { intruder = w }) (falling-start (over_square h.search h.search.area.intruder.greatest) (over_square h.search h.search.area.intruder.least) (rate_step h.search))

  altitude-goal : (last : ℕ) → IsLast (toward (top h) (altitude_pass h.search)) last → course ((altitude_pass h.search).point last) (top h) ≡ (goal_pass h).point 0
  altitude-goal last l = ap₂ (λ c m. course c m)
      ((joins.joined h.search is.search).1.0 last (IsLast-own (top h) (altitude_pass h.search) last l) ∙ intruder-start)
      (sym (falling-start (top h) (bottom h) (rate_step h.search)))

  goal-intruder : (last : ℕ) → IsLast (goal_pass h) last → (goal_pass h).point last ≡ course ((intruder_pass h.search).point 0) (bottom h)
  goal-intruder last l = ap₂ (λ c m. course c m) (sym intruder-start) (falling-end (top h) (bottom h) (last * rate_step h.search) goals l.reaches)

  -- each pass begins where the one before it ends
  pub joined : AreJoined (passes h)
  joined =
      let j = joins.joined h.search is.search in (
        (λ last l. ap (λ c. course c (top h)) (j.0 last (IsLast-own (top h) _ last l))),
        (
          altitude-goal,
          (
            goal-intruder,
            (
              (λ last l. ap (λ c. course c (bottom h)) (j.1.1.0 last (IsLast-own (bottom h) _ last l))),
              (
                (λ last l. ap (λ c. course c (bottom h)) (j.1.1.1.0 last (IsLast-own (bottom h) _ last l))),
                (
                  (λ last l. ap (λ c. course c (bottom h)) (j.1.1.1.1.0 last (IsLast-own (bottom h) _ last l))),
                  ((λ last l. ap (λ c. course c (bottom h)) (j.1.1.1.1.1.0 last (IsLast-own (bottom h) _ last l))), tt),
                ),
              ),
            ),
          ),
        ),
      )

  -- the last pass ends at the high course
  pub own-end : (last : ℕ) → IsLast (toward (bottom h) (own_pass h.search)) last → (toward (bottom h) (own_pass h.search)).point last ≡ high_course h
  own-end last l = ap (λ c. course c (bottom h)) (joins.own-end h.search is.search last (IsLast-own (bottom h) (own_pass h.search) last l))
