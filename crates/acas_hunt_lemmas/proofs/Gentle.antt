-- Each pass of a hunt is gentle.
use Rattle.std.proofs.Common.{◌≡◌, ℕ, ◌+◌, ◌*◌, ◌<◌, ◌≤◌, ⊎_elim, refl, arith, ℤ, pos, neg_ℤ, ◌≤ℤ◌, unsigned_abs}
use Rattle.std.proofs.lemmas.Int.{ints}
use Rattle.std.proofs.lemmas.Bool.{cases_lt}
use Rattle.acas_frac.proofs.Orders.{unsigned_abs-low}
use Rattle.acas_flight_lemmas.proofs.Rising.{scaled_le}
use Rattle.acas_flight.specs.Response.{scaled}
use Rattle.acas_areas.specs.Value.{IsLessThanAbove, thinnest}
use Rattle.acas_areas.specs.Passes as steps
use Rattle.acas_areas.specs.Passes.{Pass, IsGentle, Each, falling}
use Rattle.acas_areas.specs.Flights as flights
use Rattle.acas_areas.specs.Flights.{Flight, flight}
use Rattle.acas_areas.specs.Search.{unit, time_step, rate_step, over_square, low_time, high_time, pull_at_low, hold_at_low, time_pass, altitude_pass, intruder_pass, aim_pass, pull_pass, hold_pass, own_pass, fastest}
use Rattle.acas_pass_lemmas.proofs.Gentle as gentle
use Rattle.acas_pass_lemmas.proofs.Neighbours.{toward_up, toward_down, falling_next, next, low_pull_within, size_over, unit_some, pull_some, pull_most, high_time_most, room_of_time, room_of_rate, slowest_size, least_size}
use Rattle.acas_rulings.specs.Hunt.{course, value, Hunt, IsHunt, accel, top, bottom, toward, goal_pass, passes}
use Rattle.acas_hunt_lemmas.proofs.Somes.{accel_some}
use Rattle.acas_hunt_lemmas.proofs.Steps.{own_step, lower_goal, lower_start, later, sooner}

module _ (h : Hunt) (is : IsHunt h) where
  abbrev q : ℕ
  q = unit h.search

  some : 0 < q
  some = unit_some h.search is.search

  low_pull_some : 0 < pull_at_low h.search
  low_pull_some = (low_pull_within (scaled q h.search.demand) (over_square h.search h.search.area.own.least) (pull_some h.search is.search) (pull_most h.search is.search)).2

  top_size : unsigned_abs (top h) ≤ fastest * (q * q)
  top_size = size_over (pos h.may.rate) fastest (q * q) is.rate

  -- a pass of the own flight, at the last time
  own_gentle : (m : ℤ) (p : Pass Flight) (t : ℕ) (w : ℤ) → ((i : ℕ) → (p.point i).time ≡ t) → ((i : ℕ) → (p.point i).intruder ≡ w) → IsGentle (flights.value q) p → IsGentle (value q (accel h)) (toward m p)
  own_gentle m p t w et ew g i = by (p.point i) (p.point (i + 1)) (et i) (et (i + 1)) (ew i) (ew (i + 1)) (g i)
    where
      by : (c c' : Flight) → c.time ≡ t → c'.time ≡ t → c.intruder ≡ w → c'.intruder ≡ w →
          IsLessThanAbove thinnest (flights.value q c) (flights.value q c') → IsLessThanAbove thinnest (value q (accel h) (course c m)) (value q (accel h) (course c' m))
      by c c' e f j k less =
          let less' = rw (e, f, j, k) at less in
          rw (e, f, j, k) (own_step q (accel h) t w m c.altitude c.own c.aim c.pull c.hold c'.altitude c'.own c'.aim c'.pull c'.hold (accel_some h is) less')

  time_gentle : IsGentle (value q (accel h)) (toward (top h) (time_pass h.search))
  time_gentle i = rw (next i (time_step h.search)) (⊎_elim
      (λ l. toward_up (low_time h.search) (high_time h.search) (i * time_step h.search) (time_step h.search) (omega arith) (λ d k e. rw e
      (later q (accel h) h.search.area.altitude.greatest (over_square h.search h.search.area.own.least) (over_square h.search h.search.area.intruder.greatest) (over_square h.search h.search.demand.lo) (pull_at_low h.search) (hold_at_low h.search) (top h) (steps.toward (low_time h.search) (high_time h.search) (i * time_step h.search)) d
      some (accel_some h is) low_pull_some (room_of_time h.search is.search d k) (slowest_size h.search is.search) (least_size h.search is.search) (size_over h.search.area.intruder.greatest fastest (q * q) is.search.intruder.greatest) top_size)))
      (λ l. toward_down (low_time h.search) (high_time h.search) (i * time_step h.search) (time_step h.search) l (λ d k e. rw e
      (sooner q (accel h) h.search.area.altitude.greatest (over_square h.search h.search.area.own.least) (over_square h.search h.search.area.intruder.greatest) (over_square h.search h.search.demand.lo) (pull_at_low h.search) (hold_at_low h.search) (top h) (steps.toward (low_time h.search) (high_time h.search) (i * time_step h.search + time_step h.search)) d
      some (accel_some h is) low_pull_some (room_of_time h.search is.search d k) (slowest_size h.search is.search) (least_size h.search is.search) (size_over h.search.area.intruder.greatest fastest (q * q) is.search.intruder.greatest) top_size)))
      (cases_lt (low_time h.search) (high_time h.search)))

  goal_gentle : IsGentle (value q (accel h)) (goal_pass h)
  goal_gentle i = rw (next i (rate_step h.search)) (falling_next (top h) (bottom h) (i * rate_step h.search) (rate_step h.search) (λ d k e. rw e
      (lower_goal q (accel h) (high_time h.search) h.search.area.altitude.least (over_square h.search h.search.area.own.least) (over_square h.search h.search.area.intruder.greatest) (over_square h.search h.search.demand.lo) (pull_at_low h.search) (hold_at_low h.search) (falling (top h) (bottom h) (i * rate_step h.search)) d
      some (accel_some h is) low_pull_some (room_of_rate h.search is.search d k) (high_time_most h.search is.search))))

  -- the intruder's rates are not under its least goal
  not_under : bottom h ≤ℤ over_square h.search h.search.area.intruder.least
  not_under = scaled_le (neg_ℤ (pos h.may.rate)) h.search.area.intruder.least (q * q) (unsigned_abs-low h.search.area.intruder.least h.may.rate is.least)

  stays_over : (from to : ℤ) (n : ℕ) (b : ℤ) → to ≤ℤ from → b ≤ℤ to → b ≤ℤ falling from to n
  stays_over from to n b k l = omega (arith, ints)

  start_gentle : IsGentle (value q (accel h)) (toward (bottom h) (intruder_pass h.search))
  start_gentle i = rw (next i (rate_step h.search)) (falling_next (over_square h.search h.search.area.intruder.greatest) (over_square h.search h.search.area.intruder.least) (i * rate_step h.search) (rate_step h.search) (λ d k e. rw e
      (lower_start q (accel h) (high_time h.search) h.search.area.altitude.least (over_square h.search h.search.area.own.least) (falling (over_square h.search h.search.area.intruder.greatest) (over_square h.search h.search.area.intruder.least) (i * rate_step h.search)) (over_square h.search h.search.demand.lo) (pull_at_low h.search) (hold_at_low h.search) (bottom h) d
      some (accel_some h is) low_pull_some (room_of_rate h.search is.search d k) (high_time_most h.search is.search)
      (rw e at (stays_over (over_square h.search h.search.area.intruder.greatest) (over_square h.search h.search.area.intruder.least) (i * rate_step h.search + rate_step h.search) (bottom h)
      (scaled_le h.search.area.intruder.least h.search.area.intruder.greatest (q * q) is.search.intruder.ordered) not_under)))))

  same_ℕ : (n : ℕ) → n ≡ n
  same_ℕ n = refl

  same : (z : ℤ) → z ≡ z
  same z = refl

  -- a step of each pass
  pub each_gentle : Each (IsGentle (value q (accel h))) (passes h)
  each_gentle = (
    time_gentle,
    (
      own_gentle (top h) (altitude_pass h.search) (high_time h.search) (over_square h.search h.search.area.intruder.greatest) (λ i. same_ℕ _) (λ i. same _) (gentle.altitude_gentle h.search is.search),
      (
        goal_gentle,
        (
          start_gentle,
          (
            own_gentle (bottom h) (aim_pass h.search) (high_time h.search) (over_square h.search h.search.area.intruder.least) (λ i. same_ℕ _) (λ i. same _) (gentle.aim_gentle h.search is.search),
            (
              own_gentle (bottom h) (pull_pass h.search) (high_time h.search) (over_square h.search h.search.area.intruder.least) (λ i. same_ℕ _) (λ i. same _) (gentle.pull_gentle h.search is.search),
              (
                own_gentle (bottom h) (hold_pass h.search) (high_time h.search) (over_square h.search h.search.area.intruder.least) (λ i. same_ℕ _) (λ i. same _) (gentle.hold_gentle h.search is.search),
                (own_gentle (bottom h) (own_pass h.search) (high_time h.search) (over_square h.search h.search.area.intruder.least) (λ i. same_ℕ _) (λ i. same _) (gentle.own_gentle h.search is.search), tt),
              ),
            ),
          ),
        ),
      ),
    ),
  )
