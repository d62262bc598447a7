-- Each pass of a search is gentle.
use Rattle.std.proofs.Common.{◌≡◌, ℕ, ◌+◌, ◌*◌, ◌<◌, ◌≤◌, ◌⊎◌, inl, inr, ⊎_elim, arith, ℤ, pos, ◌+ℤ◌, ◌≤ℤ◌, ◌<ℤ◌}
use Rattle.std.proofs.lemmas.Int.{ints}
use Rattle.std.proofs.lemmas.Bool.{cases_lt}
use Rattle.acas_frac.proofs.Orders.{cases_lt_ℤ}
use Rattle.acas_flight.proofs.Between.{low_pull-above}
use Rattle.acas_flight.proofs.Holding.{low_hold-above}
use Rattle.acas_areas.specs.Value.{IsLessThanAbove, thinnest}
use Rattle.acas_flight.specs.Response.{scaled}
use Rattle.acas_areas.specs.Flights.{value}
use Rattle.acas_areas.specs.Passes.{toward, rising, falling, IsGentle, Each}
use Rattle.acas_areas.specs.Search.{Search, IsSearch, grain, unit, time_step, rate_step, over_square, low_time, high_time, pull_at_low, hold_at_low, pull_at_high, hold_at_high, high_flight_from, time_pass, altitude_pass, intruder_pass, aim_pass, pull_pass, hold_pass, own_pass, passes, fastest}
use Rattle.acas_pass_lemmas.proofs.Gains.{later, sooner, lower, slower_intruder}
use Rattle.acas_pass_lemmas.proofs.Turns.{higher_aim, stronger, weaker, shorter_hold, longer_hold, higher_below, higher_above, higher_across}
use Rattle.acas_pass_lemmas.proofs.Neighbours.{toward_up, toward_down, rising_next, falling_next, rising_least, next, pull_above, pull_to, hold_above, hold_to, low_pull_within, high_pull_within, size_over, unit_some, pull_some, pull_most, high_time_most, room_of_time, room_of_pull, room_of_rate, slowest_size, least_size, greatest_size, aims_ordered}

module _ (s : Search) (is : IsSearch s) where
  low_pull_some : 0 < pull_at_low s
  low_pull_some = (low_pull_within (scaled (unit s) s.demand) (over_square s s.area.own.least) (pull_some s is) (pull_most s is)).2

  high_pull_some : (v : ℤ) → 0 < pull_at_high s v
  high_pull_some v = (high_pull_within (scaled (unit s) s.demand) v (pull_some s is) (pull_most s is)).2

  pub time_gentle : IsGentle (value (unit s)) (time_pass s)
  time_gentle i = rw (next i (time_step s)) (⊎_elim
      (λ l. toward_up (low_time s) (high_time s) (i * (time_step s)) (time_step s) (omega arith) (λ d h e. rw e
      (later (unit s) s.area.altitude.greatest (over_square s s.area.own.least) (over_square s s.area.intruder.greatest) (over_square s s.demand.lo) (pull_at_low s) (hold_at_low s) (toward (low_time s) (high_time s) (i * (time_step s))) d
      (unit_some s is) low_pull_some (room_of_time s is d h) (slowest_size s is) (least_size s is) (size_over s.area.intruder.greatest fastest (unit s * unit s) is.intruder.greatest))))
      (λ l. toward_down (low_time s) (high_time s) (i * (time_step s)) (time_step s) l (λ d h e. rw e
      (sooner (unit s) s.area.altitude.greatest (over_square s s.area.own.least) (over_square s s.area.intruder.greatest) (over_square s s.demand.lo) (pull_at_low s) (hold_at_low s) (toward (low_time s) (high_time s) (i * (time_step s) + time_step s)) d
      (unit_some s is) low_pull_some (room_of_time s is d h) (slowest_size s is) (least_size s is) (size_over s.area.intruder.greatest fastest (unit s * unit s) is.intruder.greatest))))
      (cases_lt (low_time s) (high_time s)))

  pub altitude_gentle : IsGentle (value (unit s)) (altitude_pass s)
  altitude_gentle i = rw (next i 1) (falling_next s.area.altitude.greatest s.area.altitude.least (i * 1) 1 (λ d h e. rw e
      (lower (unit s) (falling s.area.altitude.greatest s.area.altitude.least (i * 1)) (over_square s s.area.own.least) (over_square s s.area.intruder.greatest) (over_square s s.demand.lo) (pull_at_low s) (hold_at_low s) (high_time s) d (unit_some s is) low_pull_some h)))

  pub intruder_gentle : IsGentle (value (unit s)) (intruder_pass s)
  intruder_gentle i = rw (next i (rate_step s)) (falling_next (over_square s s.area.intruder.greatest) (over_square s s.area.intruder.least) (i * rate_step s) (rate_step s) (λ d h e. rw e
      (slower_intruder (unit s) s.area.altitude.least (over_square s s.area.own.least) (falling (over_square s s.area.intruder.greatest) (over_square s s.area.intruder.least) (i * rate_step s)) (over_square s s.demand.lo) (pull_at_low s) (hold_at_low s) (high_time s) d
      (unit_some s is) low_pull_some (room_of_rate s is d h) (high_time_most s is))))

  -- a flight from below the least rate is below each aim, and one from it up has no hold
  at_or_above : (k : ℤ) → over_square s s.demand.lo ≤ℤ k → (over_square s s.area.own.least ≤ℤ k) ⊎ (hold_at_low s ≡ 0)
  at_or_above k h = ⊎_elim
      (λ l. inl (omega (arith, ints)))
      (λ l. inr (low_hold-above (scaled (unit s) s.demand) (over_square s s.area.own.least) l))
      (cases_lt_ℤ (over_square s s.area.own.least) (over_square s s.demand.lo))

  pub aim_gentle : IsGentle (value (unit s)) (aim_pass s)
  aim_gentle i = rw (next i (rate_step s)) (rising_next (over_square s s.demand.lo) (over_square s s.demand.hi) (i * rate_step s) (rate_step s) (λ d h e. rw e
      (higher_aim (unit s) s.area.altitude.least (over_square s s.area.own.least) (over_square s s.area.intruder.least) (rising (over_square s s.demand.lo) (over_square s s.demand.hi) (i * rate_step s)) (pull_at_low s) (hold_at_low s) (high_time s) d
      (unit_some s is) low_pull_some (room_of_rate s is d h) (high_time_most s is) (at_or_above _ (rising_least (over_square s s.demand.lo) (over_square s s.demand.hi) (i * rate_step s))))))

  -- to the limit from at most the greatest rate, and from it from above
  pulls_rise : over_square s s.area.own.least ≤ℤ over_square s s.demand.hi → pull_at_low s ≤ pull_at_high s (over_square s s.area.own.least)
  pulls_rise h = rw (pull_to (scaled (unit s) s.demand) (over_square s s.area.own.least) h) (low_pull_within (scaled (unit s) s.demand) (over_square s s.area.own.least) (pull_some s is) (pull_most s is)).1

  pulls_fall : over_square s s.demand.hi <ℤ over_square s s.area.own.least → pull_at_high s (over_square s s.area.own.least) ≤ pull_at_low s
  pulls_fall h = let o = aims_ordered s is in rw (low_pull-above (scaled (unit s) s.demand) (over_square s s.area.own.least) (omega (arith, ints))) (high_pull_within (scaled (unit s) s.demand) (over_square s s.area.own.least) (pull_some s is) (pull_most s is)).1

  pub pull_gentle : IsGentle (value (unit s)) (pull_pass s)
  pull_gentle i = rw (next i (grain s)) (⊎_elim
      (λ l. toward_down (pull_at_low s) (pull_at_high s (over_square s s.area.own.least)) (i * grain s) (grain s) (pulls_fall l) (λ d h e. rw e
      (weaker (unit s) s.area.altitude.least (over_square s s.area.own.least) (over_square s s.area.intruder.least) (over_square s s.demand.hi) (toward (pull_at_low s) (pull_at_high s (over_square s s.area.own.least)) (i * grain s + grain s)) (hold_at_low s) (high_time s) d
      (unit_some s is) (let p = low_pull_some in let q = high_pull_some (over_square s s.area.own.least) in omega arith) (room_of_pull s is d h) (high_time_most s is) (omega (arith, ints)))))
      (λ l. toward_up (pull_at_low s) (pull_at_high s (over_square s s.area.own.least)) (i * grain s) (grain s) (pulls_rise l) (λ d h e. rw e
      (stronger (unit s) s.area.altitude.least (over_square s s.area.own.least) (over_square s s.area.intruder.least) (over_square s s.demand.hi) (toward (pull_at_low s) (pull_at_high s (over_square s s.area.own.least)) (i * grain s)) (hold_at_low s) (high_time s) d
      (unit_some s is) (let p = low_pull_some in let q = high_pull_some (over_square s s.area.own.least) in omega arith) (room_of_pull s is d h) (high_time_most s is) l)))
      (cases_lt_ℤ (over_square s s.demand.hi) (over_square s s.area.own.least)))

  holds_fall : over_square s s.area.own.least ≤ℤ over_square s s.demand.hi → hold_at_high s (over_square s s.area.own.least) ≤ hold_at_low s
  holds_fall h = rw (hold_to (scaled (unit s) s.demand) (over_square s s.area.own.least) h) (omega arith)

  holds_rise : over_square s s.demand.hi <ℤ over_square s s.area.own.least → hold_at_low s ≤ hold_at_high s (over_square s s.area.own.least)
  holds_rise h = let o = aims_ordered s is in rw (low_hold-above (scaled (unit s) s.demand) (over_square s s.area.own.least) (omega (arith, ints))) (omega arith)

  pub hold_gentle : IsGentle (value (unit s)) (hold_pass s)
  hold_gentle i = rw (next i (time_step s)) (⊎_elim
      (λ l. toward_up (hold_at_low s) (hold_at_high s (over_square s s.area.own.least)) (i * (time_step s)) (time_step s) (holds_rise l) (λ d h e. rw e
      (longer_hold (unit s) s.area.altitude.least (over_square s s.area.own.least) (over_square s s.area.intruder.least) (over_square s s.demand.hi) (pull_at_high s (over_square s s.area.own.least)) (toward (hold_at_low s) (hold_at_high s (over_square s s.area.own.least)) (i * (time_step s))) (high_time s) d
      (unit_some s is) (high_pull_some (over_square s s.area.own.least)) (room_of_time s is d h) (slowest_size s is) (greatest_size s is) (omega (arith, ints)))))
      (λ l. toward_down (hold_at_low s) (hold_at_high s (over_square s s.area.own.least)) (i * (time_step s)) (time_step s) (holds_fall l) (λ d h e. rw e
      (shorter_hold (unit s) s.area.altitude.least (over_square s s.area.own.least) (over_square s s.area.intruder.least) (over_square s s.demand.hi) (pull_at_high s (over_square s s.area.own.least)) (toward (hold_at_low s) (hold_at_high s (over_square s s.area.own.least)) (i * (time_step s) + time_step s)) (high_time s) d
      (unit_some s is) (high_pull_some (over_square s s.area.own.least)) (room_of_time s is d h) (slowest_size s is) (greatest_size s is) l)))
      (cases_lt_ℤ (over_square s s.demand.hi) (over_square s s.area.own.least)))

  -- from a rate to one that is d higher
  above_step : (r : ℤ) (d : ℕ) → d ≤ rate_step s → over_square s s.demand.hi <ℤ r → over_square s s.demand.hi <ℤ (r +ℤ pos d) → over_square s s.demand.hi ≤ℤ r →
      IsLessThanAbove thinnest (value (unit s) (high_flight_from s r)) (value (unit s) (high_flight_from s (r +ℤ pos d)))
  above_step r d h l l' m =
      rw (pull_above (scaled (unit s) s.demand) r l, hold_above (scaled (unit s) s.demand) r l, pull_above (scaled (unit s) s.demand) (r +ℤ pos d) l', hold_above (scaled (unit s) s.demand) (r +ℤ pos d) l')
      (higher_above (unit s) s.area.altitude.least r (over_square s s.area.intruder.least) (over_square s s.demand.hi) (s.demand.pull * unit s) (s.demand.delay * unit s) (high_time s) d (unit_some s is) (pull_some s is) (room_of_rate s is d h) (high_time_most s is) m)

  limit_some : 0 < s.demand.limit * unit s
  limit_some = let p = pull_some s is in let q = pull_most s is in omega arith

  below_step : (r : ℤ) (d : ℕ) → d ≤ rate_step s → r ≤ℤ over_square s s.demand.hi → (r +ℤ pos d) ≤ℤ over_square s s.demand.hi →
      IsLessThanAbove thinnest (value (unit s) (high_flight_from s r)) (value (unit s) (high_flight_from s (r +ℤ pos d)))
  below_step r d h l m =
      rw (pull_to (scaled (unit s) s.demand) r l, hold_to (scaled (unit s) s.demand) r l, pull_to (scaled (unit s) s.demand) (r +ℤ pos d) m, hold_to (scaled (unit s) s.demand) (r +ℤ pos d) m)
      (higher_below (unit s) s.area.altitude.least r (over_square s s.area.intruder.least) (over_square s s.demand.hi) (s.demand.limit * unit s) 0 (high_time s) d (unit_some s is) limit_some (room_of_rate s is d h) (high_time_most s is) m)

  own_step : (r : ℤ) (d : ℕ) → d ≤ rate_step s → IsLessThanAbove thinnest (value (unit s) (high_flight_from s r)) (value (unit s) (high_flight_from s (r +ℤ pos d)))
  own_step r d h = ⊎_elim
      (λ l. above_step r d h l (omega (arith, ints)) (omega (arith, ints)))
      (λ l. ⊎_elim
      (λ m. higher_across (unit s) s.area.altitude.least r (over_square s s.area.intruder.least) (over_square s s.demand.hi) (pull_at_high s r) (hold_at_high s r) (pull_at_high s (r +ℤ pos d)) (hold_at_high s (r +ℤ pos d)) (high_time s) d
      (unit_some s is) (high_pull_some r) (high_pull_some (r +ℤ pos d)) (room_of_rate s is d h) (high_time_most s is) l (omega (arith, ints)))
      (λ m. below_step r d h l m)
      (cases_lt_ℤ (over_square s s.demand.hi) (r +ℤ pos d)))
      (cases_lt_ℤ (over_square s s.demand.hi) r)

  pub own_gentle : IsGentle (value (unit s)) (own_pass s)
  own_gentle i = rw (next i (rate_step s)) (rising_next (over_square s s.area.own.least) (over_square s s.area.own.greatest) (i * rate_step s) (rate_step s) (λ d h e. rw e
      (own_step (rising (over_square s s.area.own.least) (over_square s s.area.own.greatest) (i * rate_step s)) d h)))

  pub each_gentle : Each (IsGentle (value (unit s))) (passes s)
  each_gentle = (time_gentle, (altitude_gentle, (intruder_gentle, (aim_gentle, (pull_gentle, (hold_gentle, (own_gentle, tt)))))))
