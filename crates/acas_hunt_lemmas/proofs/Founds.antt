-- The course that a hunt finds is a meeting; and each hunt that can meet finds one.
use Rattle.std.proofs.Common.{◌≡◌, ℕ, ◌*◌, ◌<◌, ◌≤◌, refl, ap, ◌∙◌, arith, false, List, [], ◌++◌, pos, neg_ℤ, ◌*ℤ◌, ◌≤ℤ◌, min, mul-pos}
use Rattle.std.specs.Int.Signed.{≤ℤ_refl}
use Rattle.acas_flight_lemmas.proofs.Rising.{scaled_le}
use Rattle.acas_flight.proofs.Between.{test_ge}
use Rattle.acas_flight.specs.Response.{Segment}
use Rattle.acas_flight.specs.Parts.{finer}
use Rattle.acas_flight.specs.Window.{Times}
use Rattle.acas_areas.specs.Value.{is_below, IsWithinHalf, thinnest}
use Rattle.acas_areas.specs.Flights.{Flight}
use Rattle.acas_areas.specs.Search.{IsTimed, grain, unit, rate_step, over_square, low_flight, high_flight, intruder_pass, own_pass}
use Rattle.acas_areas.specs.Responses.{IsFlightFrom, IsResponse, not_held, scale, fine}
use Rattle.acas_pass_lemmas.proofs.Neighbours.{unit_some}
use Rattle.acas_pass_lemmas.proofs.Within.{each_from, of_low, of_from, between_down}
use Rattle.acas_pass_lemmas.proofs.Somes.{some_of}
use Rattle.acas_pass_lemmas.proofs.Founds as founds
use Rattle.acas_rulings.specs.Meeting.{MeetsDuring, IsEndangeredDuringBy}
use Rattle.acas_areas.specs.Passes.{IsLast, Each, below_at}
use Rattle.acas_rulings.specs.Hunt.{Course, course, value, Hunt, IsHunt, CanMeet, Finds, accel, top, bottom, low_course, high_course, toward, goal_pass, passes, of_intruder, IsFlownBy}
use Rattle.acas_pass_lemmas.proofs.Ends.{StartsBelow, below_or_not, found_of, found}
use Rattle.acas_hunt_lemmas.proofs.Joins.{joined, time-start, own-end, goals, intruder-start}
use Rattle.acas_hunt_lemmas.proofs.Gentle.{each_gentle}
use Rattle.acas_hunt_lemmas.proofs.Somes.{each_some}
use Rattle.acas_hunt_lemmas.proofs.Flown.{IsCourseFrom, meets-during}

-- ---- each course of a hunt is one of the area

module _ (h : Hunt) (is : IsHunt h) (w : Times) (timed : IsTimed h.search w) where
  abbrev pub From : Course → Type 0
  From c = IsCourseFrom h.search.demand h.may h.search.area w (unit h.search) c

  at_top : (c : Flight) → IsFlightFrom h.search.demand h.search.area w (unit h.search) c → From (course c (top h))
  at_top c of = record { own = of; least = goals h is; most = ≤ℤ_refl (top h) }

  at_bottom : (c : Flight) → IsFlightFrom h.search.demand h.search.area w (unit h.search) c → From (course c (bottom h))
  at_bottom c of = record { own = of; least = ≤ℤ_refl (bottom h); most = goals h is }

  own_top : (over_square h.search h.search.area.own.least ≤ℤ over_square h.search h.search.area.own.greatest) × (over_square h.search h.search.area.own.greatest ≤ℤ over_square h.search h.search.area.own.greatest)
  own_top = (scaled_le h.search.area.own.least h.search.area.own.greatest (unit h.search * unit h.search) is.search.own.ordered, ≤ℤ_refl _)

  -- so are the low and the high course
  pub low_from : From (low_course h)
  low_from = at_top (low_flight h.search) (of_low h.search is.search w timed)

  pub high_from : From (high_course h)
  high_from = at_bottom (high_flight h.search) (of_from h.search is.search w timed (over_square h.search h.search.area.own.greatest) own_top)

  -- and each point of each pass
  pub each_course : Each (λ p. (i : ℕ) → From (p.point i)) (passes h)
  each_course =
      let e = each_from h.search is.search w timed in (
        (λ i. at_top _ (e.0 i)),
        (
          (λ i. at_top _ (e.1.0 i)),
          (
            (λ i. goal i (e.1.1.0 0)),
            (
              (λ i. at_bottom _ (e.1.1.0 i)),
              ((λ i. at_bottom _ (e.1.1.1.0 i)), ((λ i. at_bottom _ (e.1.1.1.1.0 i)), ((λ i. at_bottom _ (e.1.1.1.1.1.0 i)), ((λ i. at_bottom _ (e.1.1.1.1.1.1.0 i)), tt)))),
            ),
          ),
        ),
      )
    where
      goal : (i : ℕ) → IsFlightFrom h.search.demand h.search.area w (unit h.search) ((intruder_pass h.search).point 0) → From ((goal_pass h).point i)
      goal i of =
          let b = between_down (top h) (bottom h) (i * rate_step h.search) (goals h is) in
          record { own = rw (intruder-start h is) at of; least = b.0; most = b.1 }

  -- it has some pull
  pub some_pull : (c : Course) → From c → 0 < c.own.pull
  some_pull c of = (some_of h.search is.search w c.own of.own).0

  module _ (half : ℕ) (thick : thinnest ≤ 2 * half) (can : CanMeet half h) where
    starts : ¬ IsWithinHalf half (value (unit h.search) (accel h) (low_course h)) → StartsBelow (value (unit h.search) (accel h)) half (passes h)
    starts n = ap (λ c. is_below half (value (unit h.search) (accel h) c)) (time-start h) ∙ below_or_not half (value (unit h.search) (accel h) (low_course h)) can.low n

    -- what is found is a course of the area, and in contact
    pub found_course : (c : Course) → Finds half h c → From c × IsWithinHalf half (value (unit h.search) (accel h) c)
    found_course c f = found_of (value (unit h.search) (accel h)) From half (low_course h) (high_course h) (passes h) thick low_from high_from each_course (each_gentle h is) (each_some h is) (joined h is) starts c f

    -- and with its response and the intruder's flight it is a meeting
    pub found_meets : (c : Course) (hold rest turn : List Segment) → Finds half h c → IsFlownBy (unit h.search) (accel h) c hold rest turn →
        let whole = fine (unit h.search) c.own * accel h in
        MeetsDuring half h.search.demand h.may h.search.area w whole (c.own.altitude *ℤ pos whole) ((c.own.own *ℤ pos c.own.pull) *ℤ pos (accel h)) ((c.own.intruder *ℤ pos c.own.pull) *ℤ pos (accel h)) (finer (accel h) (hold ++ rest)) (finer c.own.pull turn)
    found_meets c hold rest turn f is' =
        let of = found_course c f in
        meets-during half h.search.demand h.may h.search.area w (unit h.search) c (unit_some h.search is.search) (some_pull c of.0) is.some (is.least, is.greatest) of.0 hold rest turn is' of.1

-- ---- there is one

-- each pass has steps
pub steps_some : (h : Hunt) → IsHunt h → Each (λ p. 0 < p.step) (passes h)
steps_some h is = (time, (omega arith, (rate, (rate, (rate, (grains, (time, (rate, tt))))))))
  where
    grains : 0 < grain h.search
    grains = mul-pos is.search.low.some is.search.high.some

    time : 0 < 8 * grain h.search
    time = mul-pos (omega arith) grains

    rate : 0 < 524288 * (grain h.search * grain h.search)
    rate = mul-pos (omega arith) (mul-pos grains grains)

-- a hunt that can meet finds a course
pub finds : (half : ℕ) (h : Hunt) → IsHunt h → CanMeet half h → (c : Course) × Finds half h c
finds half h is can = found (value (unit h.search) (accel h)) half (low_course h) (high_course h) (passes h) (steps_some h is) at_end
  where
    at_end : (last : ℕ) → IsLast (toward (bottom h) (own_pass h.search)) last → below_at (value (unit h.search) (accel h)) half (toward (bottom h) (own_pass h.search)) last ≡ false
    at_end last l = ap (λ c. is_below half (value (unit h.search) (accel h) c)) (own-end h is last l)
        ∙ test_ge (value (unit h.search) (accel h) (high_course h)).num (neg_ℤ (pos (half * (value (unit h.search) (accel h) (high_course h)).den))) can.high

-- a flight that begins at once has no hold
no_hold : (q : ℕ) (c : Flight) (hold rest : List Segment) → c.hold ≡ 0 → IsResponse q c hold rest → IsResponse q c [] rest
no_hold q c hold rest e is =
    let m : min c.time c.hold ≡ 0 = omega (arith, e) in
    let z : 0 * scale q c ≡ 0 = omega arith in
    record { held = rw (m, z) not_held; approached = is.approached }

-- each course has a response and a flight of the intruder
pub flown_by : (q a : ℕ) (c : Course) → (hold : List Segment) × (rest : List Segment) × (turn : List Segment) × IsFlownBy q a c hold rest turn
flown_by q a c =
    let r = founds.response q c.own in
    let o = founds.response q (of_intruder a c) in
    (r.0, r.1, o.1, record { response = r.2; against = no_hold q (of_intruder a c) o.0 o.1 refl o.2 })

-- so the area of a hunt that can meet is endangered
pub endangers : (half : ℕ) (h : Hunt) (w : Times) → thinnest ≤ 2 * half → IsHunt h → IsTimed h.search w → CanMeet half h → IsEndangeredDuringBy half h.search.demand h.may h.search.area w
endangers half h w thick is timed can =
    let f = finds half h is can in
    let c = f.0 in
    let r = flown_by (unit h.search) (accel h) c in (
      fine (unit h.search) c.own * accel h,
      c.own.altitude *ℤ pos (fine (unit h.search) c.own * accel h),
      (c.own.own *ℤ pos c.own.pull) *ℤ pos (accel h),
      (c.own.intruder *ℤ pos c.own.pull) *ℤ pos (accel h),
      finer (accel h) (r.0 ++ r.1),
      finer c.own.pull r.2,
      found_meets h is w timed half thick can c r.0 r.1 r.2 f.1 r.3,
    )
