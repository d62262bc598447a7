-- Each search that can meet finds a flight, which is from the area and ends in contact; and each flight has a response.
use Rattle.std.proofs.Common.{◌≡◌, ℕ, zero, suc, ◌-◌, ◌*◌, ◌<◌, ◌≤◌, inl, inr, refl, ap, ◌∙◌, arith, false, List, [], ◌∷◌, ◌++◌, ℤ, pos, neg_ℤ, ◌-ℤ◌, ◌*ℤ◌, ◌≤ℤ◌, unsigned_abs, min, mul-pos}
use Rattle.std.proofs.lemmas.Int.{ints}
use Rattle.std.proofs.lemmas.Bool.{cases_lt}
use Rattle.acas_flight.proofs.Between.{test_ge}
use Rattle.acas_flight_lemmas.proofs.Rising.{scaled_le}
use Rattle.acas_flight.specs.Response.{Segment}
use Rattle.acas_flight.specs.Window.{Times}
use Rattle.acas_flight.specs.Clear.{EndsInVerticalContact, IsEndangeredDuring}
use Rattle.acas_areas.specs.Value.{is_below, IsWithinHalf, thinnest}
use Rattle.acas_areas.specs.Flights.{Flight, value}
use Rattle.acas_areas.specs.Passes.{IsLast, below_at, Each}
use Rattle.acas_areas.specs.Search.{Search, IsSearch, IsTimed, CanMeet, IsFound, grain, unit, over_square, passes, own_pass, low_flight, high_flight}
use Rattle.acas_areas.specs.Responses.{segment, IsHoldFor, not_held, held_for, IsApproachFor, at_once, at_aim, before, past, IsFlightFrom, IsResponse, scale, fine, acceleration}
use Rattle.acas_pass_lemmas.proofs.Neighbours.{unit_some}
use Rattle.acas_pass_lemmas.proofs.Gentle.{each_gentle}
use Rattle.acas_pass_lemmas.proofs.Joins.{joined, own-end, time-start}
use Rattle.acas_pass_lemmas.proofs.Within.{each_from, of_low, of_from}
use Rattle.acas_pass_lemmas.proofs.Somes.{some_of, each_some}
use Rattle.acas_pass_lemmas.proofs.Touching.{touches}
use Rattle.acas_pass_lemmas.proofs.Ends.{below_or_not, found, found_of}

-- ---- the flight that is found is from the area and in contact

module _ (half : ℕ) (s : Search) (w : Times) (thick : thinnest ≤ 2 * half) (is : IsSearch s) (timed : IsTimed s w) (can : CanMeet half s) where
  own_top : (over_square s s.area.own.least ≤ℤ over_square s s.area.own.greatest) × (over_square s s.area.own.greatest ≤ℤ over_square s s.area.own.greatest)
  own_top = (scaled_le s.area.own.least s.area.own.greatest (unit s * unit s) is.own.ordered, omega (arith, ints))

  pub found_flight : (c : Flight) → IsFound half s c → IsFlightFrom s.demand s.area w (unit s) c × IsWithinHalf half (value (unit s) c)
  found_flight = found_of (value (unit s)) (IsFlightFrom s.demand s.area w (unit s)) half (low_flight s) (high_flight s) (passes s) thick
      (of_low s is w timed) (of_from s is w timed (over_square s s.area.own.greatest) own_top) (each_from s is w timed)
      (each_gentle s is) (each_some s is) (joined s is)
      (λ n. ap (λ x. is_below half (value (unit s) x)) (time-start s) ∙ below_or_not half (value (unit s) (low_flight s)) can.low n)

pub found-contact : (half : ℕ) (s : Search) (w : Times) (c : Flight) (hold rest : List Segment) → thinnest ≤ 2 * half → IsSearch s → IsTimed s w → CanMeet half s → IsFound half s c → IsResponse (unit s) c hold rest →
    EndsInVerticalContact half s.demand s.area w (fine (unit s) c) (c.altitude *ℤ pos (fine (unit s) c)) (c.own *ℤ pos c.pull) (c.intruder *ℤ pos c.pull) (hold ++ rest)
found-contact half s w c h r thick is timed can f i =
    let of = found_flight half s w thick is timed can c f in
    touches half s.demand s.area w (unit s) c (unit_some s is) (some_of s is w c of.0).0 of.0 h r i of.1

-- ---- there is one

pub steps_some : (s : Search) → IsSearch s → Each (λ p. 0 < p.step) (passes s)
steps_some s is = (time, (omega arith, (rate, (rate, (grains, (time, (rate, tt)))))))
  where
    grains : 0 < grain s
    grains = mul-pos is.low.some is.high.some

    time : 0 < 8 * grain s
    time = mul-pos (omega arith) grains

    rate : 0 < 524288 * (grain s * grain s)
    rate = mul-pos (omega arith) (mul-pos grains grains)

pub finds : (half : ℕ) (s : Search) → IsSearch s → CanMeet half s → (c : Flight) × IsFound half s c
finds half s is can = found (value (unit s)) half (low_flight s) (high_flight s) (passes s) (steps_some s is) at_end
  where
    at_end : (last : ℕ) → IsLast (own_pass s) last → below_at (value (unit s)) half (own_pass s) last ≡ false
    at_end last l = ap (λ c. is_below half (value (unit s) c)) (own-end s is last l)
        ∙ test_ge (value (unit s) (high_flight s)).num (neg_ℤ (pos (half * (value (unit s) (high_flight s)).den))) can.high

-- ---- its response

hold_for : (t : ℕ) → (hold : List Segment) × IsHoldFor t hold
hold_for zero = ([], not_held)
hold_for (suc t) = (segment (suc t) (pos 0) ∷ [], held_for (suc t) (omega arith))

approach_for : (bend : ℕ) (c : ℤ) (t : ℕ) → (rest : List Segment) × IsApproachFor bend c t rest
approach_for bend c zero = ([], at_once)
approach_for zero c (suc t) = (segment (suc t) (pos 0) ∷ [], at_aim (suc t) (omega arith) refl)
approach_for (suc bend) c (suc t) = elim (cases_lt (suc bend) (suc t)) [
  | inl after ↦ (segment (suc bend) c ∷ segment (suc t - suc bend) (pos 0) ∷ [], past (suc t) (omega arith) after)
  | inr within ↦ (segment (suc t) c ∷ [], before (suc t) (omega arith) (omega arith) within)
]

pub response : (q : ℕ) (c : Flight) → (hold : List Segment) × (rest : List Segment) × IsResponse q c hold rest
response q c =
    let hold = hold_for (min c.time c.hold * scale q c) in
    let rest = approach_for (unsigned_abs (c.aim -ℤ c.own) * q) (acceleration q c) ((c.time - c.hold) * scale q c) in
    (hold.0, rest.0, record { held = hold.1; approached = rest.1 })

-- ---- so the area is endangered

pub endangers : (half : ℕ) (s : Search) (w : Times) → thinnest ≤ 2 * half → IsSearch s → IsTimed s w → CanMeet half s → IsEndangeredDuring half s.demand s.area w
endangers half s w thick is timed can =
    let f = finds half s is can in
    let c = f.0 in
    let r = response (unit s) c in (
      fine (unit s) c,
      c.altitude *ℤ pos (fine (unit s) c),
      c.own *ℤ pos c.pull,
      c.intruder *ℤ pos c.pull,
      r.0 ++ r.1,
      found-contact half s w c r.0 r.1 thick is timed can f.1 r.2,
    )
