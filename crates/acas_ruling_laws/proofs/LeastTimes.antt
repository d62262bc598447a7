-- Each race has a first time of its least gap in a window, and there it is decided whether the curve stays above.
use Rattle.std.proofs.Common.{◌≡◌, ℕ, ◌-◌, ◌*◌, ◌<◌, ◌⊎◌, inl, inr, ⊎_elim, refl, sym, arith, [], ◌∷◌, Bool, ℤ, pos, neg_ℤ, ◌+ℤ◌, ◌-ℤ◌, ◌*ℤ◌, ◌≤ℤ◌, ◌<ℤ◌, int_lt}
use Rattle.std.proofs.lemmas.Int.{ints}
use Rattle.std.proofs.lemmas.Bool.{cases_lt, cases_Bool}
use Rattle.acas_units.specs.declared.limits.TheConstants.{WINDOW_SECONDS}
use Rattle.acas_frac.specs.Fraction.{Fraction}
use Rattle.acas_frac.proofs.IntRing.{at, num, ◌⊗◌, ring}
use Rattle.acas_frac.proofs.Orders.{cases_lt_ℤ, le_of_lt_ℤ, mul_nonneg, unsigned_abs-high, unsigned_abs-low}
use Rattle.acas_frac.proofs.Reduced.{some_reduced}
use Rattle.acas_frac.proofs.SignedProducts.{le-from_mul_ℤ, mul_comm_ℤ}
use Rattle.acas_flight.specs.Response.{Demand}
use Rattle.acas_flight.specs.Parts.{CanBeMet}
use Rattle.acas_flight.specs.Clear.{Area}
use Rattle.acas_flight.specs.Values.{IsOver}
use Rattle.acas_flight.specs.Window.{Times}
use Rattle.acas_flight_lemmas.proofs.Rising.{scaled_le}
use Rattle.acas_flight_lemmas.proofs.Safe.{low_pull-some, high_pull-some}
use Rattle.acas_flight_lemmas.proofs.Extremes.{during_ends}
use Rattle.acas_flight_lemmas.proofs.Numbers.{natural}
use Rattle.acas_areas.specs.Limits.{AreEnds}
use Rattle.acas_areas.specs.Search.{IsMoment}
use Rattle.acas_rulings.specs.Intruder.{Manoeuvre, RatesFit}
use Rattle.acas_rulings.specs.Race.{Race, high_race, low_race, race_gap, race_tick, turned}
use Rattle.acas_rulings.specs.Apart.{IsApart, StaysAbove}
use Rattle.acas_rulings.specs.Least.{IsFirstLeastTime, IsRaceExtreme}
use Rattle.acas_rulings.specs.Turns.{Instant, IsEarlyTurn, IsFirstOf, IsLateTurn, IsLooked, IsSoonerOrSame, IsTurnTime, ahead, at_goal, falling, fraction_of, on_the_way, race_number, too_slow, turned_before, turning, turns_after}
use Rattle.acas_manoeuvre_lemmas.proofs.FirstTimes.{first_least_time}
use Rattle.acas_manoeuvre_lemmas.proofs.Stays.{below-turned, stays-over}
use Rattle.acas_race.proofs.SameTimes.{least_time-same}
use Rattle.acas_race.proofs.Tests.{first_of_all, in_order, last_of_all, last_of_ends, on_window, turn_of_all}
use Rattle.acas_race.proofs.Turns.{late-ahead}

-- ---- among three times: the two ends, and one between

-- a time to look at besides the ends
record HasPlace (r : Race) (from to : Instant) : Type 0 where
  pub place : Instant
  pub some : 0 < place.den
  pub after : IsSoonerOrSame from place
  pub before : IsSoonerOrSame place to
  pub looked : IsLooked r from to place

-- the first of the three at which the gap is least
record HasFirst (r : Race) (from place to : Instant) : Type 0 where
  pub best : Instant
  pub some : 0 < best.den
  pub first : IsFirstOf r from place to best

abbrev is_lower : Race → Instant → Instant → Bool
is_lower r p p' = int_lt (race_number r p *ℤ pos (p'.den * p'.den)) (race_number r p' *ℤ pos (p.den * p.den))

module _ (r : Race) (from to : Instant) (sf : 0 < from.den) (st : 0 < to.den) (order : IsSoonerOrSame from to) where
  at_start : IsLooked r from to from → HasPlace r from to
  at_start l = record { place = from; some = sf; after = omega arith; before = order; looked = l }

  -- the turn of a rising curve, or the end next to it
  clipped : r.start ≤ℤ r.aim → (turn : Instant) → 0 < turn.den → IsTurnTime r turn → HasPlace r from to
  clipped rises turn s is = elim (cases_lt (from.num * turn.den) (turn.num * from.den)) [
    | inr early ↦ at_start (turned_before from turn rises s is early)
    | inl after ↦ elim (cases_lt (turn.num * to.den) (to.num * turn.den)) [
      | inr late ↦ record { place = to; some = st; after = order; before = omega arith; looked = turns_after to turn rises s is late }
      | inl before ↦ record { place = turn; some = s; after = omega (arith, after); before = omega (arith, before); looked = turning turn rises is }
    ]
  ]

  -- the intruder is at its goal before
  late_turn : 0 < r.pull → 0 < r.accel → r.rate ≤ℤ r.goal → r.start ≤ℤ r.aim → IsLateTurn r → HasPlace r from to
  late_turn sb sa up rises late = natural ((r.goal -ℤ r.start) +ℤ pos (r.hold * r.pull)) (late-ahead r sa up late) (λ n e.
      clipped rises (record { num = n; den = r.pull }) sb (at_goal late (sym e) refl))

  -- it is on its way, and the curve gains on it
  early_turn : r.start ≤ℤ r.aim → IsEarlyTurn r → r.accel < r.pull → HasPlace r from to
  early_turn rises early gains = elim (cases_lt_ℤ (r.rate +ℤ pos (r.hold * r.pull)) r.start) [
    | inl first ↦ at_start (turning from rises (ahead early gains first))
    | inr behind ↦ natural ((r.rate -ℤ r.start) +ℤ pos (r.hold * r.pull)) (omega (arith, ints, behind)) (λ n e.
        clipped rises (record { num = n; den = r.pull - r.accel }) (omega (arith, gains)) (on_the_way early (sym e) (omega (arith, gains)) (omega (arith, gains))))
  ]

  rising_turn : 0 < r.pull → 0 < r.accel → r.rate ≤ℤ r.goal → r.start ≤ℤ r.aim → HasPlace r from to
  rising_turn sb sa up rises = elim (cases_lt_ℤ ((r.start *ℤ pos r.accel) +ℤ ((r.goal -ℤ r.rate) *ℤ pos r.pull)) ((r.goal *ℤ pos r.accel) +ℤ pos (r.hold * r.pull * r.accel))) [
    | inl late ↦ late_turn sb sa up rises late
    | inr early ↦ elim (cases_lt r.accel r.pull) [
      | inl gains ↦ early_turn rises early gains
      | inr slow ↦ at_start (turning from rises (too_slow early slow))
    ]
  ]

  place_of : 0 < r.pull → 0 < r.accel → r.rate ≤ℤ r.goal → HasPlace r from to
  place_of sb sa up = elim (cases_lt_ℤ r.start r.aim) [
    | inl rises ↦ rising_turn sb sa up (le_of_lt_ℤ r.start r.aim rises)
    | inr falls ↦ at_start (falling from falls)
  ]

  first_of : (place : Instant) → 0 < place.den → HasFirst r from place to
  first_of place s = elim (cases_Bool (is_lower r place from)) [
    | inl t ↦ elim (cases_Bool (is_lower r to place)) [
      | inl u ↦ record { best = to; some = st; first = last_of_all r from place to sf s st (is_lower r place from) (is_lower r to place) refl refl t u }
      | inr u ↦ record { best = place; some = s; first = turn_of_all r from place to sf s st (is_lower r place from) (is_lower r to place) refl refl t u }
    ]
    | inr t ↦ elim (cases_Bool (is_lower r to from)) [
      | inl u ↦ record { best = to; some = st; first = last_of_ends r from place to sf s st (is_lower r place from) (is_lower r to from) refl refl t u }
      | inr u ↦ record { best = from; some = sf; first = first_of_all r from place to sf s st (is_lower r place from) (is_lower r to from) refl refl t u }
    ]
  ]

-- ---- in a window

-- a first time of the least gap is one of the longest window's
not_before : (x y : ℤ) (d e : ℕ) → 0 < d → pos 0 ≤ℤ x → (x *ℤ pos e) ≤ℤ (y *ℤ pos d) → pos 0 ≤ℤ y
not_before x y d e p h l = le-from_mul_ℤ d (pos 0) y p (let n = mul_nonneg x (pos e) h (omega (arith, ints)) in omega (arith, ints, n, l, mul_comm_ℤ (pos d) y))

not_after : (x y : ℤ) (d e : ℕ) → 0 < d → x ≤ℤ pos (WINDOW_SECONDS * d) → (y *ℤ pos d) ≤ℤ (x *ℤ pos e) → y ≤ℤ pos (WINDOW_SECONDS * e)
not_after x y d e p h l = le-from_mul_ℤ d y (pos (WINDOW_SECONDS * e)) p
    (line (x *ℤ pos e) (mul_comm_ℤ (pos d) y) l (scaled_le x (pos (WINDOW_SECONDS * d)) e h)
    (ring (pos d ∷ pos e ∷ []) ((num (pos WINDOW_SECONDS) ⊗ at 0) ⊗ at 1) (at 0 ⊗ (num (pos WINDOW_SECONDS) ⊗ at 1)) refl))
  where
    line : (a : ℤ) {b c f g : ℤ} → b ≡ c → c ≤ℤ a → a ≤ℤ f → f ≡ g → b ≤ℤ g
    line a i j k m = omega (arith, ints, i, j, k, m)

moment_of : (r : Race) (w : Times) (time : Fraction) → AreEnds w → 0 < time.den → IsFirstLeastTime r w time → IsMoment time
moment_of r w time e p l = record {
  some = p;
  least = not_before w.from.num time.num w.from.den time.den e.from.some e.from.least l.after;
  most = not_after w.to.num time.num w.to.den time.den e.to.some e.to.greatest l.before;
}

-- the first time of the least gap, in lowest terms
pub record HasLeastTime (r : Race) (w : Times) : Type 0 where
  pub time : Fraction
  pub moment : IsMoment time
  pub extreme : IsRaceExtreme r w time

in_lowest_terms : (r : Race) (w : Times) (p : Instant) → AreEnds w → 0 < p.den → IsFirstLeastTime r w (fraction_of p) → HasLeastTime r w
in_lowest_terms r w p e s l =
    let f = some_reduced (pos p.num) p.den s in
    let least = least_time-same r w f.fraction (fraction_of p) f.reduced.some s f.same l in
    let moment = moment_of r w f.fraction e f.reduced.some least in
    record { time = f.fraction; moment = moment; extreme = record { reduced = f.reduced; ahead = moment.least; first = least } }

least_time : (r : Race) (w : Times) → 0 < r.pull → 0 < r.accel → r.rate ≤ℤ r.goal → AreEnds w → HasLeastTime r w
least_time r w sb sa up e = natural w.from.num e.from.least (λ m em. natural w.to.num e.to.least (λ n en. by m n em en))
  where
    by : (m n : ℕ) → w.from.num ≡ pos m → w.to.num ≡ pos n → HasLeastTime r w
    by m n em en =
        let from : Instant = record { num = m; den = w.from.den } in
        let to : Instant = record { num = n; den = w.to.den } in
        let order = in_order w from to em refl en refl e.order in
        let p = place_of r from to e.from.some e.to.some order sb sa up in
        let b = first_of r from to e.from.some e.to.some order p.place p.some in
        in_lowest_terms r w b.best e b.some (on_window r w from to b.best em refl en refl
        (first_least_time r from p.place to b.best sb sa up e.from.some p.some e.to.some p.after p.before order p.looked b.first))

-- ---- the two gaps of an area

pub low_time : (a : Demand) (may : Manoeuvre) (area : Area) (w : Times) → CanBeMet a → 0 < may.accel → RatesFit may area.intruder → AreEnds w → HasLeastTime (low_race a may area) w
low_time a may area w can some fit e =
    least_time (low_race a may area) w (low_pull-some a area.own.least can) some (unsigned_abs-high area.intruder.greatest may.rate fit.greatest) e

pub high_time : (a : Demand) (may : Manoeuvre) (area : Area) (w : Times) → CanBeMet a → 0 < may.accel → RatesFit may area.intruder → AreEnds w → HasLeastTime (turned (high_race a may area)) w
high_time a may area w can some fit e =
    least_time (turned (high_race a may area)) w (high_pull-some a area.own.greatest can) some (upside_down area.intruder.least may.rate (unsigned_abs-low area.intruder.least may.rate fit.least)) e
  where
    upside_down : (x : ℤ) (n : ℕ) → neg_ℤ (pos n) ≤ℤ x → neg_ℤ x ≤ℤ neg_ℤ (neg_ℤ (pos n))
    upside_down x n h = omega (arith, ints, h)

-- ---- whether the curve stays above

stays_or_not : (half : ℕ) (r : Race) (w : Times) → HasLeastTime r w → StaysAbove half r w ⊎ (StaysAbove half r w → ⊥)
stays_or_not half r w l = natural l.time.num l.moment.least (λ n e. at_time n e)
  where
    no : (a b : ℤ) → a <ℤ b → b ≤ℤ a → ⊥
    no a b h k = omega (arith, ints)

    at_time : (n : ℕ) → l.time.num ≡ pos n → StaysAbove half r w ⊎ (StaysAbove half r w → ⊥)
    at_time n e =
        let over : IsOver l.time.den (pos n) l.time = rw e refl in
        elim (cases_lt_ℤ (pos (half * race_tick r l.time.den)) (race_gap r l.time.den n)) [
          | inl above ↦ inl (stays-over half r w l.time l.extreme.first l.time.den n l.moment.some over above)
          | inr near ↦ inr (λ s. no _ _ (s l.time.den n l.moment.some (during_ends n l.time w e l.extreme.first.after l.extreme.first.before)) near)
        ]

-- so it is decided whether an area is apart
pub apart_or_not : (half : ℕ) (a : Demand) (may : Manoeuvre) (area : Area) (w : Times) → HasLeastTime (low_race a may area) w → HasLeastTime (turned (high_race a may area)) w →
    IsApart half a may area w ⊎ (IsApart half a may area w → ⊥)
apart_or_not half a may area w low high =
    let turn = below-turned half (high_race a may area) w in
    elim (stays_or_not half (low_race a may area) w low) [
      | inl above ↦ inl (inl above)
      | inr not_above ↦ elim (stays_or_not half (turned (high_race a may area)) w high) [
        | inl below ↦ inl (inr (turn.0 below))
        | inr not_below ↦ inr (λ apart. ⊎_elim (λ x. not_above x) (λ x. not_below (turn.1 x)) apart)
      ]
    ]
