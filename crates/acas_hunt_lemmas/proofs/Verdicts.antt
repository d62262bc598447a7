-- An area that is not apart is endangered.
use Rattle.std.proofs.Common.{◌≡◌, ℕ, ◌*◌, ◌<◌, ◌≤◌, ⊎_elim, inl, inr, refl, arith, [], ◌∷◌, ℤ, pos, neg_ℤ, ◌*ℤ◌, ◌<ℤ◌, unsigned_abs}
use Rattle.std.proofs.lemmas.Int.{ints}
use Rattle.acas_frac.specs.Fraction.{Fraction}
use Rattle.acas_frac.proofs.IntRing.{at, num, ◌⊗◌, ring}
use Rattle.acas_frac.proofs.Orders.{cases_lt_ℤ}
use Rattle.acas_flight.specs.Values.{IsOver}
use Rattle.acas_flight_lemmas.proofs.Gaps.{low_pull-over, low_hold-over, high_pull-over, high_hold-over}
use Rattle.acas_flight.specs.Window.{Times}
use Rattle.acas_areas.specs.Value.{thinnest}
use Rattle.acas_areas.specs.declared.steps.TheConstants.{PULL_STEPS}
use Rattle.acas_areas.specs.Search.{IsTimed, unit, low_time, high_time}
use Rattle.acas_pass_lemmas.proofs.Neighbours.{unit_some}
use Rattle.acas_rulings.specs.Race.{Race, low_race, high_race, turned, race_gap, race_tick}
use Rattle.acas_rulings.specs.Apart.{IsApart, StaysAbove, StaysBelow}
use Rattle.acas_rulings.specs.Least.{IsFirstLeastTime}
use Rattle.acas_rulings.specs.Meeting.{IsEndangeredDuringBy}
use Rattle.acas_manoeuvre_lemmas.proofs.Stays.{stays-over, race_gap-turned, below-turned}
use Rattle.acas_rulings.specs.Hunt.{value, Hunt, IsHunt, CanMeet, accel, low_course, high_course}
use Rattle.acas_hunt_lemmas.proofs.Founds.{endangers}

module _ (h : Hunt) (is : IsHunt h) where
  abbrev q : ℕ
  q = unit h.search

  some : 0 < q
  some = unit_some h.search is.search

  abbrev low : Race
  low = low_race h.search.demand h.may h.search.area

  abbrev high : Race
  high = high_race h.search.demand h.may h.search.area

  -- the low course is the race of the low curve at the low time, and the high course that of the high curve at the high time
  low_num : (value q (accel h) (low_course h)).num ≡ race_gap low q (low_time h.search)
  low_num = rw (low_pull-over h.search.demand h.search.area.own.least q some, low_hold-over h.search.demand h.search.area.own.least q some) refl

  low_den : (value q (accel h) (low_course h)).den ≡ race_tick low q
  low_den = rw (low_pull-over h.search.demand h.search.area.own.least q some) refl

  high_num : (value q (accel h) (high_course h)).num ≡ race_gap high q (high_time h.search)
  high_num = rw (high_pull-over h.search.demand h.search.area.own.greatest q some, high_hold-over h.search.demand h.search.area.own.greatest q some) refl

  high_den : (value q (accel h) (high_course h)).den ≡ race_tick high q
  high_den = rw (high_pull-over h.search.demand h.search.area.own.greatest q some) refl

  -- the two times over the common denominator
  over_low : IsOver q (pos (low_time h.search)) h.search.low
  over_low = line h.search.low h.search.high.den (unsigned_abs h.search.low.num) (let l = is.search.low.least in omega (arith, ints, l))
    where
      line : (f : Fraction) (e n : ℕ) → f.num ≡ pos n → pos (n * (PULL_STEPS * e)) *ℤ pos f.den ≡ f.num *ℤ pos (PULL_STEPS * (f.den * e))
      line f e n i = rw i (ring (pos n ∷ pos e ∷ pos f.den ∷ []) ((at 0 ⊗ (num (pos PULL_STEPS) ⊗ at 1)) ⊗ at 2) (at 0 ⊗ (num (pos PULL_STEPS) ⊗ (at 2 ⊗ at 1))) refl)

  over_high : IsOver q (pos (high_time h.search)) h.search.high
  over_high = line h.search.high h.search.low.den (unsigned_abs h.search.high.num) (let l = is.search.high.least in omega (arith, ints, l))
    where
      line : (f : Fraction) (e n : ℕ) → f.num ≡ pos n → pos (n * (PULL_STEPS * e)) *ℤ pos f.den ≡ f.num *ℤ pos (PULL_STEPS * (e * f.den))
      line f e n i = rw i (ring (pos n ∷ pos e ∷ pos f.den ∷ []) ((at 0 ⊗ (num (pos PULL_STEPS) ⊗ at 1)) ⊗ at 2) (at 0 ⊗ (num (pos PULL_STEPS) ⊗ (at 1 ⊗ at 2))) refl)

  module _ (half : ℕ) (w : Times) (first : IsFirstLeastTime low w h.search.low) (last : IsFirstLeastTime (turned high) w h.search.high) where
    -- where the low course is above, the curve stays above
    above : pos (half * (value q (accel h) (low_course h)).den) <ℤ (value q (accel h) (low_course h)).num → StaysAbove half low w
    above k = stays-over half low w h.search.low first q (low_time h.search) some over_low (rw (low_num, low_den) at k)

    -- where the high course is below, the curve stays below
    below : (value q (accel h) (high_course h)).num <ℤ neg_ℤ (pos (half * (value q (accel h) (high_course h)).den)) → StaysBelow half high w
    below k = (below-turned half high w).0 (stays-over half (turned high) w h.search.high last q (high_time h.search) some over_high
        (rw (race_gap-turned high q (high_time h.search)) (let k' = rw (high_num, high_den) at k in turn k')))
      where
        turn : {a : ℤ} {n : ℕ} → a <ℤ neg_ℤ (pos n) → pos n <ℤ neg_ℤ a
        turn k = omega (arith, ints, k)

    -- an area that is not apart can be met
    pub can-meet : ¬ IsApart half h.search.demand h.may h.search.area w → CanMeet half h
    can-meet n = record {
      low = ⊎_elim (λ (l : pos (half * (value q (accel h) (low_course h)).den) <ℤ (value q (accel h) (low_course h)).num). absurd (n (inl (above l)))) (λ l. l) (cases_lt_ℤ _ _);
      high = ⊎_elim (λ (l : (value q (accel h) (high_course h)).num <ℤ neg_ℤ (pos (half * (value q (accel h) (high_course h)).den))). absurd (n (inr (below l)))) (λ l. l) (cases_lt_ℤ _ _);
    }

    -- and is endangered
    pub not_apart-endangered : thinnest ≤ 2 * half → IsTimed h.search w → ¬ IsApart half h.search.demand h.may h.search.area w → IsEndangeredDuringBy half h.search.demand h.may h.search.area w
    not_apart-endangered thick timed n = endangers half h w thick is timed (can-meet n)
