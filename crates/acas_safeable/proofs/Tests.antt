-- Whether an area is clear in a window is decided by a test: of a rising curve at its nearest time, and else at the two ends.
use Rattle.std.proofs.Common.{◌≡◌, ℕ, ◌*◌, ◌<◌, ◌↔◌, inl, inr, refl, ap, subst, arith, Bool, true, false, cond, IsTrue, ℤ, pos, neg_ℤ, ◌≤ℤ◌, ◌<ℤ◌, int_lt}
use Rattle.std.proofs.lemmas.Int.{ints}
use Rattle.acas_frac.specs.Fraction.{Fraction}
use Rattle.acas_frac.proofs.Orders.{cases_lt_ℤ}
use Rattle.acas_flight.proofs.Between.{test_ge}
use Rattle.acas_flight.proofs.Holding.{low_hold-above}
use Rattle.acas_flight.specs.Border.{IsNearestTime, border_of, gap_number, high_border_of, low_border_of}
use Rattle.acas_flight.specs.Clear.{Area, IsClear, IsClearAbove, IsClearBelow}
use Rattle.acas_flight.specs.Curves.{high_hold, high_pull, low_hold, low_pull}
use Rattle.acas_flight.specs.Parts.{CanBeMet}
use Rattle.acas_flight.specs.Response.{Demand}
use Rattle.acas_flight.specs.Window.{Times}
use Rattle.acas_areas.specs.Chases.{StaysOver}
use Rattle.acas_areas.specs.Limits.{AreEnds}
use Rattle.acas_flight_lemmas.proofs.Safe.{high_pull-some, low_pull-some}
use Rattle.acas_flight_lemmas.proofs.Numbers.{natural}
use Rattle.acas_flight_windows.proofs.NearestTimes.{nearest}
use Rattle.acas_region.proofs.Clears.{above_by, below_by, both_decide, either_decides, first_decides, nearest_decides}

-- a test says whether it holds
abbrev pub HasTest : Type 0 → Type 0
HasTest P = (r : Bool) × (IsTrue r ↔ P)

abbrev fraction : ℤ → ℕ → Fraction
fraction n d = record { num = n; den = d }

-- ---- a curve

module _ (half : ℕ) (v k : ℤ) (b g : ℕ) (h x : ℤ) (w : Times) (sb : 0 < b) (e : AreEnds w) where
  rising : v <ℤ k → HasTest (StaysOver half (border_of v k b g h x) w)
  rising o =
      let near = nearest v k b g h x w sb e o in
      let d = near.time.den in
      natural near.time.num near.least (λ n en. (
        int_lt (pos (half * (d * d * b))) (gap_number (border_of v k b g h x) d n),
        nearest_decides half v k b g h x w d n (int_lt (pos (half * (d * d * b))) (gap_number (border_of v k b g h x) d n)) o sb e near.some
            (subst (λ (z : ℤ). IsNearestTime (border_of v k b g h x) w (fraction z d)) en near.near) refl,
      ))

  falling : k ≤ℤ v → g ≡ 0 → HasTest (StaysOver half (border_of v k b g h x) w)
  falling o eg = natural w.from.num e.from.least (λ m em. natural w.to.num e.to.least (λ n en. by m n em en _ _ refl refl))
    where
      by : (m n : ℕ) → w.from.num ≡ pos m → w.to.num ≡ pos n → (p r : Bool) →
          p ≡ int_lt (pos (half * (w.from.den * w.from.den * b))) (gap_number (border_of v k b g h x) w.from.den m) →
          r ≡ int_lt (pos (half * (w.to.den * w.to.den * b))) (gap_number (border_of v k b g h x) w.to.den n) → HasTest (StaysOver half (border_of v k b g h x) w)
      by m n em en true r ep er = (r, both_decide half v k b g h x w w.from.den m w.to.den n true r o eg sb e em refl en refl ep er refl)
      by m n em en false r ep er = (false, first_decides half v k b g h x w w.from.den m false o eg sb e em refl ep refl)

  stays_over-test : (k ≤ℤ v → g ≡ 0) → HasTest (StaysOver half (border_of v k b g h x) w)
  stays_over-test at_once = elim (cases_lt_ℤ v k) [
    | inl o ↦ rising o
    | inr o ↦ falling o (at_once o)
  ]

-- ---- an area

module _ (half : ℕ) (a : Demand) (area : Area) (w : Times) (fine : CanBeMet a) (e : AreEnds w) where
  above_test : HasTest (IsClearAbove half a area w)
  above_test =
      let v = area.own.least in
      let t = stays_over-test half v a.lo (low_pull a v) (low_hold a v) area.altitude.greatest area.intruder.greatest w (low_pull-some a v fine) e (low_hold-above a v) in
      (t.0, above_by half a area w (low_border_of a area) t.0 refl t.1)

  below_test : HasTest (IsClearBelow half a area w)
  below_test =
      let v = area.own.greatest in
      let t = stays_over-test half (neg_ℤ v) (neg_ℤ a.hi) (high_pull a v) (high_hold a v) (neg_ℤ area.altitude.least) (neg_ℤ area.intruder.least) w (high_pull-some a v fine) e
      (λ o. ap (λ r. cond r a.delay 0) (test_ge a.hi v (turn_back o))) in
      (t.0, below_by half a area w (high_border_of a area) t.0 refl t.1)
    where
      turn_back : {y z : ℤ} → neg_ℤ y ≤ℤ neg_ℤ z → z ≤ℤ y
      turn_back o = omega (arith, ints)

  pub clear_test : HasTest (IsClear half a area w)
  clear_test = by above_test.0 above_test.1
    where
      by : (r : Bool) → IsTrue r ↔ IsClearAbove half a area w → HasTest (IsClear half a area w)
      by true above = (true, (λ t. inl (above.0 t), λ c. refl))
      by false above = (below_test.0, either_decides half a area w false below_test.0 refl above below_test.1)
