-- The least gap of a border, from the numbers of the search.
use Rattle.std.proofs.Common.{◌≡◌, ℕ, ◌*◌, ◌<◌, refl, sym, subst, ap, ap₂, ◌∙◌, arith, true, false, ℤ, pos, neg_ℤ, unsigned_abs, ◌*ℤ◌, ◌<ℤ◌, ◌≤ℤ◌, int_le}
use Rattle.std.proofs.lemmas.Int.{ints, unsigned_abs-mul}
use lib.IntN.{*ℤ_comm}
use Rattle.acas_frac.specs.Fraction.{IsFrac, ReducesWithinBounds, Fraction}
use Rattle.acas_frac.proofs.Lowest.{same_lowest, ReducesWithinBounds-over}
use Rattle.acas_flight.specs.Response.{Demand}
use Rattle.acas_flight.specs.Window.{Times}
use Rattle.acas_flight.specs.Clear.{Area}
use Rattle.acas_flight.specs.Border.{high_border_of, border_of, IsNearestTime, IsGapAt, IsLeastGap}
use Rattle.acas_flight.specs.Extremes.{IsHighGapAt}
use Rattle.acas_flight_windows.proofs.BestTimes.{best_least}
use Rattle.acas_flight_windows.proofs.EndTimes.{first_least, last_least}
use Rattle.acas_areas.specs.Limits.{AreEnds}
use Rattle.acas_flight_lemmas.proofs.Scales.{cancel_left}
use Rattle.acas_flight_lemmas.proofs.Gaps.{high_gap_of}
use Rattle.acas_flight_lemmas.proofs.Numbers.{natural, strictly, test_true}

pub first_of_ends : (v k : ℤ) (b g : ℕ) (h w : ℤ) (win : Times) (y z : Fraction) → k ≤ℤ v → g ≡ 0 → 0 < b → AreEnds win → IsFrac y → IsFrac z →
    IsGapAt (border_of v k b g h w) win.from y → IsGapAt (border_of v k b g h w) win.to z → int_le (y.num *ℤ pos z.den) (z.num *ℤ pos y.den) ≡ true → IsLeastGap (border_of v k b g h w) win win.from y
first_of_ends v k b g h w win y z o eg sb e fy fz vy vz t =
    rw eg (natural win.from.num e.from.least (λ m em. natural win.to.num e.to.least (λ n en.
    first_least v k b h w win y z m n o sb em en e.from.some e.to.some fy.some fz.some (rw eg at vy) (rw eg at vz) e.order (test_true (y.num *ℤ pos z.den) (z.num *ℤ pos y.den) t))))

pub last_of_ends : (v k : ℤ) (b g : ℕ) (h w : ℤ) (win : Times) (y z : Fraction) → k ≤ℤ v → g ≡ 0 → 0 < b → AreEnds win → IsFrac y → IsFrac z →
    IsGapAt (border_of v k b g h w) win.from y → IsGapAt (border_of v k b g h w) win.to z → int_le (y.num *ℤ pos z.den) (z.num *ℤ pos y.den) ≡ false → IsLeastGap (border_of v k b g h w) win win.to z
last_of_ends v k b g h w win y z o eg sb e fy fz vy vz t =
    rw eg (natural win.from.num e.from.least (λ m em. natural win.to.num e.to.least (λ n en.
    last_least v k b h w win y z m n o sb em en e.from.some e.to.some fy.some fz.some (rw eg at vy) (rw eg at vz) e.order (strictly (y.num *ℤ pos z.den) (z.num *ℤ pos y.den) t))))

-- a rising curve, at its nearest time
pub least_of_nearest : (v k : ℤ) (b g : ℕ) (h x : ℤ) (w : Times) (time y : Fraction) (n : ℕ) → v <ℤ k → 0 < b → AreEnds w → time.num ≡ pos n → 0 < time.den → 0 < y.den →
    IsGapAt (border_of v k b g h x) time y → IsNearestTime (border_of v k b g h x) w time → IsLeastGap (border_of v k b g h x) w time y
least_of_nearest v k b g h x w time y n o sb e en sd sy vy near =
    best_least v k b g h x w time y n (let le : v ≤ℤ k = omega (arith, ints) in le) sb en sd e.from.some e.to.some sy vy near

-- the lowest terms of a number's opposite
pub opposite : (r y : Fraction) → IsFrac r → IsFrac y → r.num *ℤ pos y.den ≡ neg_ℤ y.num *ℤ pos r.den → (r.num ≡ neg_ℤ y.num) × (r.den ≡ y.den)
opposite r y fr fy e =
    let sizes : unsigned_abs r.num * y.den ≡ unsigned_abs y.num * r.den = sym (unsigned_abs-mul r.num (pos y.den)) ∙ ap unsigned_abs e ∙ unsigned_abs-mul (neg_ℤ y.num) (pos r.den) ∙ ap (λ n. n * r.den) (size y.num) in
    let both = same_lowest (unsigned_abs r.num) r.den (unsigned_abs y.num) y.den fr.some fy.some fr.lowest fy.lowest sizes in
    (cancel_left y.den r.num (neg_ℤ y.num) fy.some (*ℤ_comm (pos y.den) r.num ∙ e ∙ ap (λ d. neg_ℤ y.num *ℤ pos d) both.1 ∙ *ℤ_comm (neg_ℤ y.num) (pos y.den)), both.1)
  where
    size : (z : ℤ) → unsigned_abs (neg_ℤ z) ≡ unsigned_abs z
    size z = omega (arith, ints)

pub opposite_reduces : (y : Fraction) → IsFrac y → ReducesWithinBounds (unsigned_abs (neg_ℤ y.num)) y.den
opposite_reduces y f = let size : unsigned_abs (neg_ℤ y.num) ≡ unsigned_abs y.num = omega (arith, ints) in rw size (ReducesWithinBounds-over (unsigned_abs y.num) y.den (unsigned_abs y.num) y.den f.some f.some refl f.num_small f.den_small)

abbrev the_fraction : ℤ → ℕ → Fraction
the_fraction n d = record { num = n; den = d }

pub high_gap : (a : Demand) (box : Area) (time y r : Fraction) → IsGapAt (high_border_of a box) time y → (r.num ≡ neg_ℤ y.num) × (r.den ≡ y.den) → IsHighGapAt a box time r
high_gap a box time y r g e = subst (λ (f : Fraction). IsHighGapAt a box time f) (ap₂ (λ (n : ℤ) (d : ℕ). the_fraction n d) (sym e.0) (sym e.1)) (high_gap_of a box time y g)
