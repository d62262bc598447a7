-- Two aircraft that fly level at one altitude: all gaps between them are none, and the first time of a window is the extreme one.
use Rattle.std.proofs.Common.{◌≡◌, ℕ, ◌*◌, ◌-◌, ◌<◌, Bool, true, false, cond, int_le, ℤ, pos, neg_ℤ, ◌+ℤ◌, ◌-ℤ◌, ◌*ℤ◌, unsigned_abs, ⊎_elim, refl, sym, ap, ◌∙◌, arith}
use Rattle.std.proofs.lemmas.Bool.{cases_lt}
use Rattle.std.proofs.lemmas.Int.{ints}
use Rattle.std.proofs.lemmas.Nat.Gcd.{le_of_dvd}
use Rattle.std.specs.Int.{◌∣◌}
use Rattle.acas_frac.specs.Fraction.{Fraction, IsReduced}
use Rattle.acas_flight.specs.Response.{scaled}
use Rattle.acas_flight.specs.Clear.{greatest_gap, high_pull_of, least_gap, low_pull_of}
use Rattle.acas_flight.specs.Curves.{approach, held, high_hold, low_hold}
use Rattle.acas_flight.specs.Extremes.{IsExtreme, IsHighExtreme, IsLowExtreme}
use Rattle.acas_flight_examples.specs.Flown.{level, level_area}
use Rattle.acas_flight_examples.specs.Numbers.{over, times}

one_is_reduced : IsReduced (over (pos 1) 1)
one_is_reduced = record { some = omega arith; lowest = (∣ (1, refl) ∣₁, ∣ (1, refl) ∣₁, λ k i j. j) }

-- who is at the aim stays there
stays_there : (b t : ℕ) → approach (pos 0) (pos 0) b t ≡ pos 0
unfolding approach
stays_there b t = by (int_le (pos 0 +ℤ pos (b * t)) (pos 0)) refl
  where
    none : (n : ℕ) → n ≡ 0 → (pos 0 +ℤ pos (n * t)) *ℤ pos b ≡ pos 0
    none n e = rw e (omega (arith, ints))

    by : (test : Bool) → int_le (pos 0 +ℤ pos (b * t)) (pos 0) ≡ test →
        cond test ((pos 2 *ℤ pos 0 *ℤ pos t +ℤ pos (b * t * t)) *ℤ pos b) (pos 2 *ℤ pos 0 *ℤ pos t *ℤ pos b -ℤ (pos 0 -ℤ pos 0) *ℤ (pos 0 -ℤ pos 0)) ≡ pos 0
    by true e = let small : b * t ≡ 0 = omega (arith, ints, e) in rw small (omega (arith, ints))
    by false e = omega (arith, ints)

stays : (b g t : ℕ) → held (pos 0) (pos 0) b g t ≡ pos 0
stays b g t = omega (arith, ints, stays_there b (t - g))

gap_of_none : (b g q t : ℕ) (v k h w : ℤ) → v ≡ pos 0 → k ≡ pos 0 → h ≡ pos 0 → w ≡ pos 0 →
    held v k b g t -ℤ (pos b *ℤ (((h *ℤ pos (q * q)) +ℤ (((pos 2 *ℤ w) *ℤ pos t) *ℤ pos q)) -ℤ pos 0)) ≡ pos 0
gap_of_none b g q t v k h w e f i j =
    rw (e, f, i, j) (omega (arith, ints, stays b g t))

least_is_none : (q t : ℕ) → least_gap q level level_area t ≡ pos 0
least_is_none q t = gap_of_none (low_pull_of q level level_area) (low_hold (scaled q level) (pos 0 *ℤ pos (q * q))) q t (pos 0 *ℤ pos (q * q)) (pos 0 *ℤ pos (q * q)) (pos 0 *ℤ pos q) (pos 0 *ℤ pos q) (omega (arith, ints)) (omega (arith, ints)) (omega (arith, ints)) (omega (arith, ints))

greatest_is_none : (q t : ℕ) → greatest_gap q level level_area t ≡ pos 0
greatest_is_none q t = gap_of_none (high_pull_of q level level_area) (high_hold (scaled q level) (pos 0 *ℤ pos (q * q))) q t (pos 0 *ℤ pos (q * q)) (pos 0 *ℤ pos (q * q)) (pos 0 *ℤ pos q) (pos 0 *ℤ pos q) (omega (arith, ints)) (omega (arith, ints)) (omega (arith, ints)) (omega (arith, ints))

pub low_at_one : IsLowExtreme level level_area (times (over (pos 1) 1) (over (pos 6) 1)) (over (pos 1) 1)
low_at_one = record {
  reduced = one_is_reduced;
  ahead = omega (arith, ints);
  first = record {
    after = omega (arith, ints);
    before = omega (arith, ints);
    least = λ q s t p e d. rw (least_is_none q s, least_is_none q t) (omega (arith, ints));
    earliest = λ q s t p e d l. absurd (omega (arith, ints, e, d.0));
  };
}

pub high_at_one : IsHighExtreme level level_area (times (over (pos 1) 1) (over (pos 6) 1)) (over (pos 1) 1)
high_at_one = record {
  reduced = one_is_reduced;
  ahead = omega (arith, ints);
  first = record {
    after = omega (arith, ints);
    before = omega (arith, ints);
    least = λ q s t p e d. rw (greatest_is_none q s, greatest_is_none q t) (omega (arith, ints));
    earliest = λ q s t p e d l. absurd (omega (arith, ints, e, d.0));
  };
}

-- ---- and no other time is

-- a fraction in lowest terms that is 1
is_one : (f : Fraction) → IsReduced f → f.num ≡ pos f.den → f ≡ over (pos 1) 1
is_one f reduced e =
    let size : unsigned_abs f.num ≡ f.den = omega (arith, ints, e) in
    let whole : f.den ∣ f.den = ∣ (1, omega arith) ∣₁ in
    let one : f.den ≡ 1 = omega (arith, reduced.some, le_of_dvd {m = f.den} {n = 1} (omega arith) (reduced.lowest.2 f.den (rw size whole) whole)) in
    λ i. over ((e ∙ ap pos one) i) (one i)

only_one : (gap : ℕ → ℕ → ℤ) → ((q t : ℕ) → gap q t ≡ pos 0) → (f : Fraction) → IsExtreme gap (times (over (pos 1) 1) (over (pos 6) 1)) f → f ≡ over (pos 1) 1
only_one gap none f is =
    let n = unsigned_abs f.num in
    let ahead : f.num ≡ pos n = omega (arith, ints, is.ahead) in
    let same : pos n *ℤ pos f.den ≡ f.num *ℤ pos f.den = ap (λ z. z *ℤ pos f.den) (sym ahead) in
    let one : n ≡ f.den = ⊎_elim
    (λ l. absurd (earlier n l same))
    (λ h. omega (arith, ints, h, is.first.after, ahead))
    (cases_lt f.den n) in
    is_one f is.reduced (ahead ∙ ap pos one)
  where
    -- a second before it the gap is no greater
    earlier : (n : ℕ) → f.den < n → pos n *ℤ pos f.den ≡ f.num *ℤ pos f.den → ⊥
    earlier n l same =
        let less = is.first.earliest f.den n f.den is.reduced.some same (omega (arith, ints), omega (arith, ints)) l in
        omega (arith, ints, rw (none f.den n, none f.den f.den) at less)

pub low_alone : (f : Fraction) → IsLowExtreme level level_area (times (over (pos 1) 1) (over (pos 6) 1)) f → f ≡ over (pos 1) 1
low_alone = only_one (λ q t. least_gap q level level_area t) least_is_none

pub high_alone : (f : Fraction) → IsHighExtreme level level_area (times (over (pos 1) 1) (over (pos 6) 1)) f → f ≡ over (pos 1) 1
high_alone f is = only_one (λ q t. neg_ℤ (greatest_gap q level level_area t)) (λ q t. ap neg_ℤ (greatest_is_none q t)) f is
