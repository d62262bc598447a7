-- The numbers of a curve over common denominators.
use Rattle.std.proofs.Common.{◌≡◌, ℕ, ◌-◌, ◌*◌, ◌^◌, ◌<◌, ◌≤◌, ⊎_elim, refl, sym, ap, ◌∙◌, arith, [], ◌∷◌, ℤ, pos, ◌-ℤ◌, ◌*ℤ◌, unsigned_abs, int_le, min, mul-le-mul, mul-pos}
use Rattle.std.proofs.lemmas.Int.{ints, unsigned_abs-mul}
use Rattle.std.proofs.lemmas.Bool.{cases_lt}
use Rattle.acas_frac.proofs.IntRing.{at, ◌⊖◌, ◌⊗◌, ring}
use Rattle.acas_flight_lemmas.proofs.Held.{held_one_form, IsHeld-over}
use Rattle.acas_frac.specs.Fraction.{Fraction, ReducesWithinBounds}
use Rattle.acas_flight.specs.Curves.{held}
use Rattle.acas_flight.specs.Values.{IsHeld}
use Rattle.acas_areas.specs.Limits.{IsHeldCurve, AreWhole, IsOneAtMostNotWhole}
use Rattle.acas_region_curves.specs.Scaling.{IsScaling}
use Rattle.acas_region_curves.proofs.Sizes.{early_reduces, late_reduces}
use Rattle.acas_units.specs.declared.limits.TheConstants.{GREATEST_RATE, GREATEST_LIMIT, GREATEST_CLOSING, WINDOW_SECONDS}
use Rattle.acas_areas.specs.declared.fineness.TheConstants.{RATE_PARTS, PULL_PARTS, TIME_PARTS}
use Rattle.acas_areas.specs.Sizes.{shared_parts, rate_size, way_size, gain_size}

-- What the limits say of the products of the denominators.
record IsFine (vd kd bd gd td bn : ℕ) : Type 0 where
  all : vd * kd * bd * (td * gd) ≤ shared_parts
  times : td * gd ≤ TIME_PARTS
  early : vd * kd * bd * (td * gd) * (td * gd) ≤ 10 ^ 13
  late : vd * kd * (td * gd) * (bn * (vd * kd)) ≤ 10 ^ 13
  den : vd * kd * bd * (td * gd) * (td * gd) * (bn * (vd * kd)) ≤ 10 ^ 18
  rates : vd * kd ≤ RATE_PARTS

all_whole : (gd td bn : ℕ) → td * gd ≤ TIME_PARTS → bn ≤ GREATEST_LIMIT → IsFine 1 1 1 gd td bn
all_whole gd td bn h b = record {
  all = omega arith;
  times = h;
  early = omega (arith, mul-le-mul h h);
  late = omega (arith, mul-le-mul h b);
  den = omega (arith, mul-le-mul (mul-le-mul h h) b);
  rates = omega arith;
}

coarse_rate : (vd kd td bn : ℕ) → vd * kd ≤ RATE_PARTS → td ≤ GREATEST_CLOSING → bn ≤ GREATEST_LIMIT → IsFine vd kd 1 1 td bn
coarse_rate vd kd td bn v h b =
    let both : (vd * kd) * td ≤ RATE_PARTS * GREATEST_CLOSING = mul-le-mul v h in
    let pulls : bn * (vd * kd) ≤ GREATEST_LIMIT * RATE_PARTS = mul-le-mul b v in
    record {
      all = omega (arith, both);
      times = omega arith;
      early = omega (arith, mul-le-mul both h);
      late = omega (arith, mul-le-mul both pulls);
      den = omega (arith, mul-le-mul (mul-le-mul both h) pulls);
      rates = v;
    }

coarse_pull : (bd td bn : ℕ) → bd ≤ PULL_PARTS → td ≤ GREATEST_CLOSING → bn ≤ GREATEST_LIMIT * PULL_PARTS → IsFine 1 1 bd 1 td bn
coarse_pull bd td bn p h b =
    let both : bd * td ≤ PULL_PARTS * GREATEST_CLOSING = mul-le-mul p h in
    record {
      all = omega (arith, both);
      times = omega arith;
      early = omega (arith, mul-le-mul both h);
      late = omega (arith, mul-le-mul h b);
      den = omega (arith, mul-le-mul (mul-le-mul both h) b);
      rates = omega arith;
    }

module _ (v k b g t : Fraction) (bn gn tn : ℕ) (w : IsHeldCurve v k b g t) (eb : b.num ≡ pos bn) (eg : g.num ≡ pos gn) (et : t.num ≡ pos tn) where
  pull_most : bn ≤ GREATEST_LIMIT * b.den
  pull_most = let h = rw eb at w.curve.pull.greatest in omega (arith, ints)

  pull_least : b.den ≤ bn
  pull_least = let h = rw eb at w.curve.pull.least in omega (arith, ints)

  time_most : tn ≤ WINDOW_SECONDS * t.den
  time_most = let h = rw et at w.curve.time.greatest in omega (arith, ints)

  if_whole : AreWhole v k b → t.den * g.den ≤ TIME_PARTS → IsFine v.den k.den b.den g.den t.den bn
  if_whole a h = rw (a.0, a.1, a.2) (all_whole g.den t.den bn h (let m = rw a.2 at pull_most in omega arith))

  if_coarse : g.den ≡ 1 → t.den ≤ GREATEST_CLOSING → IsOneAtMostNotWhole v k b → IsFine v.den k.den b.den g.den t.den bn
  if_coarse e h o =
      ⊎_elim
      (λ (p : (v.den ≡ 1) × (k.den ≡ 1)). rw (p.0, p.1, e) (coarse_pull b.den t.den bn w.curve.pull.den h (omega (arith, pull_most, w.curve.pull.den))))
      (λ q. ⊎_elim
      (λ (p : (v.den ≡ 1) × (b.den ≡ 1)).
      let m = rw p.1 at pull_most in
      rw (p.0, p.1, e) (coarse_rate 1 k.den t.den bn (omega (arith, w.curve.aim.den)) h (omega arith)))
      (λ (p : (k.den ≡ 1) × (b.den ≡ 1)).
      let m = rw p.1 at pull_most in
      rw (p.0, p.1, e) (coarse_rate v.den 1 t.den bn (omega (arith, w.curve.start.den)) h (omega arith)))
      q)
      o

  fine : IsFine v.den k.den b.den g.den t.den bn
  fine =
      ⊎_elim
      (λ (e : g.den ≡ 1). ⊎_elim (λ a. if_whole a (rw e (omega (arith, w.curve.time.den)))) (λ p. if_coarse e p.0 p.1) w.curve.fine)
      (λ p. if_whole p.0 (mul-le-mul p.1 w.hold.den))
      w.hold_fine

  -- the denominators of rates, of accelerations and of times
  abbrev r : ℕ
  r = v.den * k.den

  abbrev d : ℕ
  d = t.den * g.den

  abbrev start : ℤ
  start = v.num *ℤ pos (k.den * (b.den * (t.den * g.den)))

  abbrev aim : ℤ
  aim = k.num *ℤ pos (v.den * (b.den * (t.den * g.den)))

  abbrev pull : ℕ
  pull = bn * (v.den * k.den)

  rates_some : 0 < v.den * k.den
  rates_some = mul-pos w.curve.start.some w.curve.aim.some

  times_some : 0 < t.den * g.den
  times_some = mul-pos w.curve.time.some w.hold.some

  pull_some : 0 < bn * (v.den * k.den)
  pull_some = mul-pos (omega (arith, pull_least, w.curve.pull.some)) rates_some

  shared_some : 0 < b.den * (t.den * g.den)
  shared_some = mul-pos w.curve.pull.some times_some

  size_of : (n : ℤ) (a c e : ℕ) → unsigned_abs n ≤ unsigned_abs GREATEST_RATE * a → a * c * e ≤ shared_parts → unsigned_abs (n *ℤ pos (c * e)) ≤ rate_size
  size_of n a c e h m = rw (unsigned_abs-mul n (pos (c * e))) (let p : unsigned_abs n * (c * e) ≤ (unsigned_abs GREATEST_RATE * a) * (c * e) = mul-le-mul h (let refl_le : c * e ≤ c * e = omega arith in refl_le) in omega arith)

  start_small : unsigned_abs (v.num *ℤ pos (k.den * (b.den * (t.den * g.den)))) ≤ rate_size
  start_small = size_of v.num v.den k.den (b.den * (t.den * g.den)) w.curve.start.size (omega (arith, fine.all))

  aim_small : unsigned_abs (k.num *ℤ pos (v.den * (b.den * (t.den * g.den)))) ≤ rate_size
  aim_small = size_of k.num k.den v.den (b.den * (t.den * g.den)) w.curve.aim.size (omega (arith, fine.all))

  -- the way to the aim, over the denominator of the rates
  abbrev way : ℕ
  way = unsigned_abs ((k.num *ℤ pos v.den) -ℤ (v.num *ℤ pos k.den))

  aim_rate : unsigned_abs (k.num *ℤ pos v.den) ≤ unsigned_abs GREATEST_RATE * RATE_PARTS
  aim_rate = rw (unsigned_abs-mul k.num (pos v.den))
      (let p : unsigned_abs k.num * v.den ≤ (unsigned_abs GREATEST_RATE * k.den) * v.den = mul-le-mul w.curve.aim.size (let same : v.den ≤ v.den = omega arith in same) in omega (arith, fine.rates))

  start_rate : unsigned_abs (v.num *ℤ pos k.den) ≤ unsigned_abs GREATEST_RATE * RATE_PARTS
  start_rate = rw (unsigned_abs-mul v.num (pos k.den))
      (let p : unsigned_abs v.num * k.den ≤ (unsigned_abs GREATEST_RATE * v.den) * k.den = mul-le-mul w.curve.start.size (let same : k.den ≤ k.den = omega arith in same) in omega (arith, fine.rates))

  way_small : unsigned_abs ((k.num *ℤ pos v.den) -ℤ (v.num *ℤ pos k.den)) ≤ 2 * (unsigned_abs GREATEST_RATE * RATE_PARTS)
  way_small = let a = aim_rate in let c = start_rate in omega (arith, ints)

  shared : (k.num *ℤ pos (v.den * (b.den * (t.den * g.den)))) ≡ (k.num *ℤ pos v.den) *ℤ pos (b.den * (t.den * g.den))
  shared = ring (k.num ∷ pos v.den ∷ pos (b.den * (t.den * g.den)) ∷ []) (at 0 ⊗ (at 1 ⊗ at 2)) ((at 0 ⊗ at 1) ⊗ at 2) refl

  way_shared : unsigned_abs ((k.num *ℤ pos (v.den * (b.den * (t.den * g.den)))) -ℤ (v.num *ℤ pos (k.den * (b.den * (t.den * g.den)))))
      ≡ unsigned_abs ((k.num *ℤ pos v.den) -ℤ (v.num *ℤ pos k.den)) * (b.den * (t.den * g.den))
  way_shared =
      ap unsigned_abs (ring (k.num ∷ pos v.den ∷ v.num ∷ pos k.den ∷ pos (b.den * (t.den * g.den)) ∷ []) ((at 0 ⊗ (at 1 ⊗ at 4)) ⊖ (at 2 ⊗ (at 3 ⊗ at 4))) (((at 0 ⊗ at 1) ⊖ (at 2 ⊗ at 3)) ⊗ at 4) refl)
      ∙ unsigned_abs-mul ((k.num *ℤ pos v.den) -ℤ (v.num *ℤ pos k.den)) (pos (b.den * (t.den * g.den)))

  time_small : tn * g.den ≤ WINDOW_SECONDS * (t.den * g.den)
  time_small = let p = mul-le-mul time_most (let same : g.den ≤ g.den = omega arith in same) in omega arith

  flown_small : (bn * (v.den * k.den)) * (tn * g.den) ≤ gain_size
  flown_small =
      let p : bn * (v.den * k.den) ≤ (GREATEST_LIMIT * b.den) * (v.den * k.den) = mul-le-mul pull_most (let same : v.den * k.den ≤ v.den * k.den = omega arith in same) in
      let q = mul-le-mul p time_small in
      omega (arith, q, fine.all)

  abbrev den : ℕ
  den = v.den * k.den * b.den * (t.den * g.den) * (t.den * g.den) * (bn * (v.den * k.den))

  reduces : ReducesWithinBounds (unsigned_abs (held start aim pull (gn * t.den) (tn * g.den))) (v.den * k.den * b.den * (t.den * g.den) * (t.den * g.den) * (bn * (v.den * k.den)))
  reduces =
      rw (held_one_form start aim pull (gn * t.den) (tn * g.den))
      (⊎_elim
      (λ (l : unsigned_abs (aim -ℤ start) < pull * (tn * g.den - gn * t.den)).
      let long : v.den * k.den * b.den * (t.den * g.den) * (t.den * g.den) * (bn * (v.den * k.den)) ≡ (v.den * k.den * (t.den * g.den) * (bn * (v.den * k.den))) * (b.den * (t.den * g.den)) = omega arith in
      let l' = rw way_shared at l in
      let small : unsigned_abs ((k.num *ℤ pos v.den) -ℤ (v.num *ℤ pos k.den)) * (b.den * (t.den * g.den)) ≤ way_size = rw (← way_shared) (let s = start_small in let a = aim_small in omega (arith, ints)) in
      rw (way_shared, shared, long)
      (late_reduces (int_le start ((k.num *ℤ pos v.den) *ℤ pos (b.den * (t.den * g.den)))) (k.num *ℤ pos v.den) (unsigned_abs ((k.num *ℤ pos v.den) -ℤ (v.num *ℤ pos k.den))) (b.den * (t.den * g.den)) pull (min (tn * g.den) (gn * t.den)) (tn * g.den - gn * t.den) (tn * g.den)
      (v.den * k.den * (t.den * g.den) * (bn * (v.den * k.den))) l' shared_some (mul-pos (mul-pos rates_some times_some) pull_some) fine.late aim_rate way_small small flown_small (omega arith)))
      (λ (l : pull * (tn * g.den - gn * t.den) ≤ unsigned_abs (aim -ℤ start)).
      early_reduces (int_le start aim) aim (unsigned_abs (aim -ℤ start)) pull (min (tn * g.den) (gn * t.den)) (tn * g.den - gn * t.den) (tn * g.den)
      (v.den * k.den * b.den * (t.den * g.den) * (t.den * g.den)) l pull_some (mul-pos (mul-pos (mul-pos rates_some w.curve.pull.some) times_some) times_some) fine.early aim_small
      (let s = start_small in let a = aim_small in omega (arith, ints)) (omega (arith, time_small, fine.times)) (omega arith) (omega arith))
      (cases_lt (unsigned_abs (aim -ℤ start)) (pull * (tn * g.den - gn * t.den))))

  exact : (y : Fraction) → y.num *ℤ pos (v.den * k.den * b.den * (t.den * g.den) * (t.den * g.den) * (bn * (v.den * k.den))) ≡ held start aim pull (gn * t.den) (tn * g.den) *ℤ pos y.den → IsHeld v k b g t y
  exact y e =
      IsHeld-over v k b g t y (v.den * k.den * b.den) (t.den * g.den) start aim pull (gn * t.den) (tn * g.den) w.curve.start.some w.curve.aim.some w.curve.pull.some w.hold.some w.curve.time.some (mul-pos rates_some w.curve.pull.some) times_some
      (ring (v.num ∷ pos v.den ∷ pos k.den ∷ pos b.den ∷ pos t.den ∷ pos g.den ∷ []) ((at 0 ⊗ (at 2 ⊗ (at 3 ⊗ (at 4 ⊗ at 5)))) ⊗ at 1) (at 0 ⊗ (((at 1 ⊗ at 2) ⊗ at 3) ⊗ (at 4 ⊗ at 5))) refl)
      (ring (k.num ∷ pos v.den ∷ pos k.den ∷ pos b.den ∷ pos t.den ∷ pos g.den ∷ []) ((at 0 ⊗ (at 1 ⊗ (at 3 ⊗ (at 4 ⊗ at 5)))) ⊗ at 2) (at 0 ⊗ (((at 1 ⊗ at 2) ⊗ at 3) ⊗ (at 4 ⊗ at 5))) refl)
      (ring (pos bn ∷ pos v.den ∷ pos k.den ∷ pos b.den ∷ []) ((at 0 ⊗ (at 1 ⊗ at 2)) ⊗ at 3) (at 0 ⊗ ((at 1 ⊗ at 2) ⊗ at 3)) refl ∙ ap (λ z. z *ℤ pos (v.den * k.den * b.den)) (sym eb))
      (ring (pos gn ∷ pos t.den ∷ pos g.den ∷ []) ((at 0 ⊗ at 1) ⊗ at 2) (at 0 ⊗ (at 1 ⊗ at 2)) refl ∙ ap (λ z. z *ℤ pos (t.den * g.den)) (sym eg))
      (ring (pos tn ∷ pos t.den ∷ pos g.den ∷ []) ((at 0 ⊗ at 2) ⊗ at 1) (at 0 ⊗ (at 1 ⊗ at 2)) refl ∙ ap (λ z. z *ℤ pos (t.den * g.den)) (sym et))
      e

  pub scaling : IsScaling v k b g t (v.num *ℤ pos (k.den * (b.den * (t.den * g.den)))) (k.num *ℤ pos (v.den * (b.den * (t.den * g.den)))) (bn * (v.den * k.den)) (gn * t.den) (tn * g.den)
      (v.den * k.den * b.den * (t.den * g.den) * (t.den * g.den) * (bn * (v.den * k.den)))
  scaling = record {
    start = start_small;
    aim = aim_small;
    time = omega (arith, time_small, fine.times);
    flown = flown_small;
    some = mul-pos (mul-pos (mul-pos (mul-pos rates_some w.curve.pull.some) times_some) times_some) pull_some;
    den_small = fine.den;
    reduces = reduces;
    exact = exact;
  }
