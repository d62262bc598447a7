-- The window of a box is exact.
use Rattle.std.proofs.Common.{ℤ, negsuc, ◌≡◌, ℕ, ◌+◌, ◌-◌, ◌*◌, ◌<◌, ◌≤◌, ◌↔◌, ⊎_elim, pos, arith, mul-pos, mul-le-mul_right, le_refl, le_of_lt}
use native.Mathlib.Nat.{le_of_mul-le-mul_left}
use Rattle.std.proofs.lemmas.Bool.{cases_lt}
use Rattle.std.proofs.lemmas.Int.{ints}
use Rattle.acas_flight_windows.proofs.Windows.{Near, IsHorizontalContact-of, Near-of}
use Rattle.acas_flight.specs.State.{Interval, IsInside}
use Rattle.acas_flight.specs.Contact.{IsHorizontalContact}
use Rattle.acas_flight.specs.Window.{IsContactTimeOfBox}

-- a range and a closing speed over q that are within the intervals of a box
pub record IsInSpans (near far slow fast q range speed : ℕ) : Type 0 where
  pub not_near : near * q ≤ range
  pub not_far : range ≤ far * q
  pub not_slow : slow * q ≤ speed
  pub not_fast : speed ≤ fast * q

-- from (near - radius) / fast, or 0, to (far + radius) / slow
abbrev pub IsTimeOfBox : ℕ → ℕ → ℕ → ℕ → ℕ → ℕ → ℕ → Type 0
IsTimeOfBox radius near far slow fast q t = ((near - radius) * q ≤ t * fast) × (t * slow ≤ (far + radius) * q)

abbrev IsNearAtSome : ℕ → ℕ → ℕ → ℕ → ℕ → ℕ → ℕ → Type 0
IsNearAtSome radius near far slow fast q t = (m : ℕ) × (range : ℕ) × (speed : ℕ) × (0 < m) × IsInSpans near far slow fast (q * m) range speed × Near radius (q * m) range speed (t * m)

early : (radius near fast q m range speed t : ℕ) → 0 < q → 0 < m → near * (q * m) ≤ range → speed ≤ fast * (q * m) →
    range * (q * m) ≤ speed * (t * m) + radius * (q * m) * (q * m) → (near - radius) * q ≤ t * fast
early radius near fast q m range speed t p s h k c =
    ⊎_elim (λ (l : near < radius). let e : near - radius ≡ 0 = omega arith in rw e (omega arith)) (λ (l : radius ≤ near). by (near - radius) (omega arith)) (cases_lt near radius)
  where
    by : (d : ℕ) → near ≡ radius + d → (near - radius) * q ≤ t * fast
    by d e =
        let gone : near - radius ≡ d = omega arith in
        let h' = rw e at h in
        let wide = mul-le-mul_right (q * m) h' in
        let quick = mul-le-mul_right (t * m) k in
        rw gone
        (le_of_mul-le-mul_left {m = d * q} {n = t * fast} {k = (q * m) * m} (omega (arith, wide, quick, c)) (mul-pos (mul-pos p s) s))

late : (radius far slow q m range speed t : ℕ) → 0 < q → 0 < m → range ≤ far * (q * m) → slow * (q * m) ≤ speed →
    speed * (t * m) ≤ range * (q * m) + radius * (q * m) * (q * m) → t * slow ≤ (far + radius) * q
late radius far slow q m range speed t p s h k c =
    let wide = mul-le-mul_right (q * m) h in
    let quick = mul-le-mul_right (t * m) k in
    le_of_mul-le-mul_left {m = t * slow} {n = (far + radius) * q} {k = (q * m) * m} (omega (arith, wide, quick, c)) (mul-pos (mul-pos p s) s)

module _ (radius near far slow fast q t : ℕ) (some : 0 < q) (ranges : near ≤ far) (speeds : slow ≤ fast) where
  -- a corner of the box, over q
  corner : (range speed : ℕ) → near ≤ range → range ≤ far → slow ≤ speed → speed ≤ fast → range * q ≤ speed * t + radius * q → speed * t ≤ range * q + radius * q → IsNearAtSome radius near far slow fast q t
  corner range speed a b c d h k =
      let one : q * 1 ≡ q = omega arith in
      let same : t * 1 ≡ t = omega arith in (
        1,
        range * q,
        speed * q,
        omega arith,
        record {
          not_near = rw one (mul-le-mul_right q a);
          not_far = rw one (mul-le-mul_right q b);
          not_slow = rw one (mul-le-mul_right q c);
          not_fast = rw one (mul-le-mul_right q d);
        },
        record {
          not_far = rw (one, same) (omega (arith, mul-le-mul_right q h));
          not_past = rw (one, same) (omega (arith, mul-le-mul_right q k));
        },
      )

  -- the greatest speed, and the range that it flies
  flown : near * q ≤ fast * t → fast * t ≤ far * q → IsNearAtSome radius near far slow fast q t
  flown a b =
      let one : q * 1 ≡ q = omega arith in
      let same : t * 1 ≡ t = omega arith in (
        1,
        fast * t,
        fast * q,
        omega arith,
        record {
          not_near = rw one a;
          not_far = rw one b;
          not_slow = rw one (mul-le-mul_right q speeds);
          not_fast = rw one (le_refl (fast * q));
        },
        record {
          not_far = rw (one, same) (omega arith);
          not_past = rw (one, same) (omega arith);
        },
      )

  -- the greatest range, and the speed that flies it: a number over q * t
  quick_enough : 0 < t → slow * t ≤ far * q → far * q ≤ fast * t → IsNearAtSome radius near far slow fast q t
  quick_enough p a b = (
    t,
    far * (q * t),
    far * q * q,
    p,
    record {
      not_near = mul-le-mul_right (q * t) ranges;
      not_far = le_refl (far * (q * t));
      not_slow = omega (arith, mul-le-mul_right q a);
      not_fast = omega (arith, mul-le-mul_right q b);
    },
    record {
      not_far = omega arith;
      not_past = omega arith;
    },
  )

  witness : IsTimeOfBox radius near far slow fast q t → IsNearAtSome radius near far slow fast q t
  witness w =
      ⊎_elim
      (λ (a : slow * t + radius * q < far * q).
      ⊎_elim
      (λ (b : near * q + radius * q < fast * t).
      ⊎_elim
      (λ (c : fast * t < far * q). flown (omega arith) (le_of_lt c))
      (λ (c : far * q ≤ fast * t). quick_enough (moves a c) (omega arith) c)
      (cases_lt (fast * t) (far * q)))
      (λ (b : fast * t ≤ near * q + radius * q). corner near fast (le_refl near) ranges speeds (le_refl fast) (under w.0) b)
      (cases_lt (near * q + radius * q) (fast * t)))
      (λ (a : far * q ≤ slow * t + radius * q). corner far slow ranges (le_refl far) (le_refl slow) speeds a (omega (arith, w.1)))
      (cases_lt (slow * t + radius * q) (far * q))
    where
      moves : slow * t + radius * q < far * q → far * q ≤ fast * t → 0 < t
      moves a c = ⊎_elim (λ (l : 0 < t). l) (λ (l : t ≤ 0). let z : t ≡ 0 = omega arith in let c' = rw z at c in absurd (omega arith)) (cases_lt 0 t)

      under : (near - radius) * q ≤ t * fast → near * q ≤ fast * t + radius * q
      under h =
          ⊎_elim
          (λ (l : near < radius). omega (arith, mul-le-mul_right q (le_of_lt l)))
          (λ (l : radius ≤ near). by (near - radius) (omega arith) h)
          (cases_lt near radius)
        where
          by : (d : ℕ) → near ≡ radius + d → d * q ≤ t * fast → near * q ≤ fast * t + radius * q
          by d e k = rw e (omega arith)

both : (radius near far slow fast q t : ℕ) → 0 < q → near ≤ far → slow ≤ fast → IsTimeOfBox radius near far slow fast q t ↔ IsNearAtSome radius near far slow fast q t
both radius near far slow fast q t p r s = (
  witness radius near far slow fast q t p r s,
  λ e. (
    early radius near fast q e.0 e.1 e.2 t p e.3 e.4.not_near e.4.not_fast e.5.not_far,
    late radius far slow q e.0 e.1 e.2 t p e.3 e.4.not_far e.4.not_slow e.5.not_past,
  ),
)

-- the intervals as numbers that are not negative
inside : (s : Interval) (a b q n : ℕ) → s.least ≡ pos a → s.greatest ≡ pos b → a * q ≤ n → n ≤ b * q → IsInside q s (pos n)
inside s a b q n e f h k = rw (e, f) (omega (arith, ints), omega (arith, ints))

from_inside : (s : Interval) (a b q n : ℕ) → s.least ≡ pos a → s.greatest ≡ pos b → IsInside q s (pos n) → (a * q ≤ n) × (n ≤ b * q)
from_inside s a b q n e f i = let i' = rw (e, f) at i in (omega (arith, ints, i'.0), omega (arith, ints, i'.1))

pub window_of_box : (radius : ℕ) (ranges speeds : Interval) (near far slow fast q t : ℕ) → ranges.least ≡ pos near → ranges.greatest ≡ pos far → speeds.least ≡ pos slow → speeds.greatest ≡ pos fast →
    0 < q → near ≤ far → slow ≤ fast → IsTimeOfBox radius near far slow fast q t ↔ IsContactTimeOfBox radius ranges speeds q t
window_of_box radius ranges speeds near far slow fast q t en ef es eg p r s = (λ w. to (law.0 w), λ e. law.1 (from e.0 e.1 e.2 e.3 e.4 e.5 e.6))
  where
    law : IsTimeOfBox radius near far slow fast q t ↔ IsNearAtSome radius near far slow fast q t
    law = both radius near far slow fast q t p r s

    to : IsNearAtSome radius near far slow fast q t → IsContactTimeOfBox radius ranges speeds q t
    to e = (
      e.0,
      pos e.1,
      pos e.2,
      e.3,
      inside ranges near far (q * e.0) e.1 en ef e.4.not_near e.4.not_far,
      inside speeds slow fast (q * e.0) e.2 es eg e.4.not_slow e.4.not_fast,
      IsHorizontalContact-of radius (q * e.0) e.1 e.2 (t * e.0) e.5,
    )

    from : (m : ℕ) (range closing : ℤ) → 0 < m → IsInside (q * m) ranges range → IsInside (q * m) speeds closing → IsHorizontalContact radius (q * m) range closing (t * m) → IsNearAtSome radius near far slow fast q t
    from m (negsuc x) c some i j k = absurd (let l = rw en at i.0 in omega (arith, ints, l))
    from m (pos x) (negsuc c) some i j k = absurd (let l = rw es at j.0 in omega (arith, ints, l))
    from m (pos x) (pos c) some i j k = (
      m,
      x,
      c,
      some,
      (let i' = from_inside ranges near far (q * m) x en ef i in let j' = from_inside speeds slow fast (q * m) c es eg j in record { not_near = i'.0; not_far = i'.1; not_slow = j'.0; not_fast = j'.1 }),
      Near-of radius (q * m) x c (t * m) k,
    )
