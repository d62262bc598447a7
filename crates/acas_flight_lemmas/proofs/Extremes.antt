-- The first time at which a gap is least is one, and depends on the times alone.
use Rattle.std.proofs.Common.{◌≡◌, ◌↔◌, ℕ, ◌*◌, ◌<◌, ◌≤◌, ⊎_elim, refl, sym, ap, ◌∙◌, arith, [], ◌∷◌, ℤ, pos, ◌*ℤ◌, ◌≤ℤ◌, ◌<ℤ◌, mul-pos}
use Rattle.std.proofs.lemmas.Int.{ints}
use Rattle.std.proofs.lemmas.Bool.{cases_lt}
use Rattle.acas_frac.specs.Fraction.{Fraction}
use Rattle.acas_frac.proofs.Lowest.{IsReduced-same}
use Rattle.acas_flight.specs.Window.{Times, IsDuring}
use Rattle.acas_flight.specs.Values.{IsAtMost, IsOver}
use Rattle.acas_flight.specs.Extremes.{IsExtreme, IsFirstLeast}
use Rattle.acas_frac.proofs.IntRing.{at, ◌⊗◌, ring}
use Rattle.acas_flight_lemmas.proofs.Endangered.{IsDuring-finer}
use Rattle.acas_flight_lemmas.proofs.Numbers.{natural}

-- ---- a time over a multiple of its denominator

pub over_times : (k n : ℕ) (time : Fraction) → time.num ≡ pos n → IsOver (time.den * k) (pos (n * k)) time
over_times k n time e = rw e (ring (pos k ∷ pos n ∷ pos time.den ∷ []) ((at 1 ⊗ at 0) ⊗ at 2) (at 1 ⊗ (at 2 ⊗ at 0)) refl)

-- a time from the window's start to its end is during it
pub during_ends : (n : ℕ) (time : Fraction) (w : Times) → time.num ≡ pos n → IsAtMost w.from time → IsAtMost time w.to → IsDuring time.den w n
during_ends n time w e after before = (rw e at after, rw e at before)

-- ---- two of them are one

-- at two times over one denominator: neither is before the other
same_place : (gap : ℕ → ℕ → ℤ) (w : Times) (s t : Fraction) (q m n : ℕ) → 0 < q → IsFirstLeast gap w s → IsFirstLeast gap w t →
    IsOver q (pos m) s → IsOver q (pos n) t → IsDuring q w m → IsDuring q w n → m ≡ n
same_place gap w s t q m n p f g es et ds dt =
    ⊎_elim
    (λ (l : m < n). absurd (no (gap q m) (gap q n) (f.least q m n p es dt) (g.earliest q n m p et ds l)))
    (λ (l : n ≤ m). ⊎_elim
    (λ (k : n < m). absurd (no (gap q n) (gap q m) (g.least q n m p et ds) (f.earliest q m n p es dt k)))
    (λ (k : m ≤ n). omega arith)
    (cases_lt n m))
    (cases_lt m n)
  where
    no : (a b : ℤ) → a ≤ℤ b → b <ℤ a → ⊥
    no a b h k = omega (arith, ints)

pub extreme-same : (gap : ℕ → ℕ → ℤ) (w : Times) (s t : Fraction) → IsExtreme gap w s → IsExtreme gap w t → s ≡ t
extreme-same gap w s t f g = natural s.num f.ahead (λ m em. natural t.num g.ahead (λ n en. by m n em en))
  where
    by : (m n : ℕ) → s.num ≡ pos m → t.num ≡ pos n → s ≡ t
    by m n em en =
        let turn : t.den * s.den ≡ s.den * t.den = omega arith in
        let over : IsOver (s.den * t.den) (pos (n * s.den)) t = rw turn at (over_times s.den n t en) in
        let during : IsDuring (s.den * t.den) w (n * s.den) = rw turn at (IsDuring-finer t.den s.den w n (during_ends n t w en g.first.after g.first.before)) in
        let cross = same_place gap w s t (s.den * t.den) (m * t.den) (n * s.den) (mul-pos f.reduced.some g.reduced.some) f.first g.first
        (over_times t.den m s em) over (IsDuring-finer s.den t.den w m (during_ends m s w em f.first.after f.first.before)) during in
        IsReduced-same s t f.reduced g.reduced (ap (λ z. z *ℤ pos t.den) em ∙ ap pos cross ∙ ap (λ z. z *ℤ pos s.den) (sym en))

-- ---- windows of the same times

module _ (gap : ℕ → ℕ → ℤ) (v w : Times) (time : Fraction) (same : (q t : ℕ) → 0 < q → IsDuring q v t ↔ IsDuring q w t) where
  within : 0 < time.den → pos 0 ≤ℤ time.num → IsAtMost v.from time → IsAtMost time v.to → IsAtMost w.from time × IsAtMost time w.to
  within p h after before = natural time.num h (λ n e.
      let j = (same time.den n p).0 (during_ends n time v e after before) in
      rw e (j.0, j.1))

  pub first_least-windows : 0 < time.den → pos 0 ≤ℤ time.num → IsFirstLeast gap v time → IsFirstLeast gap w time
  first_least-windows p ahead l =
      let ends = within p ahead l.after l.before in
      record {
        after = ends.0;
        before = ends.1;
        least = λ q s t k i j. l.least q s t k i ((same q t k).1 j);
        earliest = λ q s t k i j h. l.earliest q s t k i ((same q t k).1 j) h;
      }

  pub extreme-windows : IsExtreme gap v time → IsExtreme gap w time
  extreme-windows l = record { reduced = l.reduced; ahead = l.ahead; first = first_least-windows l.reduced.some l.ahead l.first }
