-- The ends of a window, as fractions.
use Rattle.std.proofs.Common.{◌≡◌, ℕ, ◌+◌, ◌-◌, ◌*◌, ◌<◌, ◌≤◌, ◌↔◌, refl, ap, ◌∙◌, arith, [], ◌∷◌, pos, ◌*ℤ◌, ◌≤ℤ◌, mul-le-mul}
use Rattle.std.proofs.lemmas.Int.{ints}
use lib.IntN.{*ℤ_comm}
use Rattle.acas_frac.proofs.SignedProducts.{mul-le_ℤ, le-from_mul_ℤ}
use Rattle.acas_frac.proofs.IntRing.{at, ◌⊗◌, ring}
use Rattle.acas_flight_windows.proofs.Windows.{window_of_cell}
use Rattle.acas_flight_windows.proofs.BoxWindows.{window_of_box}
use Rattle.acas_spec.specs.Model.{ModelData}
use Rattle.acas_spec.specs.Limits.{IsModel}
use Rattle.acas_flight.specs.State.{Interval}
use Rattle.acas_flight.specs.Window.{IsWindowOfCell, IsWindowOfBox, Times, IsDuring, IsContactTimeOfCell, IsContactTimeOfBox}
use Rattle.acas_flight.specs.Values.{IsAtMost}
use Rattle.acas_frac.specs.Fraction.{Fraction, IsFrac, ReducesWithinBounds}
use Rattle.acas_areas.specs.Limits.{IsEnd, AreEnds}
use Rattle.acas_frac.proofs.Lowest.{den_at_most, ReducesWithinBounds-over}
use Rattle.acas_units.specs.declared.limits.TheConstants.{GREATEST_CLOSING, WINDOW_SECONDS}

pub le_pos : (m n : ℕ) → pos m ≤ℤ pos n → m ≤ n
le_pos m n h = omega (arith, ints)

-- a fraction of the value n/d against a number over q, by cross products
module _ (f : Fraction) (n d q t : ℕ) (s : 0 < f.den) (p : 0 < d) (e : f.num *ℤ pos d ≡ pos n *ℤ pos f.den) where
  left : pos d *ℤ (f.num *ℤ pos q) ≡ pos f.den *ℤ pos (n * q)
  left = ring (f.num ∷ pos d ∷ pos q ∷ []) (at 1 ⊗ (at 0 ⊗ at 2)) ((at 0 ⊗ at 1) ⊗ at 2) refl ∙ ap (λ z. z *ℤ pos q) e
      ∙ ring (pos n ∷ pos f.den ∷ pos q ∷ []) ((at 0 ⊗ at 1) ⊗ at 2) (at 1 ⊗ (at 0 ⊗ at 2)) refl

  right : pos d *ℤ pos (t * f.den) ≡ pos f.den *ℤ pos (t * d)
  right = ring (pos t ∷ pos d ∷ pos f.den ∷ []) (at 1 ⊗ (at 0 ⊗ at 2)) (at 2 ⊗ (at 0 ⊗ at 1)) refl

  pub to_lower : (f.num *ℤ pos q) ≤ℤ pos (t * f.den) → n * q ≤ t * d
  to_lower h = le_pos (n * q) (t * d) (le-from_mul_ℤ f.den (pos (n * q)) (pos (t * d)) s (rw (← left, ← right) (mul-le_ℤ d (f.num *ℤ pos q) (pos (t * f.den)) h)))

  pub from_lower : n * q ≤ t * d → (f.num *ℤ pos q) ≤ℤ pos (t * f.den)
  from_lower h = le-from_mul_ℤ d (f.num *ℤ pos q) (pos (t * f.den)) p (rw (left, right) (mul-le_ℤ f.den (pos (n * q)) (pos (t * d)) (omega (arith, ints))))

  pub to_upper : pos (t * f.den) ≤ℤ (f.num *ℤ pos q) → t * d ≤ n * q
  to_upper h = le_pos (t * d) (n * q) (le-from_mul_ℤ f.den (pos (t * d)) (pos (n * q)) s (rw (← left, ← right) (mul-le_ℤ d (pos (t * f.den)) (f.num *ℤ pos q) h)))

  pub from_upper : t * d ≤ n * q → pos (t * f.den) ≤ℤ (f.num *ℤ pos q)
  from_upper h = le-from_mul_ℤ d (pos (t * f.den)) (f.num *ℤ pos q) p (rw (left, right) (mul-le_ℤ f.den (pos (t * d)) (pos (n * q)) (omega (arith, ints))))

-- a fraction of the value n/d, of at most ten minutes
pub end_of : (f : Fraction) (n d : ℕ) → IsFrac f → 0 < d → d ≤ GREATEST_CLOSING → n ≤ WINDOW_SECONDS * d → f.num *ℤ pos d ≡ pos n *ℤ pos f.den → IsEnd f
end_of f n d h p small most e = record {
  some = h.some;
  den = (let k = den_at_most f (pos n) d h p e in omega arith);
  least = le-from_mul_ℤ d (pos 0) f.num p (let turned : pos d *ℤ f.num ≡ pos (n * f.den) = *ℤ_comm (pos d) f.num ∙ e in rw turned (omega (arith, ints)));
  greatest = le-from_mul_ℤ d f.num (pos (WINDOW_SECONDS * f.den)) p
      (let turned : pos d *ℤ f.num ≡ pos (n * f.den) = *ℤ_comm (pos d) f.num ∙ e in
      let k = mul-le-mul most (let same : f.den ≤ f.den = omega arith in same) in
      rw turned (omega (arith, ints, k)));
}

-- two fractions by their values m/c and n/d
pub ordered : (f g : Fraction) (m c n d : ℕ) → 0 < f.den → 0 < g.den → 0 < c → 0 < d → f.num *ℤ pos c ≡ pos m *ℤ pos f.den → g.num *ℤ pos d ≡ pos n *ℤ pos g.den → m * d ≤ n * c → IsAtMost f g
ordered f g m c n d sf sg pc pd ef eg h =
    le-from_mul_ℤ c (f.num *ℤ pos g.den) (g.num *ℤ pos f.den) pc
    (le-from_mul_ℤ d (pos c *ℤ (f.num *ℤ pos g.den)) (pos c *ℤ (g.num *ℤ pos f.den)) pd
    (rw (left, right) (let k = mul-le_ℤ (f.den * g.den) (pos (m * d)) (pos (n * c)) (omega (arith, ints)) in omega (arith, ints, k))))
  where
    left : pos d *ℤ (pos c *ℤ (f.num *ℤ pos g.den)) ≡ pos ((f.den * g.den) * (m * d))
    left = ring (pos d ∷ pos c ∷ f.num ∷ pos g.den ∷ []) (at 0 ⊗ (at 1 ⊗ (at 2 ⊗ at 3))) ((at 2 ⊗ at 1) ⊗ (at 3 ⊗ at 0)) refl ∙ ap (λ z. z *ℤ (pos g.den *ℤ pos d)) ef
        ∙ ring (pos m ∷ pos f.den ∷ pos g.den ∷ pos d ∷ []) ((at 0 ⊗ at 1) ⊗ (at 2 ⊗ at 3)) ((at 1 ⊗ at 2) ⊗ (at 0 ⊗ at 3)) refl

    right : pos d *ℤ (pos c *ℤ (g.num *ℤ pos f.den)) ≡ pos ((f.den * g.den) * (n * c))
    right = ring (pos d ∷ pos c ∷ g.num ∷ pos f.den ∷ []) (at 0 ⊗ (at 1 ⊗ (at 2 ⊗ at 3))) ((at 2 ⊗ at 0) ⊗ (at 3 ⊗ at 1)) refl ∙ ap (λ z. z *ℤ (pos f.den *ℤ pos c)) eg
        ∙ ring (pos n ∷ pos g.den ∷ pos f.den ∷ pos c ∷ []) ((at 0 ⊗ at 1) ⊗ (at 2 ⊗ at 3)) ((at 2 ⊗ at 1) ⊗ (at 0 ⊗ at 3)) refl

pub box_times : (radius : ℕ) (ranges speeds : Interval) (near far slow fast : ℕ) (w : Times) → ranges.least ≡ pos near → ranges.greatest ≡ pos far → speeds.least ≡ pos slow → speeds.greatest ≡ pos fast →
    0 < slow → near ≤ far → slow ≤ fast → AreEnds w → w.from.num *ℤ pos fast ≡ pos (near - radius) *ℤ pos w.from.den → w.to.num *ℤ pos slow ≡ pos (far + radius) *ℤ pos w.to.den →
    (q t : ℕ) → 0 < q → IsDuring q w t ↔ IsContactTimeOfBox radius ranges speeds q t
box_times radius ranges speeds near far slow fast w en ef es eg p r s ends eb et q t pq =
    let law = window_of_box radius ranges speeds near far slow fast q t en ef es eg pq r s in (
      λ d. law.0 (to_lower w.from (near - radius) fast q t ends.from.some pf eb d.0, to_upper w.to (far + radius) slow q t ends.to.some p et d.1),
      λ x. let d = law.1 x in (from_lower w.from (near - radius) fast q t ends.from.some pf eb d.0, from_upper w.to (far + radius) slow q t ends.to.some p et d.1),
    )
  where
    pf : 0 < fast
    pf = omega arith

pub cell_window : (m : ModelData) (n : ℕ) (w : Times) (radius slow k : ℕ) → IsModel m → radius ≡ m.radius → slow ≡ m.least_closing → k ≡ n → AreEnds w →
    w.from.num *ℤ pos 1 ≡ pos k *ℤ pos w.from.den → w.to.num *ℤ pos slow ≡ pos ((k + 1) * slow + 2 * radius) *ℤ pos w.to.den → IsWindowOfCell m n w
cell_window m n w radius slow k f er es ek ends eb et = record { exact = λ q t pq. at_time q t pq }
  where
    p : 0 < m.least_closing
    p = omega (arith, f.some_closing)

    eb' : w.from.num *ℤ pos 1 ≡ pos n *ℤ pos w.from.den
    eb' = rw ek at eb

    et' : w.to.num *ℤ pos m.least_closing ≡ pos ((n + 1) * m.least_closing + 2 * m.radius) *ℤ pos w.to.den
    et' = rw (ek, es, er) at et

    at_time : (q t : ℕ) → 0 < q → IsDuring q w t ↔ IsContactTimeOfCell m n q t
    at_time q t pq =
        let law = window_of_cell m n q t pq p f.closing in (
          λ d. law.0 (let a = to_lower w.from n 1 q t ends.from.some (omega arith) eb' d.0 in omega arith, let b = to_upper w.to ((n + 1) * m.least_closing + 2 * m.radius) m.least_closing q t ends.to.some p et' d.1 in omega (arith, b)),
          λ x. let d = law.1 x in (from_lower w.from n 1 q t ends.from.some (omega arith) eb' (omega (arith, d.0)), from_upper w.to ((n + 1) * m.least_closing + 2 * m.radius) m.least_closing q t ends.to.some p et' (omega (arith, d.1))),
        )

pub box_window : (m : ModelData) (ranges speeds : Interval) (w : Times) (radius near far slow fast : ℕ) → radius ≡ m.radius →
    ranges.least ≡ pos near → ranges.greatest ≡ pos far → speeds.least ≡ pos slow → speeds.greatest ≡ pos fast → 0 < slow → near ≤ far → slow ≤ fast → AreEnds w →
    w.from.num *ℤ pos fast ≡ pos (near - radius) *ℤ pos w.from.den → w.to.num *ℤ pos slow ≡ pos (far + radius) *ℤ pos w.to.den → IsWindowOfBox m ranges speeds w
box_window m ranges speeds w radius near far slow fast er en ef es eg p r s ends eb et =
    record { exact = box_times m.radius ranges speeds near far slow fast w en ef es eg p r s ends (rw er at eb) (rw er at et) }

pub quotient_reduces : (n d : ℕ) → 0 < d → d ≤ GREATEST_CLOSING → n ≤ WINDOW_SECONDS * d → ReducesWithinBounds n d
quotient_reduces n d p h k = ReducesWithinBounds-over n d n d p p refl (omega arith) (omega arith)
