-- The numbers of the last points of the passes.
use Rattle.std.proofs.Common.{◌≡◌, ℕ, ◌+◌, ◌-◌, ◌*◌, ◌<◌, ◌≤◌, refl, ap, ap₂, sym, ◌∙◌, arith, [], ◌∷◌, ℤ, pos, ◌-ℤ◌, ◌*ℤ◌, unsigned_abs, mul-pos}
use Rattle.std.proofs.lemmas.Int.{unsigned_abs-mul}
use Rattle.acas_frac.proofs.IntRing.{at, num, ◌⊖◌, ◌⊗◌, ring}
use Rattle.acas_flight_lemmas.proofs.Held.{sub_scaled}
use Rattle.acas_frac.specs.Fraction.{Fraction}
use Rattle.acas_areas.specs.Passes.{Pass, IsLast}

pub exact_last : {F : Type 0} (p : Pass F) (last : ℕ) → p.way ≡ last * p.step → 0 < p.step → IsLast p last
exact_last p last e h = record { reaches = omega arith; first = omega arith }

pub eighth_some : (m : ℕ) → 0 < m → 0 < 524288 * (m * m)
eighth_some m p = mul-pos (omega arith) (mul-pos p p)

pub eighths_way : (g l : ℤ) (m n : ℕ) → n ≡ unsigned_abs (pos 8 *ℤ (g -ℤ l)) → unsigned_abs ((g *ℤ pos ((2048 * m) * (2048 * m))) -ℤ (l *ℤ pos ((2048 * m) * (2048 * m)))) ≡ n * (524288 * (m * m))
eighths_way g l m n e =
    ap unsigned_abs (ring (g ∷ l ∷ pos m ∷ [])
    ((at 0 ⊗ ((num (pos 2048) ⊗ at 2) ⊗ (num (pos 2048) ⊗ at 2))) ⊖ (at 1 ⊗ ((num (pos 2048) ⊗ at 2) ⊗ (num (pos 2048) ⊗ at 2))))
    ((num (pos 8) ⊗ (at 0 ⊖ at 1)) ⊗ (num (pos 524288) ⊗ (at 2 ⊗ at 2)))
    refl)
    ∙ unsigned_abs-mul (pos 8 *ℤ (g -ℤ l)) (pos (524288 * (m * m))) ∙ ap (λ z. z * (524288 * (m * m))) (sym e)

both_ways : (a b m : ℕ) → (b * m - a * m) + (a * m - b * m) ≡ ((b - a) + (a - b)) * m
both_ways a b m = ap₂ (λ (x y : ℕ). x + y) (sub_scaled b a m) (sub_scaled a b m) ∙ omega arith

pub pulls_way : (u v a b g n : ℕ) → u ≡ a * (2048 * g) → v ≡ b * (2048 * g) → n ≡ (b - a) + (a - b) → (v - u) + (u - v) ≡ (2048 * n) * g
pulls_way u v a b g n eu ev en = rw (eu, ev) (both_ways a b (2048 * g) ∙ ap (λ z. z * (2048 * g)) (sym en) ∙ omega arith)

pub holds_way : (u v a b g n : ℕ) → u ≡ a * (2048 * g) → v ≡ b * (2048 * g) → n ≡ (b - a) + (a - b) → (v - u) + (u - v) ≡ (256 * n) * (8 * g)
holds_way u v a b g n eu ev en = rw (eu, ev) (both_ways a b (2048 * g) ∙ ap (λ z. z * (2048 * g)) (sym en) ∙ omega arith)

times_way : (a b c d : ℕ) → (c * (2048 * b) - a * (2048 * d)) + (a * (2048 * d) - c * (2048 * b)) ≡ ((c * b - a * d) + (a * d - c * b)) * 2048
times_way a b c d =
    let l : c * (2048 * b) ≡ (c * b) * 2048 = omega arith in
    let r : a * (2048 * d) ≡ (a * d) * 2048 = omega arith in
    rw (l, r) (both_ways (a * d) (c * b) 2048)

pub last_time_of : (f g : Fraction) (a b c d n : ℕ) → f.num ≡ pos a → f.den ≡ b → g.num ≡ pos c → g.den ≡ d →
    256 * ((c * b - a * d) + (a * d - c * b)) ≤ n * (b * d) → n * (b * d) < 256 * ((c * b - a * d) + (a * d - c * b)) + b * d →
    ((unsigned_abs g.num * (2048 * f.den) - unsigned_abs f.num * (2048 * g.den)) + (unsigned_abs f.num * (2048 * g.den) - unsigned_abs g.num * (2048 * f.den)) ≤ n * (8 * (f.den * g.den)))
    × (n * (8 * (f.den * g.den)) < ((unsigned_abs g.num * (2048 * f.den) - unsigned_abs f.num * (2048 * g.den)) + (unsigned_abs f.num * (2048 * g.den) - unsigned_abs g.num * (2048 * f.den))) + 8 * (f.den * g.den))
last_time_of f g a b c d n ef df eg dg h k = rw (ef, df, eg, dg, times_way a b c d) (by ((c * b - a * d) + (a * d - c * b)) (b * d) h k)
  where
    by : (w m : ℕ) → 256 * w ≤ n * m → n * m < 256 * w + m → (w * 2048 ≤ n * (8 * m)) × (n * (8 * m) < w * 2048 + 8 * m)
    by w m h k = (omega arith, omega arith)
