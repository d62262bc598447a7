-- Fractions over finer denominators.
use Rattle.std.proofs.Common.{ℕ, ◌*◌, refl, ap, ◌∙◌, [], ◌∷◌, ℤ, pos, ◌*ℤ◌}
use Rattle.acas_frac.proofs.IntRing.{at, ◌⊗◌, ring}
use Rattle.acas_frac.specs.Fraction.{Fraction}
use Rattle.acas_flight.specs.Values.{IsOver}

-- what is a fraction over n is that fraction over each multiple of n
pub IsOver-finer : (f : Fraction) (n m : ℕ) (i : ℤ) → IsOver n i f → IsOver (n * m) (i *ℤ pos m) f
IsOver-finer f n m i o =
    ring (i ∷ pos m ∷ pos f.den ∷ []) ((at 0 ⊗ at 1) ⊗ at 2) ((at 0 ⊗ at 2) ⊗ at 1) refl
    ∙ ap (λ z. z *ℤ pos m) o
    ∙ ring (f.num ∷ pos n ∷ pos m ∷ []) ((at 0 ⊗ at 1) ⊗ at 2) (at 0 ⊗ (at 1 ⊗ at 2)) refl

-- a fraction over the product of a denominator, its own and another's
pub over_left : (q other : ℕ) (f : Fraction) → IsOver (q * (f.den * other)) (f.num *ℤ pos (q * other)) f
over_left q other f = ring (f.num ∷ pos q ∷ pos f.den ∷ pos other ∷ []) ((at 0 ⊗ (at 1 ⊗ at 3)) ⊗ at 2) (at 0 ⊗ (at 1 ⊗ (at 2 ⊗ at 3))) refl

pub over_right : (q other : ℕ) (f : Fraction) → IsOver (q * (other * f.den)) (f.num *ℤ pos (q * other)) f
over_right q other f = ring (f.num ∷ pos q ∷ pos f.den ∷ pos other ∷ []) ((at 0 ⊗ (at 1 ⊗ at 3)) ⊗ at 2) (at 0 ⊗ (at 1 ⊗ (at 3 ⊗ at 2))) refl
