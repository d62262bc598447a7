-- What a step of the own flight or of the intruder's does to the value of a course.
use Rattle.std.proofs.Common.{ℕ, ◌*◌, ◌<◌, refl, arith, [], ◌∷◌, ℤ, pos, ◌+ℤ◌, ◌-ℤ◌, ◌*ℤ◌, ◌<ℤ◌, mul-pos}
use Rattle.std.proofs.lemmas.Int.{ints}
use Rattle.acas_frac.proofs.SignedProducts.{mul-lt_ℤ}
use Rattle.acas_frac.proofs.IntRing.{at, num, ◌⊕◌, ◌⊖◌, ◌⊗◌, ring}
use Rattle.acas_areas.specs.Value.{IsLessThanAbove}
use Rattle.acas_manoeuvre_lemmas.proofs.Races.{lt_as}

-- A step of the own flight, or of the altitude: the values against an intruder that ends at i, and against one that ends z further.
pub shift : (k D a : ℕ) (o o' i i' z : ℤ) (b b' : ℕ) → 0 < a →
    IsLessThanAbove k (record { num = o -ℤ (pos b *ℤ i); den = D * b }) (record { num = o' -ℤ (pos b' *ℤ i'); den = D * b' }) →
    IsLessThanAbove k (record { num = (o *ℤ pos a) -ℤ (((i *ℤ pos a) +ℤ z) *ℤ pos b); den = D * b * a }) (record { num = (o' *ℤ pos a) -ℤ (((i' *ℤ pos a) +ℤ z) *ℤ pos b'); den = D * b' * a })
shift k D a o o' i i' z b b' p h = lt_as
    (ring (o ∷ o' ∷ i ∷ i' ∷ z ∷ pos a ∷ pos b ∷ pos b' ∷ pos D ∷ pos k ∷ [])
    (((at 1 ⊗ at 5) ⊖ (((at 3 ⊗ at 5) ⊕ at 4) ⊗ at 7)) ⊗ ((at 8 ⊗ at 6) ⊗ at 5))
    (((at 5 ⊗ at 5) ⊗ ((at 1 ⊖ (at 7 ⊗ at 3)) ⊗ (at 8 ⊗ at 6))) ⊕ (num (pos 0) ⊖ ((at 5 ⊗ (at 6 ⊗ (at 7 ⊗ at 8))) ⊗ at 4)))
    refl)
    (ring (o ∷ o' ∷ i ∷ i' ∷ z ∷ pos a ∷ pos b ∷ pos b' ∷ pos D ∷ pos k ∷ [])
    ((((at 0 ⊗ at 5) ⊖ (((at 2 ⊗ at 5) ⊕ at 4) ⊗ at 6)) ⊗ ((at 8 ⊗ at 7) ⊗ at 5)) ⊕ (at 9 ⊗ (((at 8 ⊗ at 6) ⊗ at 5) ⊗ ((at 8 ⊗ at 7) ⊗ at 5))))
    (((at 5 ⊗ at 5) ⊗ (((at 0 ⊖ (at 6 ⊗ at 2)) ⊗ (at 8 ⊗ at 7)) ⊕ (at 9 ⊗ ((at 8 ⊗ at 6) ⊗ (at 8 ⊗ at 7))))) ⊕ (num (pos 0) ⊖ ((at 5 ⊗ (at 6 ⊗ (at 7 ⊗ at 8))) ⊗ at 4)))
    refl)
    (plus _ _ _ (mul-lt_ℤ (a * a) _ _ (mul-pos p p) h))
  where
    plus : (x y z : ℤ) → x <ℤ y → (x +ℤ z) <ℤ (y +ℤ z)
    plus x y z l = omega (arith, ints, l)

-- A step of the intruder: its climb y' is the next, and y is less than so many ticks above it.
pub against : (k D a b : ℕ) (o i y y' : ℤ) → 0 < b →
    IsLessThanAbove k (record { num = y'; den = D * a }) (record { num = y; den = D * a }) →
    IsLessThanAbove k (record { num = (o *ℤ pos a) -ℤ ((i +ℤ y) *ℤ pos b); den = D * b * a }) (record { num = (o *ℤ pos a) -ℤ ((i +ℤ y') *ℤ pos b); den = D * b * a })
against k D a b o i y y' p h = lt_as
    (ring (o ∷ i ∷ y ∷ y' ∷ pos a ∷ pos b ∷ pos D ∷ pos k ∷ [])
    (((at 0 ⊗ at 4) ⊖ ((at 1 ⊕ at 3) ⊗ at 5)) ⊗ ((at 6 ⊗ at 5) ⊗ at 4))
    (((at 5 ⊗ at 5) ⊗ (at 2 ⊗ (at 6 ⊗ at 4))) ⊕ (((at 0 ⊗ at 4) ⊖ ((at 1 ⊕ (at 2 ⊕ at 3)) ⊗ at 5)) ⊗ ((at 6 ⊗ at 5) ⊗ at 4)))
    refl)
    (ring (o ∷ i ∷ y ∷ y' ∷ pos a ∷ pos b ∷ pos D ∷ pos k ∷ [])
    ((((at 0 ⊗ at 4) ⊖ ((at 1 ⊕ at 2) ⊗ at 5)) ⊗ ((at 6 ⊗ at 5) ⊗ at 4)) ⊕ (at 7 ⊗ (((at 6 ⊗ at 5) ⊗ at 4) ⊗ ((at 6 ⊗ at 5) ⊗ at 4))))
    (((at 5 ⊗ at 5) ⊗ ((at 3 ⊗ (at 6 ⊗ at 4)) ⊕ (at 7 ⊗ ((at 6 ⊗ at 4) ⊗ (at 6 ⊗ at 4))))) ⊕ (((at 0 ⊗ at 4) ⊖ ((at 1 ⊕ (at 2 ⊕ at 3)) ⊗ at 5)) ⊗ ((at 6 ⊗ at 5) ⊗ at 4)))
    refl)
    (plus _ _ _ (mul-lt_ℤ (b * b) _ _ (mul-pos p p) h))
  where
    plus : (x y z : ℤ) → x <ℤ y → (x +ℤ z) <ℤ (y +ℤ z)
    plus x y z l = omega (arith, ints, l)
