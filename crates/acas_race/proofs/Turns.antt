-- When a turn is not before the start.
use Rattle.std.proofs.Common.{◌≡◌, ℕ, ◌*◌, ◌<◌, refl, arith, ℤ, pos, ◌+ℤ◌, ◌-ℤ◌, ◌*ℤ◌, ◌<ℤ◌, ◌≤ℤ◌, [], ◌∷◌}
use Rattle.std.proofs.lemmas.Int.{ints}
use Rattle.acas_frac.proofs.SignedProducts.{lt-from_mul_ℤ}
use Rattle.acas_frac.proofs.IntRing.{at, num, ◌⊕◌, ◌⊖◌, ◌⊗◌, ring}
use Rattle.acas_frac.proofs.Orders.{by_above}
use Rattle.acas_rulings.specs.Race.{Race}
use Rattle.acas_rulings.specs.Turns.{IsLateTurn}

-- where the intruder is at its goal before, the turn is not before the start
pub late-ahead : (r : Race) → 0 < r.accel → r.rate ≤ℤ r.goal → IsLateTurn r → pos 0 ≤ℤ ((r.goal -ℤ r.start) +ℤ pos (r.hold * r.pull))
late-ahead r p up h = by_above r.rate r.goal up (λ x e. from x e)
  where
    from : (x : ℕ) → r.goal ≡ r.rate +ℤ pos x → pos 0 ≤ℤ ((r.goal -ℤ r.start) +ℤ pos (r.hold * r.pull))
    from x e =
        let s : (pos r.accel *ℤ (pos 0 -ℤ pos 1)) <ℤ (pos r.accel *ℤ ((r.goal -ℤ r.start) +ℤ pos (r.hold * r.pull))) = line (pos r.accel *ℤ ((r.goal -ℤ r.start) +ℤ pos (r.hold * r.pull))) ((r.goal -ℤ r.rate) *ℤ pos r.pull) ((r.goal *ℤ pos r.accel) +ℤ pos (r.hold * r.pull * r.accel)) (r.start *ℤ pos r.accel) (x * r.pull) (split r.goal r.start r.accel r.hold r.pull) (way r.goal r.rate r.pull x e) h in
        let l : (pos 0 -ℤ pos 1) <ℤ ((r.goal -ℤ r.start) +ℤ pos (r.hold * r.pull)) = lt-from_mul_ℤ r.accel (pos 0 -ℤ pos 1) ((r.goal -ℤ r.start) +ℤ pos (r.hold * r.pull)) s in omega (arith, ints, l)
      where
        split : (c v : ℤ) (a g b : ℕ) → pos a *ℤ ((c -ℤ v) +ℤ pos (g * b)) ≡ ((c *ℤ pos a) +ℤ pos (g * b * a)) -ℤ (v *ℤ pos a)
        split c v a g b = ring (c ∷ v ∷ pos a ∷ pos g ∷ pos b ∷ []) (at 2 ⊗ ((at 0 ⊖ at 1) ⊕ (at 3 ⊗ at 4))) (((at 0 ⊗ at 2) ⊕ ((at 3 ⊗ at 4) ⊗ at 2)) ⊖ (at 1 ⊗ at 2)) refl

        way : (c w : ℤ) (b x : ℕ) → c ≡ w +ℤ pos x → (c -ℤ w) *ℤ pos b ≡ pos (x * b)
        way c w b x e = rw e (ring (w ∷ pos x ∷ pos b ∷ []) (((at 0 ⊕ at 1) ⊖ at 0) ⊗ at 2) (at 1 ⊗ at 2) refl)

        line : (z u o i : ℤ) (k : ℕ) → z ≡ o -ℤ i → u ≡ pos k → (i +ℤ u) <ℤ o → (pos r.accel *ℤ (pos 0 -ℤ pos 1)) <ℤ z
        line z u o i k e f h = let m : pos r.accel *ℤ (pos 0 -ℤ pos 1) ≡ pos 0 -ℤ pos r.accel = ring (pos r.accel ∷ []) (at 0 ⊗ (num (pos 0) ⊖ num (pos 1))) (num (pos 0) ⊖ at 0) refl in omega (arith, ints, e, f, h, m, p)
