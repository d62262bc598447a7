-- The gap of a border in finer numbers, and what it shows at another time.
use Rattle.std.proofs.Common.{◌≡◌, ℕ, ◌*◌, ◌<◌, refl, ap₂, sym, ◌∙◌, arith, [], ◌∷◌, ℤ, pos, ◌-ℤ◌, ◌*ℤ◌, ◌≤ℤ◌, ◌<ℤ◌, mul-pos}
use Rattle.std.specs.Int.Signed.{<ℤ-≤ℤ_trans}
use lib.IntN.{*ℤ_comm}
use Rattle.acas_frac.proofs.SignedProducts.{mul-lt_ℤ, lt-from_mul_ℤ}
use Rattle.acas_frac.proofs.IntRing.{at, num, ◌⊕◌, ◌⊖◌, ◌⊗◌, ring, sub-mul_ℤ}
use Rattle.acas_flight_lemmas.proofs.Held.{held-scaled}
use Rattle.acas_flight.specs.Contact.{vertical_separation}
use Rattle.acas_flight.specs.Curves.{held}
use Rattle.acas_flight.specs.Border.{Border, border_gap}

module _ (s : Border) (q t k : ℕ) where
  climb_finer : held (s.start *ℤ pos ((q * k) * (q * k))) (s.aim *ℤ pos ((q * k) * (q * k))) (s.pull * (q * k)) (s.hold * (q * k)) (t * k)
      ≡ held (s.start *ℤ pos (q * q)) (s.aim *ℤ pos (q * q)) (s.pull * q) (s.hold * q) t *ℤ pos ((k * k) * (k * k))
  climb_finer =
      ap₂ (λ (v a : ℤ). held v a (s.pull * (q * k)) (s.hold * (q * k)) (t * k)) (turn s.start) (turn s.aim)
      ∙ ap₂ (λ (b g : ℕ). held ((s.start *ℤ pos (q * q)) *ℤ pos (k * k)) ((s.aim *ℤ pos (q * q)) *ℤ pos (k * k)) b g (t * k)) (along s.pull) (along s.hold)
      ∙ held-scaled (s.start *ℤ pos (q * q)) (s.aim *ℤ pos (q * q)) (s.pull * q) (s.hold * q) t k k
    where
      turn : (v : ℤ) → v *ℤ pos ((q * k) * (q * k)) ≡ (v *ℤ pos (q * q)) *ℤ pos (k * k)
      turn v = ring (v ∷ pos q ∷ pos k ∷ []) (at 0 ⊗ ((at 1 ⊗ at 2) ⊗ (at 1 ⊗ at 2))) ((at 0 ⊗ (at 1 ⊗ at 1)) ⊗ (at 2 ⊗ at 2)) refl

      along : (b : ℕ) → b * (q * k) ≡ (b * q) * k
      along b = omega arith

  line_finer : pos (s.pull * (q * k)) *ℤ vertical_separation (q * k) (s.height *ℤ pos (q * k)) (s.rate *ℤ pos (q * k)) (t * k) (pos 0)
      ≡ (pos (s.pull * q) *ℤ vertical_separation q (s.height *ℤ pos q) (s.rate *ℤ pos q) t (pos 0)) *ℤ pos ((k * k) * (k * k))
  line_finer = ring (pos s.pull ∷ pos q ∷ s.height ∷ s.rate ∷ pos t ∷ pos k ∷ [])
      ((at 0 ⊗ (at 1 ⊗ at 5)) ⊗ ((((at 2 ⊗ (at 1 ⊗ at 5)) ⊗ ((at 1 ⊗ at 5) ⊗ (at 1 ⊗ at 5))) ⊕ (((num (pos 2) ⊗ (at 3 ⊗ (at 1 ⊗ at 5))) ⊗ (at 4 ⊗ at 5)) ⊗ (at 1 ⊗ at 5))) ⊖ num (pos 0)))
      (((at 0 ⊗ at 1) ⊗ ((((at 2 ⊗ at 1) ⊗ (at 1 ⊗ at 1)) ⊕ (((num (pos 2) ⊗ (at 3 ⊗ at 1)) ⊗ at 4) ⊗ at 1)) ⊖ num (pos 0))) ⊗ ((at 5 ⊗ at 5) ⊗ (at 5 ⊗ at 5)))
      refl

  pub border_gap-finer : border_gap s (q * k) (t * k) ≡ border_gap s q t *ℤ pos ((k * k) * (k * k))
  border_gap-finer =
      ap₂ (λ (a b : ℤ). a -ℤ b) climb_finer line_finer
      ∙ sym (sub-mul_ℤ (held (s.start *ℤ pos (q * q)) (s.aim *ℤ pos (q * q)) (s.pull * q) (s.hold * q) t) (pos (s.pull * q) *ℤ vertical_separation q (s.height *ℤ pos q) (s.rate *ℤ pos q) t (pos 0)) (pos ((k * k) * (k * k))))

-- a gap of more than the half height at the time u over p, where that at t over q is no less
pub over_at_other : (half : ℕ) (s : Border) (p u q t : ℕ) → 0 < p → 0 < q → border_gap s (p * q) (u * q) ≤ℤ border_gap s (p * q) (t * p) →
    (pos (s.pull * p) *ℤ pos (half * (p * p * p))) <ℤ border_gap s p u → (pos (s.pull * q) *ℤ pos (half * (q * q * q))) <ℤ border_gap s q t
over_at_other half s p u q t pp pq least over =
    lt-from_mul_ℤ ((p * p) * (p * p)) (pos (s.pull * q) *ℤ pos (half * (q * q * q))) (border_gap s q t)
    (rw (across, *ℤ_comm (pos ((p * p) * (p * p))) (border_gap s q t), ← border_gap-finer s q t p, order)
    (<ℤ-≤ℤ_trans (rw (*ℤ_comm (pos ((q * q) * (q * q))) (border_gap s p u), ← border_gap-finer s p u q) at
    (mul-lt_ℤ ((q * q) * (q * q)) (pos (s.pull * p) *ℤ pos (half * (p * p * p))) (border_gap s p u) (mul-pos (mul-pos pq pq) (mul-pos pq pq)) over)) least))
  where
    order : q * p ≡ p * q
    order = omega arith

    across : pos ((p * p) * (p * p)) *ℤ (pos (s.pull * q) *ℤ pos (half * (q * q * q))) ≡ pos ((q * q) * (q * q)) *ℤ (pos (s.pull * p) *ℤ pos (half * (p * p * p)))
    across = ring (pos p ∷ pos q ∷ pos s.pull ∷ pos half ∷ [])
        (((at 0 ⊗ at 0) ⊗ (at 0 ⊗ at 0)) ⊗ ((at 2 ⊗ at 1) ⊗ (at 3 ⊗ ((at 1 ⊗ at 1) ⊗ at 1))))
        (((at 1 ⊗ at 1) ⊗ (at 1 ⊗ at 1)) ⊗ ((at 2 ⊗ at 0) ⊗ (at 3 ⊗ ((at 0 ⊗ at 0) ⊗ at 0)))) refl
