-- A curve in times of one part, of which its bend is a whole number: in each it climbs the rates at its two ends.
use Rattle.std.proofs.Common.{◌≡◌, ℕ, ◌+◌, ◌-◌, ◌*◌, ◌<◌, ◌≤◌, ⊎_elim, refl, sym, ap, ◌∙◌, arith, [], ◌∷◌, ℤ, pos, neg_ℤ, ◌+ℤ◌, ◌-ℤ◌, ◌*ℤ◌, min}
use Rattle.std.proofs.lemmas.Int.{ints}
use Rattle.std.proofs.lemmas.Bool.{cases_lt}
use Rattle.acas_frac.proofs.SignedProducts.{mul-neg_ℤ}
use Rattle.acas_frac.proofs.IntRing.{at, num, ◌⊕◌, ◌⊖◌, ◌⊗◌, ring}
use Rattle.acas_frac.proofs.Squares.{sq}
use Rattle.acas_flight.proofs.Curves.{steady}
use Rattle.acas_flight.proofs.Steps.{steady-add}
use Rattle.acas_flight_lemmas.proofs.Rising.{held_below}
use Rattle.acas_flight_lemmas.proofs.Held.{turned}
use Rattle.acas_flight.specs.Curves.{held}

-- what is left of the way to the aim at the time i: of n steps of b after a hold of g
abbrev pub left : ℕ → ℕ → ℕ → ℕ → ℕ
left b n g i = b * (n - (i - g))

hold_line : (k s : ℤ) (b x i m : ℕ) → (((((((pos 2 *ℤ k) *ℤ pos 1) *ℤ pos b) +ℤ s) -ℤ pos ((x + x) * (b * (i + 1)))) -ℤ pos (x * x)) +ℤ pos m)
    ≡ (((s -ℤ pos ((x + x) * (b * i))) -ℤ pos (x * x)) +ℤ pos m) +ℤ (pos b *ℤ ((k -ℤ pos x) +ℤ (k -ℤ pos x)))
hold_line k s b x i m = ring (k ∷ s ∷ pos b ∷ pos x ∷ pos i ∷ pos m ∷ [])
    (((((((num (pos 2) ⊗ at 0) ⊗ num (pos 1)) ⊗ at 2) ⊕ at 1) ⊖ ((at 3 ⊕ at 3) ⊗ (at 2 ⊗ (at 4 ⊕ num (pos 1))))) ⊖ (at 3 ⊗ at 3)) ⊕ at 5)
    ((((at 1 ⊖ ((at 3 ⊕ at 3) ⊗ (at 2 ⊗ at 4))) ⊖ (at 3 ⊗ at 3)) ⊕ at 5) ⊕ (at 2 ⊗ ((at 0 ⊖ at 3) ⊕ (at 0 ⊖ at 3))))
    refl

go_line : (k s : ℤ) (b p q m : ℕ) → (((((((pos 2 *ℤ k) *ℤ pos 1) *ℤ pos b) +ℤ s) -ℤ pos p) -ℤ pos q) +ℤ pos ((b * m) * (b * m)))
    ≡ (((s -ℤ pos p) -ℤ pos q) +ℤ pos ((b * (m + 1)) * (b * (m + 1)))) +ℤ (pos b *ℤ ((k -ℤ pos (b * (m + 1))) +ℤ (k -ℤ pos (b * m))))
go_line k s b p q m = ring (k ∷ s ∷ pos b ∷ pos p ∷ pos q ∷ pos m ∷ [])
    (((((((num (pos 2) ⊗ at 0) ⊗ num (pos 1)) ⊗ at 2) ⊕ at 1) ⊖ at 3) ⊖ at 4) ⊕ ((at 2 ⊗ at 5) ⊗ (at 2 ⊗ at 5)))
    ((((at 1 ⊖ at 3) ⊖ at 4) ⊕ ((at 2 ⊗ (at 5 ⊕ num (pos 1))) ⊗ (at 2 ⊗ (at 5 ⊕ num (pos 1))))) ⊕ (at 2 ⊗ ((at 0 ⊖ (at 2 ⊗ (at 5 ⊕ num (pos 1)))) ⊕ (at 0 ⊖ (at 2 ⊗ at 5)))))
    refl

end_line : (k s : ℤ) (b p q : ℕ) → (((((((pos 2 *ℤ k) *ℤ pos 1) *ℤ pos b) +ℤ s) -ℤ pos p) -ℤ pos q) +ℤ pos (0 * 0))
    ≡ (((s -ℤ pos p) -ℤ pos q) +ℤ pos (0 * 0)) +ℤ (pos b *ℤ ((k -ℤ pos 0) +ℤ (k -ℤ pos 0)))
end_line k s b p q = ring (k ∷ s ∷ pos b ∷ pos p ∷ pos q ∷ [])
    (((((((num (pos 2) ⊗ at 0) ⊗ num (pos 1)) ⊗ at 2) ⊕ at 1) ⊖ at 3) ⊖ at 4) ⊕ num (pos 0))
    ((((at 1 ⊖ at 3) ⊖ at 4) ⊕ num (pos 0)) ⊕ (at 2 ⊗ ((at 0 ⊖ num (pos 0)) ⊕ (at 0 ⊖ num (pos 0)))))
    refl

module _ (k : ℤ) (b n g i : ℕ) where
  abbrev Steps : Type 0
  Steps = (((steady k (i + 1) b -ℤ pos ((b * n + b * n) * (b * min (i + 1) g))) -ℤ pos ((b * n) * (b * n))) +ℤ pos (sq (b * n - b * ((i + 1) - g))))
      ≡ (((steady k i b -ℤ pos ((b * n + b * n) * (b * min i g))) -ℤ pos ((b * n) * (b * n))) +ℤ pos (sq (b * n - b * (i - g)))) +ℤ (pos b *ℤ ((k -ℤ pos (left b n g i)) +ℤ (k -ℤ pos (left b n g (i + 1)))))

  holds : i < g → Steps
  holds h =
      let e : min (i + 1) g ≡ i + 1 = omega arith in
      let e' : min i g ≡ i = omega arith in
      let f : (i + 1) - g ≡ 0 = omega arith in
      let f' : i - g ≡ 0 = omega arith in
      let l : n - 0 ≡ n = omega arith in
      rw (e, e', f, f', l, steady-add k i 1 b) (hold_line k (steady k i b) b (b * n) i (sq (b * n - b * 0)))

  before : (j m : ℕ) → i ≡ g + j → n ≡ j + (m + 1) → Steps
  before j m d c =
      let e : min (i + 1) g ≡ g = omega arith in
      let e' : min i g ≡ g = omega arith in
      let f : (i + 1) - g ≡ j + 1 = omega arith in
      let f' : i - g ≡ j = omega arith in
      let l : n - j ≡ m + 1 = omega arith in
      let l' : n - (j + 1) ≡ m = omega arith in
      let w : b * n - b * j ≡ b * (m + 1) = rw c (omega arith) in
      let w' : b * n - b * (j + 1) ≡ b * m = rw c (omega arith) in
      rw (e, e', f, f', l, l', w, w', steady-add k i 1 b) (go_line k (steady k i b) b ((b * n + b * n) * (b * g)) ((b * n) * (b * n)) m)

  after : (j m : ℕ) → i ≡ g + j → j ≡ n + m → Steps
  after j m d c =
      let e : min (i + 1) g ≡ g = omega arith in
      let e' : min i g ≡ g = omega arith in
      let f : (i + 1) - g ≡ j + 1 = omega arith in
      let f' : i - g ≡ j = omega arith in
      let l : n - j ≡ 0 = omega arith in
      let l' : n - (j + 1) ≡ 0 = omega arith in
      let z : b * 0 ≡ 0 = omega arith in
      let w : b * n - b * j ≡ 0 = rw c (omega arith) in
      let w' : b * n - b * (j + 1) ≡ 0 = rw c (omega arith) in
      rw (e, e', f, f', l, l', w, w', z, steady-add k i 1 b) (end_line k (steady k i b) b ((b * n + b * n) * (b * g)) ((b * n) * (b * n)))

  steps : Steps
  steps = ⊎_elim
      (λ (h : i < g). holds h)
      (λ (h : g ≤ i). ⊎_elim
      (λ (l : i - g < n). before (i - g) (n - (i - g) - 1) (omega arith) (omega arith))
      (λ (l : n ≤ i - g). after (i - g) (i - g - n) (omega arith) (omega arith))
      (cases_lt (i - g) n))
      (cases_lt i g)

pub step_below : (k : ℤ) (b n g i : ℕ) → held (k -ℤ pos (b * n)) k b g (i + 1) ≡ held (k -ℤ pos (b * n)) k b g i +ℤ (pos b *ℤ ((k -ℤ pos (left b n g i)) +ℤ (k -ℤ pos (left b n g (i + 1)))))
step_below k b n g i = held_below k (b * n) b g (i + 1) ∙ steps k b n g i
    ∙ ap (λ z. z +ℤ (pos b *ℤ ((k -ℤ pos (left b n g i)) +ℤ (k -ℤ pos (left b n g (i + 1)))))) (sym (held_below k (b * n) b g i))

pub step_above : (k : ℤ) (b n g i : ℕ) → held (k +ℤ pos (b * n)) k b g (i + 1) ≡ held (k +ℤ pos (b * n)) k b g i +ℤ (pos b *ℤ ((k +ℤ pos (left b n g i)) +ℤ (k +ℤ pos (left b n g (i + 1)))))
step_above k b n g i =
    line (held (k +ℤ pos (b * n)) k b g (i + 1)) (held (k +ℤ pos (b * n)) k b g i) (pos b *ℤ ((k +ℤ pos (left b n g i)) +ℤ (k +ℤ pos (left b n g (i + 1))))) (turned k (b * n) b g (i + 1)) (turned k (b * n) b g i) (step_below (neg_ℤ k) b n g i) (rates (left b n g i) (left b n g (i + 1)))
  where
    rates : (l l' : ℕ) → pos b *ℤ ((neg_ℤ k -ℤ pos l) +ℤ (neg_ℤ k -ℤ pos l')) ≡ neg_ℤ (pos b *ℤ ((k +ℤ pos l) +ℤ (k +ℤ pos l')))
    rates l l' = let e : (neg_ℤ k -ℤ pos l) +ℤ (neg_ℤ k -ℤ pos l') ≡ neg_ℤ ((k +ℤ pos l) +ℤ (k +ℤ pos l')) = omega (arith, ints) in rw e (mul-neg_ℤ (pos b) ((k +ℤ pos l) +ℤ (k +ℤ pos l')))

    line : (h h' d' : ℤ) {n n' d : ℤ} → n ≡ neg_ℤ h → n' ≡ neg_ℤ h' → n ≡ n' +ℤ d → d ≡ neg_ℤ d' → h ≡ h' +ℤ d'
    line h h' d' e f g i = omega (arith, ints)
