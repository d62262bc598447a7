-- The parts of a response over a common denominator.
use Rattle.std.proofs.Common.{◌≡◌, ◌≢◌, ℕ, ◌-◌, ◌*◌, ◌<◌, ◌≤◌, ◌⊎◌, ⊎_elim, refl, ap, ap₂, sym, ◌∙◌, arith, true, false, cond, [], ◌∷◌, ℤ, pos, neg_ℤ, ◌-ℤ◌, ◌*ℤ◌, ◌≤ℤ◌, ◌<ℤ◌, unsigned_abs, int_le, mul-pos}
use Rattle.std.proofs.lemmas.Int.{ints, unsigned_abs-mul}
use Rattle.std.proofs.lemmas.Bool.{cases_lt}
use Rattle.acas_frac.proofs.SignedProducts.{mul-le_ℤ, mul-lt_ℤ, le-from_mul_ℤ, lt-from_mul_ℤ}
use Rattle.acas_frac.proofs.IntRing.{at, num, ◌⊖◌, ◌⊗◌, ring, mul_swapped_ℤ, zero-sub_ℤ}
use Rattle.acas_areas.proofs.Finer.{IsOver-finer}
use Rattle.acas_flight_lemmas.proofs.Scales.{cancel_left, pos_inj}
use Rattle.acas_flight_lemmas.proofs.Numbers.{test_true, strictly}
use Rattle.acas_frac.specs.Fraction.{Fraction, whole_of}
use Rattle.acas_flight.specs.Values.{IsOver}
use Rattle.acas_witness_plans.specs.Bends.{IsBend, IsDifference}
use lib.IntN.{*ℤ_comm}

-- ---- orders

module _ (n : ℕ) (i j : ℤ) (f g : Fraction) (p : 0 < n) (pf : 0 < f.den) (pg : 0 < g.den) (oi : IsOver n i f) (oj : IsOver n j g) where
  left : pos n *ℤ (f.num *ℤ pos g.den) ≡ pos (f.den * g.den) *ℤ i
  left = ring (pos n ∷ f.num ∷ pos g.den ∷ []) (at 0 ⊗ (at 1 ⊗ at 2)) ((at 1 ⊗ at 0) ⊗ at 2) refl ∙ ap (λ z. z *ℤ pos g.den) (sym oi)
      ∙ ring (i ∷ pos f.den ∷ pos g.den ∷ []) ((at 0 ⊗ at 1) ⊗ at 2) ((at 1 ⊗ at 2) ⊗ at 0) refl

  right : pos n *ℤ (g.num *ℤ pos f.den) ≡ pos (f.den * g.den) *ℤ j
  right = ring (pos n ∷ g.num ∷ pos f.den ∷ []) (at 0 ⊗ (at 1 ⊗ at 2)) ((at 1 ⊗ at 0) ⊗ at 2) refl ∙ ap (λ z. z *ℤ pos f.den) (sym oj)
      ∙ ring (j ∷ pos f.den ∷ pos g.den ∷ []) ((at 0 ⊗ at 2) ⊗ at 1) ((at 1 ⊗ at 2) ⊗ at 0) refl

  pub le_of : (f.num *ℤ pos g.den) ≤ℤ (g.num *ℤ pos f.den) → i ≤ℤ j
  le_of h = le-from_mul_ℤ (f.den * g.den) i j (mul-pos pf pg) (rw (← left, ← right) (mul-le_ℤ n (f.num *ℤ pos g.den) (g.num *ℤ pos f.den) h))

  pub lt_of : (g.num *ℤ pos f.den) <ℤ (f.num *ℤ pos g.den) → j <ℤ i
  lt_of h = lt-from_mul_ℤ (f.den * g.den) j i (rw (← left, ← right) (mul-lt_ℤ n (g.num *ℤ pos f.den) (f.num *ℤ pos g.den) p h))

is_le : (a b : ℤ) → a ≤ℤ b → int_le a b ≡ true
is_le a b h = let e : true ≡ int_le a b = omega (arith, ints) in sym e

is_gt : (a b : ℤ) → b <ℤ a → int_le a b ≡ false
is_gt a b h = let e : false ≡ int_le a b = omega (arith, ints) in sym e

pub lt_ℕ : (i j : ℕ) → pos i <ℤ pos j → i < j
lt_ℕ i j h = omega (arith, ints)

-- ---- nothing and something

pub none_of : (n t : ℕ) (f : Fraction) → 0 < f.den → IsOver n (pos t) f → f.num ≡ pos 0 → t ≡ 0
none_of n t f p o e = pos_inj t 0 (cancel_left f.den (pos t) (pos 0) p (*ℤ_comm (pos f.den) (pos t) ∙ o ∙ ap (λ z. z *ℤ pos n) e ∙ ring (pos n ∷ pos f.den ∷ []) (num (pos 0) ⊗ at 0) (at 1 ⊗ num (pos 0)) refl))

pub some_of : (n t : ℕ) (f : Fraction) → 0 < n → IsOver n (pos t) f → f.num ≢ pos 0 → 0 < t
some_of n t f p o d = ⊎_elim (λ (l : 0 < t). l) (λ (l : t ≤ 0). absurd (d (zero (omega arith)))) (cases (0) t)
  where
    zero : t ≡ 0 → f.num ≡ pos 0
    zero e = cancel_left n f.num (pos 0) p (*ℤ_comm (pos n) f.num ∙ sym o ∙ ap (λ z. pos z *ℤ pos f.den) e ∙ ring (pos n ∷ pos f.den ∷ []) (num (pos 0) ⊗ at 1) (at 0 ⊗ num (pos 0)) refl)

    cases : (a b : ℕ) → (a < b) ⊎ (b ≤ a)
    cases a b = cases_lt a b

pub none_over : (n : ℕ) (f : Fraction) → f ≡ whole_of (pos 0) → IsOver n (pos 0) f
none_over n f e = rw e (ring (pos n ∷ []) (num (pos 0) ⊗ num (pos 1)) (num (pos 0) ⊗ at 0) refl)

-- ---- the bend

pub bend_over : (v k b y : Fraction) (q : ℕ) (vn kn : ℤ) (bn : ℕ) → 0 < v.den → 0 < k.den → 0 < b.den → pos 0 ≤ℤ b.num → IsOver (q * q) vn v → IsOver (q * q) kn k → IsOver q (pos bn) b → IsBend v k b y →
    IsOver (q * (q * bn)) (pos (unsigned_abs (kn -ℤ vn) * q)) y
bend_over v k b y q vn kn bn pv pk pb hb ov ok ob is =
    cancel_left (v.den * k.den * b.den) (pos ((unsigned_abs (kn -ℤ vn) * q) * y.den)) (y.num *ℤ pos (q * (q * bn))) (mul-pos (mul-pos pv pk) pb)
    (one (unsigned_abs (kn -ℤ vn)) q y.den v.den k.den b.den ∙ ap (λ z. pos z *ℤ pos (q * y.den * b.den)) ways
    ∙ two (unsigned_abs ((k.num *ℤ pos v.den) -ℤ (v.num *ℤ pos k.den))) q y.den b.den ∙ ap (λ z. z *ℤ pos (q * q * q)) (sym is.over)
    ∙ three y.num v.den k.den (unsigned_abs b.num) q ∙ ap (λ z. (y.num *ℤ pos (v.den * k.den * (q * q))) *ℤ pos z) (sym pulls)
    ∙ four y.num v.den k.den b.den q bn)
  where
    ways : unsigned_abs (kn -ℤ vn) * (v.den * k.den) ≡ unsigned_abs ((k.num *ℤ pos v.den) -ℤ (v.num *ℤ pos k.den)) * (q * q)
    ways =
        sym (unsigned_abs-mul (kn -ℤ vn) (pos (v.den * k.den)))
        ∙ ap unsigned_abs (split kn vn v.den k.den ∙ ap₂ (λ (a b : ℤ). (a *ℤ pos v.den) -ℤ (b *ℤ pos k.den)) ok ov ∙ gather k.num v.num v.den k.den q)
        ∙ unsigned_abs-mul ((k.num *ℤ pos v.den) -ℤ (v.num *ℤ pos k.den)) (pos (q * q))
      where
        split : (kn vn : ℤ) (m n : ℕ) → (kn -ℤ vn) *ℤ pos (m * n) ≡ ((kn *ℤ pos n) *ℤ pos m) -ℤ ((vn *ℤ pos m) *ℤ pos n)
        split kn vn m n = ring (kn ∷ vn ∷ pos m ∷ pos n ∷ []) ((at 0 ⊖ at 1) ⊗ (at 2 ⊗ at 3)) (((at 0 ⊗ at 3) ⊗ at 2) ⊖ ((at 1 ⊗ at 2) ⊗ at 3)) refl

        gather : (a b : ℤ) (m n q : ℕ) → ((a *ℤ pos (q * q)) *ℤ pos m) -ℤ ((b *ℤ pos (q * q)) *ℤ pos n) ≡ ((a *ℤ pos m) -ℤ (b *ℤ pos n)) *ℤ pos (q * q)
        gather a b m n q = ring (a ∷ b ∷ pos m ∷ pos n ∷ pos q ∷ []) (((at 0 ⊗ (at 4 ⊗ at 4)) ⊗ at 2) ⊖ ((at 1 ⊗ (at 4 ⊗ at 4)) ⊗ at 3)) (((at 0 ⊗ at 2) ⊖ (at 1 ⊗ at 3)) ⊗ (at 4 ⊗ at 4)) refl

    pulls : bn * b.den ≡ unsigned_abs b.num * q
    pulls = pos_inj (bn * b.den) (unsigned_abs b.num * q) (ob ∙ ap (λ z. z *ℤ pos q) (plain b.num hb))
      where
        plain : (z : ℤ) → pos 0 ≤ℤ z → z ≡ pos (unsigned_abs z)
        plain z h = omega (arith, ints)

    one : (a q y m n d : ℕ) → pos (m * n * d) *ℤ pos ((a * q) * y) ≡ pos (a * (m * n)) *ℤ pos (q * y * d)
    one a q y m n d = ring (pos a ∷ pos q ∷ pos y ∷ pos m ∷ pos n ∷ pos d ∷ []) (((at 3 ⊗ at 4) ⊗ at 5) ⊗ ((at 0 ⊗ at 1) ⊗ at 2)) ((at 0 ⊗ (at 3 ⊗ at 4)) ⊗ ((at 1 ⊗ at 2) ⊗ at 5)) refl

    two : (w q y d : ℕ) → pos (w * (q * q)) *ℤ pos (q * y * d) ≡ (pos (w * d) *ℤ pos y) *ℤ pos (q * q * q)
    two w q y d = ring (pos w ∷ pos q ∷ pos y ∷ pos d ∷ []) ((at 0 ⊗ (at 1 ⊗ at 1)) ⊗ ((at 1 ⊗ at 2) ⊗ at 3)) (((at 0 ⊗ at 3) ⊗ at 2) ⊗ ((at 1 ⊗ at 1) ⊗ at 1)) refl

    three : (y : ℤ) (m n c q : ℕ) → (y *ℤ pos (m * n * c)) *ℤ pos (q * q * q) ≡ (y *ℤ pos (m * n * (q * q))) *ℤ pos (c * q)
    three y m n c q = ring (y ∷ pos m ∷ pos n ∷ pos c ∷ pos q ∷ []) ((at 0 ⊗ ((at 1 ⊗ at 2) ⊗ at 3)) ⊗ ((at 4 ⊗ at 4) ⊗ at 4)) ((at 0 ⊗ ((at 1 ⊗ at 2) ⊗ (at 4 ⊗ at 4))) ⊗ (at 3 ⊗ at 4)) refl

    four : (y : ℤ) (m n d q b : ℕ) → (y *ℤ pos (m * n * (q * q))) *ℤ pos (b * d) ≡ pos (m * n * d) *ℤ (y *ℤ pos (q * (q * b)))
    four y m n d q b = ring (y ∷ pos m ∷ pos n ∷ pos d ∷ pos q ∷ pos b ∷ []) ((at 0 ⊗ ((at 1 ⊗ at 2) ⊗ (at 4 ⊗ at 4))) ⊗ (at 5 ⊗ at 3)) (((at 1 ⊗ at 2) ⊗ at 3) ⊗ (at 0 ⊗ (at 4 ⊗ (at 4 ⊗ at 5)))) refl

-- ---- differences and accelerations

pub difference_over : (f g r : Fraction) (n i j : ℕ) → 0 < f.den → 0 < g.den → IsOver n (pos i) f → IsOver n (pos j) g → j ≤ i → IsDifference f g r → IsOver n (pos (i - j)) r
difference_over f g r n i j pf pg oi oj h is =
    cancel_left (f.den * g.den) (pos ((i - j) * r.den)) (r.num *ℤ pos n) (mul-pos pf pg)
    (ap (λ z. pos (f.den * g.den) *ℤ (z *ℤ pos r.den)) (apart i j h) ∙ one (pos i) (pos j) f.den g.den r.den
    ∙ ap₂ (λ (a b : ℤ). ((a *ℤ pos g.den) -ℤ (b *ℤ pos f.den)) *ℤ pos r.den) oi oj ∙ two f.num g.num f.den g.den r.den n ∙ ap (λ z. z *ℤ pos n) (sym is.over) ∙ three r.num f.den g.den n)
  where
    apart : (i j : ℕ) → j ≤ i → pos (i - j) ≡ pos i -ℤ pos j
    apart i j h = omega (arith, ints)

    one : (a b : ℤ) (m n d : ℕ) → pos (m * n) *ℤ ((a -ℤ b) *ℤ pos d) ≡ (((a *ℤ pos m) *ℤ pos n) -ℤ ((b *ℤ pos n) *ℤ pos m)) *ℤ pos d
    one a b m n d = ring (a ∷ b ∷ pos m ∷ pos n ∷ pos d ∷ []) ((at 2 ⊗ at 3) ⊗ ((at 0 ⊖ at 1) ⊗ at 4)) ((((at 0 ⊗ at 2) ⊗ at 3) ⊖ ((at 1 ⊗ at 3) ⊗ at 2)) ⊗ at 4) refl

    two : (a b : ℤ) (m n d q : ℕ) → (((a *ℤ pos q) *ℤ pos n) -ℤ ((b *ℤ pos q) *ℤ pos m)) *ℤ pos d ≡ (((a *ℤ pos n) -ℤ (b *ℤ pos m)) *ℤ pos d) *ℤ pos q
    two a b m n d q = ring (a ∷ b ∷ pos m ∷ pos n ∷ pos d ∷ pos q ∷ []) ((((at 0 ⊗ at 5) ⊗ at 3) ⊖ ((at 1 ⊗ at 5) ⊗ at 2)) ⊗ at 4) ((((at 0 ⊗ at 3) ⊖ (at 1 ⊗ at 2)) ⊗ at 4) ⊗ at 5) refl

    three : (r : ℤ) (m n q : ℕ) → (r *ℤ pos (m * n)) *ℤ pos q ≡ pos (m * n) *ℤ (r *ℤ pos q)
    three r m n q = ring (r ∷ pos m ∷ pos n ∷ pos q ∷ []) ((at 0 ⊗ (at 1 ⊗ at 2)) ⊗ at 3) ((at 1 ⊗ at 2) ⊗ (at 0 ⊗ at 3)) refl

minus_over : (f r : Fraction) (n : ℕ) (i : ℤ) → 0 < f.den → IsOver n i f → r.num *ℤ pos f.den ≡ neg_ℤ f.num *ℤ pos r.den → IsOver n (neg_ℤ i) r
minus_over f r n i p o e =
    cancel_left f.den (neg_ℤ i *ℤ pos r.den) (r.num *ℤ pos n) p
    (rw (← zero-sub_ℤ i) (one i f.den r.den) ∙ ap (λ z. (pos 0 -ℤ z) *ℤ pos r.den) o ∙ two f.num n r.den ∙ ap (λ z. z *ℤ pos n) (rw (zero-sub_ℤ f.num) (sym e)) ∙ mul_swapped_ℤ r.num (pos f.den) (pos n))
  where
    one : (i : ℤ) (m d : ℕ) → pos m *ℤ ((pos 0 -ℤ i) *ℤ pos d) ≡ (pos 0 -ℤ (i *ℤ pos m)) *ℤ pos d
    one i m d = ring (i ∷ pos m ∷ pos d ∷ []) (at 1 ⊗ ((num (pos 0) ⊖ at 0) ⊗ at 2)) ((num (pos 0) ⊖ (at 0 ⊗ at 1)) ⊗ at 2) refl

    two : (a : ℤ) (n d : ℕ) → (pos 0 -ℤ (a *ℤ pos n)) *ℤ pos d ≡ ((pos 0 -ℤ a) *ℤ pos d) *ℤ pos n
    two a n d = ring (a ∷ pos n ∷ pos d ∷ []) ((num (pos 0) ⊖ (at 0 ⊗ at 1)) ⊗ at 2) (((num (pos 0) ⊖ at 0) ⊗ at 2) ⊗ at 1) refl

pub up_over : (q : ℕ) (v k : ℤ) (b : ℕ) (f g p : Fraction) → 0 < q * q → 0 < f.den → 0 < g.den → IsOver (q * q) v f → IsOver (q * q) k g → IsOver q (pos b) p → int_le (f.num *ℤ pos g.den) (g.num *ℤ pos f.den) ≡ true →
    IsOver (q * (q * b)) (cond (int_le v k) (pos (b * (q * b))) (neg_ℤ (pos (b * (q * b))))) p
up_over q v k b f g p sq pf pg ov ok op t = rw (is_le v k (le_of (q * q) v k f g sq pf pg ov ok (test_true _ _ t))) (IsOver-finer p q (q * b) (pos b) op)

pub down_over : (q : ℕ) (v k : ℤ) (b : ℕ) (f g p r : Fraction) → 0 < q * q → 0 < f.den → 0 < g.den → 0 < p.den → IsOver (q * q) v f → IsOver (q * q) k g → IsOver q (pos b) p → int_le (f.num *ℤ pos g.den) (g.num *ℤ pos f.den) ≡ false →
    r.num *ℤ pos p.den ≡ neg_ℤ p.num *ℤ pos r.den → IsOver (q * (q * b)) (cond (int_le v k) (pos (b * (q * b))) (neg_ℤ (pos (b * (q * b))))) r
down_over q v k b f g p r sq pf pg pp ov ok op t e = rw (is_gt v k (lt_of (q * q) v k f g sq pf pg ov ok (strictly _ _ t))) (minus_over p r (q * (q * b)) (pos (b * (q * b))) pp (IsOver-finer p q (q * b) (pos b) op) e)
