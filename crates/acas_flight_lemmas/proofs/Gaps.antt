-- Gaps from whole numbers; the borders of a box; clear boxes by their extremes.
use Rattle.std.proofs.Common.{◌≡◌, ℕ, ◌*◌, ◌<◌, ⊎_elim, refl, sym, ap, ap₂, ◌∙◌, arith, Bool, true, false, cond, [], ◌∷◌, ℤ, pos, neg_ℤ, ◌+ℤ◌, ◌-ℤ◌, ◌*ℤ◌, ◌≤ℤ◌, ◌<ℤ◌, int_lt, mul-pos}
use Rattle.std.proofs.lemmas.Int.{ints}
use Rattle.std.proofs.Math.Nat.{mul-lt-mul_of_pos_right}
use lib.IntN.{*ℤ_comm}
use Rattle.acas_frac.proofs.SignedProducts.{mul-le_ℤ, mul-lt_ℤ, neg-mul_ℤ, le-from_mul_ℤ, lt-from_mul_ℤ}
use Rattle.acas_frac.proofs.IntRing.{at, num, ◌⊕◌, ◌⊖◌, ◌⊗◌, ring, mul_swapped_ℤ, sub-mul_ℤ, zero-sub_ℤ}
use Rattle.acas_frac.proofs.Orders.{cases_lt_ℤ, neg-lt_ℤ}
use Rattle.acas_flight.proofs.Between.{test_lt, test_ge}
use Rattle.acas_flight_lemmas.proofs.Scales.{cancel_left, pos_inj}
use Rattle.acas_flight_lemmas.proofs.Held.{held-scaled}
use Rattle.acas_flight_lemmas.proofs.Mirror.{turned_held}
use Rattle.acas_flight.specs.Response.{Demand, scaled}
use Rattle.acas_flight.specs.Contact.{vertical_separation}
use Rattle.acas_flight.specs.Curves.{held, low_pull, low_hold, high_pull, high_hold}
use Rattle.acas_flight.specs.Window.{Times, IsDuring}
use Rattle.acas_flight.specs.Clear.{Area, low_pull_of, high_pull_of, least_gap, greatest_gap}
use Rattle.acas_flight.specs.Values.{negated, IsOver}
use Rattle.acas_flight.specs.Border.{Border, border_gap, IsGapAt, IsLeastGap, low_border_of, high_border_of, gap_number}
use Rattle.acas_flight.specs.Extremes.{IsLowExtreme, IsHighExtreme, IsLowGapAt, IsHighGapAt}
use Rattle.acas_frac.specs.Fraction.{Fraction, IsReduced}

module _ (s : Border) (d n q t : ℕ) (e : t * d ≡ n * q) where
  climbs : held (s.start *ℤ pos (q * q)) (s.aim *ℤ pos (q * q)) (s.pull * q) (s.hold * q) t *ℤ pos ((d * d) * (d * d))
      ≡ held (s.start *ℤ pos d) (s.aim *ℤ pos d) s.pull (s.hold * d) n *ℤ pos (((q * d) * q) * ((q * d) * q))
  climbs =
      sym (held-scaled (s.start *ℤ pos (q * q)) (s.aim *ℤ pos (q * q)) (s.pull * q) (s.hold * q) t d d)
      ∙ ap₂ (λ (v k : ℤ). held v k ((s.pull * q) * d) ((s.hold * q) * d) (t * d)) (turn s.start) (turn s.aim)
      ∙ ap₂ (λ (b g : ℕ). held ((s.start *ℤ pos d) *ℤ pos ((q * d) * q)) ((s.aim *ℤ pos d) *ℤ pos ((q * d) * q)) b g (t * d)) pulls holds
      ∙ ap (λ (m : ℕ). held ((s.start *ℤ pos d) *ℤ pos ((q * d) * q)) ((s.aim *ℤ pos d) *ℤ pos ((q * d) * q)) (s.pull * (q * d)) ((s.hold * d) * q) m) e
      ∙ held-scaled (s.start *ℤ pos d) (s.aim *ℤ pos d) s.pull (s.hold * d) n (q * d) q
    where
      turn : (v : ℤ) → (v *ℤ pos (q * q)) *ℤ pos (d * d) ≡ (v *ℤ pos d) *ℤ pos ((q * d) * q)
      turn v = ring (v ∷ pos q ∷ pos d ∷ []) ((at 0 ⊗ (at 1 ⊗ at 1)) ⊗ (at 2 ⊗ at 2)) ((at 0 ⊗ at 2) ⊗ ((at 1 ⊗ at 2) ⊗ at 1)) refl

      pulls : (s.pull * q) * d ≡ s.pull * (q * d)
      pulls = omega arith

      holds : (s.hold * q) * d ≡ (s.hold * d) * q
      holds = omega arith

  lines : (pos (s.pull * q) *ℤ vertical_separation q (s.height *ℤ pos q) (s.rate *ℤ pos q) t (pos 0)) *ℤ pos ((d * d) * (d * d))
      ≡ (((s.height *ℤ pos d) +ℤ ((pos 2 *ℤ s.rate) *ℤ pos n)) *ℤ pos (d * s.pull)) *ℤ pos (((q * d) * q) * ((q * d) * q))
  lines =
      ring (pos s.pull ∷ pos q ∷ s.height ∷ s.rate ∷ pos t ∷ pos d ∷ [])
      (((at 0 ⊗ at 1) ⊗ ((((at 2 ⊗ at 1) ⊗ (at 1 ⊗ at 1)) ⊕ (((num (pos 2) ⊗ (at 3 ⊗ at 1)) ⊗ at 4) ⊗ at 1)) ⊖ num (pos 0))) ⊗ ((at 5 ⊗ at 5) ⊗ (at 5 ⊗ at 5)))
      ((((at 0 ⊗ at 2) ⊗ ((at 1 ⊗ at 1) ⊗ (at 1 ⊗ at 1))) ⊗ ((at 5 ⊗ at 5) ⊗ (at 5 ⊗ at 5))) ⊕ ((((num (pos 2) ⊗ at 0) ⊗ at 3) ⊗ ((at 1 ⊗ at 1) ⊗ at 1)) ⊗ ((at 5 ⊗ at 5) ⊗ at 5)) ⊗ (at 4 ⊗ at 5))
      refl
      ∙ ap (λ (m : ℕ). (((pos s.pull *ℤ s.height) *ℤ ((pos q *ℤ pos q) *ℤ (pos q *ℤ pos q))) *ℤ ((pos d *ℤ pos d) *ℤ (pos d *ℤ pos d))) +ℤ (((((pos 2 *ℤ pos s.pull) *ℤ s.rate) *ℤ ((pos q *ℤ pos q) *ℤ pos q)) *ℤ ((pos d *ℤ pos d) *ℤ pos d)) *ℤ pos m)) e
      ∙ ring (pos s.pull ∷ pos q ∷ s.height ∷ s.rate ∷ pos n ∷ pos d ∷ [])
      ((((at 0 ⊗ at 2) ⊗ ((at 1 ⊗ at 1) ⊗ (at 1 ⊗ at 1))) ⊗ ((at 5 ⊗ at 5) ⊗ (at 5 ⊗ at 5))) ⊕ ((((num (pos 2) ⊗ at 0) ⊗ at 3) ⊗ ((at 1 ⊗ at 1) ⊗ at 1)) ⊗ ((at 5 ⊗ at 5) ⊗ at 5)) ⊗ (at 4 ⊗ at 1))
      ((((at 2 ⊗ at 5) ⊕ ((num (pos 2) ⊗ at 3) ⊗ at 4)) ⊗ (at 5 ⊗ at 0)) ⊗ (((at 1 ⊗ at 5) ⊗ at 1) ⊗ ((at 1 ⊗ at 5) ⊗ at 1)))
      refl

  gaps : border_gap s q t *ℤ pos ((d * d) * (d * d)) ≡ gap_number s d n *ℤ pos (((q * d) * q) * ((q * d) * q))
  gaps = sub-mul_ℤ (held (s.start *ℤ pos (q * q)) (s.aim *ℤ pos (q * q)) (s.pull * q) (s.hold * q) t) (pos (s.pull * q) *ℤ vertical_separation q (s.height *ℤ pos q) (s.rate *ℤ pos q) t (pos 0)) (pos ((d * d) * (d * d)))
      ∙ ap₂ (λ (a b : ℤ). a -ℤ b) climbs lines
      ∙ sym (sub-mul_ℤ (held (s.start *ℤ pos d) (s.aim *ℤ pos d) s.pull (s.hold * d) n) (((s.height *ℤ pos d) +ℤ ((pos 2 *ℤ s.rate) *ℤ pos n)) *ℤ pos (d * s.pull)) (pos (((q * d) * q) * ((q * d) * q))))

-- A fraction whose value is the gap number over d*d and the pull is the gap.
pub IsGapAt-of : (s : Border) (time y : Fraction) (n : ℕ) → time.num ≡ pos n → 0 < time.den → y.num *ℤ pos (time.den * time.den * s.pull) ≡ gap_number s time.den n *ℤ pos y.den → IsGapAt s time y
IsGapAt-of s time y n en sd e = record { over = λ q t p it. at_q q t p (pos_inj (t * time.den) (n * q) (it ∙ ap (λ z. z *ℤ pos q) en)) }
  where
    at_q : (q t : ℕ) → 0 < q → t * time.den ≡ n * q → y.num *ℤ pos (q * q * q * (s.pull * q)) ≡ border_gap s q t *ℤ pos y.den
    at_q q t p f =
        cancel_left ((time.den * time.den) * (time.den * time.den)) (y.num *ℤ pos (q * q * q * (s.pull * q))) (border_gap s q t *ℤ pos y.den) (mul-pos (mul-pos sd sd) (mul-pos sd sd))
        (ring (pos time.den ∷ y.num ∷ pos q ∷ pos s.pull ∷ [])
        (((at 0 ⊗ at 0) ⊗ (at 0 ⊗ at 0)) ⊗ (at 1 ⊗ (((at 2 ⊗ at 2) ⊗ at 2) ⊗ (at 3 ⊗ at 2))))
        ((at 1 ⊗ ((at 0 ⊗ at 0) ⊗ at 3)) ⊗ (((at 2 ⊗ at 0) ⊗ at 2) ⊗ ((at 2 ⊗ at 0) ⊗ at 2)))
        refl
        ∙ ap (λ z. z *ℤ pos (((q * time.den) * q) * ((q * time.den) * q))) e
        ∙ swap (gap_number s time.den n) (pos y.den) (pos (((q * time.den) * q) * ((q * time.den) * q)))
        ∙ ap (λ z. z *ℤ pos y.den) (sym (gaps s time.den n q t f))
        ∙ mul_swapped_ℤ (border_gap s q t) (pos ((time.den * time.den) * (time.den * time.den))) (pos y.den))
      where
        swap : (a b c : ℤ) → (a *ℤ b) *ℤ c ≡ (a *ℤ c) *ℤ b
        swap a b c = ring (a ∷ b ∷ c ∷ []) ((at 0 ⊗ at 1) ⊗ at 2) ((at 0 ⊗ at 2) ⊗ at 1) refl

-- ---- the borders of a box

pub test_scaled : (a b : ℤ) (n : ℕ) → 0 < n → int_lt (a *ℤ pos n) (b *ℤ pos n) ≡ int_lt a b
test_scaled a b n p =
    ⊎_elim
    (λ h. test_lt (a *ℤ pos n) (b *ℤ pos n) (rw (*ℤ_comm a (pos n), *ℤ_comm b (pos n)) (mul-lt_ℤ n a b p h)) ∙ sym (test_lt a b h))
    (λ h. test_ge (a *ℤ pos n) (b *ℤ pos n) (rw (*ℤ_comm a (pos n), *ℤ_comm b (pos n)) (mul-le_ℤ n b a h)) ∙ sym (test_ge a b h))
    (cases_lt_ℤ a b)

pub cond_times : (t : Bool) (a b q : ℕ) → cond t (a * q) (b * q) ≡ cond t a b * q
cond_times true a b q = refl
cond_times false a b q = refl

pub cond_none : (t : Bool) (a q : ℕ) → cond t (a * q) 0 ≡ cond t a 0 * q
cond_none true a q = refl
cond_none false a q = omega arith

-- the pull and the hold of a curve from v, over q
module _ (a : Demand) (v : ℤ) (q : ℕ) (p : 0 < q) where
  low_test : int_lt (v *ℤ pos (q * q)) (a.lo *ℤ pos (q * q)) ≡ int_lt v a.lo
  low_test = test_scaled v a.lo (q * q) (mul-pos p p)

  pub low_pull-over : low_pull (scaled q a) (v *ℤ pos (q * q)) ≡ low_pull a v * q
  low_pull-over = ap (λ t. cond t (a.pull * q) (a.limit * q)) low_test ∙ cond_times (int_lt v a.lo) a.pull a.limit q

  pub low_hold-over : low_hold (scaled q a) (v *ℤ pos (q * q)) ≡ low_hold a v * q
  low_hold-over = ap (λ t. cond t (a.delay * q) 0) low_test ∙ cond_none (int_lt v a.lo) a.delay q

  high_test : int_lt (a.hi *ℤ pos (q * q)) (v *ℤ pos (q * q)) ≡ int_lt a.hi v
  high_test = test_scaled a.hi v (q * q) (mul-pos p p)

  pub high_pull-over : high_pull (scaled q a) (v *ℤ pos (q * q)) ≡ high_pull a v * q
  high_pull-over = ap (λ t. cond t (a.pull * q) (a.limit * q)) high_test ∙ cond_times (int_lt a.hi v) a.pull a.limit q

  pub high_hold-over : high_hold (scaled q a) (v *ℤ pos (q * q)) ≡ high_hold a v * q
  high_hold-over = ap (λ t. cond t (a.delay * q) 0) high_test ∙ cond_none (int_lt a.hi v) a.delay q

module _ (a : Demand) (box : Area) (q : ℕ) (p : 0 < q) where
  pub low_pull-border : low_pull_of q a box ≡ low_pull a box.own.least * q
  low_pull-border = low_pull-over a box.own.least q p

  pub least_gap-border : (t : ℕ) → least_gap q a box t ≡ border_gap (low_border_of a box) q t
  least_gap-border t =
      ap₂ (λ (b g : ℕ). held (box.own.least *ℤ pos (q * q)) (a.lo *ℤ pos (q * q)) b g t -ℤ (pos b *ℤ vertical_separation q (box.altitude.greatest *ℤ pos q) (box.intruder.greatest *ℤ pos q) t (pos 0))) low_pull-border (low_hold-over a box.own.least q p)

  pub high_pull-border : high_pull_of q a box ≡ high_pull a box.own.greatest * q
  high_pull-border = high_pull-over a box.own.greatest q p

  pub greatest_gap-border : (t : ℕ) → greatest_gap q a box t ≡ neg_ℤ (border_gap (high_border_of a box) q t)
  greatest_gap-border t =
      ap₂ (λ (b g : ℕ). held (box.own.greatest *ℤ pos (q * q)) (a.hi *ℤ pos (q * q)) b g t -ℤ (pos b *ℤ vertical_separation q (box.altitude.least *ℤ pos q) (box.intruder.least *ℤ pos q) t (pos 0))) high_pull-border (high_hold-over a box.own.greatest q p)
      ∙ turned (high_pull a box.own.greatest * q) (high_hold a box.own.greatest * q)
    where
      line : (c l c' l' : ℤ) → c' ≡ neg_ℤ c → l' ≡ neg_ℤ l → c -ℤ l ≡ neg_ℤ (c' -ℤ l')
      line c l c' l' e f = omega (arith, ints)

      opposite : (b : ℕ) (h w : ℤ) → pos b *ℤ vertical_separation q (neg_ℤ h *ℤ pos q) (neg_ℤ w *ℤ pos q) t (pos 0) ≡ neg_ℤ (pos b *ℤ vertical_separation q (h *ℤ pos q) (w *ℤ pos q) t (pos 0))
      opposite b h w =
          ap₂ (λ (i j : ℤ). pos b *ℤ vertical_separation q (i *ℤ pos q) (j *ℤ pos q) t (pos 0)) (sym (zero-sub_ℤ h)) (sym (zero-sub_ℤ w))
          ∙ ring (pos b ∷ h ∷ w ∷ pos q ∷ pos t ∷ [])
          (at 0 ⊗ (((((num (pos 0) ⊖ at 1) ⊗ at 3) ⊗ (at 3 ⊗ at 3)) ⊕ (((num (pos 2) ⊗ ((num (pos 0) ⊖ at 2) ⊗ at 3)) ⊗ at 4) ⊗ at 3)) ⊖ num (pos 0)))
          (num (pos 0) ⊖ (at 0 ⊗ ((((at 1 ⊗ at 3) ⊗ (at 3 ⊗ at 3)) ⊕ (((num (pos 2) ⊗ (at 2 ⊗ at 3)) ⊗ at 4) ⊗ at 3)) ⊖ num (pos 0))))
          refl
          ∙ (zero-sub_ℤ (pos b *ℤ vertical_separation q (h *ℤ pos q) (w *ℤ pos q) t (pos 0)))

      turned : (b g : ℕ) → held (box.own.greatest *ℤ pos (q * q)) (a.hi *ℤ pos (q * q)) b g t -ℤ (pos b *ℤ vertical_separation q (box.altitude.least *ℤ pos q) (box.intruder.least *ℤ pos q) t (pos 0))
          ≡ neg_ℤ (held (neg_ℤ box.own.greatest *ℤ pos (q * q)) (neg_ℤ a.hi *ℤ pos (q * q)) b g t -ℤ (pos b *ℤ vertical_separation q (neg_ℤ box.altitude.least *ℤ pos q) (neg_ℤ box.intruder.least *ℤ pos q) t (pos 0)))
      turned b g = line _ _ _ _
          (ap₂ (λ (v k : ℤ). held v k b g t) (neg-mul_ℤ box.own.greatest (pos (q * q))) (neg-mul_ℤ a.hi (pos (q * q))) ∙ turned_held (box.own.greatest *ℤ pos (q * q)) (a.hi *ℤ pos (q * q)) b g t)
          (opposite b box.altitude.least box.intruder.least)

-- ---- the extremes of a box are those of its borders

-- a time over q that is earlier
earlier : (q s t d : ℕ) (n : ℤ) → 0 < d → pos s *ℤ pos d ≡ n *ℤ pos q → t < s → pos (t * d) <ℤ (n *ℤ pos q)
earlier q s t d n p e h = let l : t * d < s * d = mul-lt-mul_of_pos_right h p in omega (arith, ints)

module _ (s : Border) (w : Times) (time y : Fraction) (l : IsLeastGap s w time y) (p : 0 < y.den) where
  -- no gap of the window is less than that at the time
  least_border : (q k t : ℕ) → 0 < q → IsOver q (pos k) time → IsDuring q w t → border_gap s q k ≤ℤ border_gap s q t
  least_border q k t some i j = le-from_mul_ℤ y.den (border_gap s q k) (border_gap s q t) p
      (rw (*ℤ_comm (pos y.den) (border_gap s q k), *ℤ_comm (pos y.den) (border_gap s q t), ← l.value.over q k some i) (l.least q t some j))

  -- a gap before it is greater
  earliest_border : (q k t : ℕ) → 0 < time.den → 0 < q → IsOver q (pos k) time → IsDuring q w t → t < k → border_gap s q k <ℤ border_gap s q t
  earliest_border q k t d some i j h = lt-from_mul_ℤ y.den (border_gap s q k) (border_gap s q t)
      (rw (*ℤ_comm (pos y.den) (border_gap s q k), *ℤ_comm (pos y.den) (border_gap s q t), ← l.value.over q k some i) (l.earliest q t some j (earlier q k t time.den time.num d i h)))

pub low_extreme_of : (a : Demand) (box : Area) (w : Times) (time y : Fraction) → 0 < y.den → IsReduced time → pos 0 ≤ℤ time.num → IsLeastGap (low_border_of a box) w time y → IsLowExtreme a box w time
low_extreme_of a box w time y p reduced ahead l = record {
  reduced = reduced;
  ahead = ahead;
  first = record {
    after = l.after;
    before = l.before;
    least = λ q s t some i j. rw (least_gap-border a box q some s, least_gap-border a box q some t) (least_border (low_border_of a box) w time y l p q s t some i j);
    earliest = λ q s t some i j h. rw (least_gap-border a box q some s, least_gap-border a box q some t) (earliest_border (low_border_of a box) w time y l p q s t reduced.some some i j h);
  };
}

pub neg-le_ℤ : (a b : ℤ) → a ≤ℤ b → neg_ℤ b ≤ℤ neg_ℤ a
neg-le_ℤ a b h = omega (arith, ints)

pub high_extreme_of : (a : Demand) (box : Area) (w : Times) (time y : Fraction) → 0 < y.den → IsReduced time → pos 0 ≤ℤ time.num → IsLeastGap (high_border_of a box) w time y → IsHighExtreme a box w time
high_extreme_of a box w time y p reduced ahead l = record {
  reduced = reduced;
  ahead = ahead;
  first = record {
    after = l.after;
    before = l.before;
    least = λ q s t some i j. rw (greatest_gap-border a box q some s, greatest_gap-border a box q some t) (neg-le_ℤ _ _ (neg-le_ℤ _ _ (least_border (high_border_of a box) w time y l p q s t some i j)));
    earliest = λ q s t some i j h. rw (greatest_gap-border a box q some s, greatest_gap-border a box q some t) (neg-lt_ℤ _ _ (neg-lt_ℤ _ _ (earliest_border (high_border_of a box) w time y l p q s t reduced.some some i j h)));
  };
}

-- the gaps at a time

pub low_gap_of : (a : Demand) (box : Area) (time y : Fraction) → IsGapAt (low_border_of a box) time y → IsLowGapAt a box time y
low_gap_of a box time y g = record { over = λ q t p i. rw (least_gap-border a box q p t, low_pull-border a box q p) (g.over q t p i) }

neg_value : (y g : ℤ) (c d : ℕ) → y *ℤ pos c ≡ g *ℤ pos d → neg_ℤ y *ℤ pos c ≡ neg_ℤ g *ℤ pos d
neg_value y g c d e = neg-mul_ℤ y (pos c) ∙ ap neg_ℤ e ∙ sym (neg-mul_ℤ g (pos d))

pub high_gap_of : (a : Demand) (box : Area) (time y : Fraction) → IsGapAt (high_border_of a box) time y → IsHighGapAt a box time (negated y)
high_gap_of a box time y g = record {
  over = λ q t p i. rw (greatest_gap-border a box q p t, high_pull-border a box q p) (neg_value y.num (border_gap (high_border_of a box) q t) (q * q * q * (high_pull a box.own.greatest * q)) y.den (g.over q t p i));
}
