-- A race in parts of which each bend is a whole number: where its gap falls on.
use Rattle.std.proofs.Common.{◌≡◌, ℕ, ◌+◌, ◌*◌, ◌<◌, refl, sym, ap, ◌∙◌, arith, [], ◌∷◌, ℤ, pos, ◌+ℤ◌, ◌-ℤ◌, ◌*ℤ◌, ◌≤ℤ◌, ◌<ℤ◌, mul-pos, mul-le-mul_right}
use Rattle.std.proofs.lemmas.Int.{ints}
use lib.IntN.{*ℤ_comm}
use native.Mathlib.Nat.{mul-lt-mul_of_pos_left}
use Rattle.acas_frac.proofs.SignedProducts.{lt-from_mul_ℤ, le-from_mul_ℤ, mul-le_ℤ, mul-lt_ℤ}
use Rattle.acas_frac.proofs.IntRing.{at, ◌⊕◌, ◌⊖◌, ◌⊗◌, ring}
use Rattle.acas_flight.proofs.Holding.{held-none}
use Rattle.acas_flight.specs.Curves.{approach}
use Rattle.acas_rulings.specs.Race.{Race, own_climb, race_gap}
use Rattle.acas_rulings.specs.Turns.{Instant, IsTurnTime, at_goal, on_the_way, too_slow, ahead}
use Rattle.acas_manoeuvre_lemmas.proofs.Valleys.{FallsOn}
use Rattle.acas_manoeuvre_lemmas.proofs.Paces.{left, step_below, step_above}
use Rattle.acas_manoeuvre_lemmas.proofs.Crossings as crossings
use Rattle.acas_manoeuvre_lemmas.proofs.Crossings.{rates, rates_falling, meets0, meets0_falling, falls_on, IsTurn, late, early, slow}

-- one part of a race
race_step : (h o o' y y' r r' s s' : ℤ) (b a : ℕ) → o' ≡ o +ℤ (pos b *ℤ (r +ℤ r')) → y' ≡ y +ℤ (pos a *ℤ (s +ℤ s')) →
    (o' *ℤ pos a) -ℤ ((h +ℤ y') *ℤ pos b) ≡ ((o *ℤ pos a) -ℤ ((h +ℤ y) *ℤ pos b)) +ℤ (pos (b * a) *ℤ ((r -ℤ s) +ℤ (r' -ℤ s')))
race_step h o o' y y' r r' s s' b a e f = rw (e, f) (ring (h ∷ o ∷ y ∷ r ∷ r' ∷ s ∷ s' ∷ pos b ∷ pos a ∷ [])
    (((at 1 ⊕ (at 7 ⊗ (at 3 ⊕ at 4))) ⊗ at 8) ⊖ ((at 0 ⊕ (at 2 ⊕ (at 8 ⊗ (at 5 ⊕ at 6)))) ⊗ at 7))
    (((at 1 ⊗ at 8) ⊖ ((at 0 ⊕ at 2) ⊗ at 7)) ⊕ ((at 7 ⊗ at 8) ⊗ ((at 3 ⊖ at 5) ⊕ (at 4 ⊖ at 6))))
    refl)

-- a way of n steps of b, over q
way_below : (k v : ℤ) (b q n : ℕ) → pos (b * n) ≡ (k -ℤ v) *ℤ pos q → v *ℤ pos (q * q) ≡ (k *ℤ pos (q * q)) -ℤ pos (b * q * n)
way_below k v b q n e =
    ring (k ∷ v ∷ pos q ∷ []) (at 1 ⊗ (at 2 ⊗ at 2)) ((at 0 ⊗ (at 2 ⊗ at 2)) ⊖ (((at 0 ⊖ at 1) ⊗ at 2) ⊗ at 2)) refl
    ∙ ap (λ z. (k *ℤ pos (q * q)) -ℤ (z *ℤ pos q)) (sym e)
    ∙ ring (k ∷ pos b ∷ pos q ∷ pos n ∷ []) ((at 0 ⊗ (at 2 ⊗ at 2)) ⊖ ((at 1 ⊗ at 3) ⊗ at 2)) ((at 0 ⊗ (at 2 ⊗ at 2)) ⊖ ((at 1 ⊗ at 2) ⊗ at 3)) refl

way_above : (k v : ℤ) (b q n : ℕ) → pos (b * n) ≡ (v -ℤ k) *ℤ pos q → v *ℤ pos (q * q) ≡ (k *ℤ pos (q * q)) +ℤ pos (b * q * n)
way_above k v b q n e =
    ring (k ∷ v ∷ pos q ∷ []) (at 1 ⊗ (at 2 ⊗ at 2)) ((at 0 ⊗ (at 2 ⊗ at 2)) ⊕ (((at 1 ⊖ at 0) ⊗ at 2) ⊗ at 2)) refl
    ∙ ap (λ z. (k *ℤ pos (q * q)) +ℤ (z *ℤ pos q)) (sym e)
    ∙ ring (k ∷ pos b ∷ pos q ∷ pos n ∷ []) ((at 0 ⊗ (at 2 ⊗ at 2)) ⊕ ((at 1 ⊗ at 3) ⊗ at 2)) ((at 0 ⊗ (at 2 ⊗ at 2)) ⊕ ((at 1 ⊗ at 2) ⊗ at 3)) refl

-- the same of numbers that are written in another way
pub lt_as : {a b a' b' : ℤ} → a ≡ a' → b ≡ b' → a' <ℤ b' → a <ℤ b
lt_as e f h = omega (arith, ints, e, f, h)

le_as : {a b a' b' : ℤ} → a ≡ a' → b ≡ b' → a' ≤ℤ b' → a ≤ℤ b
le_as e f h = omega (arith, ints, e, f, h)

pub less_over : (a b q : ℕ) → 0 < q → a < b → a * q < b * q
less_over a b q p h = let s : q * a < q * b = mul-lt-mul_of_pos_left h p in let t : q * a ≡ a * q = omega arith in let u : q * b ≡ b * q = omega arith in omega (arith, s, t, u)

-- a turn in numbers over q: v and w are the start rates, the intruder's way is m steps of a
module _ (v w c : ℤ) (b g a q m : ℕ) (p : 0 < q) (sa : 0 < a) (em : pos (a * m) ≡ (c -ℤ w) *ℤ pos q) where
  left_side : pos a *ℤ ((v *ℤ pos (q * q)) +ℤ pos (b * q * m)) ≡ pos (q * q) *ℤ ((v *ℤ pos a) +ℤ ((c -ℤ w) *ℤ pos b))
  left_side =
      ring (v ∷ pos a ∷ pos q ∷ pos b ∷ pos m ∷ []) (at 1 ⊗ ((at 0 ⊗ (at 2 ⊗ at 2)) ⊕ ((at 3 ⊗ at 2) ⊗ at 4))) (((at 0 ⊗ at 1) ⊗ (at 2 ⊗ at 2)) ⊕ ((at 1 ⊗ at 4) ⊗ (at 3 ⊗ at 2))) refl
      ∙ ap (λ z. ((v *ℤ pos a) *ℤ pos (q * q)) +ℤ (z *ℤ pos (b * q))) em
      ∙ ring (v ∷ pos a ∷ pos q ∷ pos b ∷ c ∷ w ∷ []) (((at 0 ⊗ at 1) ⊗ (at 2 ⊗ at 2)) ⊕ (((at 4 ⊖ at 5) ⊗ at 2) ⊗ (at 3 ⊗ at 2))) ((at 2 ⊗ at 2) ⊗ ((at 0 ⊗ at 1) ⊕ ((at 4 ⊖ at 5) ⊗ at 3))) refl

  right_side : pos a *ℤ ((c *ℤ pos (q * q)) +ℤ pos (b * q * (g * q))) ≡ pos (q * q) *ℤ ((c *ℤ pos a) +ℤ pos (g * b * a))
  right_side = ring (c ∷ pos a ∷ pos q ∷ pos b ∷ pos g ∷ []) (at 1 ⊗ ((at 0 ⊗ (at 2 ⊗ at 2)) ⊕ ((at 3 ⊗ at 2) ⊗ (at 4 ⊗ at 2)))) ((at 2 ⊗ at 2) ⊗ ((at 0 ⊗ at 1) ⊕ ((at 4 ⊗ at 3) ⊗ at 1))) refl

  late_over : ((v *ℤ pos a) +ℤ ((c -ℤ w) *ℤ pos b)) <ℤ ((c *ℤ pos a) +ℤ pos (g * b * a)) → ((v *ℤ pos (q * q)) +ℤ pos (b * q * m)) <ℤ ((c *ℤ pos (q * q)) +ℤ pos (b * q * (g * q)))
  late_over h = lt-from_mul_ℤ a _ _ (lt_as left_side right_side (mul-lt_ℤ (q * q) _ _ (mul-pos p p) h))

  early_over : ((c *ℤ pos a) +ℤ pos (g * b * a)) ≤ℤ ((v *ℤ pos a) +ℤ ((c -ℤ w) *ℤ pos b)) → ((c *ℤ pos (q * q)) +ℤ pos (b * q * (g * q))) ≤ℤ ((v *ℤ pos (q * q)) +ℤ pos (b * q * m))
  early_over h = le-from_mul_ℤ a _ _ sa (le_as right_side left_side (mul-le_ℤ (q * q) _ _ h))

  -- the turn in parts
  turn_late : (turn num : ℕ) → turn * b ≡ num * q → pos num ≡ (c -ℤ v) +ℤ pos (g * b) → (v *ℤ pos (q * q)) +ℤ pos (b * q * turn) ≡ (c *ℤ pos (q * q)) +ℤ pos (b * q * (g * q))
  turn_late turn n e f =
      ring (v ∷ pos q ∷ pos b ∷ pos turn ∷ []) ((at 0 ⊗ (at 1 ⊗ at 1)) ⊕ ((at 2 ⊗ at 1) ⊗ at 3)) ((at 0 ⊗ (at 1 ⊗ at 1)) ⊕ ((at 3 ⊗ at 2) ⊗ at 1)) refl
      ∙ ap (λ (z : ℕ). (v *ℤ pos (q * q)) +ℤ (pos z *ℤ pos q)) e
      ∙ ap (λ z. (v *ℤ pos (q * q)) +ℤ ((z *ℤ pos q) *ℤ pos q)) f
      ∙ ring (v ∷ pos q ∷ c ∷ pos g ∷ pos b ∷ []) ((at 0 ⊗ (at 1 ⊗ at 1)) ⊕ ((((at 2 ⊖ at 0) ⊕ (at 3 ⊗ at 4)) ⊗ at 1) ⊗ at 1)) ((at 2 ⊗ (at 1 ⊗ at 1)) ⊕ ((at 4 ⊗ at 1) ⊗ (at 3 ⊗ at 1))) refl

  turn_early : (turn num d : ℕ) → turn * d ≡ num * q → pos num ≡ (w -ℤ v) +ℤ pos (g * b) → a + d ≡ b →
      (v *ℤ pos (q * q)) +ℤ pos (b * q * turn) ≡ ((w *ℤ pos (q * q)) +ℤ pos (a * q * turn)) +ℤ pos (b * q * (g * q))
  turn_early turn n d e f s =
      ap (λ (z : ℕ). (v *ℤ pos (q * q)) +ℤ pos (z * q * turn)) (sym s)
      ∙ ring (v ∷ pos q ∷ pos a ∷ pos d ∷ pos turn ∷ []) ((at 0 ⊗ (at 1 ⊗ at 1)) ⊕ (((at 2 ⊕ at 3) ⊗ at 1) ⊗ at 4)) (((at 0 ⊗ (at 1 ⊗ at 1)) ⊕ ((at 2 ⊗ at 1) ⊗ at 4)) ⊕ ((at 4 ⊗ at 3) ⊗ at 1)) refl
      ∙ ap (λ (z : ℕ). ((v *ℤ pos (q * q)) +ℤ pos (a * q * turn)) +ℤ (pos z *ℤ pos q)) e
      ∙ ap (λ z. ((v *ℤ pos (q * q)) +ℤ pos (a * q * turn)) +ℤ ((z *ℤ pos q) *ℤ pos q)) f
      ∙ ring (v ∷ pos q ∷ w ∷ pos g ∷ pos b ∷ pos a ∷ pos turn ∷ [])
      (((at 0 ⊗ (at 1 ⊗ at 1)) ⊕ ((at 5 ⊗ at 1) ⊗ at 6)) ⊕ ((((at 2 ⊖ at 0) ⊕ (at 3 ⊗ at 4)) ⊗ at 1) ⊗ at 1))
      (((at 2 ⊗ (at 1 ⊗ at 1)) ⊕ ((at 5 ⊗ at 1) ⊗ at 6)) ⊕ ((at 4 ⊗ at 1) ⊗ (at 3 ⊗ at 1)))
      refl

  ahead_over : (w +ℤ pos (g * b)) <ℤ v → ((w *ℤ pos (q * q)) +ℤ pos (b * q * (g * q))) <ℤ (v *ℤ pos (q * q))
  ahead_over h = lt_as
      (ring (w ∷ pos q ∷ pos b ∷ pos g ∷ []) ((at 0 ⊗ (at 1 ⊗ at 1)) ⊕ ((at 2 ⊗ at 1) ⊗ (at 3 ⊗ at 1))) ((at 1 ⊗ at 1) ⊗ (at 0 ⊕ (at 3 ⊗ at 2))) refl)
      (*ℤ_comm v (pos (q * q))) (mul-lt_ℤ (q * q) (w +ℤ pos (g * b)) v (mul-pos p p) h)

-- over q the own way is n steps, and the intruder's m
module _ (r : Race) (q n m : ℕ) (p : 0 < q) (sb : 0 < r.pull) (sa : 0 < r.accel) (em : pos (r.accel * m) ≡ (r.goal -ℤ r.rate) *ℤ pos q) where
  abbrev aim : ℤ
  aim = r.aim *ℤ pos (q * q)

  abbrev goal : ℤ
  goal = r.goal *ℤ pos (q * q)

  intruder_step : (i : ℕ) → approach (r.rate *ℤ pos (q * q)) goal (r.accel * q) (i + 1)
      ≡ approach (r.rate *ℤ pos (q * q)) goal (r.accel * q) i +ℤ (pos (r.accel * q) *ℤ ((goal -ℤ pos (left (r.accel * q) m 0 i)) +ℤ (goal -ℤ pos (left (r.accel * q) m 0 (i + 1)))))
  intruder_step i =
      let e = way_below r.goal r.rate r.accel q m em in
      rw e (sym (held-none (goal -ℤ pos (r.accel * q * m)) goal (r.accel * q) (i + 1)) ∙ step_below goal (r.accel * q) m 0 i
      ∙ ap (λ z. z +ℤ (pos (r.accel * q) *ℤ ((goal -ℤ pos (left (r.accel * q) m 0 i)) +ℤ (goal -ℤ pos (left (r.accel * q) m 0 (i + 1)))))) (held-none (goal -ℤ pos (r.accel * q * m)) goal (r.accel * q) i))

  -- a curve that does not rise
  pub falling_on : pos (r.pull * n) ≡ (r.start -ℤ r.aim) *ℤ pos q → (from to turn : ℕ) → FallsOn (race_gap r q) from to turn
  falling_on en from to turn =
      falls_on (race_gap r q) (rates_falling aim goal (r.pull * q) n (r.hold * q) (r.accel * q) m) (r.pull * q * (r.accel * q)) turn (mul-pos (mul-pos sb p) (mul-pos sa p)) step
      (meets0_falling aim goal (r.pull * q) n (r.hold * q) (r.accel * q) m turn) from to
    where
      own_step : (i : ℕ) → own_climb r q (i + 1) ≡ own_climb r q i +ℤ (pos (r.pull * q) *ℤ ((aim +ℤ pos (left (r.pull * q) n (r.hold * q) i)) +ℤ (aim +ℤ pos (left (r.pull * q) n (r.hold * q) (i + 1)))))
      own_step i = let e = way_above r.aim r.start r.pull q n en in rw e (step_above aim (r.pull * q) n (r.hold * q) i)

      step : (i : ℕ) → race_gap r q (i + 1) ≡ race_gap r q i +ℤ (pos (r.pull * q * (r.accel * q)) *ℤ (rates_falling aim goal (r.pull * q) n (r.hold * q) (r.accel * q) m i +ℤ rates_falling aim goal (r.pull * q) n (r.hold * q) (r.accel * q) m (i + 1)))
      step i = race_step (r.height *ℤ pos (q * q * q * (r.accel * q))) (own_climb r q i) (own_climb r q (i + 1)) (approach (r.rate *ℤ pos (q * q)) goal (r.accel * q) i) (approach (r.rate *ℤ pos (q * q)) goal (r.accel * q) (i + 1)) (aim +ℤ pos (left (r.pull * q) n (r.hold * q) i)) (aim +ℤ pos (left (r.pull * q) n (r.hold * q) (i + 1))) (goal -ℤ pos (left (r.accel * q) m 0 i)) (goal -ℤ pos (left (r.accel * q) m 0 (i + 1))) (r.pull * q) (r.accel * q) (own_step i) (intruder_step i)

  module _ (en : pos (r.pull * n) ≡ (r.aim -ℤ r.start) *ℤ pos q) where
    -- the turn, over q
    turn_over : (t : Instant) (turn : ℕ) → turn * t.den ≡ t.num * q → IsTurnTime r t → IsTurn aim goal (r.pull * q) n (r.hold * q) (r.accel * q) m turn
    turn_over t turn e x = by x
      where
        own : aim -ℤ pos (r.pull * q * n) ≡ r.start *ℤ pos (q * q)
        own = sym (way_below r.aim r.start r.pull q n en)

        other : goal -ℤ pos (r.accel * q * m) ≡ r.rate *ℤ pos (q * q)
        other = sym (way_below r.goal r.rate r.accel q m em)

        by : IsTurnTime r t → IsTurn aim goal (r.pull * q) n (r.hold * q) (r.accel * q) m turn
        by (at_goal l f d) =
            let e' = rw d at e in
            late (lt_as (ap (λ z. z +ℤ pos (r.pull * q * m)) own) refl (late_over r.start r.rate r.goal r.pull r.hold r.accel q m p sa em l))
            (ap (λ z. z +ℤ pos (r.pull * q * turn)) own ∙ turn_late r.start r.rate r.goal r.pull r.hold r.accel q m p sa em turn t.num e' f)
        by (on_the_way l f d o) =
            early (le_as refl (ap (λ z. z +ℤ pos (r.pull * q * m)) own) (early_over r.start r.rate r.goal r.pull r.hold r.accel q m p sa em l))
            (less_over r.accel r.pull q p (omega (arith, d, o)))
            (ap (λ z. z +ℤ pos (r.pull * q * turn)) own ∙ turn_early r.start r.rate r.goal r.pull r.hold r.accel q m p sa em turn t.num t.den e f d
            ∙ ap (λ z. (z +ℤ pos (r.accel * q * turn)) +ℤ pos (r.pull * q * (r.hold * q))) (sym other))
        by (too_slow l h) =
            slow (le_as refl (ap (λ z. z +ℤ pos (r.pull * q * m)) own) (early_over r.start r.rate r.goal r.pull r.hold r.accel q m p sa em l)) (mul-le-mul_right q h)
        by (ahead l h k) =
            crossings.ahead (le_as refl (ap (λ z. z +ℤ pos (r.pull * q * m)) own) (early_over r.start r.rate r.goal r.pull r.hold r.accel q m p sa em l))
            (less_over r.accel r.pull q p h)
            (lt_as (ap (λ z. z +ℤ pos (r.pull * q * (r.hold * q))) other) own (ahead_over r.start r.rate r.goal r.pull r.hold r.accel q m p sa em k))

    pub rising_on : (t : Instant) (turn : ℕ) → turn * t.den ≡ t.num * q → IsTurnTime r t → (from to : ℕ) → FallsOn (race_gap r q) from to turn
    rising_on t turn e x from to =
        falls_on (race_gap r q) (rates aim goal (r.pull * q) n (r.hold * q) (r.accel * q) m) (r.pull * q * (r.accel * q)) turn (mul-pos (mul-pos sb p) (mul-pos sa p)) step
        (meets0 aim goal (r.pull * q) n (r.hold * q) (r.accel * q) m turn (mul-pos sb p) (turn_over t turn e x)) from to
      where
        own_step : (i : ℕ) → own_climb r q (i + 1) ≡ own_climb r q i +ℤ (pos (r.pull * q) *ℤ ((aim -ℤ pos (left (r.pull * q) n (r.hold * q) i)) +ℤ (aim -ℤ pos (left (r.pull * q) n (r.hold * q) (i + 1)))))
        own_step i = let e = way_below r.aim r.start r.pull q n en in rw e (step_below aim (r.pull * q) n (r.hold * q) i)

        step : (i : ℕ) → race_gap r q (i + 1) ≡ race_gap r q i +ℤ (pos (r.pull * q * (r.accel * q)) *ℤ (rates aim goal (r.pull * q) n (r.hold * q) (r.accel * q) m i +ℤ rates aim goal (r.pull * q) n (r.hold * q) (r.accel * q) m (i + 1)))
        step i = race_step (r.height *ℤ pos (q * q * q * (r.accel * q))) (own_climb r q i) (own_climb r q (i + 1)) (approach (r.rate *ℤ pos (q * q)) goal (r.accel * q) i) (approach (r.rate *ℤ pos (q * q)) goal (r.accel * q) (i + 1)) (aim -ℤ pos (left (r.pull * q) n (r.hold * q) i)) (aim -ℤ pos (left (r.pull * q) n (r.hold * q) (i + 1))) (goal -ℤ pos (left (r.accel * q) m 0 i)) (goal -ℤ pos (left (r.accel * q) m 0 (i + 1))) (r.pull * q) (r.accel * q) (own_step i) (intruder_step i)
