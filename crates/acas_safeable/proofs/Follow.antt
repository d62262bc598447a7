-- A second later: the horizontal state, and the flight of the second response in numbers over q^3.
use Rattle.std.proofs.Common.{◌≡◌, ℕ, ◌+◌, ◌*◌, ◌<◌, ◌≤◌, refl, ap, ◌∙◌, arith, List, [], ◌∷◌, ◌++◌, ℤ, pos, ◌+ℤ◌, ◌-ℤ◌, ◌*ℤ◌, ◌≤ℤ◌, ◌<ℤ◌, mul-le-mul_right, mul-pos, unsigned_abs}
use Rattle.std.specs.Int.{int_max}
use Rattle.std.proofs.lemmas.Int.{ints, clamps, unsigned_abs-mul}
use Rattle.acas_spec.specs.Limits.{IsModel}
use Rattle.acas_spec.specs.Model.{ModelData}
use Rattle.acas_frac.proofs.IntRing.{at, num, ◌⊕◌, ◌⊖◌, ◌⊗◌, ring}
use Rattle.acas_frac.proofs.Orders.{mul_nonneg}
use Rattle.acas_flight_lemmas.proofs.Endangered.{scaled-finer}
use Rattle.acas_flight_lemmas.proofs.Finer.{climb_finer, finer_meet, lasting_finer}
use Rattle.acas_flight.specs.Contact.{IsHorizontalContact, IsVerticalContact, vertical_separation}
use Rattle.acas_flight.specs.Parts.{finer}
use Rattle.acas_flight.specs.Response.{Demand, Meets, Segment, climb, climb_within, lasting, rate_after, scaled}
use Rattle.acas_flight.specs.State.{IsSecondsAway}
use Rattle.acas_safeable.specs.Safe.{rate_left}

-- ---- ranges

-- what is flown in n seconds, and in one more, and in one more again; r is the radius
module _ (range closing once twice more r : ℤ) (quick : pos 0 <ℤ closing) (some : pos 0 ≤ℤ once) (e : twice ≡ once +ℤ closing) (f : more ≡ twice +ℤ closing)
    (h : twice ≤ℤ int_max (pos 0) (range -ℤ r)) (k : int_max (pos 0) (range -ℤ r) ≤ℤ more) (wide : pos 0 ≤ℤ r) where
  still_ahead : pos 0 ≤ℤ (range -ℤ closing)
  still_ahead = omega (arith, ints, clamps)

  not_before : once ≤ℤ int_max (pos 0) ((range -ℤ closing) -ℤ r)
  not_before = omega (arith, ints, clamps)

  not_after : int_max (pos 0) ((range -ℤ closing) -ℤ r) ≤ℤ twice
  not_after = omega (arith, ints, clamps)

one_more : (n : ℕ) (c : ℤ) → pos (n + 1) *ℤ c ≡ (pos n *ℤ c) +ℤ c
one_more n c = ring (pos n ∷ c ∷ []) ((at 0 ⊕ num (pos 1)) ⊗ at 1) ((at 0 ⊗ at 1) ⊕ at 1) refl

pub cell_follows : (m : ModelData) (n q : ℕ) (range closing : ℤ) → IsModel m → 0 < q → IsSecondsAway m (n + 1) q range closing → IsSecondsAway m n q (range -ℤ closing) closing
cell_follows m n q range closing is some away =
    let slow : 0 < m.least_closing * q = mul-pos (omega (arith, is.some_closing)) some in
    let quick : pos 0 <ℤ closing = omega (arith, ints, away.speed.0) in
    let flown : pos 0 ≤ℤ (pos n *ℤ closing) = mul_nonneg (pos n) closing (omega (arith, ints)) (omega (arith, ints)) in
    let wide : pos 0 ≤ℤ pos (m.radius * q) = omega (arith, ints) in
    let once = one_more n closing in
    let twice = one_more (n + 1) closing in
    record {
      ahead = still_ahead range closing _ _ _ (pos (m.radius * q)) quick flown once twice away.not_before away.not_after wide;
      speed = away.speed;
      not_before = not_before range closing _ _ _ (pos (m.radius * q)) quick flown once twice away.not_before away.not_after wide;
      not_after = not_after range closing _ _ _ (pos (m.radius * q)) quick flown once twice away.not_before away.not_after wide;
    }

-- ---- joined responses

pub lasting_joined : (r s : List Segment) → lasting (r ++ s) ≡ lasting r + lasting s
lasting_joined [] s = omega arith
lasting_joined (x ∷ r) s = let e = lasting_joined r s in omega (arith, e)

pub climb_joined : (v : ℤ) (r s : List Segment) → climb v (r ++ s) ≡ climb v r +ℤ climb (rate_left v r) s
climb_joined v [] s = none (climb v s)
  where
    none : (z : ℤ) → z ≡ pos 0 +ℤ z
    none z = omega (arith, ints)
climb_joined v (x ∷ r) s = rw (climb_joined (rate_after v x) r s) (shift (climb_within v x) (climb (rate_after v x) r) (climb (rate_left (rate_after v x) r) s))
  where
    shift : (a b c : ℤ) → a +ℤ (b +ℤ c) ≡ (a +ℤ b) +ℤ c
    shift a b c = omega (arith, ints)

-- ---- finer numbers

scaled-cube : (q : ℕ) (a : Demand) → scaled (q * q) (scaled q a) ≡ scaled (q * q * q) a
scaled-cube q a = scaled-finer q (q * q) a ∙ ap (λ n. scaled n a) cube
  where
    cube : q * (q * q) ≡ q * q * q
    cube = omega arith

-- ---- the second response from the state that the first leaves

module _ (q : ℕ) (some : 0 < q) (v : ℤ) (first second : List Segment) (one : lasting first ≡ q) where
  abbrev left : ℤ
  left = rate_left v first

  start : (left *ℤ pos q) *ℤ pos (q * q * q) ≡ left *ℤ pos ((q * q) * (q * q))
  start = ring (left ∷ pos q ∷ []) ((at 0 ⊗ at 1) ⊗ ((at 1 ⊗ at 1) ⊗ at 1)) (at 0 ⊗ ((at 1 ⊗ at 1) ⊗ (at 1 ⊗ at 1))) refl

  pub later_meets : (a : Demand) → Meets (scaled q a) (rate_left v first) second →
      Meets (scaled (q * q * q) a) ((rate_left v first *ℤ pos q) *ℤ pos (q * q * q)) (finer (q * q) second)
  later_meets a meets = rw (start, ← scaled-cube q a) (finer_meet (q * q) (scaled q a) left second (mul-pos some some) meets)

  lasts : lasting (first ++ second) ≡ q + lasting second
  lasts = lasting_joined first second ∙ ap (λ n. n + lasting second) one

  pub later_vertical : (half : ℕ) (h x : ℤ) → IsVerticalContact half q h x (lasting (first ++ second)) (climb v (first ++ second)) →
      IsVerticalContact half (q * q * q) (vertical_separation q h x q (climb v first)) (x *ℤ pos (q * q)) (lasting (finer (q * q) second))
      (climb ((rate_left v first *ℤ pos q) *ℤ pos (q * q * q)) (finer (q * q) second))
  later_vertical half h x contact =
      let c : unsigned_abs (vertical_separation q h x (q + lasting second) (climb v first +ℤ climb left second)) ≤ half * (q * q * q) = rw (lasts, climb_joined v first second) at contact in
      let size : half * (q * q * q * (q * q * q) * (q * q * q)) ≡ half * (q * q * q) * (q * q * (q * q) * (q * q)) = omega arith in
      rw (lasting_finer (q * q) second, start, climb_finer (q * q) left second, gap (climb v first) (climb left second) (lasting second), unsigned_abs-mul _ _, size)
      (mul-le-mul_right (q * q * (q * q) * (q * q)) c)
    where
      gap : (y z : ℤ) (t : ℕ) →
          vertical_separation (q * q * q) (vertical_separation q h x q y) (x *ℤ pos (q * q)) (t * (q * q)) (z *ℤ pos (q * q * (q * q) * (q * q)))
          ≡ vertical_separation q h x (q + t) (y +ℤ z) *ℤ pos (q * q * (q * q) * (q * q))
      gap y z t = ring (h ∷ x ∷ y ∷ z ∷ pos q ∷ pos t ∷ [])
          (((((((at 0 ⊗ (at 4 ⊗ at 4)) ⊕ (((num (pos 2) ⊗ at 1) ⊗ at 4) ⊗ at 4)) ⊖ at 2) ⊗ (((at 4 ⊗ at 4) ⊗ at 4) ⊗ ((at 4 ⊗ at 4) ⊗ at 4)))
          ⊕ (((num (pos 2) ⊗ (at 1 ⊗ (at 4 ⊗ at 4))) ⊗ (at 5 ⊗ (at 4 ⊗ at 4))) ⊗ ((at 4 ⊗ at 4) ⊗ at 4)))
          ⊖ (at 3 ⊗ (((at 4 ⊗ at 4) ⊗ (at 4 ⊗ at 4)) ⊗ (at 4 ⊗ at 4)))))
          ((((at 0 ⊗ (at 4 ⊗ at 4)) ⊕ (((num (pos 2) ⊗ at 1) ⊗ (at 4 ⊕ at 5)) ⊗ at 4)) ⊖ (at 2 ⊕ at 3)) ⊗ (((at 4 ⊗ at 4) ⊗ (at 4 ⊗ at 4)) ⊗ (at 4 ⊗ at 4)))
          refl

  pub later_horizontal : (radius : ℕ) (range closing : ℤ) → IsHorizontalContact radius q range closing (lasting (first ++ second)) → IsHorizontalContact radius q (range -ℤ closing) closing (lasting second)
  later_horizontal radius range closing contact = rw (turn (lasting second)) (rw lasts at contact)
    where
      turn : (t : ℕ) → ((range -ℤ closing) *ℤ pos q) -ℤ (closing *ℤ pos t) ≡ (range *ℤ pos q) -ℤ (closing *ℤ pos (q + t))
      turn t = ring (range ∷ closing ∷ pos q ∷ pos t ∷ []) (((at 0 ⊖ at 1) ⊗ at 2) ⊖ (at 1 ⊗ at 3)) ((at 0 ⊗ at 2) ⊖ (at 1 ⊗ (at 2 ⊕ at 3))) refl

pub horizontal_finer : (radius q t : ℕ) (range closing : ℤ) → IsHorizontalContact radius q range closing t →
    IsHorizontalContact radius (q * q * q) (range *ℤ pos (q * q)) (closing *ℤ pos (q * q)) (t * (q * q))
horizontal_finer radius q t range closing contact =
    let size : radius * (q * q * q * (q * q * q)) ≡ radius * (q * q) * (q * q * (q * q)) = omega arith in
    rw (gap, unsigned_abs-mul _ _, size) (mul-le-mul_right (q * q * (q * q)) contact)
  where
    gap : ((range *ℤ pos (q * q)) *ℤ pos (q * q * q)) -ℤ ((closing *ℤ pos (q * q)) *ℤ pos (t * (q * q))) ≡ ((range *ℤ pos q) -ℤ (closing *ℤ pos t)) *ℤ pos (q * q * (q * q))
    gap = ring (range ∷ closing ∷ pos q ∷ pos t ∷ [])
        (((at 0 ⊗ (at 2 ⊗ at 2)) ⊗ ((at 2 ⊗ at 2) ⊗ at 2)) ⊖ ((at 1 ⊗ (at 2 ⊗ at 2)) ⊗ (at 3 ⊗ (at 2 ⊗ at 2))))
        (((at 0 ⊗ at 2) ⊖ (at 1 ⊗ at 3)) ⊗ ((at 2 ⊗ at 2) ⊗ (at 2 ⊗ at 2)))
        refl
