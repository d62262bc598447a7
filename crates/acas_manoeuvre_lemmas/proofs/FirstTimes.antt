-- The first of the two ends of a window and the turn at which the gap of a race is least is the first time at which it is.
use Rattle.std.proofs.Common.{◌≡◌, ℕ, ◌*◌, ◌<◌, ◌≤◌, ◌⊎◌, inl, inr, ⊎_elim, refl, sym, arith, [], ◌∷◌, ℤ, pos, ◌+ℤ◌, ◌-ℤ◌, ◌*ℤ◌, ◌≤ℤ◌, ◌<ℤ◌, mul-pos, mul-le-mul_right}
use Rattle.std.proofs.lemmas.Int.{ints}
use lib.IntN.{*ℤ_comm}
use native.Mathlib.Nat.{le_of_mul-le-mul_left}
use Rattle.acas_frac.proofs.SignedProducts.{lt-from_mul_ℤ, le-from_mul_ℤ}
use Rattle.acas_frac.proofs.IntRing.{at, ◌⊕◌, ◌⊖◌, ◌⊗◌, ring}
use Rattle.acas_frac.proofs.Orders.{by_above}
use Rattle.acas_flight_lemmas.proofs.Scales.{pos_inj}
use Rattle.acas_rulings.specs.Race.{Race, race_gap}
use Rattle.acas_rulings.specs.Least.{IsFirstLeastTime}
use Rattle.acas_rulings.specs.Turns.{Instant, fraction_of, times_of, IsFirstOf, at_from, at_turn, at_to, IsSoonerOrSame, IsLooked, falling, turning, turned_before, turns_after}
use Rattle.acas_manoeuvre_lemmas.proofs.Valleys as valleys
use Rattle.acas_manoeuvre_lemmas.proofs.Valleys.{FallsOn, IsFirstLeast, first_least}
use Rattle.acas_manoeuvre_lemmas.proofs.Races.{falling_on, rising_on, less_over}
use Rattle.acas_manoeuvre_lemmas.proofs.Scales.{race_gap-finer, lower-gap, as_low-gap}

-- the parts of a time over the denominator q
abbrev IsPart : ℕ → Instant → ℕ → Type 0
IsPart q p i = i * p.den ≡ p.num * q

-- the order of times is that of their parts
part-le : (q : ℕ) (p p' : Instant) (i j : ℕ) → 0 < p.den → 0 < p'.den → IsPart q p i → IsPart q p' j → IsSoonerOrSame p p' → i ≤ j
part-le q p p' i j s s' e e' h =
    let m : (p.num * p'.den) * q ≤ (p'.num * p.den) * q = mul-le-mul_right q h in
    le_of_mul-le-mul_left {m = i} {n = j} {k = p.den * p'.den} (line i j p.den p'.den p.num p'.num e e' m) (mul-pos s s')
  where
    line : (i j d d' n n' : ℕ) → i * d ≡ n * q → j * d' ≡ n' * q → (n * d') * q ≤ (n' * d) * q → (d * d') * i ≤ (d * d') * j
    line i j d d' n n' e e' m =
        let x : (d * d') * i ≡ (i * d) * d' = omega arith in
        let y : (d * d') * j ≡ (j * d') * d = omega arith in
        rw (x, y, e, e') (omega (arith, m))

same-part : (q : ℕ) (p : Instant) (i j : ℕ) → 0 < p.den → IsPart q p i → IsPart q p j → i ≡ j
same-part q p i j s e f =
    let a = part-le q p p i j s s e f (omega arith) in
    let b = part-le q p p j i s s f e (omega arith) in
    omega (arith, a, b)

part-of : (q c M : ℕ) (p : Instant) → p.den * c ≡ M → IsPart (q * M) p (p.num * (q * c))
part-of q c M p e = rw (sym e) (line p.num q c p.den)
  where
    line : (n q c d : ℕ) → (n * (q * c)) * d ≡ n * (q * (d * c))
    line n q c d = omega arith

-- where the turn is not between the two ends the row falls on, whatever is taken for it
elsewhere : (f : ℕ → ℤ) (from to turn other : ℕ) → (turn ≤ from) ⊎ (to ≤ turn) → FallsOn f from to turn → FallsOn f from to other
elsewhere f from to turn other o on i a b n h = on i a b (λ e. ⊎_elim (λ l. omega (arith, a, b, e, l)) (λ l. omega (arith, a, b, e, l)) o) h

-- at one denominator q over which the ends, the place, and all bends are whole
module _ (r : Race) (from place to : Instant) (q n m f e g : ℕ) (p : 0 < q) (sb : 0 < r.pull) (sa : 0 < r.accel)
    (sf : 0 < from.den) (se : 0 < place.den) (sg : 0 < to.den)
    (em : pos (r.accel * m) ≡ (r.goal -ℤ r.rate) *ℤ pos q)
    (pf : IsPart q from f) (pe : IsPart q place e) (pg : IsPart q to g) (o : IsSoonerOrSame from place) (o' : IsSoonerOrSame place to) where
  pick : (best : Instant) → IsFirstOf r from place to best → (b : ℕ) → IsPart q best b → (0 < best.den) × valleys.IsFirstOf (race_gap r q) f e g b
  pick best (at_from h k) b pb = (sf, let s = same-part q from b f sf pb pf in rw s (valleys.at_from (as_low-gap r from place q f e p sf se pf pe h) (as_low-gap r from to q f g p sf sg pf pg k)))
  pick best (at_turn h k) b pb = (se, let s = same-part q place b e se pb pe in rw s (valleys.at_turn (lower-gap r place from q e f p se sf pe pf h) (as_low-gap r place to q e g p se sg pe pg k)))
  pick best (at_to h k) b pb = (sg, let s = same-part q to b g sg pb pg in rw s (valleys.at_to (lower-gap r to from q g f p sg sf pg pf h) (lower-gap r to place q g e p sg se pg pe k)))

  least_of : FallsOn (race_gap r q) f g e → (best : Instant) → IsFirstOf r from place to best → (b : ℕ) → IsPart q best b → IsFirstLeast (race_gap r q) f g b
  least_of on best x b pb =
      first_least (race_gap r q) f g e on b (part-le q from place f e sf se pf pe o) (part-le q place to e g se sg pe pg o') (pick best x b pb).1

-- ---- over a denominator of which all of them are parts

-- the gaps over q * M are those over q
gap-le : (r : Race) (q M s t : ℕ) → 0 < M → race_gap r (q * M) (s * M) ≤ℤ race_gap r (q * M) (t * M) → race_gap r q s ≤ℤ race_gap r q t
gap-le r q M s t p h = le-from_mul_ℤ ((M * M) * (M * M) * M) _ _ (mul-pos (mul-pos (mul-pos p p) (mul-pos p p)) p)
    (rw (race_gap-finer r q s M, race_gap-finer r q t M, *ℤ_comm (race_gap r q s) (pos ((M * M) * (M * M) * M)), *ℤ_comm (race_gap r q t) (pos ((M * M) * (M * M) * M))) at h)

gap-lt : (r : Race) (q M s t : ℕ) → race_gap r (q * M) (s * M) <ℤ race_gap r (q * M) (t * M) → race_gap r q s <ℤ race_gap r q t
gap-lt r q M s t h = lt-from_mul_ℤ ((M * M) * (M * M) * M) _ _
    (rw (race_gap-finer r q s M, race_gap-finer r q t M, *ℤ_comm (race_gap r q s) (pos ((M * M) * (M * M) * M)), *ℤ_comm (race_gap r q t) (pos ((M * M) * (M * M) * M))) at h)

way-over : (v k : ℤ) (x b q c M : ℕ) → k ≡ v +ℤ pos x → b * c ≡ M → pos (b * (x * (q * c))) ≡ (k -ℤ v) *ℤ pos (q * M)
way-over v k x b q c M e f = rw (e, sym f) (ring (v ∷ pos x ∷ pos b ∷ pos q ∷ pos c ∷ []) (at 2 ⊗ (at 1 ⊗ (at 3 ⊗ at 4))) (((at 0 ⊕ at 1) ⊖ at 0) ⊗ (at 3 ⊗ (at 2 ⊗ at 4))) refl)

time-part : (q M s : ℕ) (p : Instant) → s * p.den ≡ p.num * q → IsPart (q * M) p (s * M)
time-part q M s p e = line s M p.den p.num q e
  where
    line : (s M d n q : ℕ) → s * d ≡ n * q → (s * M) * d ≡ n * (q * M)
    line s M d n q e = let x : (s * M) * d ≡ (s * d) * M = omega arith in rw (x, e) (omega arith)

after-from : (q M t f : ℕ) (p : Instant) → 0 < p.den → IsPart (q * M) p f → (pos p.num *ℤ pos q) ≤ℤ pos (t * p.den) → f ≤ t * M
after-from q M t f p s e h =
    let k : p.num * q ≤ t * p.den = omega (arith, ints, h) in
    let m : (p.num * q) * M ≤ (t * p.den) * M = mul-le-mul_right M k in
    le_of_mul-le-mul_left {m = f} {n = t * M} {k = p.den} (line f p.den p.num q M t e m) s
  where
    line : (f d n q M t : ℕ) → f * d ≡ n * (q * M) → (n * q) * M ≤ (t * d) * M → d * f ≤ d * (t * M)
    line f d n q M t e m = let x : d * f ≡ f * d = omega arith in rw (x, e) (omega (arith, m))

before-to : (q M t g : ℕ) (p : Instant) → 0 < p.den → IsPart (q * M) p g → pos (t * p.den) ≤ℤ (pos p.num *ℤ pos q) → t * M ≤ g
before-to q M t g p s e h =
    let k : t * p.den ≤ p.num * q = omega (arith, ints, h) in
    let m : (t * p.den) * M ≤ (p.num * q) * M = mul-le-mul_right M k in
    le_of_mul-le-mul_left {m = t * M} {n = g} {k = p.den} (line g p.den p.num q M t e m) s
  where
    line : (g d n q M t : ℕ) → g * d ≡ n * (q * M) → (t * d) * M ≤ (n * q) * M → d * (t * M) ≤ d * g
    line g d n q M t e m = let x : d * g ≡ g * d = omega arith in rw (x, e) (omega (arith, m))

first-after : (r : Race) (from place to best : Instant) → IsSoonerOrSame from place → IsSoonerOrSame from to → IsFirstOf r from place to best → (pos from.num *ℤ pos best.den) ≤ℤ (pos best.num *ℤ pos from.den)
first-after r from place to best o o'' (at_from h k) = omega (arith, ints)
first-after r from place to best o o'' (at_turn h k) = omega (arith, ints, o)
first-after r from place to best o o'' (at_to h k) = omega (arith, ints, o'')

first-before : (r : Race) (from place to best : Instant) → IsSoonerOrSame place to → IsSoonerOrSame from to → IsFirstOf r from place to best → (pos best.num *ℤ pos to.den) ≤ℤ (pos to.num *ℤ pos best.den)
first-before r from place to best o' o'' (at_from h k) = omega (arith, ints, o'')
first-before r from place to best o' o'' (at_turn h k) = omega (arith, ints, o')
first-before r from place to best o' o'' (at_to h k) = omega (arith, ints)

module _ (r : Race) (from place to best : Instant) (sb : 0 < r.pull) (sa : 0 < r.accel) (up : r.rate ≤ℤ r.goal)
    (sf : 0 < from.den) (se : 0 < place.den) (sg : 0 < to.den)
    (o : IsSoonerOrSame from place) (o' : IsSoonerOrSame place to) (o'' : IsSoonerOrSame from to) (x : IsFirstOf r from place to best) where
  -- with the turn over M parts too
  module _ (turn : Instant) (st : 0 < turn.den) where
    abbrev parts : ℕ
    parts = (r.pull * r.accel) * ((from.den * to.den) * (place.den * turn.den))

    some : 0 < parts
    some = mul-pos (mul-pos sb sa) (mul-pos (mul-pos sf sg) (mul-pos se st))

    -- over each q the row of the gaps over q * parts falls on
    abbrev Falls : Type 0
    Falls = (q : ℕ) → 0 < q → (f e g t n m : ℕ) → IsPart (q * parts) from f → IsPart (q * parts) place e → IsPart (q * parts) to g → IsPart (q * parts) turn t →
        ((y : ℕ) → r.aim ≡ r.start +ℤ pos y → pos (r.pull * (y * n)) ≡ (r.aim -ℤ r.start) *ℤ pos (q * parts)) →
        ((y : ℕ) → r.start ≡ r.aim +ℤ pos y → pos (r.pull * (y * n)) ≡ (r.start -ℤ r.aim) *ℤ pos (q * parts)) →
        pos (r.accel * m) ≡ (r.goal -ℤ r.rate) *ℤ pos (q * parts) → FallsOn (race_gap r (q * parts)) f g e

    at_q : Falls → (q s : ℕ) → 0 < q → IsPart q best s → IsFirstLeast (race_gap r (q * parts)) (from.num * (q * ((r.pull * r.accel) * (to.den * (place.den * turn.den))))) (to.num * (q * ((r.pull * r.accel) * (from.den * (place.den * turn.den))))) (s * parts)
    at_q falls q s p b = by_above r.rate r.goal up (λ w ew.
        least_of r from place to (q * parts) 0 (w * (q * (r.pull * ((from.den * to.den) * (place.den * turn.den))))) _ (place.num * (q * ((r.pull * r.accel) * ((from.den * to.den) * turn.den)))) _ (mul-pos p some) sb sa sf se sg
        (way w ew) part_from part_place part_to o o'
        (falls q p _ _ _ (turn.num * (q * ((r.pull * r.accel) * ((from.den * to.den) * place.den)))) (q * (r.accel * ((from.den * to.den) * (place.den * turn.den)))) _ part_from part_place part_to
        (part-of q _ parts turn (omega arith))
        (λ y ey. way-over r.start r.aim y r.pull q _ parts ey (omega arith))
        (λ y ey. way-over r.aim r.start y r.pull q _ parts ey (omega arith))
        (way w ew))
        best x (s * parts) (time-part q parts s best b))
      where
        way : (w : ℕ) → r.goal ≡ r.rate +ℤ pos w → pos (r.accel * (w * (q * (r.pull * ((from.den * to.den) * (place.den * turn.den)))))) ≡ (r.goal -ℤ r.rate) *ℤ pos (q * parts)
        way w ew = way-over r.rate r.goal w r.accel q _ parts ew (omega arith)

        part_from : IsPart (q * parts) from (from.num * (q * ((r.pull * r.accel) * (to.den * (place.den * turn.den)))))
        part_from = part-of q _ parts from (omega arith)

        part_place : IsPart (q * parts) place (place.num * (q * ((r.pull * r.accel) * ((from.den * to.den) * turn.den))))
        part_place = part-of q _ parts place (omega arith)

        part_to : IsPart (q * parts) to (to.num * (q * ((r.pull * r.accel) * (from.den * (place.den * turn.den)))))
        part_to = part-of q _ parts to (omega arith)

    first_of : Falls → IsFirstLeastTime r (times_of from to) (fraction_of best)
    first_of falls = record {
      after = first-after r from place to best o o'' x;
      before = first-before r from place to best o' o'' x;
      least = λ q s t p i d. let b = at_q falls q s p (pos_inj (s * best.den) (best.num * q) i) in
          gap-le r q parts s t some (b.least (t * parts) (after-from q parts t _ from sf (part-of q _ parts from (omega arith)) d.0) (before-to q parts t _ to sg (part-of q _ parts to (omega arith)) d.1));
      earliest = λ q s t p i d l. let b = at_q falls q s p (pos_inj (s * best.den) (best.num * q) i) in
          gap-lt r q parts s t (b.first (t * parts) (after-from q parts t _ from sf (part-of q _ parts from (omega arith)) d.0) (less_over t s parts some l));
    }

pub first_least_time : (r : Race) (from place to best : Instant) → 0 < r.pull → 0 < r.accel → r.rate ≤ℤ r.goal → 0 < from.den → 0 < place.den → 0 < to.den →
    IsSoonerOrSame from place → IsSoonerOrSame place to → IsSoonerOrSame from to → IsLooked r from to place → IsFirstOf r from place to best → IsFirstLeastTime r (times_of from to) (fraction_of best)
first_least_time r from place to best sb sa up sf se sg o o' o'' (falling place' down) x =
    first_of r from place to best sb sa up sf se sg o o' o'' x place se
    (λ q p f e g t n m pf pe pg pt rise fall em. by_above r.aim r.start down (λ y ey.
    falling_on r _ (y * n) m (mul-pos p (some r from place to best sb sa up sf se sg o o' o'' x place se)) sb sa em (fall y ey) f g e))
first_least_time r from place to best sb sa up sf se sg o o' o'' (turning place' rises is) x =
    first_of r from place to best sb sa up sf se sg o o' o'' x place se
    (λ q p f e g t n m pf pe pg pt rise fall em. by_above r.start r.aim rises (λ y ey.
    rising_on r _ (y * n) m (mul-pos p (some r from place to best sb sa up sf se sg o o' o'' x place se)) sb sa em (rise y ey) place e pe is f g))
first_least_time r from place to best sb sa up sf se sg o o' o'' (turned_before place' turn rises st is early) x =
    first_of r from place to best sb sa up sf se sg o o' o'' x turn st
    (λ q p f e g t n m pf pe pg pt rise fall em. by_above r.start r.aim rises (λ y ey.
    elsewhere (race_gap r _) f g t e (inl (part-le _ turn from t f st sf pt pf early))
    (rising_on r _ (y * n) m (mul-pos p (some r from place to best sb sa up sf se sg o o' o'' x turn st)) sb sa em (rise y ey) turn t pt is f g)))
first_least_time r from place to best sb sa up sf se sg o o' o'' (turns_after place' turn rises st is late) x =
    first_of r from place to best sb sa up sf se sg o o' o'' x turn st
    (λ q p f e g t n m pf pe pg pt rise fall em. by_above r.start r.aim rises (λ y ey.
    elsewhere (race_gap r _) f g t e (inr (part-le _ to turn g t sg st pg pt late))
    (rising_on r _ (y * n) m (mul-pos p (some r from place to best sb sa up sf se sg o o' o'' x turn st)) sb sa em (rise y ey) turn t pt is f g)))
