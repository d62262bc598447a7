-- The curve stays above where it is so at the first time of its least gap; and races upside down.
use Rattle.std.proofs.Common.{◌≡◌, ℕ, ◌*◌, ◌<◌, ◌↔◌, refl, ap, ap₂, ◌∙◌, arith, [], ◌∷◌, ℤ, pos, neg_ℤ, ◌+ℤ◌, ◌-ℤ◌, ◌*ℤ◌, ◌≤ℤ◌, ◌<ℤ◌, mul-pos}
use Rattle.std.proofs.lemmas.Int.{ints}
use lib.IntN.{*ℤ_comm}
use Rattle.acas_frac.proofs.SignedProducts.{lt-from_mul_ℤ, mul-lt_ℤ, neg-mul_ℤ}
use Rattle.acas_frac.proofs.IntRing.{at, ◌⊗◌, ring}
use Rattle.acas_frac.specs.Fraction.{Fraction}
use Rattle.acas_flight.specs.Values.{IsOver}
use Rattle.acas_flight.specs.Window.{Times, IsDuring}
use Rattle.acas_rulings.specs.Race.{Race, turned, own_climb, race_gap, race_tick}
use Rattle.acas_rulings.specs.Apart.{StaysAbove, StaysBelow}
use Rattle.acas_rulings.specs.Least.{IsFirstLeastTime}
use Rattle.acas_rulings.specs.Turns.{Instant, fraction_of, race_number}
use Rattle.acas_flight.specs.Curves.{approach, held}
use Rattle.acas_manoeuvre_lemmas.proofs.Scales.{race_gap-finer, race_gap-number}
use Rattle.acas_flight_lemmas.proofs.Mirror.{turned_held, turned_approach}
use Rattle.acas_flight_lemmas.proofs.Endangered.{IsDuring-finer}

scale : (half Q d b a : ℕ) → pos (d * d) *ℤ pos (half * (Q * Q * Q * (b * Q) * (a * Q))) ≡ pos ((Q * Q) * (Q * Q) * Q) *ℤ pos (half * (d * d * b * a))
scale half Q d b a = ring (pos half ∷ pos Q ∷ pos d ∷ pos b ∷ pos a ∷ [])
    ((at 2 ⊗ at 2) ⊗ (at 0 ⊗ ((((at 1 ⊗ at 1) ⊗ at 1) ⊗ (at 3 ⊗ at 1)) ⊗ (at 4 ⊗ at 1))))
    ((((at 1 ⊗ at 1) ⊗ (at 1 ⊗ at 1)) ⊗ at 1) ⊗ (at 0 ⊗ (((at 2 ⊗ at 2) ⊗ at 3) ⊗ at 4)))
    refl

module _ (half : ℕ) (r : Race) (w : Times) (p : Instant) (s : 0 < p.den) (is : IsFirstLeastTime r w (fraction_of p)) where
  abbrev ticks : ℕ
  ticks = half * (p.den * p.den * r.pull * r.accel)

  stays : pos ticks <ℤ race_number r p → StaysAbove half r w
  stays h q t sq d = lt-from_mul_ℤ ((p.den * p.den) * (p.den * p.den) * p.den) _ _ (line _ _ _ _ _ here there (race_gap-finer r q t p.den) (fine half q p.den r.pull r.accel) (*ℤ_comm _ (race_gap r q t)))
    where
      here : pos (half * race_tick r (q * p.den)) <ℤ race_gap r (q * p.den) (p.num * q)
      here = lt-from_mul_ℤ (p.den * p.den) _ _ (rw (race_gap-number r p (q * p.den) (p.num * q) s (omega arith)) (under _ _ _ (scale half (q * p.den) p.den r.pull r.accel)
          (mul-lt_ℤ (((q * p.den) * (q * p.den)) * ((q * p.den) * (q * p.den)) * (q * p.den)) _ _ (mul-pos (mul-pos (mul-pos (mul-pos sq s) (mul-pos sq s)) (mul-pos (mul-pos sq s) (mul-pos sq s))) (mul-pos sq s)) h)))
        where
          under : (a b c : ℤ) → a ≡ b → b <ℤ c → a <ℤ c
          under a b c e k = omega (arith, ints)

      there : race_gap r (q * p.den) (p.num * q) ≤ℤ race_gap r (q * p.den) (t * p.den)
      there = is.least (q * p.den) (p.num * q) (t * p.den) (mul-pos sq s)
          (over p.num q p.den) (IsDuring-finer q p.den w t d)
        where
          over : (n q d : ℕ) → pos (n * q) *ℤ pos d ≡ pos n *ℤ pos (q * d)
          over n q d = ring (pos n ∷ pos q ∷ pos d ∷ []) ((at 0 ⊗ at 1) ⊗ at 2) (at 0 ⊗ (at 1 ⊗ at 2)) refl

      fine : (half q d b a : ℕ) → pos (half * ((q * d) * (q * d) * (q * d) * (b * (q * d)) * (a * (q * d)))) ≡ pos ((d * d) * (d * d) * d) *ℤ pos (half * (q * q * q * (b * q) * (a * q)))
      fine half q d b a = ring (pos half ∷ pos q ∷ pos d ∷ pos b ∷ pos a ∷ [])
          (at 0 ⊗ (((((at 1 ⊗ at 2) ⊗ (at 1 ⊗ at 2)) ⊗ (at 1 ⊗ at 2)) ⊗ (at 3 ⊗ (at 1 ⊗ at 2))) ⊗ (at 4 ⊗ (at 1 ⊗ at 2))))
          ((((at 2 ⊗ at 2) ⊗ (at 2 ⊗ at 2)) ⊗ at 2) ⊗ (at 0 ⊗ ((((at 1 ⊗ at 1) ⊗ at 1) ⊗ (at 3 ⊗ at 1)) ⊗ (at 4 ⊗ at 1))))
          refl

      line : {n : ℤ} (m g g' k : ℤ) (c : ℤ) → n <ℤ g → g ≤ℤ g' → g' ≡ k → n ≡ m → c ≡ k → m <ℤ c
      line m g g' k c a b e f i = omega (arith, ints, a, b, e, f, i)

  stayed : StaysAbove half r w → pos ticks <ℤ race_number r p
  stayed h = lt-from_mul_ℤ ((p.den * p.den) * (p.den * p.den) * p.den) _ _ (line _ _ _ _
      (mul-lt_ℤ (p.den * p.den) _ _ (mul-pos s s) (h p.den p.num s (is.after, is.before)))
      (scale half p.den p.den r.pull r.accel) (race_gap-number r p p.den p.num s (omega arith)))
    where
      line : (m g : ℤ) (m' g' : ℤ) → m <ℤ g → m ≡ m' → g ≡ g' → m' <ℤ g'
      line m g m' g' h e f = omega (arith, ints)

  pub stays-at : (pos ticks <ℤ race_number r p) ↔ StaysAbove half r w
  stays-at = (stays, stayed)

-- over each denominator of the time
pub stays-over : (half : ℕ) (r : Race) (w : Times) (time : Fraction) → IsFirstLeastTime r w time → (q t : ℕ) → 0 < q → IsOver q (pos t) time → pos (half * race_tick r q) <ℤ race_gap r q t → StaysAbove half r w
stays-over half r w time is q t p o h q' t' p' d = lt-from_mul_ℤ ((q * q) * (q * q) * q) _ _ (line _ _ _ _ _ _
    (mul-lt_ℤ ((q' * q') * (q' * q') * q') _ _ (mul-pos (mul-pos (mul-pos p' p') (mul-pos p' p')) p') h)
    (is.least (q * q') (t * q') (t' * q) (mul-pos p p') (over t q' time.den time.num q o) (turn (IsDuring-finer q' q w t' d)))
    (race_gap-finer r q t q') (at_turn (race_gap-finer r q' t' q)) (fine half q q' r.pull r.accel) (*ℤ_comm _ (race_gap r q t)) (*ℤ_comm _ (race_gap r q' t')))
  where
    over : (t q' d : ℕ) (n : ℤ) (q : ℕ) → pos t *ℤ pos d ≡ n *ℤ pos q → pos (t * q') *ℤ pos d ≡ n *ℤ pos (q * q')
    over t q' d n q e = ring (pos t ∷ pos q' ∷ pos d ∷ []) ((at 0 ⊗ at 1) ⊗ at 2) ((at 0 ⊗ at 2) ⊗ at 1) refl ∙ ap (λ z. z *ℤ pos q') e ∙ ring (n ∷ pos q ∷ pos q' ∷ []) ((at 0 ⊗ at 1) ⊗ at 2) (at 0 ⊗ (at 1 ⊗ at 2)) refl

    turn : IsDuring (q' * q) w (t' * q) → IsDuring (q * q') w (t' * q)
    turn h = let e : q' * q ≡ q * q' = omega arith in rw e at h

    at_turn : {z : ℤ} → race_gap r (q' * q) (t' * q) ≡ z → race_gap r (q * q') (t' * q) ≡ z
    at_turn h = let e : q' * q ≡ q * q' = omega arith in rw e at h

    fine : (half q q' b a : ℕ) → pos ((q * q) * (q * q) * q) *ℤ pos (half * (q' * q' * q' * (b * q') * (a * q'))) ≡ pos ((q' * q') * (q' * q') * q') *ℤ pos (half * (q * q * q * (b * q) * (a * q)))
    fine half q q' b a = ring (pos half ∷ pos q ∷ pos q' ∷ pos b ∷ pos a ∷ [])
        ((((at 1 ⊗ at 1) ⊗ (at 1 ⊗ at 1)) ⊗ at 1) ⊗ (at 0 ⊗ ((((at 2 ⊗ at 2) ⊗ at 2) ⊗ (at 3 ⊗ at 2)) ⊗ (at 4 ⊗ at 2))))
        ((((at 2 ⊗ at 2) ⊗ (at 2 ⊗ at 2)) ⊗ at 2) ⊗ (at 0 ⊗ ((((at 1 ⊗ at 1) ⊗ at 1) ⊗ (at 3 ⊗ at 1)) ⊗ (at 4 ⊗ at 1))))
        refl

    line : (n g k g' k' m : ℤ) {c c' : ℤ} → n <ℤ c → g ≤ℤ g' → g ≡ k → g' ≡ k' → m ≡ n → c ≡ k → c' ≡ k' → m <ℤ c'
    line n g k g' k' m a b e f i j l = omega (arith, ints, a, b, e, f, i, j, l)

-- ---- upside down

pub race_gap-turned : (r : Race) (q t : ℕ) → race_gap (turned r) q t ≡ neg_ℤ (race_gap r q t)
race_gap-turned r q t = line _ _ _ _ _ _ own other (neg-mul_ℤ r.height (pos (q * q * q * (r.accel * q))))
  where
    own : own_climb (turned r) q t ≡ neg_ℤ (own_climb r q t)
    own = ap₂ (λ (v k : ℤ). held v k (r.pull * q) (r.hold * q) t) (neg-mul_ℤ r.start (pos (q * q))) (neg-mul_ℤ r.aim (pos (q * q))) ∙ turned_held (r.start *ℤ pos (q * q)) (r.aim *ℤ pos (q * q)) (r.pull * q) (r.hold * q) t

    other : approach (neg_ℤ r.rate *ℤ pos (q * q)) (neg_ℤ r.goal *ℤ pos (q * q)) (r.accel * q) t ≡ neg_ℤ (approach (r.rate *ℤ pos (q * q)) (r.goal *ℤ pos (q * q)) (r.accel * q) t)
    other = ap₂ (λ (v k : ℤ). approach v k (r.accel * q) t) (neg-mul_ℤ r.rate (pos (q * q))) (neg-mul_ℤ r.goal (pos (q * q))) ∙ turned_approach (r.rate *ℤ pos (q * q)) (r.goal *ℤ pos (q * q)) (r.accel * q) t

    line : (o o' y y' h h' : ℤ) → o' ≡ neg_ℤ o → y' ≡ neg_ℤ y → h' ≡ neg_ℤ h → (o' *ℤ pos (r.accel * q)) -ℤ ((h' +ℤ y') *ℤ pos (r.pull * q)) ≡ neg_ℤ ((o *ℤ pos (r.accel * q)) -ℤ ((h +ℤ y) *ℤ pos (r.pull * q)))
    line o o' y y' h h' e f g =
        let s : h' +ℤ y' ≡ neg_ℤ (h +ℤ y) = omega (arith, ints) in
        rw (e, s, neg-mul_ℤ o (pos (r.accel * q)), neg-mul_ℤ (h +ℤ y) (pos (r.pull * q))) (last (o *ℤ pos (r.accel * q)) ((h +ℤ y) *ℤ pos (r.pull * q)))
      where
        last : (a b : ℤ) → neg_ℤ a -ℤ neg_ℤ b ≡ neg_ℤ (a -ℤ b)
        last a b = omega (arith, ints)

pub below-turned : (half : ℕ) (r : Race) (w : Times) → StaysAbove half (turned r) w ↔ StaysBelow half r w
below-turned half r w = (
  λ h q t p d. let k = rw (race_gap-turned r q t) at (h q t p d) in omega (arith, ints, k),
  λ h q t p d. rw (race_gap-turned r q t) (let k = h q t p d in omega (arith, ints, k)),
)
