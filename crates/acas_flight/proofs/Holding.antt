-- A hold before the response: the low curve with its hold bounds each response that meets.
use Rattle.std.proofs.Common.{◌≡◌, ℕ, ◌+◌, ◌-◌, ◌*◌, ◌≤◌, ⊎_elim, refl, ap, arith, cond, List, [], ◌∷◌, ℤ, pos, ◌+ℤ◌, ◌-ℤ◌, ◌*ℤ◌, ◌≤ℤ◌, ◌<ℤ◌, min}
use Rattle.std.proofs.lemmas.Int.{ints}
use Rattle.acas_frac.proofs.SignedProducts.{add-mul_ℤ}
use Rattle.acas_frac.proofs.IntRing.{at, num, ◌⊕◌, ◌⊖◌, ◌⊗◌, ring, zero_mul_ℤ}
use Rattle.acas_frac.proofs.Squares.{sq, hold_step}
use Rattle.acas_frac.proofs.Orders.{by_below, cases_lt_ℤ}
use Rattle.acas_flight.proofs.Curves.{steady, approach_below}
use Rattle.acas_flight.proofs.Steps.{steady-add}
use Rattle.acas_flight.proofs.Between.{OnOrAbove, test_lt, test_ge, low_pull-above, above_to_above, follows_above}
use Rattle.acas_flight.specs.Response.{Segment, Demand, rate_after, climb_within, climb, lasting, FollowsThroughout, Holds, Meets}
use Rattle.acas_flight.specs.Parts.{CanBeMet}
use Rattle.acas_flight.specs.Curves.{approach, held, low_pull, low_hold, lowest}

pub low_hold-below : (a : Demand) (v : ℤ) → v <ℤ a.lo → low_hold a v ≡ a.delay
low_hold-below a v h = ap (λ t. cond t a.delay 0) (test_lt v a.lo h)

pub low_hold-above : (a : Demand) (v : ℤ) → a.lo ≤ℤ v → low_hold a v ≡ 0
low_hold-above a v h = ap (λ t. cond t a.delay 0) (test_ge v a.lo h)

pub steady_below : (k : ℤ) (x p b : ℕ) → steady (k -ℤ pos x) p b ≡ steady k p b -ℤ pos ((x + x) * (b * p))
steady_below k x p b = ring (k ∷ pos x ∷ pos p ∷ pos b ∷ [])
    (((num (pos 2) ⊗ (at 0 ⊖ at 1)) ⊗ at 2) ⊗ at 3)
    ((((num (pos 2) ⊗ at 0) ⊗ at 2) ⊗ at 3) ⊖ ((at 1 ⊕ at 1) ⊗ (at 3 ⊗ at 2)))
    refl

-- to hold a rate that is not above the aim for p leaves at most as much climb
pub hold_lowers : (v k : ℤ) (b p s : ℕ) → v ≤ℤ k → (steady v p b +ℤ approach v k b s) ≤ℤ approach v k b (p + s)
hold_lowers v k b p s h = by_below k v h from
  where
    line : (sp ss : ℤ) (q xx m n : ℕ) → n ≤ m + q → ((sp -ℤ pos q) +ℤ ((ss -ℤ pos xx) +ℤ pos n)) ≤ℤ (((ss +ℤ sp) -ℤ pos xx) +ℤ pos m)
    line sp ss q xx m n l = omega (arith, ints)

    from : (x : ℕ) → v ≡ k -ℤ pos x → (steady v p b +ℤ approach v k b s) ≤ℤ approach v k b (p + s)
    from x e =
        rw (e, approach_below k x b s, approach_below k x b (p + s), steady_below k x p b, steady-add k p s b)
        (line (steady k p b) (steady k s b) ((x + x) * (b * p)) (x * x) (sq (x - b * (p + s))) (sq (x - b * s))
        (let q : b * (p + s) ≡ b * s + b * p = omega arith in rw q (hold_step x (b * s) (b * p))))

-- the rate stays where nothing accelerates
pub level_rate : (v : ℤ) (s : Segment) → s.acceleration ≡ pos 0 → rate_after v s ≡ v
level_rate v s e = rw (e, zero_mul_ℤ) (omega (arith, ints))

pub held-none : (v k : ℤ) (b t : ℕ) → held v k b 0 t ≡ approach v k b t
held-none v k b t =
    let none : min t 0 ≡ 0 = omega arith in
    let all : t - 0 ≡ t = omega arith in
    rw (none, all) (line v b (approach v k b t))
  where
    line : (v : ℤ) (b : ℕ) (y : ℤ) → (((pos 2 *ℤ v) *ℤ pos 0) *ℤ pos b) +ℤ y ≡ y
    line v b y = ring (v ∷ pos b ∷ y ∷ []) ((((num (pos 2) ⊗ at 0) ⊗ num (pos 0)) ⊗ at 1) ⊕ at 2) (at 2) refl

-- after a hold of d, within the hold g of the curve
pub held-within : (v k : ℤ) (b g d t : ℕ) (z : ℤ) → v <ℤ k → d ≤ g → approach v k b t ≤ℤ (z *ℤ pos b) → held v k b g (d + t) ≤ℤ ((((pos 2 *ℤ v) *ℤ pos d) +ℤ z) *ℤ pos b)
held-within v k b g d t z h j low = parts (min (d + t) g - d) ((d + t) - g) (omega arith) (omega arith) refl
  where
    line : (sd sp y y' zb : ℤ) → (sp +ℤ y) ≤ℤ y' → y' ≤ℤ zb → ((sp +ℤ sd) +ℤ y) ≤ℤ (sd +ℤ zb)
    line sd sp y y' zb m n = omega (arith, ints)

    parts : (p s : ℕ) → min (d + t) g ≡ d + p → t ≡ p + s → (d + t) - g ≡ s → held v k b g (d + t) ≤ℤ ((((pos 2 *ℤ v) *ℤ pos d) +ℤ z) *ℤ pos b)
    parts p s e f n =
        let up_to : approach v k b (p + s) ≤ℤ (z *ℤ pos b) = rw (← f) low in
        rw (e, n, add-mul_ℤ ((pos 2 *ℤ v) *ℤ pos d) z (pos b))
        (rw (steady-add v d p b) (line (steady v d b) (steady v p b) (approach v k b s) (approach v k b (p + s)) (z *ℤ pos b) (hold_lowers v k b p s (omega (arith, ints))) up_to))

module _ (a : Demand) (fine : CanBeMet a) where
  -- from the least rate up the curve has no hold
  with_no_hold : (v : ℤ) (t : ℕ) (z : ℤ) → a.lo ≤ℤ v → OnOrAbove v a.lo t z (low_pull a v) → lowest a v t ≤ℤ (z *ℤ pos (low_pull a v))
  with_no_hold v t z h low = rw (low_hold-above a v h, held-none) low

  with_hold : (v : ℤ) (d t : ℕ) (z : ℤ) → v <ℤ a.lo → d ≤ a.delay → OnOrAbove v a.lo t z (low_pull a v) → lowest a v (d + t) ≤ℤ ((((pos 2 *ℤ v) *ℤ pos d) +ℤ z) *ℤ pos (low_pull a v))
  with_hold v d t z h j low = rw (low_hold-below a v h) (held-within v a.lo (low_pull a v) a.delay d t z h j low)

  follows_from : (v : ℤ) (r : List Segment) → FollowsThroughout a v r → lowest a v (lasting r) ≤ℤ (climb v r *ℤ pos (low_pull a v))
  follows_from v r f =
      let low = follows_above a fine v r f in
      ⊎_elim
      (λ h. let k = with_hold v 0 (lasting r) (climb v r) h (omega arith) low in
      let none : 0 + lasting r ≡ lasting r = omega arith in
      let same : ((pos 2 *ℤ v) *ℤ pos 0) +ℤ climb v r ≡ climb v r = ring (v ∷ climb v r ∷ []) (((num (pos 2) ⊗ at 0) ⊗ num (pos 0)) ⊕ at 1) (at 1) refl in
      rw (none, same) at k)
      (λ h. with_no_hold v (lasting r) (climb v r) h low)
      (cases_lt_ℤ v a.lo)

  -- the climb of a hold
  hold_climb : (v : ℤ) (s : Segment) → s.acceleration ≡ pos 0 → climb_within v s ≡ (pos 2 *ℤ v) *ℤ pos s.duration
  hold_climb v s e = rw e (ring (v ∷ pos s.duration ∷ []) (((num (pos 2) ⊗ at 0) ⊗ at 1) ⊕ ((num (pos 0) ⊗ at 1) ⊗ at 1)) ((num (pos 2) ⊗ at 0) ⊗ at 1) refl)

  holds_from : (v : ℤ) (s : Segment) (rest : List Segment) → Holds a s → FollowsThroughout a (rate_after v s) rest →
      lowest a v (s.duration + lasting rest) ≤ℤ ((climb_within v s +ℤ climb (rate_after v s) rest) *ℤ pos (low_pull a v))
  holds_from v s rest held f =
      let low = rw (level_rate v s held.level) at (follows_above a fine (rate_after v s) rest f) in
      rw (level_rate v s held.level, hold_climb v s held.level)
      (⊎_elim
      (λ h. with_hold v s.duration (lasting rest) (climb v rest) h held.in_time low)
      (λ h. with_no_hold v (s.duration + lasting rest) (((pos 2 *ℤ v) *ℤ pos s.duration) +ℤ climb v rest) h
      (let low' = rw (low_pull-above a v h) at low in
      let twice : (pos 2 *ℤ v) *ℤ pos s.duration ≡ (v +ℤ v) *ℤ pos s.duration = ring (v ∷ pos s.duration ∷ []) ((num (pos 2) ⊗ at 0) ⊗ at 1) ((at 0 ⊕ at 0) ⊗ at 1) refl in
      rw (twice, low_pull-above a v h) (above_to_above a.lo a.pull a.limit s.duration (lasting rest) v v (climb v rest) h h (under v (a.limit * s.duration)) low')))
      (cases_lt_ℤ v a.lo))
    where
      under : (v : ℤ) (n : ℕ) → (v -ℤ pos n) ≤ℤ v
      under v n = omega (arith, ints)

  -- Each response that meets the advisory stays at or above the low curve.
  pub meets_above : (v : ℤ) (r : List Segment) → Meets a v r → lowest a v (lasting r) ≤ℤ (climb v r *ℤ pos (low_pull a v))
  meets_above v [] m = follows_from v [] tt
  meets_above v (s ∷ rest) m = ⊎_elim (λ f. follows_from v (s ∷ rest) f) (λ p. holds_from v s rest p.0 p.1) m
