-- The response of a flight of the search has the climb of its curve, and meets the advisory.
use Rattle.std.proofs.Common.{◌≡◌, ℕ, ◌+◌, ◌-◌, ◌*◌, ◌<◌, ◌≤◌, inl, inr, refl, ap, ◌∙◌, sym, arith, List, [], ◌∷◌, ◌++◌, ℤ, pos, neg_ℤ, ◌+ℤ◌, ◌-ℤ◌, ◌*ℤ◌, ◌≤ℤ◌, mul-le-mul_left}
use Rattle.std.proofs.lemmas.Int.{ints}
use Rattle.acas_frac.proofs.SignedProducts.{neg-mul_ℤ}
use Rattle.acas_frac.proofs.IntRing.{at, num, ◌⊕◌, ◌⊖◌, ◌⊗◌, ring, zero-sub_ℤ}
use Rattle.acas_frac.proofs.Squares.{sq}
use Rattle.acas_flight.proofs.Curves.{steady, approach_below, approach_above, approach-at_once}
use Rattle.acas_pass_lemmas.proofs.Approaches.{climb-speeding, climb-speeding_level, speeding-Follows, level-Follows}
use Rattle.acas_flight.specs.Response.{Segment, Demand, rate_after, climb, lasting, Follows, FollowsThroughout, Meets}
use Rattle.acas_flight.specs.Curves.{approach}
use Rattle.acas_areas.specs.Responses.{segment, IsHoldFor, not_held, held_for, IsApproachFor, at_once, at_aim, before, past, IsToward, up, down}

-- ---- downwards

-- before the aim is reached
climb-slowing : (k : ℤ) (x b t : ℕ) → b * t ≤ x → climb (k +ℤ pos x) (segment t (neg_ℤ (pos b)) ∷ []) *ℤ pos b ≡ approach (k +ℤ pos x) k b t
climb-slowing k x b t h = from (x - b * t) (omega arith) ∙ sym (approach_above k x b t)
  where
    from : (y : ℕ) → x ≡ y + b * t → climb (k +ℤ pos x) (segment t (neg_ℤ (pos b)) ∷ []) *ℤ pos b ≡ (steady k t b +ℤ pos (x * x)) -ℤ pos (sq (x - b * t))
    from y e =
        let rest : x - b * t ≡ y = omega arith in
        rw (← zero-sub_ℤ (pos b), rest, e) (ring (k ∷ pos y ∷ pos b ∷ pos t ∷ [])
        ((((num (pos 2) ⊗ (at 0 ⊕ (at 1 ⊕ at 2 ⊗ at 3))) ⊗ at 3 ⊕ ((num (pos 0) ⊖ at 2) ⊗ at 3) ⊗ at 3) ⊕ num (pos 0)) ⊗ at 2)
        (((((num (pos 2) ⊗ at 0) ⊗ at 3) ⊗ at 2) ⊕ ((at 1 ⊕ at 2 ⊗ at 3) ⊗ (at 1 ⊕ at 2 ⊗ at 3))) ⊖ (at 1 ⊗ at 1))
        refl)

-- after it
climb-slowing_level : (k : ℤ) (b d t : ℕ) → climb (k +ℤ pos (b * d)) (segment d (neg_ℤ (pos b)) ∷ segment t (pos 0) ∷ []) *ℤ pos b ≡ approach (k +ℤ pos (b * d)) k b (d + t)
climb-slowing_level k b d t =
    let none : b * d - b * (d + t) ≡ 0 = omega arith in
    rw (← zero-sub_ℤ (pos b)) (
    ring (k ∷ pos b ∷ pos d ∷ pos t ∷ [])
    ((((num (pos 2) ⊗ (at 0 ⊕ at 1 ⊗ at 2)) ⊗ at 2 ⊕ ((num (pos 0) ⊖ at 1) ⊗ at 2) ⊗ at 2) ⊕ (((num (pos 2) ⊗ ((at 0 ⊕ at 1 ⊗ at 2) ⊕ (num (pos 0) ⊖ at 1) ⊗ at 2)) ⊗ at 3 ⊕ (num (pos 0) ⊗ at 3) ⊗ at 3) ⊕ num (pos 0))) ⊗ at 1)
    (((((num (pos 2) ⊗ at 0) ⊗ (at 2 ⊕ at 3)) ⊗ at 1) ⊕ ((at 1 ⊗ at 2) ⊗ (at 1 ⊗ at 2))) ⊖ num (pos 0))
    refl
    ∙ sym (approach_above k (b * d) b (d + t) ∙ rw none refl))

slowing-Follows : (a : Demand) (k : ℤ) (x b t : ℕ) → 0 < t → b * t ≤ x → a.lo ≤ℤ k → k ≤ℤ a.hi → a.pull ≤ b → b ≤ a.limit → Follows a (k +ℤ pos x) (segment t (neg_ℤ (pos b)))
slowing-Follows a k x b t p h i j m n = by (neg_ℤ (pos b) *ℤ pos t) (neg-mul_ℤ (pos b) (pos t))
  where
    by : (c : ℤ) → c ≡ neg_ℤ (pos b *ℤ pos t) → Follows a (k +ℤ pos x) (segment t (neg_ℤ (pos b)))
    by c e = record {
      lasts = p;
      at_least = omega (arith, ints);
      at_most = omega (arith, ints);
      from_below = λ u. absurd (omega (arith, ints));
      from_above = λ u. (omega (arith, ints), rw (neg-mul_ℤ (pos b) (pos t)) (omega (arith, ints)));
      from_within = λ u l. (rw (neg-mul_ℤ (pos b) (pos t)) (omega (arith, ints)), rw (neg-mul_ℤ (pos b) (pos t)) (omega (arith, ints)));
    }

-- ---- at the aim

climb-level : (k : ℤ) (b t : ℕ) → climb k (segment t (pos 0) ∷ []) *ℤ pos b ≡ approach k k b t
climb-level k b t =
    let same : k -ℤ pos 0 ≡ k = omega (arith, ints) in
    let none : 0 - b * t ≡ 0 = omega arith in
    ring (k ∷ pos b ∷ pos t ∷ [])
    ((((num (pos 2) ⊗ at 0) ⊗ at 2 ⊕ (num (pos 0) ⊗ at 2) ⊗ at 2) ⊕ num (pos 0)) ⊗ at 1)
    (((((num (pos 2) ⊗ at 0) ⊗ at 2) ⊗ at 1) ⊖ num (pos 0)) ⊕ num (pos 0))
    refl
    ∙ sym (ap (λ v. approach v k b t) (sym same) ∙ approach_below k 0 b t ∙ rw none refl)

-- ---- both ways

pub approach-lasting : (bend : ℕ) (c : ℤ) (t : ℕ) (r : List Segment) → IsApproachFor bend c t r → lasting r ≡ t
approach-lasting bend c _ _ at_once = refl
approach-lasting bend c _ _ (at_aim t p e) = omega arith
approach-lasting bend c _ _ (before t p b h) = omega arith
approach-lasting bend c _ _ (past t b h) = omega arith

upwards : (k : ℤ) (b bend t : ℕ) (r : List Segment) → IsApproachFor bend (pos b) t r → climb (k -ℤ pos (b * bend)) r *ℤ pos b ≡ approach (k -ℤ pos (b * bend)) k b t
upwards k b bend _ _ at_once = rw (approach-at_once (k -ℤ pos (b * bend)) k b) (omega (arith, ints))
upwards k b bend _ _ (at_aim t p e) =
    let same : k -ℤ pos (b * 0) ≡ k = omega (arith, ints) in
    rw (e, same) (climb-level k b t)
upwards k b bend _ _ (before t p s h) = climb-speeding k (b * bend) b t (mul-le-mul_left b h)
upwards k b bend _ _ (past t s h) =
    let e : bend + (t - bend) ≡ t = omega arith in
    climb-speeding_level k b bend (t - bend) ∙ ap (λ n. approach (k -ℤ pos (b * bend)) k b n) e

downwards : (k : ℤ) (b bend t : ℕ) (r : List Segment) → IsApproachFor bend (neg_ℤ (pos b)) t r → climb (k +ℤ pos (b * bend)) r *ℤ pos b ≡ approach (k +ℤ pos (b * bend)) k b t
downwards k b bend _ _ at_once = rw (approach-at_once (k +ℤ pos (b * bend)) k b) (omega (arith, ints))
downwards k b bend _ _ (at_aim t p e) =
    let same : k +ℤ pos (b * 0) ≡ k = omega (arith, ints) in
    rw (e, same) (climb-level k b t)
downwards k b bend _ _ (before t p s h) = climb-slowing k (b * bend) b t (mul-le-mul_left b h)
downwards k b bend _ _ (past t s h) =
    let e : bend + (t - bend) ≡ t = omega arith in
    climb-slowing_level k b bend (t - bend) ∙ ap (λ n. approach (k +ℤ pos (b * bend)) k b n) e

pub approach-climb : (v k : ℤ) (b bend : ℕ) (c : ℤ) (t : ℕ) (r : List Segment) → IsToward v k b bend c → IsApproachFor bend c t r → climb v r *ℤ pos b ≡ approach v k b t
approach-climb v k b bend _ t r (up e) i = rw e (upwards k b bend t r i)
approach-climb v k b bend _ t r (down e) i = rw e (downwards k b bend t r i)

-- ---- the segments follow the advisory

module _ (a : Demand) (k : ℤ) (b : ℕ) (above : a.lo ≤ℤ k) (below : k ≤ℤ a.hi) (least : a.pull ≤ b) (most : b ≤ a.limit) where
  up_rate : (bend : ℕ) → rate_after (k -ℤ pos (b * bend)) (segment bend (pos b)) ≡ k
  up_rate bend = ring (k ∷ pos b ∷ pos bend ∷ []) ((at 0 ⊖ (at 1 ⊗ at 2)) ⊕ (at 1 ⊗ at 2)) (at 0) refl

  down_rate : (bend : ℕ) → rate_after (k +ℤ pos (b * bend)) (segment bend (neg_ℤ (pos b))) ≡ k
  down_rate bend = rw (← zero-sub_ℤ (pos b)) (ring (k ∷ pos b ∷ pos bend ∷ []) ((at 0 ⊕ (at 1 ⊗ at 2)) ⊕ ((num (pos 0) ⊖ at 1) ⊗ at 2)) (at 0) refl)

  upwards-follows : (bend t : ℕ) (r : List Segment) → IsApproachFor bend (pos b) t r → FollowsThroughout a (k -ℤ pos (b * bend)) r
  upwards-follows bend _ _ at_once = tt
  upwards-follows bend _ _ (at_aim t p e) =
      let same : k -ℤ pos (b * 0) ≡ k = omega (arith, ints) in
      rw (e, same) (level-Follows a k t p above below, tt)
  upwards-follows bend _ _ (before t p s h) = (speeding-Follows a k (b * bend) b t p (mul-le-mul_left b h) above below least most, tt)
  upwards-follows bend _ _ (past t s h) = (
    speeding-Follows a k (b * bend) b bend s (omega arith) above below least most,
    (rw (up_rate bend) (level-Follows a k (t - bend) (omega arith) above below), tt),
  )

  downwards-follows : (bend t : ℕ) (r : List Segment) → IsApproachFor bend (neg_ℤ (pos b)) t r → FollowsThroughout a (k +ℤ pos (b * bend)) r
  downwards-follows bend _ _ at_once = tt
  downwards-follows bend _ _ (at_aim t p e) =
      let same : k +ℤ pos (b * 0) ≡ k = omega (arith, ints) in
      rw (e, same) (level-Follows a k t p above below, tt)
  downwards-follows bend _ _ (before t p s h) = (slowing-Follows a k (b * bend) b t p (mul-le-mul_left b h) above below least most, tt)
  downwards-follows bend _ _ (past t s h) = (
    slowing-Follows a k (b * bend) b bend s (omega arith) above below least most,
    (rw (down_rate bend) (level-Follows a k (t - bend) (omega arith) above below), tt),
  )

  pub approach-follows : (v : ℤ) (bend : ℕ) (c : ℤ) (t : ℕ) (r : List Segment) → IsToward v k b bend c → IsApproachFor bend c t r → FollowsThroughout a v r
  approach-follows v bend _ t r (up e) i = rw e (upwards-follows bend t r i)
  approach-follows v bend _ t r (down e) i = rw e (downwards-follows bend t r i)

-- ---- with the hold before

follows-meets : (a : Demand) (v : ℤ) (r : List Segment) → FollowsThroughout a v r → Meets a v r
follows-meets a v [] f = tt
follows-meets a v (s ∷ rest) f = inl f

level_rate : (v : ℤ) (t : ℕ) → rate_after v (segment t (pos 0)) ≡ v
level_rate v t = ring (v ∷ pos t ∷ []) (at 0 ⊕ (num (pos 0) ⊗ at 1)) (at 0) refl

pub response-meets : (a : Demand) (v : ℤ) (g : ℕ) (h r : List Segment) → g ≤ a.delay → IsHoldFor g h → FollowsThroughout a v r → Meets a v (h ++ r)
response-meets a v _ _ r l not_held f = follows-meets a v r f
response-meets a v _ _ r l (held_for t p) f = inr (record { lasts = p; level = refl; in_time = l }, rw (level_rate v t) f)

pub response-lasting : (g t : ℕ) (h r : List Segment) → IsHoldFor g h → lasting r ≡ t → lasting (h ++ r) ≡ g + t
response-lasting _ t _ r not_held e = e ∙ omega arith
response-lasting _ t _ r (held_for g p) e = ap (λ n. g + n) e

pub response-climb : (v : ℤ) (b g : ℕ) (h r : List Segment) (z : ℤ) → IsHoldFor g h → climb v r *ℤ pos b ≡ z → climb v (h ++ r) *ℤ pos b ≡ (((pos 2 *ℤ v) *ℤ pos g) *ℤ pos b) +ℤ z
response-climb v b _ _ r z not_held e = e ∙ ring (v ∷ pos b ∷ z ∷ []) (at 2) ((((num (pos 2) ⊗ at 0) ⊗ num (pos 0)) ⊗ at 1) ⊕ at 2) refl
response-climb v b _ _ r z (held_for t p) e =
    rw (level_rate v t) (
    ring (v ∷ pos b ∷ pos t ∷ climb v r ∷ [])
    ((((num (pos 2) ⊗ at 0) ⊗ at 2 ⊕ (num (pos 0) ⊗ at 2) ⊗ at 2) ⊕ at 3) ⊗ at 1)
    ((((num (pos 2) ⊗ at 0) ⊗ at 2) ⊗ at 1) ⊕ (at 3 ⊗ at 1))
    refl
    ∙ ap (λ y. (((pos 2 *ℤ v) *ℤ pos t) *ℤ pos b) +ℤ y) e)
