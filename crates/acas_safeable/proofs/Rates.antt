-- What rates a response that meets an advisory leaves.
use Rattle.std.proofs.Common.{◌≡◌, ℕ, ◌+◌, ◌*◌, ⊎_elim, arith, List, [], ◌∷◌, ℤ, pos, neg_ℤ, ◌+ℤ◌, ◌-ℤ◌, ◌*ℤ◌, ◌≤ℤ◌}
use Rattle.std.proofs.lemmas.Int.{ints}
use lib.IntN.{*ℤ_comm}
use Rattle.acas_frac.proofs.SignedProducts.{mul-le_ℤ, mul-neg_ℤ}
use Rattle.acas_frac.proofs.Orders.{cases_lt_ℤ}
use Rattle.acas_flight.proofs.Between.{at_least_pull, at_least_limit}
use Rattle.acas_flight.proofs.Holding.{level_rate}
use Rattle.acas_flight.specs.Response.{Demand, Follows, FollowsThroughout, Meets, Segment, lasting, rate_after}
use Rattle.acas_safeable.specs.Safe.{rate_left}

at_most_limit : (v c : ℤ) (p d : ℕ) → c ≤ℤ pos p → (v +ℤ (c *ℤ pos d)) ≤ℤ (v +ℤ pos (p * d))
at_most_limit v c p d h =
    let k = mul-le_ℤ d c (pos p) h in
    let turned : pos d *ℤ c ≡ c *ℤ pos d = *ℤ_comm (pos d) c in
    let k' = rw turned at k in
    omega (arith, ints)

at_most_pull : (v c : ℤ) (p d : ℕ) → c ≤ℤ neg_ℤ (pos p) → (v +ℤ (c *ℤ pos d)) ≤ℤ (v -ℤ pos (p * d))
at_most_pull v c p d h =
    let k = rw mul-neg_ℤ at (mul-le_ℤ d c (neg_ℤ (pos p)) h) in
    let turned : pos d *ℤ c ≡ c *ℤ pos d = *ℤ_comm (pos d) c in
    let k' = rw turned at k in
    omega (arith, ints)

-- ---- a segment

module _ (a : Demand) (v : ℤ) (s : Segment) (f : Follows a v s) where
  -- from below the interval the rate rises, and from within or above it stays at or above the lower end
  segment_low : (b : ℤ) → b ≤ℤ a.lo → b ≤ℤ v → b ≤ℤ rate_after v s
  segment_low b h k =
      ⊎_elim
      (λ l. let far = at_least_pull v s.acceleration a.pull s.duration (f.from_below l).0 in omega (arith, ints, far))
      (λ l. ⊎_elim (λ u. omega (arith, ints, (f.from_above u).1)) (λ u. omega (arith, ints, (f.from_within l u).0)) (cases_lt_ℤ a.hi v))
      (cases_lt_ℤ v a.lo)

  segment_high : (b : ℤ) → a.hi ≤ℤ b → v ≤ℤ b → rate_after v s ≤ℤ b
  segment_high b h k =
      ⊎_elim
      (λ u. let far = at_most_pull v s.acceleration a.pull s.duration (f.from_above u).0 in omega (arith, ints, far))
      (λ u. ⊎_elim (λ l. omega (arith, ints, (f.from_below l).1)) (λ l. omega (arith, ints, (f.from_within l u).1)) (cases_lt_ℤ v a.lo))
      (cases_lt_ℤ a.hi v)

-- the rate changes by the limit times the duration at most, either way
pub record IsNear (limit : ℕ) (v w : ℤ) (t : ℕ) : Type 0 where
  pub low : (v -ℤ pos (limit * t)) ≤ℤ w
  pub high : w ≤ℤ (v +ℤ pos (limit * t))

near_more : (limit : ℕ) (v w x : ℤ) (d t : ℕ) → IsNear limit v w d → IsNear limit w x t → IsNear limit v x (d + t)
near_more limit v w x d t h k =
    let all : limit * (d + t) ≡ limit * d + limit * t = omega arith in
    record { low = rw all (omega (arith, ints, h.low, k.low)); high = rw all (omega (arith, ints, h.high, k.high)) }

near_segment : (a : Demand) (v : ℤ) (s : Segment) → Follows a v s → IsNear a.limit v (rate_after v s) s.duration
near_segment a v s f = record {
  low = at_least_limit v s.acceleration a.limit s.duration f.at_least;
  high = at_most_limit v s.acceleration a.limit s.duration f.at_most;
}

near_same : (limit : ℕ) (v : ℤ) (t : ℕ) → IsNear limit v v t
near_same limit v t = record { low = omega (arith, ints); high = omega (arith, ints) }

-- ---- a response

module _ (a : Demand) where
  throughout_low : (b v : ℤ) (r : List Segment) → b ≤ℤ a.lo → b ≤ℤ v → FollowsThroughout a v r → b ≤ℤ rate_left v r
  throughout_low b v [] h k f = k
  throughout_low b v (s ∷ rest) h k f = throughout_low b (rate_after v s) rest h (segment_low a v s f.0 b h k) f.1

  throughout_high : (b v : ℤ) (r : List Segment) → a.hi ≤ℤ b → v ≤ℤ b → FollowsThroughout a v r → rate_left v r ≤ℤ b
  throughout_high b v [] h k f = k
  throughout_high b v (s ∷ rest) h k f = throughout_high b (rate_after v s) rest h (segment_high a v s f.0 b h k) f.1

  throughout_near : (v : ℤ) (r : List Segment) → FollowsThroughout a v r → IsNear a.limit v (rate_left v r) (lasting r)
  throughout_near v [] f = near_same a.limit v 0
  throughout_near v (s ∷ rest) f =
      near_more a.limit v (rate_after v s) (rate_left (rate_after v s) rest) s.duration (lasting rest) (near_segment a v s f.0) (throughout_near (rate_after v s) rest f.1)

  -- what is at most the lower end and the start rate is at most the rate that is left
  pub left_low : (b v : ℤ) (r : List Segment) → b ≤ℤ a.lo → b ≤ℤ v → Meets a v r → b ≤ℤ rate_left v r
  left_low b v [] h k m = k
  left_low b v (s ∷ rest) h k m =
      ⊎_elim
      (λ f. throughout_low b v (s ∷ rest) h k f)
      (λ p. throughout_low b (rate_after v s) rest h (rw (level_rate v s p.0.level) k) p.1)
      m

  pub left_high : (b v : ℤ) (r : List Segment) → a.hi ≤ℤ b → v ≤ℤ b → Meets a v r → rate_left v r ≤ℤ b
  left_high b v [] h k m = k
  left_high b v (s ∷ rest) h k m =
      ⊎_elim
      (λ f. throughout_high b v (s ∷ rest) h k f)
      (λ p. throughout_high b (rate_after v s) rest h (rw (level_rate v s p.0.level) k) p.1)
      m

  pub left_near : (v : ℤ) (r : List Segment) → Meets a v r → IsNear a.limit v (rate_left v r) (lasting r)
  left_near v [] m = near_same a.limit v 0
  left_near v (s ∷ rest) m =
      ⊎_elim
      (λ f. throughout_near v (s ∷ rest) f)
      (λ p. near_more a.limit v (rate_after v s) (rate_left (rate_after v s) rest) s.duration (lasting rest)
      (rw (level_rate v s p.0.level) (near_same a.limit v s.duration)) (throughout_near (rate_after v s) rest p.1))
      m
