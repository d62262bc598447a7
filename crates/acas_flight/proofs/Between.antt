-- Each response that meets an advisory climbs between the two curves.
use Rattle.std.proofs.Common.{◌≡◌, ℕ, ◌+◌, ◌-◌, ◌*◌, ◌<◌, ◌≤◌, ⊎_elim, sym, ap, arith, true, false, cond, List, [], ◌∷◌, ℤ, pos, ◌+ℤ◌, ◌-ℤ◌, ◌*ℤ◌, ◌≤ℤ◌, ◌<ℤ◌, neg_ℤ, int_lt}
use Rattle.std.proofs.lemmas.Int.{ints}
use lib.IntN.{*ℤ_comm}
use Rattle.acas_frac.proofs.SignedProducts.{mul-le_ℤ, mul-neg_ℤ}
use Rattle.acas_frac.proofs.Orders.{by_above, by_below, cases_lt_ℤ}
use Rattle.acas_flight.proofs.Curves.{approach-at_once}
use Rattle.acas_flight.proofs.Steps.{piece, low_stays_below, low_goes_above, low_stays_above, steady_at_most}
use Rattle.acas_flight.specs.Response.{Segment, Demand, rate_after, climb, lasting, Follows, FollowsThroughout}
use Rattle.acas_flight.specs.Parts.{CanBeMet}
use Rattle.acas_flight.specs.Curves.{approach, low_pull}

pub test_lt : (v k : ℤ) → v <ℤ k → int_lt v k ≡ true
test_lt v k h = let e : true ≡ int_lt v k = omega (arith, ints) in sym e

pub test_ge : (v k : ℤ) → k ≤ℤ v → int_lt v k ≡ false
test_ge v k h = let e : false ≡ int_lt v k = omega (arith, ints) in sym e

pub low_pull-below : (a : Demand) (v : ℤ) → v <ℤ a.lo → low_pull a v ≡ a.pull
low_pull-below a v h = ap (λ t. cond t a.pull a.limit) (test_lt v a.lo h)

pub low_pull-above : (a : Demand) (v : ℤ) → a.lo ≤ℤ v → low_pull a v ≡ a.limit
low_pull-above a v h = ap (λ t. cond t a.pull a.limit) (test_ge v a.lo h)

-- b times the climb z is at or above the approach
abbrev pub OnOrAbove : ℤ → ℤ → ℕ → ℤ → ℕ → Type 0
OnOrAbove v k t z b = approach v k b t ≤ℤ (z *ℤ pos b)

-- one more piece from the rate v to the rate w, of the duration d, before a flight that climbs z in the time t
module _ (k : ℤ) (pull limit d t : ℕ) (v w z : ℤ) where
  pub below_to_below : v <ℤ k → w <ℤ k → (v +ℤ pos (pull * d)) ≤ℤ w → OnOrAbove w k t z pull → OnOrAbove v k (d + t) (((v +ℤ w) *ℤ pos d) +ℤ z) pull
  below_to_below h j p low = by_below k v (omega (arith, ints)) (λ x e. by_below k w (omega (arith, ints)) (λ y f. from x e y f))
    where
      from : (x : ℕ) → v ≡ k -ℤ pos x → (y : ℕ) → w ≡ k -ℤ pos y → OnOrAbove v k (d + t) (((v +ℤ w) *ℤ pos d) +ℤ z) pull
      from x e y f =
          let far : y + pull * d ≤ x = omega (arith, ints) in
          let low' = rw f at low in
          rw (f, e) (low_stays_below k x y pull d t (x - (y + pull * d)) z (omega arith) low')

  pub below_to_above : v <ℤ k → k ≤ℤ w → (v +ℤ pos (pull * d)) ≤ℤ w → 0 < limit → OnOrAbove w k t z limit → OnOrAbove v k (d + t) (((v +ℤ w) *ℤ pos d) +ℤ z) pull
  below_to_above h j p s low = by_below k v (omega (arith, ints)) (λ x e. by_above k w j (λ u f. from x e u f))
    where
      from : (x : ℕ) → v ≡ k -ℤ pos x → (u : ℕ) → w ≡ k +ℤ pos u → OnOrAbove v k (d + t) (((v +ℤ w) *ℤ pos d) +ℤ z) pull
      from x e u f =
          let low' = rw f at low in
          rw (f, e) (low_goes_above k x u pull d t z (omega (arith, ints)) (steady_at_most k u limit t z s low'))

  pub above_to_above : k ≤ℤ v → k ≤ℤ w → (v -ℤ pos (limit * d)) ≤ℤ w → OnOrAbove w k t z limit → OnOrAbove v k (d + t) (((v +ℤ w) *ℤ pos d) +ℤ z) limit
  above_to_above h j p low = by_above k v h (λ u e. by_above k w j (λ y f. from u e y f))
    where
      from : (u : ℕ) → v ≡ k +ℤ pos u → (y : ℕ) → w ≡ k +ℤ pos y → OnOrAbove v k (d + t) (((v +ℤ w) *ℤ pos d) +ℤ z) limit
      from u e y f =
          let far : u ≤ y + limit * d = omega (arith, ints) in
          let low' = rw f at low in
          rw (f, e) (low_stays_above k u y limit d t ((y + limit * d) - u) z (omega arith) low')

pub at_least_pull : (v c : ℤ) (p d : ℕ) → pos p ≤ℤ c → (v +ℤ pos (p * d)) ≤ℤ (v +ℤ (c *ℤ pos d))
at_least_pull v c p d h =
    let k = mul-le_ℤ d (pos p) c h in
    let turned : pos d *ℤ c ≡ c *ℤ pos d = *ℤ_comm (pos d) c in
    let k' = rw turned at k in
    omega (arith, ints)

pub at_least_limit : (v c : ℤ) (p d : ℕ) → neg_ℤ (pos p) ≤ℤ c → (v -ℤ pos (p * d)) ≤ℤ (v +ℤ (c *ℤ pos d))
at_least_limit v c p d h =
    let k = rw mul-neg_ℤ at (mul-le_ℤ d (neg_ℤ (pos p)) c h) in
    let turned : pos d *ℤ c ≡ c *ℤ pos d = *ℤ_comm (pos d) c in
    let k' = rw turned at k in
    omega (arith, ints)

module _ (a : Demand) (fine : CanBeMet a) where
  -- one segment more
  pub one_more : (v : ℤ) (s : Segment) (t : ℕ) (z : ℤ) → Follows a v s →
      OnOrAbove (rate_after v s) a.lo t z (low_pull a (rate_after v s)) →
      OnOrAbove v a.lo (s.duration + t) (((v +ℤ rate_after v s) *ℤ pos s.duration) +ℤ z) (low_pull a v)
  one_more v s t z f low = ⊎_elim from_below from_above (cases_lt_ℤ v a.lo)
    where
      from_below : v <ℤ a.lo → OnOrAbove v a.lo (s.duration + t) (((v +ℤ rate_after v s) *ℤ pos s.duration) +ℤ z) (low_pull a v)
      from_below h =
          let far = at_least_pull v s.acceleration a.pull s.duration (f.from_below h).0 in
          rw (low_pull-below a v h)
          (⊎_elim
          (λ j. let low' = rw (low_pull-below a (rate_after v s) j) at low in
          below_to_below a.lo a.pull a.limit s.duration t v (rate_after v s) z h j far low')
          (λ j. let low' = rw (low_pull-above a (rate_after v s) j) at low in
          below_to_above a.lo a.pull a.limit s.duration t v (rate_after v s) z h j far (omega (arith, fine.some_pull, fine.pull_within)) low')
          (cases_lt_ℤ (rate_after v s) a.lo))

      from_above : a.lo ≤ℤ v → OnOrAbove v a.lo (s.duration + t) (((v +ℤ rate_after v s) *ℤ pos s.duration) +ℤ z) (low_pull a v)
      from_above h =
          let still : a.lo ≤ℤ rate_after v s = ⊎_elim (λ j. (f.from_above j).1) (λ j. (f.from_within h j).0) (cases_lt_ℤ a.hi v) in
          let low' = rw (low_pull-above a (rate_after v s) still) at low in
          rw (low_pull-above a v h)
          (above_to_above a.lo a.pull a.limit s.duration t v (rate_after v s) z h still (at_least_limit v s.acceleration a.limit s.duration f.at_least) low')

  -- a response that follows throughout
  pub follows_above : (v : ℤ) (r : List Segment) → FollowsThroughout a v r → OnOrAbove v a.lo (lasting r) (climb v r) (low_pull a v)
  follows_above v [] f = rw (approach-at_once v a.lo (low_pull a v)) (nothing (low_pull a v))
    where
      nothing : (b : ℕ) → pos 0 ≤ℤ (pos 0 *ℤ pos b)
      nothing b = omega (arith, ints)
  follows_above v (s ∷ rest) f =
      rw (piece v (s.acceleration *ℤ pos s.duration) s.duration)
      (one_more v s (lasting rest) (climb (rate_after v s) rest) f.0 (follows_above (rate_after v s) rest f.1))
