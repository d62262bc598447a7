-- Turned upside down, a flight that meets an advisory meets the advisory turned upside down. So the high curve follows
-- from the low one.
use Rattle.std.proofs.Common.{◌≡◌, ℕ, ◌+◌, ◌-◌, ◌*◌, inl, inr, ⊎_elim, refl, sym, ap, ap₂, ◌∙◌, arith, cond, List, [], ◌∷◌, ℤ, pos, ◌+ℤ◌, ◌-ℤ◌, ◌*ℤ◌, ◌≤ℤ◌, neg_ℤ, int_lt, min}
use Rattle.std.proofs.lemmas.Int.{ints}
use Rattle.acas_frac.proofs.SignedProducts.{mul-neg_ℤ, neg-mul_ℤ}
use Rattle.acas_frac.proofs.Squares.{sq}
use Rattle.acas_frac.proofs.Orders.{by_below, by_above, cases_lt_ℤ, turned_le}
use Rattle.acas_flight.proofs.Curves.{steady, approach_below, approach_above}
use Rattle.acas_flight.proofs.Between.{test_lt, test_ge}
use Rattle.acas_flight.proofs.Holding.{meets_above}
use Rattle.acas_flight.specs.Response.{Segment, Demand, rate_after, climb_within, climb, lasting, Follows, FollowsThroughout, Holds, Meets}
use Rattle.acas_flight.specs.Parts.{CanBeMet}
use Rattle.acas_flight.specs.Curves.{approach, held, low_pull, lowest, high_pull, high_hold, highest}

abbrev pub turned_segment : Segment → Segment
turned_segment s = record { duration = s.duration; acceleration = neg_ℤ s.acceleration }

abbrev pub turned_response : List Segment → List Segment
turned_response [] = []
turned_response (s ∷ rest) = turned_segment s ∷ turned_response rest

abbrev pub turned_demand : Demand → Demand
turned_demand a = record { lo = neg_ℤ a.hi; hi = neg_ℤ a.lo; pull = a.pull; limit = a.limit; delay = a.delay }

neg_add : (a b : ℤ) → neg_ℤ (a +ℤ b) ≡ neg_ℤ a +ℤ neg_ℤ b
neg_add a b = omega (arith, ints)

turned_rate : (v : ℤ) (s : Segment) → rate_after (neg_ℤ v) (turned_segment s) ≡ neg_ℤ (rate_after v s)
turned_rate v s = rw (neg-mul_ℤ s.acceleration (pos s.duration), neg_add v (s.acceleration *ℤ pos s.duration))

turned_within : (v : ℤ) (s : Segment) → climb_within (neg_ℤ v) (turned_segment s) ≡ neg_ℤ (climb_within v s)
turned_within v s = turned v s.acceleration (pos s.duration)
  where
    turned : (v c d : ℤ) → ((pos 2 *ℤ neg_ℤ v) *ℤ d) +ℤ ((neg_ℤ c *ℤ d) *ℤ d) ≡ neg_ℤ (((pos 2 *ℤ v) *ℤ d) +ℤ ((c *ℤ d) *ℤ d))
    turned v c d = rw (neg-mul_ℤ c d, neg-mul_ℤ (c *ℤ d) d, mul-neg_ℤ (pos 2) v, neg-mul_ℤ (pos 2 *ℤ v) d, neg_add)

turned_climb : (v : ℤ) (r : List Segment) → climb (neg_ℤ v) (turned_response r) ≡ neg_ℤ (climb v r)
turned_climb v [] = refl
turned_climb v (s ∷ rest) = rw (turned_rate v s, turned_climb (rate_after v s) rest, turned_within v s, neg_add (climb_within v s) (climb (rate_after v s) rest))

turned_lasting : (r : List Segment) → lasting (turned_response r) ≡ lasting r
turned_lasting [] = refl
turned_lasting (s ∷ rest) = ap (λ n. s.duration + n) (turned_lasting rest)

turned_follows : (a : Demand) (v : ℤ) (s : Segment) → Follows a v s → Follows (turned_demand a) (neg_ℤ v) (turned_segment s)
turned_follows a v s f = record {
  lasts = f.lasts;
  at_least = omega (arith, ints, f.at_most);
  at_most = omega (arith, ints, f.at_least);
  from_below = λ h. (omega (arith, ints, (f.from_above (omega (arith, ints))).0), rw (turned_rate v s) (omega (arith, ints, (f.from_above (omega (arith, ints))).1)));
  from_above = λ h. (omega (arith, ints, (f.from_below (omega (arith, ints))).0), rw (turned_rate v s) (omega (arith, ints, (f.from_below (omega (arith, ints))).1)));
  from_within = λ h k. rw (turned_rate v s) (let w = f.from_within (omega (arith, ints)) (omega (arith, ints)) in (omega (arith, ints, w.1), omega (arith, ints, w.0)));
}

turned_throughout : (a : Demand) (v : ℤ) (r : List Segment) → FollowsThroughout a v r → FollowsThroughout (turned_demand a) (neg_ℤ v) (turned_response r)
turned_throughout a v [] f = tt
turned_throughout a v (s ∷ rest) f = (turned_follows a v s f.0, rw (turned_rate v s) (turned_throughout a (rate_after v s) rest f.1))

turned_holds : (a : Demand) (s : Segment) → Holds a s → Holds (turned_demand a) (turned_segment s)
turned_holds a s h = record { lasts = h.lasts; level = ap neg_ℤ h.level; in_time = h.in_time }

turned_meets : (a : Demand) (v : ℤ) (r : List Segment) → Meets a v r → Meets (turned_demand a) (neg_ℤ v) (turned_response r)
turned_meets a v [] m = tt
turned_meets a v (s ∷ rest) m =
    ⊎_elim
    (λ f. inl (turned_throughout a v (s ∷ rest) f))
    (λ p. inr (turned_holds a s p.0, rw (turned_rate v s) (turned_throughout a (rate_after v s) rest p.1)))
    m

pub steady_turned : (k : ℤ) (t b : ℕ) → steady (neg_ℤ k) t b ≡ neg_ℤ (steady k t b)
steady_turned k t b = rw (mul-neg_ℤ (pos 2) k, neg-mul_ℤ (pos 2 *ℤ k) (pos t), neg-mul_ℤ ((pos 2 *ℤ k) *ℤ pos t) (pos b))

pub turned_approach : (v k : ℤ) (b t : ℕ) → approach (neg_ℤ v) (neg_ℤ k) b t ≡ neg_ℤ (approach v k b t)
turned_approach v k b t = ⊎_elim (λ h. by_below k v (omega (arith, ints)) under) (λ h. by_above k v h over) (cases_lt_ℤ v k)
  where
    up_line : (s : ℤ) (m n : ℕ) → (neg_ℤ s +ℤ pos m) -ℤ pos n ≡ neg_ℤ ((s -ℤ pos m) +ℤ pos n)
    up_line s m n = omega (arith, ints)

    down_line : (s : ℤ) (m n : ℕ) → (neg_ℤ s -ℤ pos m) +ℤ pos n ≡ neg_ℤ ((s +ℤ pos m) -ℤ pos n)
    down_line s m n = omega (arith, ints)

    under : (x : ℕ) → v ≡ k -ℤ pos x → approach (neg_ℤ v) (neg_ℤ k) b t ≡ neg_ℤ (approach v k b t)
    under x e =
        let other : neg_ℤ v ≡ neg_ℤ k +ℤ pos x = omega (arith, ints) in
        ap (λ w. approach w (neg_ℤ k) b t) other ∙ approach_above (neg_ℤ k) x b t
        ∙ ap (λ s. (s +ℤ pos (x * x)) -ℤ pos (sq (x - b * t))) (steady_turned k t b)
        ∙ up_line (steady k t b) (x * x) (sq (x - b * t))
        ∙ ap neg_ℤ (sym (approach_below k x b t) ∙ ap (λ w. approach w k b t) (sym e))

    over : (x : ℕ) → v ≡ k +ℤ pos x → approach (neg_ℤ v) (neg_ℤ k) b t ≡ neg_ℤ (approach v k b t)
    over x e =
        let other : neg_ℤ v ≡ neg_ℤ k -ℤ pos x = omega (arith, ints) in
        ap (λ w. approach w (neg_ℤ k) b t) other ∙ approach_below (neg_ℤ k) x b t
        ∙ ap (λ s. (s -ℤ pos (x * x)) +ℤ pos (sq (x - b * t))) (steady_turned k t b)
        ∙ down_line (steady k t b) (x * x) (sq (x - b * t))
        ∙ ap neg_ℤ (sym (approach_above k x b t) ∙ ap (λ w. approach w k b t) (sym e))

pub turned_held : (v k : ℤ) (b g t : ℕ) → held (neg_ℤ v) (neg_ℤ k) b g t ≡ neg_ℤ (held v k b g t)
turned_held v k b g t =
    ap₂ ◌+ℤ◌ (steady_turned v (min t g) b) (turned_approach v k b (t - g))
    ∙ sym (neg_add (steady v (min t g) b) (approach v k b (t - g)))

pub turned_test : (a b : ℤ) → int_lt (neg_ℤ a) (neg_ℤ b) ≡ int_lt b a
turned_test a b = ⊎_elim (λ h. test_lt (neg_ℤ a) (neg_ℤ b) (omega (arith, ints)) ∙ sym (test_lt b a h)) (λ h. test_ge (neg_ℤ a) (neg_ℤ b) (omega (arith, ints)) ∙ sym (test_ge b a h)) (cases_lt_ℤ b a)

pub turned_lowest : (a : Demand) (v : ℤ) (t : ℕ) → lowest (turned_demand a) (neg_ℤ v) t ≡ neg_ℤ (highest a v t)
turned_lowest a v t = rw (turned_test v a.hi) (turned_held v a.hi (high_pull a v) (high_hold a v) t)

pub turned_demand-fine : (a : Demand) → CanBeMet a → CanBeMet (turned_demand a)
turned_demand-fine a f = record { ordered = omega (arith, ints, f.ordered); some_pull = f.some_pull; pull_within = f.pull_within }

pub meets_under : (a : Demand) → CanBeMet a → (v : ℤ) (r : List Segment) → Meets a v r → (climb v r *ℤ pos (high_pull a v)) ≤ℤ highest a v (lasting r)
meets_under a f v r m =
    let low = meets_above (turned_demand a) (turned_demand-fine a f) (neg_ℤ v) (turned_response r) (turned_meets a v r m) in
    let curve : lowest (turned_demand a) (neg_ℤ v) (lasting (turned_response r)) ≡ neg_ℤ (highest a v (lasting r)) =
    ap (λ n. lowest (turned_demand a) (neg_ℤ v) n) (turned_lasting r) ∙ turned_lowest a v (lasting r) in
    let flown : climb (neg_ℤ v) (turned_response r) *ℤ pos (low_pull (turned_demand a) (neg_ℤ v)) ≡ neg_ℤ (climb v r *ℤ pos (high_pull a v)) =
    ap₂ (λ z b. z *ℤ pos b) (turned_climb v r) (ap (λ t. cond t a.pull a.limit) (turned_test v a.hi)) ∙ neg-mul_ℤ (climb v r) (pos (high_pull a v)) in
    turned_le curve flown low
