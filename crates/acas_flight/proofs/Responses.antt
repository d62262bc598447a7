-- Segments fly their mean rate, and the responses that meet are those of the table.
use Rattle.std.proofs.Common.{◌≡◌, ◌<◌, ◌≤◌, ◌↔◌, inl, inr, ◌⊎◌, ⊎_elim, refl, ap, arith, List, [], ◌∷◌, ℤ, pos, ◌+ℤ◌, ◌*ℤ◌, ◌≤ℤ◌, ◌<ℤ◌, neg_ℤ, unsigned_abs}
use Rattle.std.proofs.lemmas.Int.{ints}
use Rattle.acas_frac.proofs.IntRing.{at, num, ◌⊕◌, ◌⊗◌, ring}
use Rattle.acas_frac.proofs.Orders.{unsigned_abs-le, unsigned_abs-low, unsigned_abs-high}
use Rattle.acas_flight.proofs.Holding.{level_rate}
use Rattle.acas_flight.specs.Response.{Segment, Demand, rate_after, climb_within, climb, Follows, FollowsThroughout, Holds, Meets}

pub climb_cons : (v : ℤ) (s : Segment) (rest : List Segment) → climb v (s ∷ rest) ≡ ((v +ℤ rate_after v s) *ℤ pos s.duration) +ℤ climb (rate_after v s) rest
climb_cons v s rest = ap (λ z. z +ℤ climb (rate_after v s) rest) mean
  where
    mean : climb_within v s ≡ (v +ℤ rate_after v s) *ℤ pos s.duration
    mean =
        ring (v ∷ s.acceleration ∷ pos s.duration ∷ [])
        (((num (pos 2) ⊗ at 0) ⊗ at 2) ⊕ ((at 1 ⊗ at 2) ⊗ at 2))
        ((at 0 ⊕ (at 0 ⊕ (at 1 ⊗ at 2))) ⊗ at 2)
        refl

pub meets-no_delay : (a : Demand) (v : ℤ) (response : List Segment) → a.delay ≡ 0 → Meets a v response ↔ FollowsThroughout a v response
meets-no_delay a v [] e = (λ m. tt, λ f. tt)
meets-no_delay a v (s ∷ rest) e = (λ m. ⊎_elim (λ f. f) (λ h. none h.0) m, λ f. inl f)
  where
    none : {P : Type 0} → Holds a s → P
    none h = absurd (let l = h.lasts in let d = rw e at h.in_time in omega (arith, l, d))

-- ---- the rows of the table

module _ (a : Demand) (v : ℤ) (s : Segment) where
  within_limit : Follows a v s → unsigned_abs s.acceleration ≤ a.limit
  within_limit f = unsigned_abs-le s.acceleration a.limit f.at_least f.at_most

  pub follows-below : v <ℤ a.lo → a.lo ≤ℤ a.hi →
      Follows a v s ↔ ((0 < s.duration) × (unsigned_abs s.acceleration ≤ a.limit) × (pos a.pull ≤ℤ s.acceleration) × (rate_after v s ≤ℤ a.hi))
  follows-below h o = (
    λ f. (f.lasts, within_limit f, (f.from_below h).0, (f.from_below h).1),
    λ r. record {
      lasts = r.0;
      at_least = unsigned_abs-low s.acceleration a.limit r.1;
      at_most = unsigned_abs-high s.acceleration a.limit r.1;
      from_below = λ _. (r.2, r.3);
      from_above = λ k. absurd (omega (arith, ints));
      from_within = λ k _. absurd (omega (arith, ints));
    },
  )

  pub follows-above : a.hi <ℤ v → a.lo ≤ℤ a.hi →
      Follows a v s ↔ ((0 < s.duration) × (unsigned_abs s.acceleration ≤ a.limit) × (s.acceleration ≤ℤ neg_ℤ (pos a.pull)) × (a.lo ≤ℤ rate_after v s))
  follows-above h o = (
    λ f. (f.lasts, within_limit f, (f.from_above h).0, (f.from_above h).1),
    λ r. record {
      lasts = r.0;
      at_least = unsigned_abs-low s.acceleration a.limit r.1;
      at_most = unsigned_abs-high s.acceleration a.limit r.1;
      from_below = λ k. absurd (omega (arith, ints));
      from_above = λ _. (r.2, r.3);
      from_within = λ _ k. absurd (omega (arith, ints));
    },
  )

  pub follows-within : a.lo ≤ℤ v → v ≤ℤ a.hi →
      Follows a v s ↔ ((0 < s.duration) × (unsigned_abs s.acceleration ≤ a.limit) × (a.lo ≤ℤ rate_after v s) × (rate_after v s ≤ℤ a.hi))
  follows-within h k = (
    λ f. (f.lasts, within_limit f, (f.from_within h k).0, (f.from_within h k).1),
    λ r. record {
      lasts = r.0;
      at_least = unsigned_abs-low s.acceleration a.limit r.1;
      at_most = unsigned_abs-high s.acceleration a.limit r.1;
      from_below = λ l. absurd (omega (arith, ints));
      from_above = λ l. absurd (omega (arith, ints));
      from_within = λ _ _. (r.2, r.3);
    },
  )

pub meets-some : (a : Demand) (v : ℤ) (s : Segment) (rest : List Segment) →
    Meets a v (s ∷ rest)
    ↔ (FollowsThroughout a v (s ∷ rest) ⊎ ((0 < s.duration) × (s.duration ≤ a.delay) × (s.acceleration ≡ pos 0) × FollowsThroughout a v rest))
meets-some a v s rest = (
  λ m. ⊎_elim (λ f. inl f) (λ h. inr (h.0.lasts, h.0.in_time, h.0.level, rw (level_rate v s h.0.level) at h.1)) m,
  λ m. ⊎_elim (λ f. inl f) (λ h. inr (record { lasts = h.0; level = h.2; in_time = h.1 }, rw (level_rate v s h.2) h.3)) m,
)
