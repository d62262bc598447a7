-- Responses of a pilot to a vertical advisory, and the flights that they give.
--
-- All numbers of a flight are whole, over a common denominator q: durations and delays in seconds, accelerations and pulls in
-- ft/min per second are over q, rates in ft/min over q^2, climbs in ticks of 1/120 ft over q^3.
use Rattle.std.specs.Prelude.{◌≡◌, ℕ, ◌+◌, ◌*◌, ◌<◌, ◌≤◌, ◌⊎◌, List, [], ◌∷◌, ℤ, pos, ◌+ℤ◌, ◌*ℤ◌, neg_ℤ, ◌≤ℤ◌, ◌<ℤ◌}
use Rattle.acas_spec.specs.Model.{ModelData, advisory_at}

-- a part of a response: a duration at a constant acceleration
pub record Segment : Type 0 where
  pub duration : ℕ
  pub acceleration : ℤ

-- the rate at the end of a segment that starts at the rate v
abbrev pub rate_after : ℤ → Segment → ℤ
rate_after v s = v +ℤ s.acceleration *ℤ pos s.duration

-- the climb in it: two ticks in a second for each ft/min of its mean rate
abbrev pub climb_within : ℤ → Segment → ℤ
climb_within v s = pos 2 *ℤ v *ℤ pos s.duration +ℤ s.acceleration *ℤ pos s.duration *ℤ pos s.duration

-- the climb of a response that starts at the rate v
abbrev pub climb : ℤ → List Segment → ℤ
climb v [] = pos 0
climb v (s ∷ rest) = climb_within v s +ℤ climb (rate_after v s) rest

-- how long a response lasts
abbrev pub lasting : List Segment → ℕ
lasting [] = 0
lasting (s ∷ rest) = s.duration + lasting rest

-- What an advisory asks of a pilot: a rate from lo to hi, approached with at least the pull and at most the limit. The pilot may
-- first hold the rate, for at most the delay.
pub record Demand : Type 0 where
  pub lo : ℤ
  pub hi : ℤ
  pub pull : ℕ
  pub limit : ℕ
  pub delay : ℕ

-- what the advisory of a number asks in a model
abbrev pub demand_of : ModelData → ℕ → Demand
demand_of m advisory = record {
  lo = (advisory_at m advisory).lo;
  hi = (advisory_at m advisory).hi;
  pull = m.pull;
  limit = m.limit;
  delay = m.delay;
}

-- the demand in numbers over q
abbrev pub scaled : ℕ → Demand → Demand
scaled q a = record {
  lo = a.lo *ℤ pos (q * q);
  hi = a.hi *ℤ pos (q * q);
  pull = a.pull * q;
  limit = a.limit * q;
  delay = a.delay * q;
}

-- A segment that starts at the rate v follows the advisory: from outside its interval it goes back with at least the pull, and not
-- past the other end; from within it stays within.
pub record Follows (a : Demand) (v : ℤ) (s : Segment) : Type 0 where
  pub lasts : 0 < s.duration
  pub at_least : neg_ℤ (pos a.limit) ≤ℤ s.acceleration
  pub at_most : s.acceleration ≤ℤ pos a.limit
  pub from_below : v <ℤ a.lo → (pos a.pull ≤ℤ s.acceleration) × (rate_after v s ≤ℤ a.hi)
  pub from_above : a.hi <ℤ v → (s.acceleration ≤ℤ neg_ℤ (pos a.pull)) × (a.lo ≤ℤ rate_after v s)
  pub from_within : a.lo ≤ℤ v → v ≤ℤ a.hi → (a.lo ≤ℤ rate_after v s) × (rate_after v s ≤ℤ a.hi)

-- each segment follows
abbrev pub FollowsThroughout : Demand → ℤ → List Segment → Type 0
FollowsThroughout a v [] = Unit {0}
FollowsThroughout a v (s ∷ rest) = Follows a v s × FollowsThroughout a (rate_after v s) rest

-- a segment holds the rate, for at most the delay
pub record Holds (a : Demand) (s : Segment) : Type 0 where
  pub lasts : 0 < s.duration
  pub level : s.acceleration ≡ pos 0
  pub in_time : s.duration ≤ a.delay

-- A response that starts at the rate v meets the advisory: each segment follows, or the first holds the rate and each later one
-- follows.
abbrev pub Meets : Demand → ℤ → List Segment → Type 0
Meets a v [] = Unit {0}
Meets a v (s ∷ rest) = FollowsThroughout a v (s ∷ rest) ⊎ (Holds a s × FollowsThroughout a (rate_after v s) rest)
