-- A response that meets an advisory, cut at any time, meets it. So the curves bound the climb at each time.
use Rattle.std.proofs.Common.{◌≡◌, ℕ, ◌-◌, ◌<◌, ◌≤◌, ◌⊎◌, inl, inr, ⊎_elim, refl, arith, List, [], ◌∷◌, ℤ, pos, negsuc, ◌+ℤ◌, ◌*ℤ◌, ◌≤ℤ◌, mul-le-mul_left}
use Rattle.std.proofs.lemmas.Int.{ints}
use Rattle.std.proofs.lemmas.Bool.{cases_lt, le-leb, lt-leb, lt-ltb, le-ltb}
use Rattle.acas_flight.proofs.Holding.{meets_above}
use Rattle.acas_flight_lemmas.proofs.Mirror.{meets_under}
use Rattle.acas_flight.specs.Response.{Segment, Demand, rate_after, climb, lasting, Follows, FollowsThroughout, Meets}
use Rattle.acas_flight.specs.Parts.{first_part, until, CanBeMet}
use Rattle.acas_flight.specs.Curves.{lowest, highest, low_pull, high_pull}

-- the same acceleration for a shorter time
record IsCut (s t : Segment) : Type 0 where
  some : 0 < t.duration
  shorter : t.duration ≤ s.duration
  same : t.acceleration ≡ s.acceleration

-- the rate at the cut is between the rates at the ends
between : (a v : ℤ) (d e : ℕ) → d ≤ e →
    ((v ≤ℤ (v +ℤ (a *ℤ pos d))) × ((v +ℤ (a *ℤ pos d)) ≤ℤ (v +ℤ (a *ℤ pos e))))
    ⊎ (((v +ℤ (a *ℤ pos e)) ≤ℤ (v +ℤ (a *ℤ pos d))) × ((v +ℤ (a *ℤ pos d)) ≤ℤ v))
between (pos n) v d e h = inl (omega (arith, ints), omega (arith, ints, mul-le-mul_left n h))
between (negsuc n) v d e h = inr (omega (arith, ints, mul-le-mul_left n h), omega (arith, ints))

cut_rate : (v : ℤ) (s t : Segment) → IsCut s t →
    ((v ≤ℤ rate_after v t) × (rate_after v t ≤ℤ rate_after v s)) ⊎ ((rate_after v s ≤ℤ rate_after v t) × (rate_after v t ≤ℤ v))
cut_rate v s t c = rw c.same (between s.acceleration v t.duration s.duration c.shorter)

Follows-cut : (a : Demand) (v : ℤ) (s t : Segment) → a.lo ≤ℤ a.hi → IsCut s t → Follows a v s → Follows a v t
Follows-cut a v s t o c f = record {
  lasts = c.some;
  at_least = rw c.same f.at_least;
  at_most = rw c.same f.at_most;
  from_below = λ h. (rw c.same (f.from_below h).0, ⊎_elim (λ b. omega (arith, ints, b.1, (f.from_below h).1)) (λ b. omega (arith, ints, b.1, h, o)) (cut_rate v s t c));
  from_above = λ h. (rw c.same (f.from_above h).0, ⊎_elim (λ b. omega (arith, ints, b.0, h, o)) (λ b. omega (arith, ints, b.0, (f.from_above h).1)) (cut_rate v s t c));
  from_within = λ h k. (
    ⊎_elim (λ b. omega (arith, ints, b.0)) (λ b. omega (arith, ints, b.0, (f.from_within h k).0)) (cut_rate v s t c),
    ⊎_elim (λ b. omega (arith, ints, b.1, (f.from_within h k).1)) (λ b. omega (arith, ints, b.1)) (cut_rate v s t c),
  );
}

-- ---- where it is cut

pub until-none : (response : List Segment) → until 0 response ≡ []
until-none [] = refl
until-none (s ∷ rest) = rw (le-leb 0 s.duration (omega arith)) refl

pub until-part : (s : Segment) (rest : List Segment) (t : ℕ) → 0 < t → t ≤ s.duration → until t (s ∷ rest) ≡ record { duration = t; acceleration = s.acceleration } ∷ []
until-part s rest t p l = rw (le-leb t s.duration l, lt-ltb 0 t p) refl

pub until-whole : (s : Segment) (rest : List Segment) (t : ℕ) → s.duration < t → until t (s ∷ rest) ≡ s ∷ until (t - s.duration) rest
until-whole s rest t l = rw (lt-leb t s.duration l) refl

-- ---- how long the cut response lasts

lasting_part : (t : ℕ) (s : Segment) → lasting (first_part t s) ≡ t
lasting_part t s =
    ⊎_elim
    (λ (l : 0 < t). rw (lt-ltb 0 t l) (omega arith))
    (λ (l : t ≤ 0). rw (le-ltb 0 t l) (omega arith))
    (cases_lt 0 t)

lasting_until : (t : ℕ) (r : List Segment) → t ≤ lasting r → lasting (until t r) ≡ t
lasting_until t [] h = omega arith
lasting_until t (s ∷ rest) h =
    ⊎_elim
    (λ (l : s.duration < t). let i = lasting_until (t - s.duration) rest (omega arith) in rw (lt-leb t s.duration l) (omega (arith, i)))
    (λ (l : t ≤ s.duration). rw (le-leb t s.duration l) (lasting_part t s))
    (cases_lt s.duration t)

module _ (a : Demand) (fine : CanBeMet a) where
  part_of : (t : ℕ) (s : Segment) → 0 < t → t ≤ s.duration → IsCut s (record { duration = t; acceleration = s.acceleration })
  part_of t s p l = record { some = p; shorter = l; same = same s.acceleration }
    where
      same : (z : ℤ) → z ≡ z
      same z = omega (arith, ints)

  throughout_part : (v : ℤ) (s : Segment) (t : ℕ) → t ≤ s.duration → Follows a v s → FollowsThroughout a v (first_part t s)
  throughout_part v s t l f =
      ⊎_elim
      (λ (p : 0 < t). rw (lt-ltb 0 t p) (Follows-cut a v s (record { duration = t; acceleration = s.acceleration }) fine.ordered (part_of t s p l) f, tt))
      (λ (p : t ≤ 0). rw (le-ltb 0 t p) tt)
      (cases_lt 0 t)

  throughout_until : (v : ℤ) (r : List Segment) (t : ℕ) → FollowsThroughout a v r → FollowsThroughout a v (until t r)
  throughout_until v [] t f = tt
  throughout_until v (s ∷ rest) t f =
      ⊎_elim
      (λ (l : s.duration < t). rw (lt-leb t s.duration l) (f.0, throughout_until (rate_after v s) rest (t - s.duration) f.1))
      (λ (l : t ≤ s.duration). rw (le-leb t s.duration l) (throughout_part v s t l f.0))
      (cases_lt s.duration t)

  meets_part : (v : ℤ) (s : Segment) (rest : List Segment) (t : ℕ) → t ≤ s.duration → Meets a v (s ∷ rest) → Meets a v (first_part t s)
  meets_part v s rest t l m =
      ⊎_elim
      (λ (p : 0 < t). rw (lt-ltb 0 t p)
      (⊎_elim
      (λ f. inl (Follows-cut a v s (record { duration = t; acceleration = s.acceleration }) fine.ordered (part_of t s p l) f.0, tt))
      (λ h. inr (record { lasts = p; level = h.0.level; in_time = omega (arith, l, h.0.in_time) }, tt))
      m))
      (λ (p : t ≤ 0). rw (le-ltb 0 t p) tt)
      (cases_lt 0 t)

  meets_until : (v : ℤ) (r : List Segment) (t : ℕ) → Meets a v r → Meets a v (until t r)
  meets_until v [] t m = tt
  meets_until v (s ∷ rest) t m =
      ⊎_elim
      (λ (l : s.duration < t). rw (lt-leb t s.duration l)
      (⊎_elim
      (λ f. inl (f.0, throughout_until (rate_after v s) rest (t - s.duration) f.1))
      (λ h. inr (h.0, throughout_until (rate_after v s) rest (t - s.duration) h.1))
      m))
      (λ (l : t ≤ s.duration). rw (le-leb t s.duration l) (meets_part v s rest t l m))
      (cases_lt s.duration t)

pub cuts_meet : (a : Demand) (v : ℤ) (response : List Segment) (t : ℕ) → CanBeMet a → Meets a v response → t ≤ lasting response →
    (lasting (until t response) ≡ t) × Meets a v (until t response)
cuts_meet a v r t fine m h = (lasting_until t r h, meets_until a fine v r t m)

pub curves_bound_climbs : (a : Demand) (v : ℤ) (response : List Segment) (t : ℕ) → CanBeMet a → Meets a v response → t ≤ lasting response →
    (lowest a v t ≤ℤ (climb v (until t response) *ℤ pos (low_pull a v)))
    × ((climb v (until t response) *ℤ pos (high_pull a v)) ≤ℤ highest a v t)
curves_bound_climbs a v r t fine m h =
    let c = meets_until a fine v r t m in
    let low = meets_above a fine v (until t r) c in
    let high = meets_under a fine v (until t r) c in
    (rw (lasting_until t r h) at low, rw (lasting_until t r h) at high)
