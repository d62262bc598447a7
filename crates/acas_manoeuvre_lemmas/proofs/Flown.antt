-- An intruder flies as a pilot who is asked for its rates and accelerations alone.
use Rattle.std.proofs.Common.{◌≤◌, ⊎_elim, inl, arith, List, [], ◌∷◌, ℤ, unsigned_abs}
use Rattle.std.proofs.lemmas.Int.{ints}
use Rattle.acas_frac.proofs.Orders.{unsigned_abs-le, unsigned_abs-low, unsigned_abs-high}
use Rattle.acas_flight.specs.Response.{Segment, rate_after, Follows, FollowsThroughout, Meets}
use Rattle.acas_rulings.specs.Intruder.{Manoeuvre, MayFly, IsFlown, pilot_of}

may_fly-follows : (may : Manoeuvre) (v : ℤ) (s : Segment) → MayFly may v s → Follows (pilot_of may) v s
may_fly-follows may v s f = record {
  lasts = f.lasts;
  at_least = unsigned_abs-low s.acceleration may.accel f.accel;
  at_most = unsigned_abs-high s.acceleration may.accel f.accel;
  from_below = λ h. absurd (let l = unsigned_abs-low v may.rate f.before in omega (arith, ints));
  from_above = λ h. absurd (let l = unsigned_abs-high v may.rate f.before in omega (arith, ints));
  from_within = λ h k. (unsigned_abs-low (rate_after v s) may.rate f.after, unsigned_abs-high (rate_after v s) may.rate f.after);
}

follows-after : (may : Manoeuvre) (v : ℤ) (s : Segment) → unsigned_abs v ≤ may.rate → Follows (pilot_of may) v s → unsigned_abs (rate_after v s) ≤ may.rate
follows-after may v s h f =
    let w = f.from_within (unsigned_abs-low v may.rate h) (unsigned_abs-high v may.rate h) in
    unsigned_abs-le (rate_after v s) may.rate w.0 w.1

follows-may_fly : (may : Manoeuvre) (v : ℤ) (s : Segment) → unsigned_abs v ≤ may.rate → Follows (pilot_of may) v s → MayFly may v s
follows-may_fly may v s h f = record {
  lasts = f.lasts;
  accel = unsigned_abs-le s.acceleration may.accel f.at_least f.at_most;
  before = h;
  after = follows-after may v s h f;
}

flown-throughout : (may : Manoeuvre) (v : ℤ) (r : List Segment) → IsFlown may v r → FollowsThroughout (pilot_of may) v r
flown-throughout may v [] f = tt
flown-throughout may v (s ∷ rest) f = (may_fly-follows may v s f.0, flown-throughout may (rate_after v s) rest f.1)

throughout-flown : (may : Manoeuvre) (v : ℤ) (r : List Segment) → unsigned_abs v ≤ may.rate → FollowsThroughout (pilot_of may) v r → IsFlown may v r
throughout-flown may v [] h f = tt
throughout-flown may v (s ∷ rest) h f =
    (follows-may_fly may v s h f.0, throughout-flown may (rate_after v s) rest (follows-after may v s h f.0) f.1)

pub flown-meets : (may : Manoeuvre) (v : ℤ) (r : List Segment) → IsFlown may v r → Meets (pilot_of may) v r
flown-meets may v [] f = tt
flown-meets may v (s ∷ rest) f = inl (flown-throughout may v (s ∷ rest) f)

-- without delay nothing is held
pub meets-flown : (may : Manoeuvre) (v : ℤ) (r : List Segment) → unsigned_abs v ≤ may.rate → Meets (pilot_of may) v r → IsFlown may v r
meets-flown may v [] h f = tt
meets-flown may v (s ∷ rest) h f = ⊎_elim
    (λ i. throughout-flown may v (s ∷ rest) h i)
    (λ i. absurd (let l = i.0.lasts in let m = i.0.in_time in omega (arith, l, m)))
    f
