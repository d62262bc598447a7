-- Turns of courses, and courses as flown.
use Rattle.std.proofs.Common.{◌≡◌, ℕ, ◌*◌, ◌<◌, ◌≤◌, inl, refl, arith, ℤ, pos, ◌*ℤ◌, ◌≤ℤ◌, unsigned_abs, mul-pos}
use Rattle.acas_frac.specs.Fraction.{Fraction, whole_of}
use Rattle.acas_flight.specs.Values.{IsApproach, IsHeld, IsOver}
use Rattle.acas_areas.specs.Limits.{IsCurve, IsTime}
use Rattle.acas_witness_plans.specs.Plans.{CanBeFlown, IsPlanOf}
use Rattle.acas_witness_plans.specs.declared.plan.Plan.{Plan}
use Rattle.acas_witness_plans.proofs.Overs.{whole_over}
use Rattle.acas_rulings.specs.Hunt.{Course}
use Rattle.acas_meeting_search.specs.declared.parts.Turn.{Turn}
use Rattle.acas_meeting_search.specs.declared.parts.Outcome.{Outcome}
use Rattle.acas_meeting_search.specs.declared.pursuit.Pursuit.{Pursuit}
use Rattle.acas_meeting_search.specs.Courses.{IsOutcomeOf, unit_of}
use Rattle.acas_meeting_search.specs.Turns.{CanBeFlownWith, IsTurnFor, IsTurnOf}
use Rattle.acas_meeting_search.proofs.Pursuits.{accel_is, unit_positive}
use Rattle.acas_meeting_search.proofs.Values.{value-same}

-- a turn between whole rates
pub turn_whole : (q t : ℕ) (w m v k : ℤ) (time : Fraction) (turn : Turn) → turn.time ≡ time → turn.intruder ≡ whole_of v → v ≡ w → turn.goal ≡ whole_of k → k ≡ m → IsOver q (pos t) time →
    IsTurnFor q t (w *ℤ pos (q * q)) (m *ℤ pos (q * q)) turn
turn_whole q t w m v k time turn e ei v_is eg k_is o = record {
  time = rw e o;
  intruder = whole_over w v (q * q) turn.intruder ei v_is;
  goal = whole_over m k (q * q) turn.goal eg k_is;
}

-- it can be flown
curve_from : (v k a : ℤ) (t : Fraction) → unsigned_abs v ≤ 10000 → unsigned_abs k ≤ 10000 → pos 1 ≤ℤ a → a ≤ℤ pos 2000 → IsTime t → IsCurve (whole_of v) (whole_of k) (whole_of a) t
curve_from v k a t hv hk least most time = record {
  start = record { some = omega arith; den = omega arith; size = omega (arith, hv) };
  aim = record { some = omega arith; den = omega arith; size = omega (arith, hk) };
  pull = record { some = omega arith; den = omega arith; least = least; greatest = most };
  time = time;
  fine = inl (refl, refl, refl);
}

pub curve_whole : (p : Pursuit) (v k : ℤ) (f g t : Fraction) → f ≡ whole_of v → g ≡ whole_of k → unsigned_abs v ≤ 10000 → unsigned_abs k ≤ 10000 → IsTime t → IsCurve f g (whole_of p.may.accel) t
curve_whole p v k f g t ef eg hv hk time = rw (ef, eg) (curve_from v k p.may.accel t hv hk p.may.within.least_accel p.may.within.greatest_accel time)

-- a plan and a turn as flown
pub outcome_of : (p : Pursuit) (c : Course) (plan : Plan) (turn : Turn) (o : Outcome) → o.flown.plan ≡ plan → o.flown.turn ≡ turn →
    IsPlanOf (unit_of p) c.own plan → CanBeFlown plan → IsTurnOf (unit_of p) c turn → CanBeFlownWith p.may.accel turn →
    IsHeld plan.own plan.aim plan.pull plan.hold plan.time o.climb → 0 < o.climb.den → IsApproach turn.intruder turn.goal (whole_of p.may.accel) turn.time o.ascent → 0 < o.ascent.den → IsOutcomeOf p c o
outcome_of p c plan turn o e et is can against with h sh l sl = record {
  flown = record { plan = rw e is; turn = rw et against; flown = rw e can; turned = rw et with };
  same = rw e (value-same (unit_of p) _ p.may.accel c plan turn o.climb o.ascent (unit_positive p) (accel_is p) is against h l);
  some = mul-pos sh sl;
}
