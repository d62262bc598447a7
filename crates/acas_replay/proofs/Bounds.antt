-- How large the numbers of an encounter become.
use Rattle.std.proofs.Common.{ℕ, ◌+◌, ◌*◌, ◌<◌, ◌≤◌, ℤ, pos, neg_ℤ, ◌+ℤ◌, ◌-ℤ◌, ◌*ℤ◌, ◌≤ℤ◌, ◌<ℤ◌, unsigned_abs, arith, mul-le-mul}
use Rattle.std.proofs.lemmas.Int.{ints}
use Rattle.acas_units.specs.declared.limits.TheConstants.{GREATEST_CLOSING, GREATEST_SECONDS}
use Rattle.acas_spec.specs.Axis.{IsBetween}
use Rattle.acas_replay.specs.Encounter.{EncounterData, IsEncounter, intruder_at, own_at, seconds}
use Rattle.acas_replay.specs.declared.limits.TheConstants.{GREATEST_ACCELERATION, GREATEST_START_RANGE, LEAST_ACCELERATION}
use Rattle.acas_replay.specs.States.{state_after}
use Rattle.acas_replay.specs.Flown.{IsReached, altitude_size, rate_size}
use Rattle.acas_replay.specs.declared.state.EncounterState.{EncounterState}

accelerates : (a : ℤ) → IsBetween LEAST_ACCELERATION GREATEST_ACCELERATION a → unsigned_abs a ≤ unsigned_abs GREATEST_ACCELERATION
accelerates a b = let l = b.low in let h = b.high in omega (arith, ints)

-- the accelerations of a second
pub own_at-small : (e : EncounterData) (k : ℕ) → IsEncounter e → k < seconds e → unsigned_abs (own_at e k) ≤ unsigned_abs GREATEST_ACCELERATION
own_at-small e k is h = accelerates (own_at e k) (is.own.bounded k h)

pub intruder_at-small : (e : EncounterData) (k : ℕ) → IsEncounter e → k < seconds e → unsigned_abs (intruder_at e k) ≤ unsigned_abs GREATEST_ACCELERATION
intruder_at-small e k is h = accelerates (intruder_at e k) (is.intruder.bounded k (rw is.paired h))

-- ---- one second more

rate_grows : (k : ℕ) (v a : ℤ) → unsigned_abs v ≤ rate_size k → unsigned_abs a ≤ unsigned_abs GREATEST_ACCELERATION → unsigned_abs (v +ℤ a) ≤ rate_size (k + 1)
rate_grows k v a h j = omega (arith, ints)

altitude_grows : (k : ℕ) (z v x a b : ℤ) → unsigned_abs z ≤ altitude_size k → unsigned_abs v ≤ rate_size k → unsigned_abs x ≤ rate_size k →
    unsigned_abs a ≤ unsigned_abs GREATEST_ACCELERATION → unsigned_abs b ≤ unsigned_abs GREATEST_ACCELERATION →
    unsigned_abs (z +ℤ pos 2 *ℤ (x -ℤ v) +ℤ b -ℤ a) ≤ altitude_size (k + 1)
altitude_grows k z v x a b h i j l m = omega (arith, ints)

range_falls : (k : ℕ) (r c : ℤ) → neg_ℤ (pos (GREATEST_CLOSING * k)) ≤ℤ r → c ≤ℤ pos GREATEST_CLOSING → neg_ℤ (pos (GREATEST_CLOSING * (k + 1))) ≤ℤ (r -ℤ c)
range_falls k r c h j = omega (arith, ints)

range_ahead : (r c : ℤ) → r ≤ℤ GREATEST_START_RANGE → pos 0 <ℤ c → (r -ℤ c) ≤ℤ GREATEST_START_RANGE
range_ahead r c h j = omega (arith, ints)

pub reached_next : (k : ℕ) (s : EncounterState) (advice : ℕ) (own intruder : ℤ) → IsReached k s → unsigned_abs own ≤ unsigned_abs GREATEST_ACCELERATION →
    unsigned_abs intruder ≤ unsigned_abs GREATEST_ACCELERATION → IsReached (k + 1) (state_after s advice own intruder)
reached_next k s advice own intruder r h j = record {
  behind = range_falls k s.range s.closing r.behind r.closing;
  ahead = range_ahead s.range s.closing r.ahead r.some_closing;
  some_closing = r.some_closing;
  closing = r.closing;
  altitude = altitude_grows k s.point.h s.point.v0 s.point.v1 own intruder r.altitude r.own r.intruder h j;
  own = rate_grows k s.point.v0 own r.own h;
  intruder = rate_grows k s.point.v1 intruder r.intruder j;
}

-- ---- of an encounter that is not too long

reached_within : (k : ℕ) (s : EncounterState) → k ≤ GREATEST_SECONDS → IsReached k s → IsReached GREATEST_SECONDS s
reached_within k s l r =
    let square = mul-le-mul l l in
    record {
      behind = let h = r.behind in omega (arith, ints);
      ahead = r.ahead;
      some_closing = r.some_closing;
      closing = r.closing;
      altitude = let h = r.altitude in omega arith;
      own = let h = r.own in omega arith;
      intruder = let h = r.intruder in omega arith;
    }

pub reached_before : (e : EncounterData) (k : ℕ) (s : EncounterState) → IsEncounter e → k < seconds e → IsReached k s → IsReached GREATEST_SECONDS s
reached_before e k s is h r = reached_within k s (omega (arith, is.few)) r
