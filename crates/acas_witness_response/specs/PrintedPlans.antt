-- What a printed flight says of the fractions of a plan.
use Rattle.std.specs.Prelude.{ℕ, ◌-◌, ◌*◌, ◌^◌, ◌<◌, ◌≤◌, min, Option, ℤ, pos, neg_ℤ, unsigned_abs, int_le, if◌then◌else◌}
use Rattle.acas_frac.specs.Fraction.{Fraction}
use Rattle.acas_flight.specs.Values.{IsOver}
use Rattle.acas_areas.specs.Flights.{Flight}
use Rattle.acas_rulings.specs.declared.flight.Flight as printed
use Rattle.acas_rulings.specs.declared.flight.Segment as part
use Rattle.acas_witness_plans.specs.declared.plan.Plan.{Plan}
use Rattle.acas_witness_plans.specs.Plans.{IsPlanOf}
use Rattle.acas_rulings.specs.Printed.{AreSegments, IsHeldPart, Prints}

-- the printed flight is that of the plan: of each flight whose plan it is
pub record PrintsPlan (p : Plan) (f : printed.Flight) : Type 0 where
  pub over : (q : ℕ) (c : Flight) → 0 < q → IsPlanOf q c p → Prints q c f

-- ---- the same of fractions

-- the printed hold is that of a flight of this time and hold
abbrev pub HoldsFor : Fraction → Fraction → Option Fraction → Type 0
HoldsFor time hold o = (n t g : ℕ) → 0 < n → IsOver n (pos t) time → IsOver n (pos g) hold → IsHeldPart n (min t g) o

-- what is left of the time after the hold
abbrev pub IsLeftAfter : Fraction → Fraction → Fraction → Type 0
IsLeftAfter time hold left = (n t g : ℕ) → 0 < n → IsOver n (pos t) time → IsOver n (pos g) hold → IsOver n (pos (t - g)) left

-- the pull, with the sign of the way from the rate to the aim
abbrev pub IsSignedPull : Fraction → Fraction → Fraction → Fraction → Type 0
IsSignedPull rate aim pull y = (q : ℕ) (v k : ℤ) (b : ℕ) → 0 < q → IsOver (q * q) v rate → IsOver (q * q) k aim → IsOver q (pos b) pull →
    IsOver (q * (q * b)) (if int_le v k then pos (b * (q * b)) else neg_ℤ (pos (b * (q * b)))) y

-- the printed segments go for the time from the rate to the aim with the pull
abbrev pub AreSegmentsFor : Fraction → Fraction → Fraction → Fraction → Option part.Segment → Option part.Segment → Type 0
AreSegmentsFor rate aim pull time first second = (q : ℕ) (v k : ℤ) (b t : ℕ) → 0 < q →
    IsOver (q * q) v rate → IsOver (q * q) k aim → IsOver q (pos b) pull → IsOver (q * (q * b)) (pos t) time → AreSegments q v k b t first second

-- the time and the time of the bend have small denominators
abbrev pub IsFineBend : Fraction → Fraction → Fraction → Fraction → Type 0
IsFineBend rate aim pull time = time.den * (rate.den * aim.den * unsigned_abs pull.num) ≤ 10 ^ 13
