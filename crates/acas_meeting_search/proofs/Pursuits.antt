-- A pursuit's hunt may be searched.
use Rattle.std.proofs.Common.{◌≡◌, ◌<◌, ap, arith, pos, neg_ℤ, unsigned_abs, mul-pos}
use Rattle.std.proofs.lemmas.Int.{ints}
use Rattle.acas_areas.specs.Search.{grain}
use Rattle.acas_pass_lemmas.proofs.Neighbours.{unit_some}
use Rattle.acas_witness_search.specs.Surveys.{search_of}
use Rattle.acas_witness_search.proofs.Chains.{search_fine}
use Rattle.acas_rulings.specs.Hunt.{IsHunt}
use Rattle.acas_meeting_search.specs.Courses.{unit_of}
use Rattle.acas_meeting_search.specs.View.{hunt_of}
use Rattle.acas_meeting_search.specs.declared.pursuit.Pursuit.{Pursuit}

pub hunt_fine : (p : Pursuit) → IsHunt (hunt_of p)
hunt_fine p = record {
  search = search_fine p.survey;
  some = omega (arith, ints, p.may.within.least_accel);
  rate = omega (arith, ints, p.may.within.least_rate, p.may.within.greatest_rate);
  least = p.fits.least;
  greatest = p.fits.greatest;
}

-- its common denominator
pub grain_some : (p : Pursuit) → 0 < grain (search_of p.survey)
grain_some p = mul-pos p.survey.low_end.some p.survey.high_end.some

pub unit_positive : (p : Pursuit) → 0 < unit_of p
unit_positive p = unit_some (search_of p.survey) (search_fine p.survey)

-- the acceleration and the rates are those of the hunt
pub accel_is : (p : Pursuit) → p.may.accel ≡ pos (unsigned_abs p.may.accel)
accel_is p = omega (arith, ints, p.may.within.least_accel)

pub rate_is : (p : Pursuit) → p.may.rate ≡ pos (unsigned_abs p.may.rate)
rate_is p = omega (arith, ints, p.may.within.least_rate)

pub least_rate_is : (p : Pursuit) → neg_ℤ p.may.rate ≡ neg_ℤ (pos (unsigned_abs p.may.rate))
least_rate_is p = ap neg_ℤ (rate_is p)
