use Rattle.std.proofs.Common.{◌≡◌, ℕ, List, refl, ap, arith, rules}
use Rattle.std.proofs.lemmas.Int.{ints}
use Rattle.acas_frac.specs.Fraction.{Fraction}
use Rattle.acas_flight.specs.Curves.{approach}
use Rattle.acas_areas.specs.Passes.{IsFound, Pass, at_high, at_low, between}
use Rattle.acas_areas.specs.Search.{unit}
use Rattle.acas_areas.specs.Value.{IsWithinHalf}
use Rattle.acas_rulings.specs.Hunt.{Course, accel, high_course, low_course, passes, value}
use Rattle.acas_cell_examples.specs.Hunted.{level_hunt}
use Rattle.acas_cell_examples.proofs.hunts.the_low_course_is_tried_first.Goals as goal

in_contact : IsWithinHalf 120 (value (unit level_hunt.search) (accel level_hunt) (low_course level_hunt))
unfolding approach
in_contact = search rules

-- where the low course is in contact it is found
low_alone : (value : Course → Fraction) (half : ℕ) (low high : Course) (ps : List (Pass Course)) (c : Course) → IsWithinHalf half (value low) → IsFound value half low high ps c → c ≡ low
low_alone value half low high ps _ within (at_low w) = refl
low_alone value half low high ps _ within (at_high not w) = absurd (not within)
low_alone value half low high ps _ within (between c not n e) = absurd (not within)

pub returns-clause-found : goal.returns-clause-found
returns-clause-found c = at_low in_contact

pub returns-clause-alone : goal.returns-clause-alone
returns-clause-alone c = λ other found. low_alone (value (unit level_hunt.search) (accel level_hunt)) 120 (low_course level_hunt) (high_course level_hunt) (passes level_hunt) other in_contact found

pub returns-clause-not_high : goal.returns-clause-not_high
returns-clause-not_high c = λ found.
    let same = low_alone (value (unit level_hunt.search) (accel level_hunt)) 120 (low_course level_hunt) (high_course level_hunt) (passes level_hunt) (high_course level_hunt) in_contact found in
    omega (arith, ints, ap (λ (x : Course). x.goal) same)
