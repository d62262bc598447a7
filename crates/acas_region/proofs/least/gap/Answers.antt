use Rattle.std.proofs.Common.{◌≡◌, ◌∙◌, ℕ, ℤ, pos, ◌*ℤ◌, to_z, of_z, arith, ◌*◌, ◌<◌}
use Rattle.std.specs.Int.{w128}
use Rattle.std.proofs.lemmas.Int.{ints}
use Rattle.std.proofs.lemmas.Grind.{common_steps}
use Rattle.acas_frac.specs.Fraction.{Fraction}
use Rattle.acas_flight.specs.Border.{Border, border_of, IsGapAt, gap_number}
use Rattle.acas_flight_lemmas.proofs.Gaps.{IsGapAt-of}
use Rattle.acas_region.proofs.least.gap.Goals as goal

from_parts : (s : Border) (time y : Fraction) (n d down : ℕ) (up : ℤ) → time.num ≡ pos n → time.den ≡ d → 0 < time.den → down ≡ d * d * s.pull → up ≡ gap_number s d n → y.num *ℤ pos down ≡ up *ℤ pos y.den → IsGapAt s time y
from_parts s time y n d down up en ed sd f g e = IsGapAt-of s time y n en sd (rw (← f', ← g') e)
  where
    f' : down ≡ time.den * time.den * s.pull
    f' = rw ed f

    g' : up ≡ gap_number s time.den n
    g' = rw ed g

pub returns-clause-value : goal.returns-clause-value
returns-clause-value c =
    let a = c.args.chase.now in
    let up : to_z w128 (of_z w128 c.gap_number.result) ≡ c.gap_number.result = omega (arith, ints, c.gap_number.ensures.size) in
    from_parts (border_of a.start a.aim a.pull a.hold a.height a.rate) c.args.time.now c.quotient.result c.moment_of-at.result.num c.moment_of-at.result.den c.scale.result _
    c.moment_of-at.ensures.num c.moment_of-at.ensures.den c.requires.some c.scale.ensures.value (up ∙ c.gap_number.ensures.value) c.quotient.ensures.value

pub quotient-requires : goal.quotient-requires
quotient-requires c = grind (arith, common_steps)
