use Rattle.std.proofs.Common.{ℕ, ◌≡◌, ◌∙◌, ap₂, sym, arith, ℤ, pos, ◌*ℤ◌, to_z, of_z}
use Rattle.std.specs.Int.{w64, w128}
use Rattle.std.proofs.lemmas.Int.{ints}
use Rattle.acas_region_curves.proofs.curve.held_ratio.Goals as goal

pub returns-clause-climb : goal.returns-clause-climb
returns-clause-climb c =
    let up : to_z w128 (of_z w128 c.numerator.result) ≡ c.numerator.result = omega (arith, ints, c.numerator.ensures.size) in
    let v : to_z w64 (of_z w64 c.over_common-s.result.start) ≡ c.over_common-s.result.start = omega (arith, ints, c.over_common-s.ensures.start) in
    let k : to_z w64 (of_z w64 c.over_common-s.result.aim) ≡ c.over_common-s.result.aim = omega (arith, ints, c.over_common-s.ensures.aim) in
    let value = rw (v, k) at c.numerator.ensures.value in
    let den : c.new.result.den ≡ c.over_common-s.result.den = omega (arith, ints, c.new.ensures.den, c.over_common-s.ensures.den_small) in
    c.over_common-s.ensures.exact c.new.result (ap₂ (λ (i : ℤ) (n : ℕ). i *ℤ pos n) (c.new.ensures.num ∙ up ∙ value) (sym den))
