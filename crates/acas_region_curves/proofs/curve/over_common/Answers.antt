use Rattle.std.proofs.Common.{ℕ, ◌≡◌, ◌∙◌, arith, ◌*◌, ℤ, pos, ◌*ℤ◌, to_z, of_z, rules}
use Rattle.std.specs.Int.{w64}
use Rattle.std.proofs.lemmas.Grind.{common_steps}
use Rattle.std.proofs.lemmas.Int.{ints}
use Rattle.acas_frac.specs.Fraction.{Fraction}
use Rattle.acas_areas.specs.Limits.{IsHeldCurve}
use Rattle.acas_region_curves.specs.Scaling.{IsScaling}
use Rattle.acas_region_curves.proofs.Scaling.{scaling}
use Rattle.acas_region_curves.proofs.curve.over_common.Goals as goal

from_parts : (v k b g t : Fraction) (vn kn : ℤ) (vd kd bn bd gn gd tn td : ℕ) (s a : ℤ) (den : ℕ) → IsHeldCurve v k b g t →
    v.num ≡ vn → v.den ≡ vd → k.num ≡ kn → k.den ≡ kd → b.num ≡ pos bn → b.den ≡ bd → g.num ≡ pos gn → g.den ≡ gd → t.num ≡ pos tn → t.den ≡ td →
    s ≡ vn *ℤ pos (kd * (bd * (td * gd))) → a ≡ kn *ℤ pos (vd * (bd * (td * gd))) → den ≡ vd * kd * bd * (td * gd) * (td * gd) * (bn * (vd * kd)) →
    IsScaling v k b g t s a (bn * (vd * kd)) (gn * td) (tn * gd) den
from_parts v k b g t vn kn vd kd bn bd gn gd tn td s a den w evn evd ekn ekd eb ebd eg egd et etd es ea eden =
    rw (es, ea, eden, ← evn, ← evd, ← ekn, ← ekd, ← ebd, ← egd, ← etd) (scaling v k b g t bn gn tn w eb eg et)

pub start_of-requires-2-clause-shared : goal.start_of-requires-2-clause-shared
start_of-requires-2-clause-shared c = search rules

pub den_of-requires-clause-rates : goal.den_of-requires-clause-rates
den_of-requires-clause-rates c = grind (arith, common_steps)

pub den_of-requires-clause-times : goal.den_of-requires-clause-times
den_of-requires-clause-times c = grind (arith, common_steps)

pub den_of-requires-clause-pull : goal.den_of-requires-clause-pull
den_of-requires-clause-pull c = grind (arith, common_steps)

pub returns : goal.returns
returns c =
    let s : to_z w64 (of_z w64 c.start_of.result) ≡ c.start_of.result = omega (arith, ints, c.start_of.ensures.size) in
    let a : to_z w64 (of_z w64 c.start_of-2.result) ≡ c.start_of-2.result = omega (arith, ints, c.start_of-2.ensures.size) in
    let v : to_z w64 (of_z w64 c.rate_parts-start.result.0) ≡ c.rate_parts-start.result.0 = omega (arith, ints, c.rate_parts-start.ensures.num_size) in
    let k : to_z w64 (of_z w64 c.rate_parts-end.result.0) ≡ c.rate_parts-end.result.0 = omega (arith, ints, c.rate_parts-end.ensures.num_size) in
    let start = rw v at c.start_of.ensures.value in
    let aim = rw k at c.start_of-2.ensures.value in
    from_parts c.args.v.now c.args.aim.now c.args.pull.now c.args.hold.now c.args.t.now _ _ _ _ _ _ _ _ _ _
    (to_z w64 (of_z w64 c.start_of.result)) (to_z w64 (of_z w64 c.start_of-2.result)) c.den_of.result c.requires
    c.rate_parts-start.ensures.num c.rate_parts-start.ensures.den c.rate_parts-end.ensures.num c.rate_parts-end.ensures.den
    c.pull_parts-force.ensures.parts.num c.pull_parts-force.ensures.parts.den c.hold_parts-kept.ensures.num c.hold_parts-kept.ensures.den
    c.time_parts-time.ensures.num c.time_parts-time.ensures.den (s ∙ start) (a ∙ aim) c.den_of.ensures
