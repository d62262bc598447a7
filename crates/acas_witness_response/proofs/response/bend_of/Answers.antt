use Rattle.std.proofs.Common.{◌≡◌, ℕ, ◌*◌, ◌≤◌, ℤ, pos, ◌-ℤ◌, ◌*ℤ◌, unsigned_abs, to_z, of_z, arith, mul-le-mul}
use Rattle.std.specs.Int.{w64}
use Rattle.std.proofs.lemmas.Int.{ints}
use Rattle.std.proofs.lemmas.Grind.{common_steps}
use Rattle.acas_frac.specs.Fraction.{Fraction}
use Rattle.acas_witness_plans.specs.Bends.{IsBend}
use Rattle.acas_witness_response.proofs.response.bend_of.Goals as goal

bend_from : (v k b y : Fraction) (vn kn : ℤ) (vd kd bn bd w : ℕ) → v.num ≡ vn → v.den ≡ vd → k.num ≡ kn → k.den ≡ kd → b.num ≡ pos bn → b.den ≡ bd → w ≡ unsigned_abs ((kn *ℤ pos vd) -ℤ (vn *ℤ pos kd)) →
    y.num *ℤ pos (vd * kd * bn) ≡ pos (w * bd) *ℤ pos y.den → IsBend v k b y
bend_from v k b y vn kn vd kd bn bd w a1 a2 a3 a4 a5 a6 ew e = record { over = rw (a1, a2, a3, a4, a5, a6, ← ew) e }

pub returns-clause-bend : goal.returns-clause-bend
returns-clause-bend c =
    let v : to_z w64 (of_z w64 c.rate_parts-v.result.0) ≡ c.rate_parts-v.result.0 = omega (arith, ints, c.rate_parts-v.ensures.num_size) in
    let k : to_z w64 (of_z w64 c.rate_parts-k.result.0) ≡ c.rate_parts-k.result.0 = omega (arith, ints, c.rate_parts-k.ensures.num_size) in
    let s : c.way_of.result * c.pull_parts-b.result.1 ≤ 1280000 * 2048 = mul-le-mul c.way_of.ensures.size c.pull_parts-b.ensures.parts.den_size in
    let w : to_z w64 (c.way_of.result * c.pull_parts-b.result.1) ≡ pos (c.way_of.result * c.pull_parts-b.result.1) = omega (arith, ints, s) in
    bend_from c.args.rate.now c.args.aim.now c.args.pull.now c.ratio.result c.rate_parts-v.result.0 c.rate_parts-k.result.0 c.rate_parts-v.result.1 c.rate_parts-k.result.1 c.pull_parts-b.result.0 c.pull_parts-b.result.1 c.way_of.result
    c.rate_parts-v.ensures.num c.rate_parts-v.ensures.den c.rate_parts-k.ensures.num c.rate_parts-k.ensures.den c.pull_parts-b.ensures.parts.num c.pull_parts-b.ensures.parts.den
    (rw (v, k) at c.way_of.ensures.value) (rw w at c.ratio.ensures.value)

pub ratio-requires : goal.ratio-requires
ratio-requires c = grind (arith, common_steps)

pub overflow_cast-way_of : goal.overflow_cast-way_of
overflow_cast-way_of c = grind (arith, common_steps)
