use Rattle.std.proofs.Common.{◌≡◌, ◌∙◌, ap₂, ℕ, ◌*◌, pos, ◌+ℤ◌, ◌*ℤ◌, to_z, of_z, arith, rules}
use Rattle.std.specs.Int.{w64}
use Rattle.std.proofs.lemmas.Int.{ints}
use Rattle.acas_units.specs.declared.limits.TheConstants.{GREATEST_CLOSING}
use Rattle.acas_replay.specs.Parabola.{value_at}
use Rattle.acas_replay.specs.declared.parabola.TheConstants.{LARGEST_BEND, LARGEST_LEVEL, LARGEST_SQUARE}
use Rattle.acas_replay.proofs.Casts.{sum_three_fits, whole, whole_sum_three}
use Rattle.acas_replay.proofs.parabola.Parabola.value_at.Goals as goal

abbrev most : ℕ
most = LARGEST_LEVEL * LARGEST_SQUARE

pub overflow_add-result : goal.overflow_add-result
overflow_add-result c = omega (arith, ints, c.times-level.ensures.size, c.times-sloped.ensures.size)

pub overflow_add-result-2 : goal.overflow_add-result-2
overflow_add-result-2 c =
    sum_three_fits c.times-level.result c.times-sloped.result c.times-bent.result most most most
    c.times-level.ensures.size c.times-sloped.ensures.size c.times-bent.ensures.size (omega arith)

pub returns : goal.returns
unfolding value_at
returns c =
    let p = c.args.self.now in
    let level = whole p.level LARGEST_LEVEL c.requires.small.level (omega arith) in
    let slope : to_z w64 (of_z w64 (pos 2 *ℤ to_z w64 (of_z w64 p.slope))) ≡ pos 2 *ℤ p.slope = omega (arith, ints, c.requires.small.slope) in
    let bend = whole p.bend LARGEST_BEND c.requires.small.bend (omega arith) in
    let n = whole c.args.n GREATEST_CLOSING c.requires.n (omega arith) in
    let q = whole c.args.parts GREATEST_CLOSING c.requires.parts (omega arith) in
    let qq = whole c.times_parts.result LARGEST_SQUARE c.times_parts.ensures.size (omega arith) ∙ c.times_parts.ensures.value ∙ ap₂ ◌*ℤ◌ q q in
    let nq = whole c.times_parts-2.result LARGEST_SQUARE c.times_parts-2.ensures.size (omega arith) ∙ c.times_parts-2.ensures.value ∙ ap₂ ◌*ℤ◌ n q in
    let nn = whole c.times_parts-3.result LARGEST_SQUARE c.times_parts-3.ensures.size (omega arith) ∙ c.times_parts-3.ensures.value ∙ ap₂ ◌*ℤ◌ n n in
    whole_sum_three c.times-level.result c.times-sloped.result c.times-bent.result most most most
    c.times-level.ensures.size c.times-sloped.ensures.size c.times-bent.ensures.size (omega arith)
    ∙ ap₂ ◌+ℤ◌ (ap₂ ◌+ℤ◌ (c.times-level.ensures.value ∙ ap₂ ◌*ℤ◌ level qq) (c.times-sloped.ensures.value ∙ ap₂ ◌*ℤ◌ slope nq)) (c.times-bent.ensures.value ∙ ap₂ ◌*ℤ◌ bend nn)

pub times_parts-requires : goal.times_parts-requires
times_parts-requires c = search rules

pub times_parts-requires-2 : goal.times_parts-requires-2
times_parts-requires-2 c = search rules

pub times_parts-requires-3 : goal.times_parts-requires-3
times_parts-requires-3 c = search rules

pub times-level-requires : goal.times-level-requires
times-level-requires c = search rules

pub times-sloped-requires : goal.times-sloped-requires
times-sloped-requires c = omega (arith, ints)

pub times-bent-requires : goal.times-bent-requires
times-bent-requires c = search rules

pub overflow_mul-self : goal.overflow_mul-self
overflow_mul-self c = omega (arith, ints, c.requires.small.slope)
