use Rattle.std.proofs.Common.{◌∙◌, ap₂, ◌*◌, ◌+ℤ◌, ◌*ℤ◌, arith, rules}
use Rattle.std.proofs.lemmas.Int.{ints}
use Rattle.acas_units.specs.declared.limits.TheConstants.{GREATEST_CLOSING}
use Rattle.acas_replay.specs.declared.parabola.TheConstants.{LARGEST_BEND, LARGEST_LEVEL, LARGEST_SLOPE, LARGEST_SQUARE}
use Rattle.acas_replay.proofs.Casts.{whole, whole_sum}
use Rattle.acas_replay.proofs.parabola.Parabola.half_slope_at.Goals as goal

pub returns : goal.returns
returns c =
    let slope = whole c.args.self.now.slope LARGEST_SLOPE c.requires.small.slope (omega arith) in
    let bend = whole c.args.self.now.bend LARGEST_BEND c.requires.small.bend (omega arith) in
    let n = whole c.args.n GREATEST_CLOSING c.requires.n (omega arith) in
    let q = whole c.args.parts GREATEST_CLOSING c.requires.parts (omega arith) in
    whole_sum c.times-bent.result c.times-sloped.result (LARGEST_LEVEL * LARGEST_SQUARE) (LARGEST_LEVEL * LARGEST_SQUARE) c.times-bent.ensures.size c.times-sloped.ensures.size (omega arith)
    ∙ ap₂ ◌+ℤ◌ (c.times-bent.ensures.value ∙ ap₂ ◌*ℤ◌ n bend) (c.times-sloped.ensures.value ∙ ap₂ ◌*ℤ◌ slope q)

pub times-bent-requires : goal.times-bent-requires
times-bent-requires c = search rules

pub times-sloped-requires : goal.times-sloped-requires
times-sloped-requires c = search rules

pub overflow_add-result : goal.overflow_add-result
overflow_add-result c = omega (arith, ints, c.times-bent.ensures.size, c.times-sloped.ensures.size)
