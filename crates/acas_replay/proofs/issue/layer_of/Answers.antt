use Rattle.std.proofs.Common.{◌∙◌, ap, ℤ, pos, ◌-ℤ◌, ◌<ℤ◌, arith, rules}
use Rattle.std.proofs.lemmas.Int.{ints}
use Rattle.acas_units.specs.declared.limits.TheConstants.{GREATEST_CLOSING, GREATEST_RADIUS}
use Rattle.acas_replay.specs.declared.second.TheConstants.{LARGEST_RANGE}
use Rattle.acas_replay.proofs.Casts.{whole, whole_difference}
use Rattle.acas_replay.proofs.Layers.{far_layer, first_layer}
use Rattle.acas_replay.proofs.issue.layer_of.Goals as goal

pub returns-then-outside-state : goal.returns-then-outside-state
returns-then-outside-state c =
    let radius = c.grid.ensures.valid.radius in
    first_layer c.args.model.now c.args.state.now (omega (arith, ints, c.if-outside-state.true, c.radius.ensures))

pub overflow_cast-outside : goal.overflow_cast-outside
overflow_cast-outside c = let radius = c.grid.ensures.valid.radius in (omega (arith, ints, c.radius.ensures), omega (arith, ints, c.radius.ensures))

pub overflow_sub-outside : goal.overflow_sub-outside
overflow_sub-outside c = search rules

pub overflow_cast-state : goal.overflow_cast-state
overflow_cast-state c = search rules

pub div_ceil-requires : goal.div_ceil-requires
div_ceil-requires c = search rules

pub returns : goal.returns
returns c =
    let s = c.args.state.now in
    let radius = c.grid.ensures.valid.radius in
    let outside = whole_difference s.range c.radius.result LARGEST_RANGE GREATEST_RADIUS (omega (arith, ints, c.requires.behind, c.requires.ahead)) (omega (arith, ints, c.radius.ensures)) (omega arith) ∙ ap (λ (z : ℤ). s.range -ℤ z) c.radius.ensures in
    let closing = whole s.closing GREATEST_CLOSING (omega (arith, ints, c.requires.some_closing, c.requires.closing)) (omega arith) in
    let far : s.closing <ℤ (s.range -ℤ pos c.args.model.now.radius) = omega (arith, ints, c.if-outside-state.false, c.radius.ensures) in
    rw (c.div_ceil.ensures, outside, closing) (far_layer c.args.model.now s c.requires.some_closing far)
