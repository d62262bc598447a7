use Rattle.std.proofs.Common.{◌≡◌, true, false, ℤ, pos, ◌≤ℤ◌, ◌<ℤ◌, to_z, of_z, arith}
use Rattle.std.specs.Int.{w64}
use Rattle.std.proofs.lemmas.Int.{ints}
use lib.Signed.{le_z}
use Rattle.acas_replay.specs.Parabola.{IsSmall}
use Rattle.acas_replay.specs.declared.parabola.Parabola.{Parabola}
use Rattle.acas_replay.specs.declared.parabola.TheConstants.{LARGEST_BEND}
use Rattle.acas_replay.proofs.Casts.{half_slope_at-whole, value_at-whole, whole}
use Rattle.acas_replay.proofs.Parabolas.{comes_down-first, comes_down-last, comes_down-least, stays_above-concave, stays_above-falling, stays_above-least, stays_above-rising}
use Rattle.acas_replay.proofs.parabola.Parabola.stays_above.Goals as goal

-- what a test of a number says
module _ (x : ℤ) where
  at_most : {r : ℤ} → r ≡ x → le_z r (pos 0) ≡ true → x ≤ℤ pos 0
  at_most e h = omega (arith, ints)

  above : {r : ℤ} → r ≡ x → le_z r (pos 0) ≡ false → pos 0 <ℤ x
  above e h = omega (arith, ints)

  at_least : {r : ℤ} → r ≡ x → le_z (pos 0) r ≡ true → pos 0 ≤ℤ x
  at_least e h = omega (arith, ints)

  below : {r : ℤ} → r ≡ x → le_z (pos 0) r ≡ false → x ≤ℤ pos 0
  below e h = omega (arith, ints)

  rises : {r : ℤ} → r ≡ x → le_z r (pos 0) ≡ false → pos 0 ≤ℤ x
  rises e h = omega (arith, ints)

bends : (p : Parabola) → IsSmall p → le_z (to_z w64 (of_z w64 p.bend)) (pos 0) ≡ false → pos 0 <ℤ p.bend
bends p small = above _ (whole p.bend LARGEST_BEND small.bend (omega arith))

pub returns-then-value_at-le0-clause-down : goal.returns-then-value_at-le0-clause-down
returns-then-value_at-le0-clause-down c =
    let e = value_at-whole _ _ _ _ c.requires.during c.requires.during.first c.value_at.type_inv c.value_at.ensures in
    λ x. comes_down-first _ _ c.requires.during.some c.requires.during.order (at_most _ e c.if-value_at-le0.true)

pub returns-then-value_at-le0-2-clause-down : goal.returns-then-value_at-le0-2-clause-down
returns-then-value_at-le0-2-clause-down c =
    let e = value_at-whole _ _ _ _ c.requires.during c.requires.during.last c.value_at-2.type_inv c.value_at-2.ensures in
    λ x. comes_down-last _ _ c.requires.during.some c.requires.during.order (at_most _ e c.if-value_at-le0-2.true)

pub returns-then-self-le0-clause-above : goal.returns-then-self-le0-clause-above
returns-then-self-le0-clause-above c =
    let e = value_at-whole c.args.self.now c.args.during.now c.args.during.now.first _ c.requires.during c.requires.during.first c.value_at.type_inv c.value_at.ensures in
    let g = value_at-whole c.args.self.now c.args.during.now c.args.during.now.last _ c.requires.during c.requires.during.last c.value_at-2.type_inv c.value_at-2.ensures in
    let opens = at_most _ (whole c.args.self.now.bend LARGEST_BEND c.requires.small.bend (omega arith)) c.if-self-le0.true in
    λ x. stays_above-concave _ _ c.requires.during.some opens (above _ e c.if-value_at-le0.false) (above _ g c.if-value_at-le0-2.false)

pub returns-then-half_slope_at-ge0-clause-above : goal.returns-then-half_slope_at-ge0-clause-above
returns-then-half_slope_at-ge0-clause-above c =
    let p = c.args.self.now in
    let f = c.args.during.now in
    let e = value_at-whole p f f.first _ c.requires.during c.requires.during.first c.value_at.type_inv c.value_at.ensures in
    let g = half_slope_at-whole p f f.first _ c.requires.during c.requires.during.first c.half_slope_at.type_inv c.half_slope_at.ensures in
    λ x. stays_above-rising p f c.requires.during.some (bends p c.requires.small c.if-self-le0.false) (above _ e c.if-value_at-le0.false) (at_least _ g c.if-half_slope_at-ge0.true)

pub returns-then-half_slope_at-le0-clause-above : goal.returns-then-half_slope_at-le0-clause-above
returns-then-half_slope_at-le0-clause-above c =
    let p = c.args.self.now in
    let f = c.args.during.now in
    let e = value_at-whole p f f.last _ c.requires.during c.requires.during.last c.value_at-2.type_inv c.value_at-2.ensures in
    let g = half_slope_at-whole p f f.last _ c.requires.during c.requires.during.last c.half_slope_at-2.type_inv c.half_slope_at-2.ensures in
    λ x. stays_above-falling p f c.requires.during.some (bends p c.requires.small c.if-self-le0.false) (above _ e c.if-value_at-le0-2.false) (at_most _ g c.if-half_slope_at-le0.true)

pub returns-clause-above : goal.returns-clause-above
returns-clause-above c = λ x. stays_above-least _ _ (bends _ c.requires.small c.if-self-le0.false) (c.is_least_above.ensures.above x)

pub returns-clause-down : goal.returns-clause-down
returns-clause-down c =
    let p = c.args.self.now in
    let f = c.args.during.now in
    let e = half_slope_at-whole p f f.first _ c.requires.during c.requires.during.first c.half_slope_at.type_inv c.half_slope_at.ensures in
    let g = half_slope_at-whole p f f.last _ c.requires.during c.requires.during.last c.half_slope_at-2.type_inv c.half_slope_at-2.ensures in
    λ x. comes_down-least p f (bends p c.requires.small c.if-self-le0.false) (below _ e c.if-half_slope_at-ge0.false) (rises _ g c.if-half_slope_at-le0.false) (c.is_least_above.ensures.down x)
