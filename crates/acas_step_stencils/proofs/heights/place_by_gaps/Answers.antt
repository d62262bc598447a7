use Rattle.std.proofs.Common.{◌≡◌, ℕ, ◌+◌, ◌-◌, ◌*◌, pos, ◌+ℤ◌, ◌≤ℤ◌, to_z, of_z, w32, length, unsigned_abs, subst, arith}
use Rattle.std.proofs.lemmas.Int.{ints}
use Rattle.acas_step_stencils.specs.Heights.{IsLedTo}
use Rattle.acas_step_stencils.proofs.EvenHeights.{led_below, led_past, led_within, place_summed}
use Rattle.acas_step_stencils.proofs.heights.place_by_gaps.Goals as goal

pub returns-then-place-lt0 : goal.returns-then-place-lt0
returns-then-place-lt0 c = λ heights z count some even is.
    let at = place_summed c.args.i c.args.climb.gaps (omega (arith, c.requires.place, c.requires.short)) c.requires.small in
    (0, led_below heights c.args.gap c.args.i z c.args.climb some even (omega (arith, count, c.requires.some)) (omega (arith, count, c.requires.place)) is (omega (arith, ints, c.if-place-lt0.true, at)))

pub returns-then-place-count : goal.returns-then-place-count
returns-then-place-count c = λ heights z count some even is.
    let at = place_summed c.args.i c.args.climb.gaps (omega (arith, c.requires.place, c.requires.short)) c.requires.small in
    let high : pos (length heights - 1) ≤ℤ (pos c.args.i +ℤ c.args.climb.gaps) = omega (arith, ints, c.if-place-lt0.false, c.if-place-count.true, count, at) in
    let led = led_past heights c.args.gap c.args.i z c.args.climb some even (omega (arith, count, c.requires.some)) (omega (arith, count, c.requires.place)) is high in
    let x : ℕ = (length heights - 1) * c.args.gap in
    (x, subst (λ (n : ℕ). IsLedTo heights c.args.i z x (record { place = n - 2; offset = c.args.gap })) count led)

pub returns : goal.returns
returns c = λ heights z count some even is.
    let at = place_summed c.args.i c.args.climb.gaps (omega (arith, c.requires.place, c.requires.short)) c.requires.small in
    let place : ℕ = unsigned_abs (to_z w32 (of_z w32 (to_z w32 c.args.i +ℤ to_z w32 (of_z w32 c.args.climb.gaps)))) in
    let there : pos c.args.i +ℤ c.args.climb.gaps ≡ pos place = omega (arith, ints, c.if-place-lt0.false, at) in (
      place * c.args.gap + c.args.climb.rest,
      led_within heights c.args.gap c.args.i z c.args.climb place some even (omega (arith, count, c.requires.place)) is there (omega (arith, c.if-place-count.false, count, c.requires.some)),
    )
