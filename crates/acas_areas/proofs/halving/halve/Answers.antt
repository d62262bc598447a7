use Rattle.std.proofs.Common.{◌≡◌, arith, sym, ◌∙◌, ◌-◌, ◌+◌, ◌/◌}
use Rattle.acas_areas.proofs.Halvings.{Bracket-first, Bracket-raise, Bracket-lower, Bracket-done, IsWithin-next, is_below-Same, IsWithin-Same}
use Rattle.acas_areas.proofs.halving.halve.Goals as goal

pub loop-high-init : goal.loop-high-init
loop-high-init g c = Bracket-first _ c.args.last c.requires.first_is_below c.requires.last_is_not

pub loop-high-preserved-then-is_below : goal.loop-high-preserved-then-is_below
loop-high-preserved-then-is_below g c =
    let middle = c.loop-high.low + (c.loop-high.high - c.loop-high.low) / 2 in
    let b = c.loop-high.invariant in
    let den = c.requires.dens middle (omega (arith, b.apart, b.within, c.loop-high-test.true)) in
    Bracket-raise _ c.args.last c.loop-high.low c.loop-high.high b c.loop-high-test.true
    (sym (is_below-Same (g.P.Pass.half c.args.pass.now) (g.P.Pass.value c.at.result) (g.P.Pass.value_at c.args.pass.now middle) c.at.ensures.some den c.at.ensures.value)
    ∙ sym c.is_below.ensures ∙ c.if-is_below.true)

pub loop-high-preserved : goal.loop-high-preserved
loop-high-preserved g c =
    let middle = c.loop-high.low + (c.loop-high.high - c.loop-high.low) / 2 in
    let b = c.loop-high.invariant in
    let den = c.requires.dens middle (omega (arith, b.apart, b.within, c.loop-high-test.true)) in
    Bracket-lower _ c.args.last c.loop-high.low c.loop-high.high b c.loop-high-test.true
    (sym (is_below-Same (g.P.Pass.half c.args.pass.now) (g.P.Pass.value c.at.result) (g.P.Pass.value_at c.args.pass.now middle) c.at.ensures.some den c.at.ensures.value)
    ∙ sym c.is_below.ensures ∙ c.if-is_below.false)

pub returns-clause-end : goal.returns-clause-end
returns-clause-end g c = (c.loop-high.high, Bracket-done _ c.args.last c.loop-high.low c.loop-high.high c.loop-high.invariant c.loop-high-test.false, c.loop-high.invariant.within, c.at-2.ensures.point)

pub returns-clause-contact : goal.returns-clause-contact
returns-clause-contact g c =
    let b = c.loop-high.invariant in
    let next : c.loop-high.low + 1 ≡ c.loop-high.high = omega (arith, b.apart, c.loop-high-test.false) in
    let half = g.P.Pass.half c.args.pass.now in
    let high = g.P.Pass.value_at c.args.pass.now c.loop-high.high in
    IsWithin-Same half high (g.P.Pass.value c.at-2.result) (c.requires.dens c.loop-high.high b.within) (sym c.at-2.ensures.value)
    (IsWithin-next half (g.P.Pass.value_at c.args.pass.now c.loop-high.low) high
    c.requires.thick
    (c.requires.dens c.loop-high.low (omega (arith, b.apart, b.within)))
    (c.requires.dens c.loop-high.high b.within)
    b.low_is_below b.high_is_not
    (rw next at (c.requires.steps c.loop-high.low (omega (arith, b.apart, b.within)))))
