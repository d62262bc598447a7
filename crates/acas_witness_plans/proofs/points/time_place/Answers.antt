use Rattle.std.proofs.Common.{◌≡◌, ℕ, ◌*◌, sym, ◌∙◌, pos, unsigned_abs, arith}
use Rattle.std.proofs.lemmas.Grind.{common_steps}
use Rattle.acas_frac.specs.Fraction.{Fraction}
use Rattle.acas_flight.specs.Values.{IsOver}
use Rattle.acas_areas.specs.Passes.{toward}
use Rattle.acas_witness_plans.proofs.Lattices.{later_most, sooner_room, over_later, over_sooner, over_end, end_later, end_sooner}
use Rattle.acas_witness_plans.proofs.points.time_place.Goals as goal

-- the parts of the two times
with_parts : (f g r : Fraction) (a b c d n : ℕ) → f.num ≡ pos a → f.den ≡ b → g.num ≡ pos c → g.den ≡ d →
    IsOver (2048 * (b * d)) (pos (toward (a * (2048 * d)) (c * (2048 * b)) (n * (8 * (b * d))))) r →
    IsOver (2048 * (f.den * g.den)) (pos (toward (unsigned_abs f.num * (2048 * g.den)) (unsigned_abs g.num * (2048 * f.den)) (n * (8 * (f.den * g.den))))) r
with_parts f g r a b c d n ef df eg dg h = rw (ef, df, eg, dg) h

pub overflow_add-first : goal.overflow_add-first
overflow_add-first c = grind (arith, common_steps)

pub time_at-requires-clause-most : goal.time_at-requires-clause-most
time_at-requires-clause-most c = later_most c.end_parts-a.result.0 c.end_parts-a.result.1 c.end_parts-c.result.0 c.end_parts-c.result.1 c.from-then-first-moved.result
    (rw (c.from.ensures ∙ sym c.from-then-first-moved.ensures) at c.if-first-moved.true) c.end_parts-c.ensures.most

pub overflow_add-last : goal.overflow_add-last
overflow_add-last c = grind (arith, common_steps)

pub overflow_sub-a : goal.overflow_sub-a
overflow_sub-a c = sooner_room c.end_parts-a.result.0 c.end_parts-a.result.1 c.end_parts-c.result.0 c.end_parts-c.result.1 c.from-then-last-moved.result c.end_parts-c.ensures.some
    (rw (c.from.ensures ∙ sym c.from-then-last-moved.ensures) at c.if-last-moved.true)

pub returns-then-first-moved-clause-over : goal.returns-then-first-moved-clause-over
returns-then-first-moved-clause-over c =
    with_parts c.args.from.now c.args.to.now c.time_at.result _ _ _ _ c.args.number c.end_parts-a.ensures.num c.end_parts-a.ensures.den c.end_parts-c.ensures.num c.end_parts-c.ensures.den
    (over_later c.time_at.result c.end_parts-a.result.0 c.end_parts-a.result.1 c.end_parts-c.result.0 c.end_parts-c.result.1 c.args.number
    (rw c.from-then-first-moved.ensures at c.time_at.ensures.value) (rw c.from.ensures at c.if-first-moved.true))

pub returns-else-first-moved-clause-over : goal.returns-else-first-moved-clause-over
returns-else-first-moved-clause-over c =
    with_parts c.args.from.now c.args.to.now c.args.to.now _ _ _ _ c.args.number c.end_parts-a.ensures.num c.end_parts-a.ensures.den c.end_parts-c.ensures.num c.end_parts-c.ensures.den
    (over_end c.args.to.now c.end_parts-a.result.0 c.end_parts-a.result.1 c.end_parts-c.result.0 c.end_parts-c.result.1 c.args.number c.end_parts-c.ensures.num c.end_parts-c.ensures.den
    (end_later c.end_parts-a.result.0 c.end_parts-a.result.1 c.end_parts-c.result.0 c.end_parts-c.result.1 c.args.number c.if-first-last.true (rw c.from.ensures at c.if-first-moved.false)))

pub returns-then-last-moved-clause-over : goal.returns-then-last-moved-clause-over
returns-then-last-moved-clause-over c =
    with_parts c.args.from.now c.args.to.now c.time_at-then-last-moved.result _ _ _ _ c.args.number c.end_parts-a.ensures.num c.end_parts-a.ensures.den c.end_parts-c.ensures.num c.end_parts-c.ensures.den
    (over_sooner c.time_at-then-last-moved.result c.end_parts-a.result.0 c.end_parts-a.result.1 c.end_parts-c.result.0 c.end_parts-c.result.1 c.args.number c.end_parts-c.ensures.some
    (rw c.from-then-last-moved.ensures at c.time_at-then-last-moved.ensures.value) (rw c.from.ensures at c.if-last-moved.true))

pub returns-else-last-moved-clause-over : goal.returns-else-last-moved-clause-over
returns-else-last-moved-clause-over c =
    with_parts c.args.from.now c.args.to.now c.args.to.now _ _ _ _ c.args.number c.end_parts-a.ensures.num c.end_parts-a.ensures.den c.end_parts-c.ensures.num c.end_parts-c.ensures.den
    (over_end c.args.to.now c.end_parts-a.result.0 c.end_parts-a.result.1 c.end_parts-c.result.0 c.end_parts-c.result.1 c.args.number c.end_parts-c.ensures.num c.end_parts-c.ensures.den
    (end_sooner c.end_parts-a.result.0 c.end_parts-a.result.1 c.end_parts-c.result.0 c.end_parts-c.result.1 c.args.number c.if-first-last.false (rw c.from.ensures at c.if-last-moved.false)))
