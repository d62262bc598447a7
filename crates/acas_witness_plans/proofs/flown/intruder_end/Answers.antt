use Rattle.std.proofs.Common.{◌≡◌, ℕ, ◌*◌, ◌∙◌, ap₂, sym, ℤ, pos, ◌+ℤ◌, ◌*ℤ◌, to_z, of_z, arith, rules}
use Rattle.std.specs.Int.{w64, w128}
use Rattle.std.proofs.lemmas.Grind.{common_steps}
use Rattle.std.proofs.lemmas.Int.{ints}
use Rattle.acas_frac.specs.Fraction.{Fraction}
use Rattle.acas_witness_plans.specs.Plans.{IsIntruderEnd}
use Rattle.acas_witness_plans.proofs.flown.intruder_end.Goals as goal

line_from : (h : ℤ) (x t y : Fraction) (xn : ℤ) (xd tn td : ℕ) (o f : ℤ) → x.num ≡ xn → x.den ≡ xd → t.num ≡ pos tn → t.den ≡ td → o ≡ h *ℤ pos (xd * td) → f ≡ (pos 2 *ℤ xn) *ℤ pos tn →
    y.num ≡ o +ℤ f → y.den ≡ xd * td → IsIntruderEnd h x t y
line_from h x t y xn xd tn td o f ex dx et dt eo ef num den = record { over = rw (ex, dx, et, dt, ← eo, ← ef) (ap₂ (λ (i : ℤ) (n : ℕ). i *ℤ pos n) num (sym den)) }

pub overflow_add-over : goal.overflow_add-over
overflow_add-over c = search rules

pub new-requires-clause-some : goal.new-requires-clause-some
new-requires-clause-some c = grind (arith, common_steps)

pub new-requires-clause-num_small : goal.new-requires-clause-num_small
new-requires-clause-num_small c = grind (arith, common_steps)

pub new-requires-clause-den_small : goal.new-requires-clause-den_small
new-requires-clause-den_small c = grind (arith, common_steps)

pub returns-clause-end : goal.returns-clause-end
returns-clause-end c =
    let h : to_z w64 (of_z w64 c.args.altitude) ≡ c.args.altitude = omega (arith, ints, c.requires.altitude) in
    let r : to_z w64 (of_z w64 c.rate_parts-rate.result.0) ≡ c.rate_parts-rate.result.0 = omega (arith, ints, c.rate_parts-rate.ensures.num_size) in
    let s : to_z w128 (of_z w128 c.from.result) ≡ c.over.result +ℤ c.flown.result = omega (arith, ints, c.from.ensures, c.over.ensures.size, c.flown.ensures.size) in
    line_from c.args.altitude c.args.intruder.now c.args.time.now c.new.result c.rate_parts-rate.result.0 c.rate_parts-rate.result.1 c.time_parts-num.result.0 c.time_parts-num.result.1 c.over.result c.flown.result
    c.rate_parts-rate.ensures.num c.rate_parts-rate.ensures.den c.time_parts-num.ensures.num c.time_parts-num.ensures.den
    (rw h at c.over.ensures.value) (rw r at c.flown.ensures.value) (c.new.ensures.num ∙ s) c.new.ensures.den

pub returns-clause-short : goal.returns-clause-short
returns-clause-short c = grind (arith, common_steps)
