use Rattle.std.proofs.lemmas.Grind.{common_steps}
use Rattle.std.proofs.Common.{◌≡◌, ◌∙◌, sym, ◌-◌, ◌≤◌, pos, ◌*ℤ◌, int_le, min, false, arith, mul-pos, mul-le-mul, mul-le-mul_left}
use Rattle.std.proofs.lemmas.Int.{ints}
use Rattle.acas_frac.specs.Fraction.{Fraction}
use Rattle.acas_flight.specs.Values.{IsAtMost}
use Rattle.acas_flight_windows.proofs.Ends.{le_pos}
use Rattle.acas_flight_lemmas.proofs.Numbers.{test_true, strictly}
use Rattle.acas_witness_plans.proofs.Portions.{le_of, lt_of, lt_ℕ, none_of, some_of, none_over, difference_over}
use Rattle.acas_witness_response.proofs.Assembly.{not_zero, hold_none, hold_some, difference_den, difference_least, difference_most}
use Rattle.acas_witness_response.proofs.response.held_part.Goals as goal

pub returns-then-num-eq0-clause-parts : goal.returns-then-num-eq0-clause-parts
returns-then-num-eq0-clause-parts c = λ n t g p ot og.
    let z : c.num.result ≡ pos 0 = omega (arith, ints) in
    let e = none_of n g c.args.hold.now c.requires.hold.some og (sym c.num.ensures.value ∙ z) in
    hold_none n (min t g) (omega arith)

pub returns-then-num-eq0-clause-rest : goal.returns-then-num-eq0-clause-rest
returns-then-num-eq0-clause-rest c = grind (arith, common_steps)

pub returns-then-num-eq0-clause-least : goal.returns-then-num-eq0-clause-least
returns-then-num-eq0-clause-least c = rw c.known.ensures.same c.requires.time.least

pub returns-then-num-eq0-clause-most : goal.returns-then-num-eq0-clause-most
returns-then-num-eq0-clause-most c = rw c.known.ensures.same c.requires.time.greatest

pub returns-then-num-eq0-clause-some : goal.returns-then-num-eq0-clause-some
returns-then-num-eq0-clause-some c = rw c.known.ensures.same c.requires.time.some

pub returns-then-num-eq0-clause-den : goal.returns-then-num-eq0-clause-den
returns-then-num-eq0-clause-den c = rw c.known.ensures.same (let m = mul-le-mul_left c.args.time.now.den (let h : 1 ≤ c.args.hold.now.den = omega (arith, c.requires.hold.some) in h) in omega arith)

pub returns-then-num-eq0-2-clause-parts : goal.returns-then-num-eq0-2-clause-parts
returns-then-num-eq0-2-clause-parts c = λ n t g p ot og.
    let z : c.num-2.result ≡ pos 0 = omega (arith, ints) in
    let e = none_of n t c.args.time.now c.requires.time.some ot (sym c.num-2.ensures.value ∙ z) in
    hold_none n (min t g) (omega arith)

pub returns-then-num-eq0-2-clause-rest : goal.returns-then-num-eq0-2-clause-rest
returns-then-num-eq0-2-clause-rest c = grind (arith, common_steps)

pub returns-then-num-eq0-2-clause-least : goal.returns-then-num-eq0-2-clause-least
returns-then-num-eq0-2-clause-least c = rw c.known-then-num-eq0-2.ensures.same c.requires.time.least

pub returns-then-num-eq0-2-clause-most : goal.returns-then-num-eq0-2-clause-most
returns-then-num-eq0-2-clause-most c = rw c.known-then-num-eq0-2.ensures.same c.requires.time.greatest

pub returns-then-num-eq0-2-clause-some : goal.returns-then-num-eq0-2-clause-some
returns-then-num-eq0-2-clause-some c = rw c.known-then-num-eq0-2.ensures.same c.requires.time.some

pub returns-then-num-eq0-2-clause-den : goal.returns-then-num-eq0-2-clause-den
returns-then-num-eq0-2-clause-den c = rw c.known-then-num-eq0-2.ensures.same (let m = mul-le-mul_left c.args.time.now.den (let h : 1 ≤ c.args.hold.now.den = omega (arith, c.requires.hold.some) in h) in omega arith)

pub returns-then-is_at_most-clause-parts : goal.returns-then-is_at_most-clause-parts
returns-then-is_at_most-clause-parts c = λ n t g p ot og.
    let l = le_pos t g (le_of n (pos t) (pos g) c.args.time.now c.args.hold.now p c.requires.time.some c.requires.hold.some ot og
    (test_true (c.args.time.now.num *ℤ pos c.args.hold.now.den) (c.args.hold.now.num *ℤ pos c.args.time.now.den) (sym c.is_at_most.ensures ∙ c.if-is_at_most.true))) in
    let s : min t g ≡ t = omega arith in
    rw s (hold_some n t c.args.time.now (some_of n t c.args.time.now p ot (not_zero c.num-2.result c.args.time.now.num c.if-num-eq0-2.false c.num-2.ensures.value)) ot)

pub returns-then-is_at_most-clause-rest : goal.returns-then-is_at_most-clause-rest
returns-then-is_at_most-clause-rest c = λ n t g p ot og.
    let l = le_pos t g (le_of n (pos t) (pos g) c.args.time.now c.args.hold.now p c.requires.time.some c.requires.hold.some ot og
    (test_true (c.args.time.now.num *ℤ pos c.args.hold.now.den) (c.args.hold.now.num *ℤ pos c.args.time.now.den) (sym c.is_at_most.ensures ∙ c.if-is_at_most.true))) in
    let s : t - g ≡ 0 = omega arith in
    rw s (none_over n c.whole.result c.whole.ensures)

pub returns-then-is_at_most-clause-least : goal.returns-then-is_at_most-clause-least
returns-then-is_at_most-clause-least c = rw c.whole.ensures (omega (arith, ints))

pub returns-then-is_at_most-clause-most : goal.returns-then-is_at_most-clause-most
returns-then-is_at_most-clause-most c = rw c.whole.ensures (omega (arith, ints))

pub returns-then-is_at_most-clause-some : goal.returns-then-is_at_most-clause-some
returns-then-is_at_most-clause-some c = rw c.whole.ensures (omega arith)

pub returns-then-is_at_most-clause-den : goal.returns-then-is_at_most-clause-den
returns-then-is_at_most-clause-den c = rw c.whole.ensures (mul-pos c.requires.time.some c.requires.hold.some)

later : (f g : Fraction) → int_le (f.num *ℤ pos g.den) (g.num *ℤ pos f.den) ≡ false → IsAtMost g f
later f g e = let l = strictly (f.num *ℤ pos g.den) (g.num *ℤ pos f.den) e in omega (arith, ints, l)

pub difference-requires-clause-dens : goal.difference-requires-clause-dens
difference-requires-clause-dens c = omega (arith, mul-le-mul c.requires.time.den c.requires.hold.den)

pub difference-requires-clause-order : goal.difference-requires-clause-order
difference-requires-clause-order c = later c.args.time.now c.args.hold.now (sym c.is_at_most.ensures ∙ c.if-is_at_most.false)

pub difference-requires-clause-least : goal.difference-requires-clause-least
difference-requires-clause-least c = c.requires.hold.least

pub difference-requires-clause-most : goal.difference-requires-clause-most
difference-requires-clause-most c = c.requires.time.greatest

pub returns-clause-parts : goal.returns-clause-parts
returns-clause-parts c = λ n t g p ot og.
    let l = lt_ℕ g t (lt_of n (pos t) (pos g) c.args.time.now c.args.hold.now p c.requires.time.some c.requires.hold.some ot og
    (strictly (c.args.time.now.num *ℤ pos c.args.hold.now.den) (c.args.hold.now.num *ℤ pos c.args.time.now.den) (sym c.is_at_most.ensures ∙ c.if-is_at_most.false))) in
    let s : min t g ≡ g = omega arith in
    rw s (hold_some n g c.args.hold.now (some_of n g c.args.hold.now p og (not_zero c.num.result c.args.hold.now.num c.if-num-eq0.false c.num.ensures.value)) og)

pub returns-clause-rest : goal.returns-clause-rest
returns-clause-rest c = λ n t g p ot og.
    let l = lt_ℕ g t (lt_of n (pos t) (pos g) c.args.time.now c.args.hold.now p c.requires.time.some c.requires.hold.some ot og
    (strictly (c.args.time.now.num *ℤ pos c.args.hold.now.den) (c.args.hold.now.num *ℤ pos c.args.time.now.den) (sym c.is_at_most.ensures ∙ c.if-is_at_most.false))) in
    difference_over c.args.time.now c.args.hold.now c.difference.result n t g c.requires.time.some c.requires.hold.some ot og (omega arith) c.difference.ensures.difference

pub returns-clause-least : goal.returns-clause-least
returns-clause-least c = difference_least c.args.time.now c.args.hold.now c.difference.result c.requires.time.some c.requires.hold.some c.difference.ensures.difference (later c.args.time.now c.args.hold.now (sym c.is_at_most.ensures ∙ c.if-is_at_most.false)) c.requires.hold.least c.requires.time.greatest c.difference.ensures.lowest

pub returns-clause-most : goal.returns-clause-most
returns-clause-most c = difference_most c.args.time.now c.args.hold.now c.difference.result c.requires.time.some c.requires.hold.some c.difference.ensures.difference (later c.args.time.now c.args.hold.now (sym c.is_at_most.ensures ∙ c.if-is_at_most.false)) c.requires.hold.least c.requires.time.greatest c.difference.ensures.lowest

pub returns-clause-some : goal.returns-clause-some
returns-clause-some c = c.difference.ensures.lowest.some

pub returns-clause-den : goal.returns-clause-den
returns-clause-den c = difference_den c.args.time.now c.args.hold.now c.difference.result c.requires.time.some c.requires.hold.some c.difference.ensures.difference (later c.args.time.now c.args.hold.now (sym c.is_at_most.ensures ∙ c.if-is_at_most.false)) c.requires.hold.least c.requires.time.greatest c.difference.ensures.lowest
