use Rattle.std.proofs.Common.{◌≡◌, ◌∙◌, sym, ◌*◌, pos, ◌-ℤ◌, ◌*ℤ◌, unsigned_abs, arith, mul-le-mul_left}
use Rattle.std.proofs.lemmas.Int.{ints}
use Rattle.acas_flight_windows.proofs.Ends.{le_pos}
use Rattle.acas_flight_lemmas.proofs.Numbers.{test_true, strictly}
use Rattle.acas_witness_plans.proofs.Portions.{le_of, lt_of, lt_ℕ, none_of, some_of, bend_over, difference_over}
use Rattle.acas_witness_response.proofs.Assembly.{fine_some, not_zero, without, level_only, before_bend, past_bend, pull_some, bend_den, bend_least}
use Rattle.acas_witness_response.proofs.response.segments_of.Goals as goal

pub returns-then-num-eq0 : goal.returns-then-num-eq0
returns-then-num-eq0 c = λ q v k b t p ov ok op ot.
    let z : c.num.result ≡ pos 0 = omega (arith, ints) in
    without q v k b t (none_of (q * (q * b)) t c.args.time.now c.requires.some ot (sym c.num.ensures.value ∙ z))

pub returns-then-num-eq0-2 : goal.returns-then-num-eq0-2
returns-then-num-eq0-2 c = λ q v k b t p ov ok op ot.
    let s = pull_some c.args.pull.now c.requires.pull in
    let z : c.num-2.result ≡ pos 0 = omega (arith, ints) in
    let ob = bend_over c.args.rate.now c.args.aim.now c.args.pull.now c.bend_of-bend.result q v k b c.requires.rate.some c.requires.aim.some c.requires.pull.some s.1 ov ok op c.bend_of-bend.ensures.bend in
    level_only q v k b t c.args.time.now c.whole.result (some_of (q * (q * b)) t c.args.time.now (fine_some q b c.args.pull.now c.requires.pull p op) ot (not_zero c.num.result c.args.time.now.num c.if-num-eq0.false c.num.ensures.value))
    (none_of (q * (q * b)) (unsigned_abs (k -ℤ v) * q) c.bend_of-bend.result c.bend_of-bend.ensures.lowest.some ob (sym c.num-2.ensures.value ∙ z))
    ot c.whole.ensures

pub returns-then-is_at_most : goal.returns-then-is_at_most
returns-then-is_at_most c = λ q v k b t p ov ok op ot.
    let s = pull_some c.args.pull.now c.requires.pull in
    let f = fine_some q b c.args.pull.now c.requires.pull p op in
    let ob = bend_over c.args.rate.now c.args.aim.now c.args.pull.now c.bend_of-bend.result q v k b c.requires.rate.some c.requires.aim.some c.requires.pull.some s.1 ov ok op c.bend_of-bend.ensures.bend in
    before_bend q v k b t c.args.time.now c.toward-acceleration.result
    (some_of (q * (q * b)) t c.args.time.now f ot (not_zero c.num.result c.args.time.now.num c.if-num-eq0.false c.num.ensures.value))
    (some_of (q * (q * b)) (unsigned_abs (k -ℤ v) * q) c.bend_of-bend.result f ob (not_zero c.num-2.result c.bend_of-bend.result.num c.if-num-eq0-2.false c.num-2.ensures.value))
    (le_pos t (unsigned_abs (k -ℤ v) * q) (le_of (q * (q * b)) (pos t) (pos (unsigned_abs (k -ℤ v) * q)) c.args.time.now c.bend_of-bend.result f c.requires.some c.bend_of-bend.ensures.lowest.some ot ob
    (test_true (c.args.time.now.num *ℤ pos c.bend_of-bend.result.den) (c.bend_of-bend.result.num *ℤ pos c.args.time.now.den) (sym c.is_at_most.ensures ∙ c.if-is_at_most.true))))
    ot (c.toward-acceleration.ensures q v k b p ov ok op)

pub difference-requires-clause-dens : goal.difference-requires-clause-dens
difference-requires-clause-dens c =
    let d = bend_den c.args.rate.now c.args.aim.now c.args.pull.now c.bend_of-bend.result c.requires.rate c.requires.aim c.requires.pull c.bend_of-bend.ensures.bend c.bend_of-bend.ensures.lowest in
    let m = mul-le-mul_left c.args.time.now.den d in
    omega (arith, m, c.requires.dens)

pub difference-requires-clause-order : goal.difference-requires-clause-order
difference-requires-clause-order c =
    let l = strictly (c.args.time.now.num *ℤ pos c.bend_of-bend.result.den) (c.bend_of-bend.result.num *ℤ pos c.args.time.now.den) (sym c.is_at_most.ensures ∙ c.if-is_at_most.false) in
    omega (arith, ints, l)

pub difference-requires-clause-least : goal.difference-requires-clause-least
difference-requires-clause-least c = bend_least c.args.rate.now c.args.aim.now c.args.pull.now c.bend_of-bend.result c.requires.rate c.requires.aim c.requires.pull c.bend_of-bend.ensures.bend

pub difference-requires-clause-most : goal.difference-requires-clause-most
difference-requires-clause-most c = c.requires.most

pub returns : goal.returns
returns c = λ q v k b t p ov ok op ot.
    let s = pull_some c.args.pull.now c.requires.pull in
    let f = fine_some q b c.args.pull.now c.requires.pull p op in
    let ob = bend_over c.args.rate.now c.args.aim.now c.args.pull.now c.bend_of-bend.result q v k b c.requires.rate.some c.requires.aim.some c.requires.pull.some s.1 ov ok op c.bend_of-bend.ensures.bend in
    let l = lt_ℕ (unsigned_abs (k -ℤ v) * q) t (lt_of (q * (q * b)) (pos t) (pos (unsigned_abs (k -ℤ v) * q)) c.args.time.now c.bend_of-bend.result f c.requires.some c.bend_of-bend.ensures.lowest.some ot ob
    (strictly (c.args.time.now.num *ℤ pos c.bend_of-bend.result.den) (c.bend_of-bend.result.num *ℤ pos c.args.time.now.den) (sym c.is_at_most.ensures ∙ c.if-is_at_most.false))) in
    past_bend q v k b t c.bend_of-bend.result c.toward-acceleration.result c.difference.result c.whole-2.result
    (some_of (q * (q * b)) (unsigned_abs (k -ℤ v) * q) c.bend_of-bend.result f ob (not_zero c.num-2.result c.bend_of-bend.result.num c.if-num-eq0-2.false c.num-2.ensures.value))
    l ob (c.toward-acceleration.ensures q v k b p ov ok op)
    (difference_over c.args.time.now c.bend_of-bend.result c.difference.result (q * (q * b)) t (unsigned_abs (k -ℤ v) * q) c.requires.some c.bend_of-bend.ensures.lowest.some ot ob (omega arith) c.difference.ensures.difference)
    c.whole-2.ensures
