use Rattle.std.proofs.Common.{ℕ, ◌≡◌, ◌∙◌, ap₂, sym, arith, ℤ, int_le, to_z, of_z}
use Rattle.std.specs.Int.{w128, w64}
use Rattle.std.proofs.lemmas.Int.{ints}
use Rattle.acas_flight.specs.Values.{less_or_more}
use Rattle.acas_flight_lemmas.proofs.Held.{held_one_form}
use Rattle.acas_region_curves.proofs.curve.numerator.Goals as goal

pub returns-clause-value : goal.returns-clause-value
returns-clause-value c =
    let e : to_z w128 (of_z w128 c.with_loss.result) ≡ c.with_loss.result = omega (arith, ints, c.with_loss.ensures.size) in
    let s : to_z w128 (of_z w128 c.straight.result) ≡ c.straight.result = omega (arith, ints, c.straight.ensures.size) in
    let v : to_z w64 (of_z w64 c.args.start) ≡ c.args.start = omega (arith, ints) in
    let k : to_z w64 (of_z w64 c.args.aim) ≡ c.args.aim = omega (arith, ints) in
    let one = held_one_form c.args.start c.args.aim c.args.pull c.args.hold c.args.time in
    let value = rw (s, v, k) at c.with_loss.ensures.value in
    let straight = rw k at c.straight.ensures.value in
    let loss = rw (k, v) at c.loss_of-loss.ensures.value in
    e ∙ value ∙ ap₂ (λ (s : ℤ) (l : ℕ). less_or_more (int_le c.args.start c.args.aim) s l) straight loss ∙ sym one
