use Rattle.std.proofs.Common.{ℕ, ◌<◌, length, subst, arith}
use Rattle.acas_spec.specs.Model.{choices_at}
use Rattle.acas_sweep.specs.Best.{IsValued}
use Rattle.acas_sweep.proofs.LeastSoFar.{IsLesser, least_next}
use Rattle.acas_sweep.proofs.best.least_values.Goals as goal

pub loop-place-preserved : goal.loop-place-preserved
loop-place-preserved c =
    let m = c.args.model.now in
    let p = c.args.present in
    let place = c.loop-place.place in
    let so_far = c.loop-place.invariant in
    let means = c.args.vertex_means.now in
    let pair = c.valued_choice-pair.result in
    let lesser : IsLesser c.loop-place.least pair c.least_of-least.result = record { upper = c.least_of-least.ensures.upper; lower = c.least_of-least.ensures.lower } in
    let within : place < length (choices_at m p) = omega (arith, c.loop-place-test.true, c.requires.list.count) in
    record {
      some = omega arith;
      least = least_next m means p (choices_at m p) place c.loop-place.least pair c.least_of-least.result so_far.some within so_far.least
          (subst (λ (a : ℕ). IsValued m means p a pair) (c.requires.list.advisory place c.loop-place-test.true) c.valued_choice-pair.ensures) lesser;
    }
