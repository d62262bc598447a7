use Rattle.std.proofs.Common.{ℕ, ◌<◌, List, length, subst, arith}
use Rattle.std.proofs.lemmas.Grind.{common_steps}
use Rattle.acas_spec.specs.Model.{choices_at}
use Rattle.acas_units.specs.declared.pair.Pair.{Pair}
use Rattle.acas_means.specs.Choices.{listed_choice}
use Rattle.acas_sweep.specs.Best.{IsValued}
use Rattle.acas_sweep.specs.Priced.{priced_at}
use Rattle.acas_sweep.proofs.LeastSoFar.{IsLesser, least_next}
use Rattle.acas_sweep.proofs.two.least_of_two.Goals as goal

pub loop-place-preserved : goal.loop-place-preserved
loop-place-preserved c =
    let m = c.args.model.now in
    let p = c.args.present in
    let place = c.loop-place.place in
    let so_far = c.loop-place.invariant in
    let within : place < length (choices_at m p) = omega (arith, c.loop-place-test.true, c.requires.priced.list.count) in
    let valued : (means : List Pair) (pair : Pair) → IsValued m means p (priced_at c.args.list.now place).advisory pair → IsValued m means p (listed_choice m p place).advisory pair =
    λ means pair v. subst (λ (a : ℕ). IsValued m means p a pair) (c.requires.priced.list.advisory place c.loop-place-test.true) v in
    let lesser : IsLesser c.loop-place.least c.valued_choice-pair.result c.least_of-least.result = record { upper = c.least_of-least.ensures.upper; lower = c.least_of-least.ensures.lower } in
    let next_lesser : IsLesser c.loop-place.next_least c.valued_choice-next_pair.result c.least_of-next_least.result = record { upper = c.least_of-next_least.ensures.upper; lower = c.least_of-next_least.ensures.lower } in
    record {
      some = omega arith;
      least = least_next m c.args.vertex_means.now p (choices_at m p) place c.loop-place.least c.valued_choice-pair.result c.least_of-least.result so_far.some within so_far.least
          (valued c.args.vertex_means.now c.valued_choice-pair.result c.valued_choice-pair.ensures) lesser;
      next = least_next m c.args.next_means.now p (choices_at m p) place c.loop-place.next_least c.valued_choice-next_pair.result c.least_of-next_least.result so_far.some within so_far.next
          (valued c.args.next_means.now c.valued_choice-next_pair.result c.valued_choice-next_pair.ensures) next_lesser;
    }

pub returns-clause-first : goal.returns-clause-first
returns-clause-first c = grind (arith, common_steps)

pub returns-clause-second : goal.returns-clause-second
returns-clause-second c = grind (arith, common_steps)
