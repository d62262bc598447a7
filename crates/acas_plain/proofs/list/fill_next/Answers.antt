use Rattle.std.proofs.Common.{◌≡◌, ◌+◌, ◌*◌, ◌≤◌, length, ap, ◌∙◌, arith}
use Rattle.std.proofs.Math.Nat.{mul-le-mul_right}
use Rattle.acas_spec.specs.Model.{GridData, states}
use Rattle.acas_plain.proofs.Below.{whole_below, next_below}
use Rattle.acas_plain.proofs.list.fill_next.Goals as goal

pub fill_over-requires-clause-below : goal.fill_over-requires-clause-below
fill_over-requires-clause-below c =
    let states_is : c.states-states.result ≡ states c.args.model.now.grid = c.states-states.ensures.value ∙ ap (λ (g : GridData). states g) c.grid.ensures.value in
    rw (c.split_at_mut-done.ensures.front, states_is)
    (whole_below c.args.model.now c.args.n c.args.pairs.now c.args.advice.now c.grid.ensures.valid c.requires.some c.requires.n c.requires.pairs c.requires.below)

pub fill_over-requires-clause-pairs : goal.fill_over-requires-clause-pairs
fill_over-requires-clause-pairs c =
    let next : c.args.n + 1 ≤ c.args.model.now.grid.horizon + 1 = omega (arith, c.requires.n) in
    let states_is : c.states-states.result ≡ states c.args.model.now.grid = c.states-states.ensures.value ∙ ap (λ (g : GridData). states g) c.grid.ensures.value in
    let back : length c.split_at_mut-done.result.1.now + c.args.n * states c.args.model.now.grid ≡ length c.args.pairs.now = rw states_is at c.split_at_mut-done.ensures.back_len in
    omega (arith, mul-le-mul_right (states c.args.model.now.grid) next, c.requires.pairs)

pub fill_over-requires-clause-advice : goal.fill_over-requires-clause-advice
fill_over-requires-clause-advice c =
    let next : c.args.n + 1 ≤ c.args.model.now.grid.horizon + 1 = omega (arith, c.requires.n) in
    let states_is : c.states-states.result ≡ states c.args.model.now.grid = c.states-states.ensures.value ∙ ap (λ (g : GridData). states g) c.grid.ensures.value in
    let back : length c.split_at_mut-advice.result.1.now + c.args.n * states c.args.model.now.grid ≡ length c.args.advice.now = rw states_is at c.split_at_mut-advice.ensures.back_len in
    omega (arith, mul-le-mul_right (states c.args.model.now.grid) next, c.requires.advice)

pub returns-clause-below : goal.returns-clause-below
returns-clause-below c =
    let states_is : c.states-states.result ≡ states c.args.model.now.grid = c.states-states.ensures.value ∙ ap (λ (g : GridData). states g) c.grid.ensures.value in
    let over = rw (c.split_at_mut-done.ensures.front, states_is) at c.fill_over.ensures.over in
    rw (c.split_at_mut-done.ensures.front, c.split_at_mut-advice.ensures.front, states_is)
    (next_below c.args.model.now c.args.n c.args.pairs.now c.args.advice.now c.fill_over.new.pairs c.fill_over.new.advice c.grid.ensures.valid c.requires.some c.requires.n c.requires.pairs c.requires.advice c.requires.below over)
