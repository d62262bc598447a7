use Rattle.std.proofs.Common.{◌≡◌, ◌<◌, ap, ◌∙◌, arith}
use Rattle.acas_spec.specs.Model.{GridData, states}
use Rattle.acas_accept.proofs.Kept.{AreAdvicesOf-written, below_same, here_next, known_advice}
use Rattle.acas_accept.proofs.keeping.keep_advices.Goals as goal

pub set-requires-clause-n : goal.set-requires-clause-n
set-requires-clause-n c = omega (arith, c.loop-state.invariant.are.horizon)

pub set-requires-clause-state : goal.set-requires-clause-state
set-requires-clause-state c =
    let count : c.states-state-end.result ≡ states c.args.model.now.grid = c.states-state-end.ensures.value ∙ ap (λ (g : GridData). states g) c.grid.ensures.value in
    omega (arith, count, c.loop-state.invariant.are.states)

pub set-requires-clause-advice : goal.set-requires-clause-advice
set-requires-clause-advice c =
    let count : c.states-state-end.result ≡ states c.args.model.now.grid = c.states-state-end.ensures.value ∙ ap (λ (g : GridData). states g) c.grid.ensures.value in
    omega (arith, c.loop-state.invariant.are.advisories, known_advice c.args.model.now c.args.n c.loop-state.state c.args.advice.now c.grid.ensures.valid c.requires.some (omega (arith, count)) c.requires.allowed)

pub loop-state-preserved : goal.loop-state-preserved
loop-state-preserved c =
    let m = c.args.model.now in
    let a = c.loop-state.advices in
    let count : c.states-state-end.result ≡ states c.args.model.now.grid = c.states-state-end.ensures.value ∙ ap (λ (g : GridData). states g) c.grid.ensures.value in
    let inside : c.loop-state.state < states c.args.model.now.grid = omega (arith, count) in
    rw c.set.ensures (record {
      are = AreAdvicesOf-written m a c.args.n c.loop-state.state _ c.loop-state.invariant.are;
      here = here_next m a c.args.n c.loop-state.state c.args.advice.now c.loop-state.invariant.are c.requires.some c.requires.n inside c.loop-state.invariant.here;
      below = λ k s some below known. below_same m a c.args.n c.loop-state.state _ k s c.loop-state.invariant.are some below known ∙ c.loop-state.invariant.below k s some below known;
    })
