use Rattle.std.proofs.Common.{◌≡◌, ◌<◌, ap, ◌∙◌, arith, rules}
use Rattle.std.proofs.lemmas.Int.{to_z-of_z}
use Rattle.std.proofs.lemmas.List.{length-set}
use mir.Syntax.{w64}
use mir.Val.{SFits}
use Rattle.acas_spec.specs.Model.{GridData, states, vertices}
use Rattle.acas_risk.proofs.Valued.{ending_next, endings_are, endings_within}
use Rattle.acas_risk.proofs.layer.put_endings.Goals as goal

pub loop-state-preserved : goal.loop-state-preserved
loop-state-preserved c =
    let m = c.args.model.now in
    let s = c.loop-state.state in
    let z = c.ending-value.result in
    let fits : SFits w64 c.ending-value.result = search rules in
    let same = to_z-of_z w64 z fits in
    let width : c.vertices.result ≡ vertices m.grid = c.vertices.ensures.value ∙ ap (λ (g : GridData). vertices g) c.grid-grid.ensures.value in
    let here : s < states m.grid = omega (arith, c.loop-state-test.true, c.states-state-end.ensures.value, ap (λ (g : GridData). states g) c.grid-grid.ensures.value) in
    record {
      count = length-set c.loop-state.pairs s _ ∙ c.loop-state.invariant.count;
      ended = ending_next c.args.counted m s c.loop-state.pairs _ z (omega (arith, here, c.loop-state.invariant.count)) c.loop-state.invariant.ended same same (rw width at c.ending-value.ensures.value) c.ending-value.ensures.limits;
    }

pub returns-clause-pairs : goal.returns-clause-pairs
returns-clause-pairs c =
    endings_are c.args.counted c.args.model.now c.loop-state.pairs c.loop-state.invariant.count
    (λ s inside. c.loop-state.invariant.ended s (omega (arith, inside, c.loop-state-test.false, c.states-state-end.ensures.value, ap (λ (g : GridData). states g) c.grid-grid.ensures.value)))

pub returns-clause-small : goal.returns-clause-small
returns-clause-small c =
    endings_within c.args.counted c.args.model.now c.loop-state.pairs c.loop-state.invariant.count
    (λ s inside. c.loop-state.invariant.ended s (omega (arith, inside, c.loop-state-test.false, c.states-state-end.ensures.value, ap (λ (g : GridData). states g) c.grid-grid.ensures.value)))
