use Rattle.std.proofs.Common.{◌≡◌, ℕ, ◌+◌, ◌*◌, ◌/◌, ◌<◌, refl, ap, sym, ◌∙◌, arith, rules}
use mir.Syntax.{w64}
use mir.Val.{SFits}
use Rattle.std.proofs.lemmas.Int.{to_z-of_z}
use Rattle.std.proofs.lemmas.List.{length-set}
use Rattle.acas_spec.specs.Model.{GridData, states, vertices}
use Rattle.acas_grid.specs.Grid.{state_number}
use Rattle.acas_grid.proofs.StateNumbers.{state_present-below, state_present-state_number}
use Rattle.acas_grid.proofs.Vertices.{row_below}
use Rattle.acas_means.specs.declared.layer.Side.TheVariants.{Lower, Upper}
use Rattle.acas_risk.specs.Counts.{second_cost}
use Rattle.acas_risk.specs.Plans.{policy_of}
use Rattle.acas_risk.proofs.Written.{other_vertex, planned, vertex_next}
use Rattle.acas_risk.proofs.layer.put_vertex.Goals as goal

-- the number of the state, which is one of the grid's
place_is : (g h : GridData) (from width p v : ℕ) → from ≡ p → width ≡ vertices h → h ≡ g → from * width + v ≡ state_number g p v
place_is g h from width p v a b c = rw (a, b, c) refl

place_below : (g : GridData) (p v place : ℕ) → place ≡ state_number g p v → p < g.advisories → v < vertices g → place < states g
place_below g p v place is known inside = omega (arith, is, row_below g.advisories (vertices g) p v known inside)

pub given-advisory-requires-clause-state : goal.given-advisory-requires-clause-state
given-advisory-requires-clause-state c =
    let g = c.args.model.now.grid in
    let is = place_is g c.grid.result.now c.from.result c.vertices-vertices.result c.loop-present.present c.args.vertex c.from.ensures c.vertices-vertices.ensures.value c.grid.ensures.value in
    place_below g c.loop-present.present c.args.vertex _ is (omega (arith, c.loop-present-test.true, c.advisory_count-present-end.ensures.value)) c.requires.vertex

pub bounds-above-state : goal.bounds-above-state
bounds-above-state c =
    let g = c.args.model.now.grid in
    let is = place_is g c.grid.result.now c.from.result c.vertices-vertices.result c.loop-present.present c.args.vertex c.from.ensures c.vertices-vertices.ensures.value c.grid.ensures.value in
    omega (arith, c.loop-present.invariant.count, place_below g c.loop-present.present c.args.vertex _ is (omega (arith, c.loop-present-test.true, c.advisory_count-present-end.ensures.value)) c.requires.vertex)

pub with_cost-requires-clause-upper : goal.with_cost-requires-clause-upper
with_cost-requires-clause-upper c = c.requires.means.each Upper c.from-in-loop-present-3.result (omega (arith, c.from-in-loop-present-3.ensures, c.given-advisory.ensures.known))

pub with_cost-requires-clause-lower : goal.with_cost-requires-clause-lower
with_cost-requires-clause-lower c = c.requires.means.each Lower c.from-in-loop-present-3.result (omega (arith, c.from-in-loop-present-3.ensures, c.given-advisory.ensures.known))

pub loop-present-preserved : goal.loop-present-preserved
loop-present-preserved c =
    let m = c.args.model.now in
    let g = m.grid in
    let policy = policy_of m c.args.step.now.plan.now in
    let p = c.loop-present.present in
    let v = c.args.vertex in
    let inside = c.requires.vertex in
    let place : ℕ = c.from.result * c.vertices-vertices.result + v in
    let so_far = c.loop-present.invariant in
    let is : place ≡ state_number g p v = place_is g c.grid.result.now c.from.result c.vertices-vertices.result p v c.from.ensures c.vertices-vertices.ensures.value c.grid.ensures.value in
    let present = ap (λ (s : ℕ). s / vertices g) is ∙ state_present-state_number g p v inside in
    let below = place_below g p v place is (omega (arith, c.loop-present-test.true, c.advisory_count-present-end.ensures.value)) inside in
    let given = c.given-advisory.ensures in
    let fits : SFits w64 (second_cost c.args.step.now.costs.now c.from-in-loop-present.result c.from-in-loop-present-2.result) = search rules in
    record {
      count = length-set c.loop-present.above place c.with_cost.result ∙ so_far.count;
      written = vertex_next g c.args.step.now.costs.now policy (c.args.step.now.n + 1) v p place c.args.means.now c.loop-present.above c.with_cost.result is inside (omega (arith, below, so_far.count)) so_far.written
          (planned g c.args.step.now.costs.now policy (c.args.step.now.n + 1) c.args.means.now place c.with_cost.result c.from-in-loop-present.result c.from-in-loop-present-3.result c.from-in-loop-present-2.result (c.from-in-loop-present.ensures ∙ sym present)
          (c.from-in-loop-present-3.ensures ∙ given.value) (c.from-in-loop-present-2.ensures ∙ given.value) (omega (arith, c.from-in-loop-present-2.ensures, given.known)) (simp to_z-of_z at c.with_cost.ensures));
      others = λ s other. other_vertex g s p v place c.loop-present.above c.with_cost.result is inside other ∙ so_far.others s other;
    }

pub returns-clause-written : goal.returns-clause-written
returns-clause-written c =
    λ s inside here. c.loop-present.invariant.written s (omega (arith, c.loop-present-test.false, c.advisory_count-present-end.ensures.value, state_present-below c.args.model.now.grid s inside)) here

pub with_cost-requires-clause-cost : goal.with_cost-requires-clause-cost
with_cost-requires-clause-cost c =
    let small = c.requires.step.costs.each c.from-in-loop-present.result c.from-in-loop-present-2.result (omega (arith, c.from-in-loop-present.ensures, c.loop-present-test.true, c.advisory_count-present-end.ensures.value)) (omega (arith, c.from-in-loop-present-2.ensures, c.given-advisory.ensures.known)) in
    let fits : SFits w64 (second_cost c.args.step.now.costs.now c.from-in-loop-present.result c.from-in-loop-present-2.result) = search rules in
    simp to_z-of_z small

pub offset_bounds-above-state : goal.offset_bounds-above-state
offset_bounds-above-state c = grind arith
