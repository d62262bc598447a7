use Rattle.std.proofs.Common.{◌≡◌, ◌^◌, ◌-◌, ◌≤◌, ◌<◌, ℕ, ℤ, pos, neg_ℤ, ◌+ℤ◌, ◌*ℤ◌, ◌≤ℤ◌, length, unsigned_abs, to_z, w64, ap, sym, subst, ◌∙◌, arith, rules}
use Rattle.std.proofs.lemmas.Int.{ints, to_z-of_z}
use Rattle.std.proofs.lemmas.Grind.{common_steps}
use Rattle.acas_spec.specs.Model.{total_weight}
use Rattle.acas_spec.specs.declared.place.Point.{Point}
use Rattle.acas_spec.specs.declared.place.Vertex.{Vertex}
use Rattle.acas_grid.specs.Grid.{state_number, vertex_number}
use Rattle.acas_grid.specs.States.{vertex_at}
use Rattle.acas_process.specs.Values.{interpolated}
use Rattle.acas_process.specs.Step.{moved, sigma_weight}
use Rattle.acas_process.specs.Sums.{sum_below}
use Rattle.acas_process.proofs.SizeLaws.{mean_bounded}
use Rattle.acas_means.specs.Layer.{layer_values}
use Rattle.acas_means.proofs.NumberedStates.{state_number-below}
use Rattle.acas_step.proofs.Quotients.{quotient_fits}
use Rattle.acas_step.proofs.SigmaSteps.{IsTerm, mean_fits, mean_high, mean_low, mean_step, no_sigma}
use Rattle.acas_step.proofs.values.mean_by.Goals as goal
use mir.Syntax.{w128}
use mir.Val.{SFits}

-- the term of a sigma point is within its bounds
term_within : (weight : ℕ) (w term : ℤ) → w ≡ pos weight → term ≤ℤ (pos (2 ^ 63 - 1) *ℤ w) → (neg_ℤ (pos (2 ^ 63)) *ℤ w) ≤ℤ term → IsTerm weight term
term_within weight w term is high low = record {
  high = subst (λ z. term ≤ℤ (pos (2 ^ 63 - 1) *ℤ z)) is high;
  low = subst (λ z. (neg_ℤ (pos (2 ^ 63)) *ℤ z) ≤ℤ term) is low;
}

-- and is the weight times the value
term_is : (weight : ℕ) (w v value term : ℤ) → term ≡ w *ℤ v → w ≡ pos weight → v ≡ value → term ≡ pos weight *ℤ value
term_is weight w v value term e f g = e ∙ ap (λ z. z *ℤ v) f ∙ ap (λ z. pos weight *ℤ z) g

pub overflow_add-sum : goal.overflow_add-sum
overflow_add-sum g c =
    let m = c.args.model.now in
    let below : c.loop-sigma.sigma < length m.sigmas = omega (arith, c.loop-sigma-test.true, c.sigma_count-sigma-end.ensures.value) in
    let w : SFits w128 c.sigma_weight.result = search rules in
    let t : SFits w128 c.weighted-sum.result = search rules in
    let term = term_within (sigma_weight m c.loop-sigma.sigma) c.sigma_weight.result c.weighted-sum.result c.sigma_weight.ensures.value (simp to_z-of_z at c.weighted-sum.ensures.high) (simp to_z-of_z at c.weighted-sum.ensures.low) in
    simp to_z-of_z (mean_fits m.sigmas no_sigma c.loop-sigma.sigma (to_z w128 c.loop-sigma.sum-bits) c.weighted-sum.result below c.loop-sigma.invariant.within term c.sigma_count-sigma-end.ensures.valid.weights)

pub loop-sigma-preserved : goal.loop-sigma-preserved
loop-sigma-preserved g c =
    let m = c.args.model.now in
    let q : ℕ = c.loop-sigma.sigma in
    let x : Vertex = vertex_at m.grid c.args.vertex in
    let at : Point → ℤ = λ s. interpolated g.R.Rounding.round m (layer_values c.args.side m.grid c.args.below.now) c.args.advisory s in
    let f : ℕ → ℤ = λ q. pos (sigma_weight m q) *ℤ at (moved m x c.args.advisory q) in
    let below : q < length m.sigmas = omega (arith, c.loop-sigma-test.true, c.sigma_count-sigma-end.ensures.value) in
    let w : SFits w128 c.sigma_weight.result = search rules in
    let v : SFits w64 c.interpolated-value.result = search rules in
    let t : SFits w128 c.weighted-sum.result = search rules in
    let weight = c.sigma_weight.ensures.value in
    let term = term_within (sigma_weight m q) c.sigma_weight.result c.weighted-sum.result weight (simp to_z-of_z at c.weighted-sum.ensures.high) (simp to_z-of_z at c.weighted-sum.ensures.low) in
    let p : SFits w128 (to_z w128 c.loop-sigma.sum-bits +ℤ c.weighted-sum.result) = simp to_z-of_z at (overflow_add-sum g c) in
    let is : c.weighted-sum.result ≡ f q =
    term_is (sigma_weight m q) c.sigma_weight.result c.interpolated-value.result (at (moved m x c.args.advisory q)) c.weighted-sum.result (simp to_z-of_z at c.weighted-sum.ensures.value) weight
    (c.interpolated-value.ensures (moved m x c.args.advisory q) c.corners_led_to-set.ensures.sums) in
    mean_step m.sigmas no_sigma f q (to_z w128 c.loop-sigma.sum-bits) c.weighted-sum.result _ below c.loop-sigma.invariant term is (simp to_z-of_z)

pub overflow_cast-result : goal.overflow_cast-result
overflow_cast-result g c =
    let m = c.args.model.now in
    let r : SFits w128 c.div.result = search rules in
    let t : SFits w128 c.total_weight.result = search rules in
    let all : length m.sigmas ≤ c.loop-sigma.sigma = omega (arith, c.loop-sigma-test.false, c.sigma_count-sigma-end.ensures.value) in
    let quotient = (simp to_z-of_z at c.div.ensures) ∙ ap (λ z. g.R.Rounding.round (to_z w128 c.loop-sigma.sum-bits) z) c.total_weight.ensures.value in
    let fits = quotient_fits g.R.Rounding.round g.met.R.Rounding.way (pos (total_weight m)) (to_z w128 c.loop-sigma.sum-bits) (omega (arith, ints, c.total_weight.ensures.some))
    (mean_high m.sigmas c.loop-sigma.sigma (to_z w128 c.loop-sigma.sum-bits) all c.loop-sigma.invariant.within) (mean_low m.sigmas c.loop-sigma.sigma (to_z w128 c.loop-sigma.sum-bits) all c.loop-sigma.invariant.within) in
    simp to_z-of_z (subst (λ z. SFits w64 z) (sym quotient) fits)

pub returns-clause-value : goal.returns-clause-value
returns-clause-value g c =
    let m = c.args.model.now in
    let f : ℕ → ℤ = λ q. pos (sigma_weight m q) *ℤ interpolated g.R.Rounding.round m (layer_values c.args.side m.grid c.args.below.now) c.args.advisory (moved m (vertex_at m.grid c.args.vertex) c.args.advisory q) in
    let r : SFits w128 c.div.result = search rules in
    let t : SFits w128 c.total_weight.result = search rules in
    let fits = simp to_z-of_z at (overflow_cast-result g c) in
    let end : c.loop-sigma.sigma ≡ length m.sigmas = omega (arith, c.loop-sigma-test.false, c.loop-sigma.auto.sigma-end, c.sigma_count-sigma-end.ensures.value) in
    let sum : to_z w128 c.loop-sigma.sum-bits ≡ sum_below (length m.sigmas) f = c.loop-sigma.invariant.value ∙ ap (λ (n : ℕ). sum_below n f) end in
    simp to_z-of_z
    ((simp to_z-of_z at c.div.ensures)
    ∙ ap (λ z. g.R.Rounding.round z c.total_weight.result) sum
    ∙ ap (λ z. g.R.Rounding.round (sum_below (length m.sigmas) f) z) c.total_weight.ensures.value)

pub returns-clause-bounded : goal.returns-clause-bounded
returns-clause-bounded g c = λ most within.
    let m = c.args.model.now in
    subst (λ z. unsigned_abs z ≤ most) (sym (returns-clause-value g c))
    (mean_bounded g.R.Rounding.round g.met.R.Rounding.way m (layer_values c.args.side m.grid c.args.below.now) (vertex_at m.grid c.args.vertex) c.args.advisory most c.sigma_count-sigma-end.ensures.valid
    (λ y inside.
    let known = state_number-below m.grid c.args.advisory y c.requires.advisory inside in
    within.bounded (state_number m.grid c.args.advisory (vertex_number m.grid y)) (omega (arith, known, c.requires.below))))

pub corners_led_to-set-requires : goal.corners_led_to-set-requires
corners_led_to-set-requires g c = grind (arith, common_steps)

pub interpolated-value-requires : goal.interpolated-value-requires
interpolated-value-requires g c = grind (arith, common_steps)

pub sigma_weight-requires : goal.sigma_weight-requires
sigma_weight-requires g c = grind (arith, common_steps)

pub div-requires : goal.div-requires
div-requires g c = grind (arith, common_steps)
