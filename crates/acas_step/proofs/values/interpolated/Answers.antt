use Rattle.std.proofs.Common.{◌≡◌, ◌+◌, ◌-◌, ◌*◌, ◌^◌, ℕ, ℤ, pos, neg_ℤ, ◌*ℤ◌, ◌≤ℤ◌, w64, ap, sym, subst, ◌∙◌, arith, rules}
use Rattle.std.proofs.lemmas.Int.{ints, to_z-of_z}
use Rattle.std.proofs.lemmas.Grind.{common_steps}
use Rattle.acas_spec.specs.Model.{GridData, vertices}
use Rattle.acas_grid.specs.Grid.{vertex_number}
use Rattle.acas_process.specs.Step.{grid_product, over_vertices, share}
use Rattle.acas_process.proofs.MeanLaws.{grid_product_pos}
use Rattle.acas_step.specs.Corners.{corner_sum}
use Rattle.acas_means.specs.Layer.{value_at}
use Rattle.acas_step.proofs.Quotients.{quotient_fits, quotient_is}
use Rattle.acas_step.proofs.values.interpolated.Goals as goal
use mir.Syntax.{w128}
use mir.Val.{SFits}

pub div-requires : goal.div-requires
div-requires g c = grind (arith, common_steps)

pub overflow_cast-result : goal.overflow_cast-result
overflow_cast-result g c =
    let weights = c.requires.weights in
    let s : SFits w128 c.weighted_sum-sum.result = search rules in
    let t : SFits w128 c.args.set.now.total = omega (arith, ints, weights.light, weights.positive) in
    let r : SFits w128 c.div.result = search rules in
    let quotient = simp to_z-of_z at c.div.ensures in
    let high : c.weighted_sum-sum.result ≤ℤ (pos (2 ^ 63 - 1) *ℤ c.args.set.now.total) = subst (λ z. c.weighted_sum-sum.result ≤ℤ (pos (2 ^ 63 - 1) *ℤ z)) weights.sum c.weighted_sum-sum.ensures.high in
    let low : (neg_ℤ (pos (2 ^ 63)) *ℤ c.args.set.now.total) ≤ℤ c.weighted_sum-sum.result = subst (λ z. (neg_ℤ (pos (2 ^ 63)) *ℤ z) ≤ℤ c.weighted_sum-sum.result) weights.sum c.weighted_sum-sum.ensures.low in
    simp to_z-of_z
    (subst (λ z. SFits w64 z) (sym quotient) (quotient_fits g.R.Rounding.round g.met.R.Rounding.way c.args.set.now.total c.weighted_sum-sum.result (omega (arith, ints, weights.positive)) high low))

pub returns : goal.returns
returns g c = λ at interpolation.
    let weights = c.requires.weights in
    let s : SFits w128 c.weighted_sum-sum.result = search rules in
    let t : SFits w128 c.args.set.now.total = omega (arith, ints, weights.light, weights.positive) in
    let r : SFits w128 c.div.result = search rules in
    let fits = simp to_z-of_z at (overflow_cast-result g c) in
    let quotient = simp to_z-of_z at c.div.ensures in
    let grid : GridData = c.args.model.now.grid in
    let first : c.first_state-first.result ≡ c.args.advisory * vertices grid = c.first_state-first.ensures.value ∙ ap (λ (d : GridData). c.args.advisory * vertices d) c.grid.ensures.value in
    let value : ℕ → ℤ = λ n. value_at c.args.side c.args.below.now (c.args.advisory * vertices grid + n) in
    let sum : c.weighted_sum-sum.result ≡ corner_sum c.args.set.now.corners value =
    c.weighted_sum-sum.ensures.value ∙ ap (λ (k : ℕ). corner_sum c.args.set.now.corners (λ n. value_at c.args.side c.args.below.now (k + n))) first in
    simp to_z-of_z
    (quotient ∙ ap (λ z. g.R.Rounding.round z c.args.set.now.total) sum
    ∙ quotient_is g.R.Rounding.round g.met.R.Rounding.way (grid_product grid) c.args.set.now.total (corner_sum c.args.set.now.corners value)
    (over_vertices grid (λ y. pos (share grid at y) *ℤ value (vertex_number grid y)))
    (grid_product_pos grid c.grid.ensures.valid.grid) (omega (arith, ints, weights.positive)) (interpolation.sums value))

pub first_state-first-requires : goal.first_state-first-requires
first_state-first-requires g c = grind (arith, common_steps)

pub weighted_sum-sum-requires : goal.weighted_sum-sum-requires
weighted_sum-sum-requires g c = grind (arith, common_steps)
