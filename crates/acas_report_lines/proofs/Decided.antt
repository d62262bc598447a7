-- All decisions of an audit can be counted.
use Rattle.std.proofs.Common.{ℕ, ◌-◌, ◌*◌, ◌≤◌, length, arith, mul-le-mul_left, mul-le-mul_right}
use Rattle.acas_spec.specs.Model.{ModelData}
use Rattle.acas_spec.specs.Limits.{IsModel}
use Rattle.acas_cells.specs.Blocks.{all_cells, cells_in}
use Rattle.acas_cells.specs.DecisionCounts.{most_decisions}

product_few : (x y p q : ℕ) → x ≤ p → y ≤ q → x * y ≤ p * q
product_few x y p q h k = omega (arith, mul-le-mul_right y h, mul-le-mul_left p k)

-- at most 128 * 128 * 128
block_few : (m : ModelData) → IsModel m → cells_in (all_cells m) ≤ 2097152
block_few m is =
    let plane : ((length m.grid.h - 1) - 0) * ((length m.grid.v0 - 1) - 0) ≤ 16384 =
    product_few ((length m.grid.h - 1) - 0) ((length m.grid.v0 - 1) - 0) 128 128 (omega (arith, is.grid.altitudes.at_most)) (omega (arith, is.grid.own_rates.at_most))
    in
    product_few (((length m.grid.h - 1) - 0) * ((length m.grid.v0 - 1) - 0)) ((length m.grid.v1 - 1) - 0) 16384 128 plane (omega (arith, is.grid.intruder_rates.at_most))

-- at most 120 * 16 * 16 * 2 * 128 * 128 * 128
pub decisions_fit : (m : ModelData) → IsModel m → m.grid.horizon * (m.grid.advisories * most_decisions m) ≤ 128849018880
decisions_fit m is =
    let under : m.grid.advisories * (2 * cells_in (all_cells m)) ≤ 67108864 = product_few m.grid.advisories (2 * cells_in (all_cells m)) 16 4194304 is.grid.few_advisories (omega (arith, block_few m is)) in
    let layer : m.grid.advisories * most_decisions m ≤ 1073741824 = product_few m.grid.advisories (most_decisions m) 16 67108864 is.grid.few_advisories under in
    product_few m.grid.horizon (m.grid.advisories * most_decisions m) 120 1073741824 is.grid.horizon layer
