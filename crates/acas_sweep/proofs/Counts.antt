-- How many backups a compiled table takes at most.
use Rattle.std.proofs.Common.{ℕ, suc, ◌+◌, ◌*◌, ◌<◌, ◌≤◌, List, [], ◌∷◌, length, get_or, sum_by, arith}
use Rattle.std.proofs.Math.Nat.{mul-le-mul}
use Rattle.std.proofs.lemmas.List.Sums.{sum_by-cons}
use Rattle.acas_spec.specs.Limits.{IsModel}
use Rattle.acas_spec.specs.Model.{ModelData, vertices}
use Rattle.acas_spec.specs.declared.parts.Choice.{Choice}
use Rattle.acas_means.proofs.ChoiceLists.{choices-few}
use Rattle.acas_means.specs.Choices.{choice_count}
use Rattle.acas_sweep.specs.Layers.{backup_count, layer_backups}

sum-few : (lists : List (List Choice)) (most : ℕ) → ((p : ℕ) → p < length lists → length (get_or lists p []) ≤ most) → sum_by (λ choices. length choices) lists ≤ length lists * most
sum-few [] most h = omega arith
sum-few (cs ∷ rest) most h = omega (arith, sum_by-cons (λ choices. length choices) cs rest, h 0 (omega arith), sum-few rest most (λ p l. h (suc p) (omega arith)))

-- a table takes at most 120 layers of 4,000,000 vertices with 256 choices
pub few_backups : (m : ModelData) → IsModel m → backup_count m ≤ 122_880_000_000
few_backups m valid =
    let choices : choice_count m ≤ 256 = omega (arith, sum-few m.choices 16 (λ p h. choices-few m p valid (omega (arith, valid.choice_count))), valid.choice_count, valid.grid.few_advisories) in
    let states : 2 * vertices m.grid ≤ m.grid.advisories * vertices m.grid = mul-le-mul valid.grid.some_advisories (omega arith) in
    let layers : 1 * (m.grid.advisories * vertices m.grid) ≤ (m.grid.horizon + 1) * (m.grid.advisories * vertices m.grid) = mul-le-mul (omega arith) (omega arith) in
    let vertices_few : vertices m.grid ≤ 4_000_000 = omega (arith, valid.grid.entries) in
    let layer : layer_backups m ≤ 4_000_000 * 256 = mul-le-mul vertices_few choices in
    let all : m.grid.horizon * layer_backups m ≤ 120 * (4_000_000 * 256) = mul-le-mul valid.grid.horizon layer in
    omega arith
