-- The compiled table is sound, and its two values are close.
use Rattle.std.proofs.Common.{ℕ, zero, suc, ◌*◌, ◌<◌, pos, ◌+ℤ◌, ◌≤ℤ◌, arith}
use Rattle.std.proofs.lemmas.Int.{ints}
use Rattle.acas_spec.specs.Limits.{IsModel}
use Rattle.acas_spec.specs.Model.{ModelData, choices_at}
use Rattle.acas_spec.specs.declared.place.Vertex.{Vertex}
use Rattle.acas_frac.specs.Rounding.{down, up}
use Rattle.acas_process.specs.Values.{choice_value}
use Rattle.acas_policies.specs.Bounds.{IsSoundEntry, IsSound, IsTight}
use Rattle.acas_process.specs.Compiled.{first_least, compiled_values, compiled}
use Rattle.acas_process.proofs.ModelLaws.{is_chosen}
use Rattle.acas_process.proofs.Least.{first_least_is, least-le}
use Rattle.acas_process.proofs.MeanLaws.{mean-le-mean}

compiled_entry : (m : ModelData) → IsModel m → (n p : ℕ) (x : Vertex) → p < m.grid.advisories → IsSoundEntry m (compiled m) n p x
compiled_entry m v zero p x known = (omega (arith, ints), omega (arith, ints))
compiled_entry m v (suc n) p x known =
    let best = first_least_is (choice_value up m (compiled_values up m n) p x) (choices_at m p) ((v.choices p known).some) in
    (best.listed, omega (arith, ints, best.least), λ a h. least-le (choice_value down m (compiled_values down m n) p x) (choices_at m p) a h)

pub compiled_is_sound : (m : ModelData) → IsModel m → IsSound m (compiled m)
compiled_is_sound m v = record { entries = λ n p x at. compiled_entry m v n p x at.present }

compiled_gap : (m : ModelData) → IsModel m → (n p : ℕ) (x : Vertex) → p < m.grid.advisories → compiled_values up m n p x ≤ℤ (compiled_values down m n p x +ℤ pos (2 * n))
compiled_gap m v zero p x known = omega (arith, ints)
compiled_gap m v (suc n) p x known =
    let best = first_least_is (choice_value down m (compiled_values down m n) p x) (choices_at m p) ((v.choices p known).some) in
    let a : ℕ = first_least (choice_value down m (compiled_values down m n) p x) (choices_at m p) in
    let upper = least-le (choice_value up m (compiled_values up m n) p x) (choices_at m p) a best.listed in
    let means = mean-le-mean m (compiled_values up m n) (compiled_values down m n) x a (2 * n) v (λ y k. compiled_gap m v n a y ((is_chosen m p a v known best.listed).inside)) in
    omega (arith, ints, best.least)

pub compiled_is_tight : (m : ModelData) → IsModel m → IsTight m (compiled m)
compiled_is_tight m v = record { holds = λ n p x at. compiled_gap m v n p x at.present }
