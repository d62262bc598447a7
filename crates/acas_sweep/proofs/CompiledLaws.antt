-- What the compiled table advises.
use Rattle.std.proofs.Common.{ℕ, suc, ◌<◌}
use Rattle.acas_spec.specs.Limits.{IsModel}
use Rattle.acas_spec.specs.Model.{ModelData, choices_at}
use Rattle.acas_spec.specs.declared.place.Vertex.{Vertex}
use Rattle.acas_frac.specs.Rounding.{up}
use Rattle.acas_process.specs.Values.{choice_value}
use Rattle.acas_process.specs.Compiled.{compiled_values, compiled_advice}
use Rattle.acas_process.proofs.ModelLaws.{is_chosen}
use Rattle.acas_process.proofs.Least.{first_least_is}

-- the compiled advice is an advisory of the model
pub compiled_advice_within : (m : ModelData) → IsModel m → (n p : ℕ) (x : Vertex) → p < m.grid.advisories → compiled_advice m (suc n) p x < m.grid.advisories
compiled_advice_within m v n p x known =
    (is_chosen m p (compiled_advice m (suc n) p x) v known (first_least_is (choice_value up m (compiled_values up m n) p x) (choices_at m p) (v.choices p known).some).listed).inside
