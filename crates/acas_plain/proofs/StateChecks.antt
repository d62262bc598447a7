-- What a check at a vertex says of a state.
use Rattle.std.proofs.Common.{◌≡◌, ◌∙◌, ℕ, ◌%◌, zero, suc, ◌<◌, Result, List, subst, arith}
use Rattle.std.specs.Prelude.{OnOk}
use Rattle.acas_spec.specs.Model.{ModelData, vertices}
use Rattle.acas_spec.specs.Table.{Table}
use Rattle.acas_spec.specs.declared.fault.BoundFault.{BoundFault}
use Rattle.acas_spec.specs.declared.place.Vertex.{Vertex}
use Rattle.acas_grid.specs.States.{state_present, vertex_at}
use Rattle.acas_units.specs.declared.pair.Entry.{Entry}
use Rattle.acas_units.specs.declared.pair.Pair.{Pair}
use Rattle.acas_process.specs.Cost.{MayChoose}
use Rattle.acas_means.specs.Entries.{IsEntryOf}
use Rattle.acas_means.specs.Layer.{AreValuesOf, value_at}
use Rattle.acas_means.specs.Means.{AreVertexMeans}
use Rattle.acas_means.specs.declared.layer.Side.TheVariants.{Lower, Upper}
use Rattle.acas_means.proofs.TableMeans.{lower_mean-is, upper_mean-is}
use Rattle.acas_bounds.specs.Checks.{AnswersFault, OfBelow}
use Rattle.acas_bounds.specs.Means.{AreOfLayer}
use Rattle.acas_bounds.specs.Sound.{bound_fault}

-- the means of a table's values at a vertex are those of its layer
of_values : (m : ModelData) (t : Table) (k : ℕ) (x : Vertex) (values means : List Pair) → AreVertexMeans m values x means → AreValuesOf m t k values →
    AreOfLayer m t k x (value_at Upper means) (value_at Lower means)
of_values m t k x values means formed are = record {
  upper = λ a known. (formed.each a known).upper ∙ upper_mean-is m t k values x a known are;
  lower = λ a known. (formed.each a known).lower ∙ lower_mean-is m t k values x a known are;
}

-- the same of the layer below, where there is one
pub below_of_values : (m : ModelData) (t : Table) (n : ℕ) (x : Vertex) (values means : List Pair) → (0 < n → AreVertexMeans m values x means) → OfBelow (λ k. AreValuesOf m t k values) n →
    OfBelow (λ k. AreOfLayer m t k x (value_at Upper means) (value_at Lower means)) n
below_of_values m t zero x values means formed are = tt
below_of_values m t (suc k) x values means formed are = of_values m t k x values means (formed (omega arith)) are

-- what a check says of an entry, whatever table it is of, where p is present at the vertex of a number: P is what is known of the layer below
abbrev pub Reports : ModelData → ℕ → Entry → (Table → ℕ → Type 0) → Result (Unit {0}) BoundFault → ℕ → ℕ → Type 0
Reports m n e P r p v = (t : Table) → IsEntryOf t n p (vertex_at m.grid v) e → OfBelow (P t) n → AnswersFault r (bound_fault m t n p (vertex_at m.grid v))

-- so it is said of the state that has these parts
pub reports_state : (m : ModelData) (n : ℕ) (e : Entry) (P : Table → ℕ → Type 0) (r : Result (Unit {0}) BoundFault) (s p v : ℕ) → p ≡ state_present m.grid s → v ≡ s % vertices m.grid →
    Reports m n e P r p v → Reports m n e P r (state_present m.grid s) (s % vertices m.grid)
reports_state m n e P r s p v present vertex said =
    subst (λ (w : ℕ). Reports m n e P r (state_present m.grid s) w) vertex (subst (λ (q : ℕ). Reports m n e P r q v) present said)

pub allows_state : (m : ModelData) (n a : ℕ) (r : Result (Unit {0}) BoundFault) (s p : ℕ) → p ≡ state_present m.grid s →
    OnOk r (0 < n → MayChoose m p a) → OnOk r (0 < n → MayChoose m (state_present m.grid s) a)
allows_state m n a r s p present said = subst (λ (q : ℕ). OnOk r (0 < n → MayChoose m q a)) present said
