-- Layers that are equal at the vertices give equal values and advices above them.
use Rattle.std.proofs.Common.{◌≡◌, ℕ, suc, ◌<◌, ℤ, pos, ◌+ℤ◌, ◌*ℤ◌, length, ap}
use Rattle.acas_spec.specs.Limits.{IsModel}
use Rattle.acas_spec.specs.Model.{ModelData, choices_at, total_weight}
use Rattle.acas_grid.specs.Grid.{IsVertex}
use Rattle.acas_spec.specs.declared.place.Vertex.{Vertex}
use Rattle.acas_process.specs.Cost.{cost_of}
use Rattle.acas_process.specs.Step.{grid_product, moved, sigma_weight, share}
use Rattle.acas_spec.specs.Table.{Values}
use Rattle.acas_process.specs.Values.{choice_value, mean_value}
use Rattle.acas_process.specs.Compiled.{compiled_values, first_least, least}
use Rattle.acas_process.proofs.SumLaws.{sum_below-same}
use Rattle.acas_process.proofs.VertexLaws.{over_vertices-same}
use Rattle.acas_process.proofs.Least.{first_least-same, least-same}
use Rattle.acas_process.proofs.ModelLaws.{is_chosen}

pub mean_same : (round : ℤ → ℤ → ℤ) (m : ModelData) (f g : Values) (x : Vertex) (a : ℕ) → ((y : Vertex) → IsVertex m.grid y → f a y ≡ g a y) → mean_value round m f x a ≡ mean_value round m g x a
mean_same round m f g x a h =
    ap (λ z. round z (pos (total_weight m)))
    (sum_below-same (length m.sigmas) _ _ (λ q _. ap (λ z. pos (sigma_weight m q) *ℤ round z (pos (grid_product m.grid)))
    (over_vertices-same m.grid (λ y. pos (share m.grid (moved m x a q) y) *ℤ f a y) (λ y. pos (share m.grid (moved m x a q) y) *ℤ g a y) (λ y k. ap (λ z. pos (share m.grid (moved m x a q) y) *ℤ z) (h y k)))))

pub choice_same : (round : ℤ → ℤ → ℤ) (m : ModelData) (f g : Values) (p : ℕ) (x : Vertex) (a : ℕ) → ((y : Vertex) → IsVertex m.grid y → f a y ≡ g a y) → choice_value round m f p x a ≡ choice_value round m g p x a
choice_same round m f g p x a h = ap (λ z. z +ℤ pos 1_000_000 *ℤ cost_of m p a) (mean_same round m f g x a h)

-- a layer that is the compiled layer n at the states
abbrev pub IsLayer : (ℤ → ℤ → ℤ) → ModelData → ℕ → Values → Type 0
IsLayer round m n f = (p : ℕ) (y : Vertex) → p < m.grid.advisories → IsVertex m.grid y → f p y ≡ compiled_values round m n p y

-- what is computed over the compiled layer n is the compiled layer n + 1
pub next_layer : (round : ℤ → ℤ → ℤ) (m : ModelData) (n : ℕ) (f : Values) → IsModel m → IsLayer round m n f → (p : ℕ) (x : Vertex) → p < m.grid.advisories →
    least (choice_value round m f p x) (choices_at m p) ≡ compiled_values round m (suc n) p x
next_layer round m n f v is p x known =
    least-same (choice_value round m f p x) (choice_value round m (compiled_values round m n) p x) (choices_at m p)
    (λ a k. choice_same round m f (compiled_values round m n) p x a (λ y i. is a y ((is_chosen m p a v known k).inside) i))

pub next_advice : (round : ℤ → ℤ → ℤ) (m : ModelData) (n : ℕ) (f : Values) → IsModel m → IsLayer round m n f → (p : ℕ) (x : Vertex) → p < m.grid.advisories →
    first_least (choice_value round m f p x) (choices_at m p) ≡ first_least (choice_value round m (compiled_values round m n) p x) (choices_at m p)
next_advice round m n f v is p x known =
    first_least-same (choice_value round m f p x) (choice_value round m (compiled_values round m n) p x) (choices_at m p)
    (λ a k. choice_same round m f (compiled_values round m n) p x a (λ y i. is a y ((is_chosen m p a v known k).inside) i))
