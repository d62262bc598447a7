-- What is made once for all entries under one present advisory.
use Rattle.std.proofs.Common.{◌≡◌, ◌∙◌, ℕ, ◌+◌, ◌*◌, ◌<◌, ◌≤◌, List, length, take, drop, ap, sym, subst, arith}
use Rattle.std.proofs.lemmas.List.{get_or-drop, get_or-take}
use Rattle.std.proofs.lemmas.Nat.{mul-le}
use Rattle.acas_spec.specs.Model.{GridData, states, vertices}
use Rattle.acas_grid.specs.Grid.{state_number, vertex_number}
use Rattle.acas_grid.specs.States.{vertex_at}
use Rattle.acas_grid.proofs.StateNumbers.{vertex_number-vertex_at}
use Rattle.acas_grid.proofs.Vertices.{row_below}
use Rattle.acas_units.specs.declared.pair.Pair.{Pair}
use Rattle.acas_means.specs.Layer.{layer_values, no_pair, pair_at, value_at}
use Rattle.acas_means.specs.declared.layer.Side.TheVariants.{Lower}

-- the number of a state from that of the first under its advisory
pub from_first : (g : GridData) (a v first : ℕ) → first ≡ state_number g a 0 → first + v ≡ state_number g a (vertex_number g (vertex_at g v))
from_first g a v first is = let same : first + v ≡ state_number g a v = omega (arith, is) in same ∙ ap (state_number g a) (sym (vertex_number-vertex_at g v))

pub from_first-below : (g : GridData) (a v first : ℕ) → a < g.advisories → v < vertices g → first ≡ state_number g a 0 → first + v < states g
from_first-below g a v first known inside is = let same : first + v ≡ state_number g a v = omega (arith, is) in subst (λ (s : ℕ). s < states g) (sym same) (row_below g.advisories (vertices g) a v known inside)

-- the numbers of the states under an advisory are those of a list of all states
pub plane_within : (g : GridData) (a first : ℕ) (means : List Pair) → a < g.advisories → first ≡ state_number g a 0 → length means ≡ states g → first + vertices g ≤ length means
plane_within g a first means known is count = let rows : (a + 1) * vertices g ≤ g.advisories * vertices g = mul-le (a + 1) (vertices g) g.advisories (vertices g) (omega (arith, known)) (omega arith) in omega (arith, is, count, rows)

-- the lower means under an advisory, by the number of the vertex
pub plane_values : (g : GridData) (a first v count : ℕ) (means : List Pair) → first ≡ state_number g a 0 → v < count → value_at Lower (take count (drop first means)) v ≡ layer_values Lower g means a (vertex_at g v)
plane_values g a first v count means is inside =
    ap (λ (p : Pair). p.lower) (get_or-take count (drop first means) v no_pair inside ∙ get_or-drop first means v no_pair ∙ ap (pair_at means) (from_first g a v first is))
