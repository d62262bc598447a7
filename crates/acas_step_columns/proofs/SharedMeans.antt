-- Advisories under which the layer below is the same, and which change the own rate by as much, have the same means.
use Rattle.std.proofs.Common.{◌≡◌, ℕ, ◌<◌, ℤ, pos, ◌+ℤ◌, ◌*ℤ◌, List, get_or, ap, sym, subst, ◌∙◌}
use Rattle.acas_spec.specs.Model.{GridData, ModelData, sigma_at, total_weight}
use Rattle.acas_spec.specs.Table.{Values}
use Rattle.acas_spec.specs.declared.place.Vertex.{Vertex}
use Rattle.acas_frac.specs.Rounding.{down, up}
use Rattle.acas_grid.specs.Grid.{IsVertex, clamp_point, vertex_number}
use Rattle.acas_grid.proofs.Vertices.{vertices-one_to_one}
use Rattle.acas_units.specs.declared.pair.Pair.{Pair}
use Rattle.acas_process.specs.Values.{interpolated, mean_value}
use Rattle.acas_process.specs.Step.{after_second, over_sigmas, sigma_weight, vertex_point}
use Rattle.acas_process.proofs.SameLaws.{mean_same}
use Rattle.acas_means.specs.Layer.{layer_values, value_of}
use Rattle.acas_means.specs.Means.{AreMeansAt}
use Rattle.acas_means.specs.Reach.{AreAlike, AreChanges, AreLikes, change_from, own_rate}
use Rattle.acas_means.specs.declared.layer.Side.{Side}
use Rattle.acas_means.specs.declared.layer.Side.TheVariants.{Lower, Upper}

-- an advisory enters a mean by its change of the own rate and by the values under it
pub mean_shared : (round : ℤ → ℤ → ℤ) (m : ModelData) (below : Values) (x : Vertex) (a b : ℕ) → change_from m (own_rate m.grid x) a ≡ change_from m (own_rate m.grid x) b → ((y : Vertex) → IsVertex m.grid y → below a y ≡ below b y)
    → mean_value round m below x a ≡ mean_value round m below x b
mean_shared round m below x a b same alike =
    let by_change : ℤ → ℤ = λ own. round (over_sigmas m (λ q. pos (sigma_weight m q) *ℤ interpolated round m below a (clamp_point m.grid (after_second (vertex_point m.grid x) (own +ℤ (sigma_at m q).own) (sigma_at m q).intruder)))) (pos (total_weight m)) in
    ap by_change same ∙ mean_same round m (λ (_ : ℕ) (y : Vertex). below a y) below x b alike

-- two advisories that are each like one advisory are alike
pub alike_both : (g : GridData) (below : List Pair) (a b like like' : ℕ) → AreAlike g below a like → AreAlike g below b like' → like ≡ like' → AreAlike g below a b
alike_both g below a b like like' first second same = record {
  each = λ v inside. first.each v inside ∙ sym ((subst (λ (l : ℕ). AreAlike g below b l) (sym same) second).each v inside);
}

values_alike : (g : GridData) (side : Side) (below : List Pair) (a b : ℕ) → AreAlike g below a b → (y : Vertex) → IsVertex g y → layer_values side g below a y ≡ layer_values side g below b y
values_alike g side below a b alike y inside = ap (λ (p : Pair). value_of side p) (alike.each (vertex_number g y) ((vertices-one_to_one g).below y inside))

-- the means under the advisory b are those under the advisory a
pub means_shared : (m : ModelData) (below : List Pair) (likes : List ℕ) (x : Vertex) (changes : List ℤ) (a b : ℕ) (pair : Pair) → AreLikes m.grid below likes → AreChanges m (own_rate m.grid x) changes
    → a < m.grid.advisories → b < m.grid.advisories → get_or likes b 0 ≡ get_or likes a 0 → get_or changes b (pos 0) ≡ get_or changes a (pos 0) → AreMeansAt m below x b pair → AreMeansAt m below x a pair
means_shared m below likes x changes a b pair alike are known earlier like change formed =
    let same : change_from m (own_rate m.grid x) b ≡ change_from m (own_rate m.grid x) a = sym (are.each b earlier) ∙ change ∙ are.each a known in
    let both : AreAlike m.grid below b a = alike_both m.grid below b a (get_or likes b 0) (get_or likes a 0) (alike.each b earlier) (alike.each a known) like in
    record {
      upper = formed.upper ∙ mean_shared up m (layer_values Upper m.grid below) x b a same (values_alike m.grid Upper below b a both);
      lower = formed.lower ∙ mean_shared down m (layer_values Lower m.grid below) x b a same (values_alike m.grid Lower below b a both);
    }
