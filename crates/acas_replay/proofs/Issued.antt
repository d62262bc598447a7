-- At each state one advice is issued.
use Rattle.std.proofs.Common.{◌≡◌, ℕ, ◌<◌, ◌≤◌, ◌⊎◌, inl, inr, ⊎_elim, refl, sym, ◌∙◌, ap₂, arith, pos, neg_ℤ, ◌≤ℤ◌, ◌<ℤ◌}
use Rattle.std.proofs.lemmas.Bool.{cases_lt}
use Rattle.std.proofs.lemmas.Int.{ints}
use Rattle.acas_spec.specs.Limits.{IsModel}
use Rattle.acas_spec.specs.Model.{ModelData}
use Rattle.acas_grid.specs.Grid.{clamp_point, state_number, vertex_number}
use Rattle.acas_base.specs.Advices.{AdvicesData, advice_at}
use Rattle.acas_process.proofs.VertexLaws.{clamped_inside}
use Rattle.acas_frac.proofs.Orders.{cases_lt_ℤ}
use Rattle.acas_replay.specs.Issue.{IsAdvisedIn, IsIssued, IsLayerOf, IsNotAdvised, IsTabledFor}
use Rattle.acas_replay.specs.declared.state.EncounterState.{EncounterState}
use Rattle.acas_replay.proofs.Layers.{layers_same, some_layer}
use Rattle.acas_replay.proofs.Nearest.{nearest_same, some_nearest}

-- a state that a layer advises is not one that none does
not_both : (m : ModelData) (s : EncounterState) (layer : ℕ) → IsAdvisedIn m s layer → IsNotAdvised m s → ⊥
not_both m s layer is none =
    ⊎_elim
    (λ (l : s.range <ℤ neg_ℤ (pos m.radius)). let h = is.not_left in absurd (omega (arith, ints)))
    (λ (far : (other : ℕ) × IsLayerOf m s other × (m.grid.horizon < other)).
    let same = layers_same m s far.0 layer far.1 is.is_layer in let h = is.tabled in let k = far.2 in absurd (omega arith))
    none

tabled_same : (m : ModelData) (a : AdvicesData) (s : EncounterState) (x y : ℕ) → IsTabledFor m a s x → IsTabledFor m a s y → x ≡ y
tabled_same m a s x y h k =
    h.tabled
    ∙ ap₂ (λ (layer : ℕ) (vertex : ℕ). advice_at a layer (state_number m.grid s.present vertex)) (layers_same m s h.layer k.layer h.advised.is_layer k.advised.is_layer)
    (nearest_same m.grid (clamp_point m.grid s.point) h.vertex k.vertex h.nearest k.nearest)
    ∙ sym k.tabled

-- one alone
pub issued_same : (m : ModelData) (a : AdvicesData) (s : EncounterState) (x y : ℕ) → IsIssued m a s x → IsIssued m a s y → x ≡ y
issued_same m a s x y (inl h) (inl k) = h.1 ∙ sym k.1
issued_same m a s x y (inl h) (inr k) = absurd (not_both m s k.layer k.advised h.0)
issued_same m a s x y (inr h) (inl k) = absurd (not_both m s h.layer h.advised k.0)
issued_same m a s x y (inr h) (inr k) = tabled_same m a s x y h k

-- and one
advised_or_not : (m : ModelData) (s : EncounterState) → pos 0 <ℤ s.closing → IsNotAdvised m s ⊎ ((layer : ℕ) × IsAdvisedIn m s layer)
advised_or_not m s some =
    ⊎_elim
    (λ (l : s.range <ℤ neg_ℤ (pos m.radius)). inl (inl l))
    (λ (l : neg_ℤ (pos m.radius) ≤ℤ s.range).
    let layer = some_layer m s some in
    ⊎_elim
    (λ (h : m.grid.horizon < layer.0). inl (inr (layer.0, layer.1, h)))
    (λ (h : layer.0 ≤ m.grid.horizon). inr (layer.0, record { not_left = l; is_layer = layer.1; tabled = h }))
    (cases_lt m.grid.horizon layer.0))
    (cases_lt_ℤ s.range (neg_ℤ (pos m.radius)))

pub some_issued : (m : ModelData) (a : AdvicesData) (s : EncounterState) → IsModel m → pos 0 <ℤ s.closing → (advice : ℕ) × IsIssued m a s advice
some_issued m a s is some =
    ⊎_elim
    (λ (none : IsNotAdvised m s). (0, inl (none, refl)))
    (λ (h : (layer : ℕ) × IsAdvisedIn m s layer).
    let n = some_nearest m.grid (clamp_point m.grid s.point) is.grid (clamped_inside m.grid s.point is.grid) in
    (advice_at a h.0 (state_number m.grid s.present (vertex_number m.grid n.vertex)), inr (record { layer = h.0; advised = h.1; vertex = n.vertex; nearest = n.is_nearest; tabled = refl })))
    (advised_or_not m s some)
