-- The fault of an entry with a second to go, and an advice that is at no place of a plane.
use Rattle.std.proofs.Common.{◌≡◌, ◌↔◌, ◌∙◌, ℕ, zero, suc, ◌<◌, ℤ, ◌≤ℤ◌, List, true, None, refl, sym, subst, arith}
use Rattle.acas_spec.specs.Limits.{IsModel}
use Rattle.acas_spec.specs.Model.{ModelData, choices_at}
use Rattle.acas_spec.specs.Table.{Table}
use Rattle.acas_spec.specs.declared.place.Vertex.{Vertex}
use Rattle.acas_units.specs.declared.pair.Entry.{Entry}
use Rattle.acas_units.specs.declared.pair.Pair.{Pair}
use Rattle.acas_grid.specs.Grid.{IsVertex}
use Rattle.acas_process.proofs.ModelLaws.{listed, place_of}
use Rattle.acas_spec.specs.declared.fault.BoundFault.TheVariants.{AdviceNotAllowed}
use Rattle.acas_process.specs.Compiled.{least}
use Rattle.acas_means.specs.Choices.{no_choice, value_by_mean}
use Rattle.acas_means.specs.Entries.{IsEntryOf}
use Rattle.acas_means.specs.Means.{AreMeansOf}
use Rattle.acas_bounds.specs.Checks.{OfBelow}
use Rattle.acas_bounds.specs.Means.{AreOfLayer, IsUpperMet, choice_fault, fault_by_means, formed_lower, formed_upper}
use Rattle.acas_bounds.specs.Planes.{IsAtPlace, IsPlane}
use Rattle.acas_bounds.specs.Sound.{bound_fault, is_allowed}
use Rattle.acas_bounds.specs.declared.plane.Plane.{Plane}
use Rattle.acas_bounds.proofs.Allowed.{is_allowed-is}
use Rattle.acas_bounds.proofs.Faults.{OfBelow-map, fault_by_means-is, means_by_means}
use Rattle.acas_bounds.proofs.Sound.{passes, values_pass, values_stand}

-- one that is allowed is at a place
pub not_allowed : (m : ModelData) (plane : Plane) (a : ℕ) → IsPlane m plane → ((place : ℕ) → ¬ (IsAtPlace plane a place)) → ¬ (is_allowed m plane.present a ≡ true)
not_allowed m plane a is nowhere listed =
    let at = place_of (choices_at m plane.present) a no_choice ((is_allowed-is m plane.present a).0 listed) in
    let within : at.place < plane.count = subst (λ (k : ℕ). at.place < k) (sym is.count) at.within in
    nowhere at.place (record { within = within; is = is.advisory at.place within ∙ at.is })

-- with a second to go, the fault of an entry by means is that of its choice
pub fault_by_means-is_choice : (m : ModelData) (upper lower : ℕ → ℤ) (n p : ℕ) (x : Vertex) (e : Entry) → 0 < n → fault_by_means m upper lower n p x e ≡ choice_fault m upper lower p e
fault_by_means-is_choice m upper lower zero p x e some = absurd (omega arith)
fault_by_means-is_choice m upper lower (suc n) p x e some = refl

-- it has none where the advice is allowed and both values are within their limits, and there only
pub no_choice_fault-is : (m : ModelData) (upper lower : ℕ → ℤ) (p : ℕ) (e : Entry) →
    (choice_fault m upper lower p e ≡ None) ↔ (IsUpperMet m upper p e × (e.pair.lower ≤ℤ least (value_by_mean m p lower) (choices_at m p)))
no_choice_fault-is m upper lower p e =
    let needed = value_by_mean m p upper e.advice in
    let allowed = least (value_by_mean m p lower) (choices_at m p) in (
      λ none.
          let parts = passes (is_allowed m p e.advice) _ AdviceNotAllowed none in
          let values = values_stand e.pair.upper needed e.pair.lower allowed parts.1 in
          (record { allowed = parts.0; enough = values.0 }, values.1),
      λ met. rw met.0.allowed (values_pass e.pair.upper needed e.pair.lower allowed met.0.enough met.1),
    )

-- the same of an entry of a table, by the means of its layer below
pub no_fault-is_met : (m : ModelData) (t : Table) (n p : ℕ) (x : Vertex) (e : Entry) (means : List Pair) → IsModel m → p < m.grid.advisories → IsVertex m.grid x →
    0 < n → IsEntryOf t n p x e → OfBelow (λ k. AreMeansOf m t k means) n →
    (bound_fault m t n p x ≡ None) ↔ (IsUpperMet m (formed_upper m means x) p e × (e.pair.lower ≤ℤ least (value_by_mean m p (formed_lower m means x)) (choices_at m p)))
no_fault-is_met m t n p x e means valid present inside some entry layer =
    let high = formed_upper m means x in
    let low = formed_lower m means x in
    let below = OfBelow-map (λ k. AreMeansOf m t k means) (λ k. AreOfLayer m t k x high low) n (λ k. means_by_means m t k x means inside) layer in
    let fault = sym (fault_by_means-is_choice m high low n p x e some) ∙ fault_by_means-is m t n p x e high low valid present entry below in
    let is = no_choice_fault-is m high low p e in
    (λ none. is.0 (fault ∙ none), λ met. sym fault ∙ is.1 met)
