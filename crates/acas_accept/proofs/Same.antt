-- Tables with the same entries are sound together.
use Rattle.std.proofs.Common.{◌≡◌, ℕ, zero, suc, ◌<◌, ◌≤◌, ◌≤ℤ◌, sym, ◌∙◌, ap, subst, arith}
use Rattle.std.proofs.lemmas.Int.{ints}
use Rattle.acas_spec.specs.Limits.{IsModel}
use Rattle.acas_spec.specs.Model.{ModelData}
use Rattle.acas_grid.specs.Grid.{IsVertex}
use Rattle.acas_spec.specs.declared.place.Vertex.{Vertex}
use Rattle.acas_frac.specs.Rounding.{down, up}
use Rattle.acas_spec.specs.Table.{Table}
use Rattle.acas_policies.specs.Bounds.{IsSoundEntry, lower_value, upper_value}
use Rattle.acas_process.specs.Cost.{IsEntry, MayChoose}
use Rattle.acas_process.proofs.ModelLaws.{is_chosen}
use Rattle.acas_process.proofs.SameLaws.{choice_same}

-- two tables have the same values and advices
pub record AreSame (m : ModelData) (t u : Table) : Type 0 where
  pub upper : (n p : ℕ) (x : Vertex) → IsEntry m n p x → u.upper n p x ≡ t.upper n p x
  pub lower : (n p : ℕ) (x : Vertex) → IsEntry m n p x → u.lower n p x ≡ t.lower n p x
  pub advice : (n p : ℕ) (x : Vertex) → IsEntry m n p x → u.advice n p x ≡ t.advice n p x

-- the entry of a chosen advisory in the layer below
below : (m : ModelData) (n a : ℕ) (y : Vertex) → suc n ≤ m.grid.horizon → a < m.grid.advisories → IsVertex m.grid y → IsEntry m n a y
below m n a y seconds known is = record { seconds = omega arith; present = known; vertex = is }

upper_same : (m : ModelData) (t u : Table) (n p : ℕ) (x : Vertex) (a : ℕ) → AreSame m t u → suc n ≤ m.grid.horizon → a < m.grid.advisories → upper_value m (u.upper n) p x a ≡ upper_value m (t.upper n) p x a
upper_same m t u n p x a same seconds known = choice_same up m (u.upper n) (t.upper n) p x a (λ y is. same.upper n a y (below m n a y seconds known is))

lower_same : (m : ModelData) (t u : Table) (n p : ℕ) (x : Vertex) (a : ℕ) → AreSame m t u → suc n ≤ m.grid.horizon → a < m.grid.advisories → lower_value m (u.lower n) p x a ≡ lower_value m (t.lower n) p x a
lower_same m t u n p x a same seconds known = choice_same down m (u.lower n) (t.lower n) p x a (λ y is. same.lower n a y (below m n a y seconds known is))

pub sound_same : (m : ModelData) (t u : Table) (n p : ℕ) (x : Vertex) → IsModel m → AreSame m t u → IsEntry m n p x → IsSoundEntry m t n p x → IsSoundEntry m u n p x
sound_same m t u zero p x v same at sound = (omega (arith, ints, same.lower 0 p x at, sound.0), omega (arith, ints, same.upper 0 p x at, sound.1))
sound_same m t u (suc n) p x v same at sound =
    let a : ℕ = t.advice (suc n) p x in
    let advised : u.advice (suc n) p x ≡ t.advice (suc n) p x = same.advice (suc n) p x at in
    let value : upper_value m (u.upper n) p x (u.advice (suc n) p x) ≡ upper_value m (t.upper n) p x (t.advice (suc n) p x) =
    ap (λ (b : ℕ). upper_value m (u.upper n) p x b) advised ∙ upper_same m t u n p x a same at.seconds ((is_chosen m p a v at.present sound.0).inside) in (
      subst (λ (b : ℕ). MayChoose m p b) (sym advised) sound.0,
      subst (λ z. z ≤ℤ u.upper (suc n) p x) (sym value) (subst (λ z. upper_value m (t.upper n) p x a ≤ℤ z) (sym (same.upper (suc n) p x at)) sound.1),
      λ b chosen.
          subst (λ z. z ≤ℤ lower_value m (u.lower n) p x b) (sym (same.lower (suc n) p x at))
          (subst (λ z. t.lower (suc n) p x ≤ℤ z) (sym (lower_same m t u n p x b same at.seconds ((is_chosen m p b v at.present chosen).inside))) (sound.2 b chosen)),
    )
