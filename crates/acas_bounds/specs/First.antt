-- What is so of an entry whose first fault is known.
use Rattle.std.specs.Prelude.{◌≡◌, ℕ, zero, suc, ℤ, ◌≤ℤ◌, ◌<ℤ◌, ⊤}
use Rattle.acas_spec.specs.Model.{ModelData}
use Rattle.acas_spec.specs.Table.{Table}
use Rattle.acas_spec.specs.declared.place.Vertex.{Vertex}
use Rattle.acas_process.specs.Cost.{MayChoose}
use Rattle.acas_bounds.specs.Sound.{allowed_lower, needed_upper}
use Rattle.acas_spec.specs.declared.fault.BoundFault.{BoundFault}
use Rattle.acas_spec.specs.declared.fault.BoundFault.TheVariants.{AdviceNotAllowed, UpperTooLow, LowerTooHigh}

-- with a second to go the advice may be chosen
abbrev pub AdvicePasses : ModelData → Table → ℕ → ℕ → Vertex → Type 0
AdvicePasses m t zero p x = ⊤
AdvicePasses m t (suc n) p x = MayChoose m p (t.advice (suc n) p x)

-- the upper value is at least what is needed
abbrev pub UpperPasses : ModelData → Table → ℕ → ℕ → Vertex → Type 0
UpperPasses m t n p x = needed_upper m t n p x ≤ℤ t.upper n p x

-- the advice passes, and the upper value is below what is needed
pub record IsUpperTooLow (m : ModelData) (t : Table) (n p : ℕ) (x : Vertex) (stands needed : ℤ) : Type 0 where
  pub advice : AdvicePasses m t n p x
  pub stands_is : stands ≡ t.upper n p x
  pub needed_is : needed ≡ needed_upper m t n p x
  pub below : stands <ℤ needed

-- the advice and the upper value pass, and the lower value is above what is allowed
pub record IsLowerTooHigh (m : ModelData) (t : Table) (n p : ℕ) (x : Vertex) (stands allowed : ℤ)
    : Type 0 where
  pub advice : AdvicePasses m t n p x
  pub upper : UpperPasses m t n p x
  pub stands_is : stands ≡ t.lower n p x
  pub allowed_is : allowed ≡ allowed_lower m t n p x
  pub above : allowed <ℤ stands

-- a fault is the first part that fails
abbrev pub IsFirstFault : ModelData → Table → ℕ → ℕ → Vertex → BoundFault → Type 0
IsFirstFault m t n p x AdviceNotAllowed = ¬ (AdvicePasses m t n p x)
IsFirstFault m t n p x (UpperTooLow stands needed) = IsUpperTooLow m t n p x stands needed
IsFirstFault m t n p x (LowerTooHigh stands allowed) = IsLowerTooHigh m t n p x stands allowed
