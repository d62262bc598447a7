-- What the check of an entry answers.
use Rattle.std.specs.Prelude.{◌≡◌, ℕ, zero, suc, Option, Some, None, Result, MatchResult, ⊤}
use Rattle.acas_spec.specs.Model.{ModelData}
use Rattle.acas_spec.specs.Table.{Table}
use Rattle.acas_grid.specs.States.{state_present, state_vertex}
use Rattle.acas_bounds.specs.Sound.{bound_fault}
use Rattle.acas_spec.specs.declared.fault.BoundFault.{BoundFault}

-- what holds of the layer below one with n seconds to go, where there is one
abbrev pub OfBelow : (ℕ → Type 0) → ℕ → Type 0
OfBelow P zero = ⊤
OfBelow P (suc k) = P k

-- the fault of a table's entry at the state of a number
abbrev pub state_fault : ModelData → Table → ℕ → ℕ → Option BoundFault
state_fault m t n s = bound_fault m t n (state_present m.grid s) (state_vertex m.grid s)

-- Ok is answered where there is no fault, and otherwise the fault
abbrev pub AnswersFault : Result (Unit {0}) BoundFault → Option BoundFault → Type 0
AnswersFault answer fault = MatchResult answer (λ _. fault ≡ None) (λ found. fault ≡ Some found)
