-- The advices of a table, with at least one second to go.
use Rattle.std.specs.Prelude.{◌≡◌, ℕ, ◌+◌, ◌-◌, ◌*◌, ◌<◌, List, length, get_or}
use Rattle.acas_spec.specs.Model.{ModelData, states}
use Rattle.acas_base.specs.declared.advices.Advices.TheInside.{Inside}

-- the advices of the layers from 1 to the horizon, one layer after the other, each the number of one of so many
-- advisories
pub record AdvicesData : Type 0 where
  pub horizon : ℕ
  pub states : ℕ
  pub advisories : ℕ
  pub advice : List ℕ

-- the fields of `Advices`
abbrev pub advices_view : Inside → AdvicesData
advices_view a = record { horizon = a.horizon; states = a.states; advisories = a.advisories; advice = a.advice.items }

-- there is an advice for each layer and state, and each is the number of an advisory
pub record AreAdvices (a : AdvicesData) : Type 0 where
  pub count : length a.advice ≡ a.horizon * a.states
  pub known : (place : ℕ) → place < length a.advice → get_or a.advice place 0 < a.advisories

-- the place of a state with n seconds to go
abbrev pub advice_place : AdvicesData → ℕ → ℕ → ℕ
advice_place a n state = (n - 1) * a.states + state

-- the advice of a state with n seconds to go
abbrev pub advice_at : AdvicesData → ℕ → ℕ → ℕ
advice_at a n state = get_or a.advice (advice_place a n state) 0

-- the advices have the numbers of a model, and there is one for each layer and state
pub record AreAdvicesOf (m : ModelData) (a : AdvicesData) : Type 0 where
  pub horizon : a.horizon ≡ m.grid.horizon
  pub states : a.states ≡ states m.grid
  pub advisories : a.advisories ≡ m.grid.advisories
  pub count : length a.advice ≡ a.horizon * a.states
