-- The choices under a present advisory with their costs in millionths, as they are made once for the entries of a column under it.
use Rattle.std.specs.Prelude.{◌≡◌, ℕ, pos, ◌<◌, ◌≤◌, ◌^◌, unsigned_abs, List, length, get_or}
use Rattle.acas_spec.specs.Model.{ModelData, choices_at}
use Rattle.acas_process.specs.Values.{millionths}
use Rattle.acas_process.specs.Cost.{cost_of}
use Rattle.acas_means.specs.Choices.{listed_choice}
use Rattle.acas_units.specs.declared.pair.Pair.{Pair}
use Rattle.acas_sweep.specs.Best.{ColumnLeavesRoom, LeaveRoom}
use Rattle.acas_sweep.specs.declared.priced.PricedChoice.{PricedChoice}
use Rattle.acas_sweep.specs.declared.priced.PricedList.{PricedList}

-- the choice that an array holds where the list ends
abbrev pub no_priced : PricedChoice
no_priced = record { advisory = 0; cost = pos 0 }

-- the choice at a place of a list
abbrev pub priced_at : PricedList → ℕ → PricedChoice
priced_at list place = get_or list.choices place no_priced

-- where p is present, a choice has the number of an advisory that has means, and its cost in millionths, which is narrow
pub record IsPriced (m : ModelData) (p : ℕ) (c : PricedChoice) : Type 0 where
  pub inside : c.advisory < m.grid.advisories
  pub few : c.advisory < 16
  pub cost : c.cost ≡ millionths (cost_of m p c.advisory)
  pub narrow : unsigned_abs c.cost < 2 ^ 62

-- a list has each choice of the present advisory p, in their order, and there is one
pub record IsPricedList (m : ModelData) (p : ℕ) (list : PricedList) : Type 0 where
  pub known : p < 16
  pub count : list.count ≡ length (choices_at m p)
  pub some : 0 < list.count
  pub few : list.count ≤ 16
  pub advisory : (k : ℕ) → k < list.count → (priced_at list k).advisory ≡ (listed_choice m p k).advisory
  pub choice : (k : ℕ) → k < list.count → IsPriced m p (priced_at list k)

-- a list has the choices of the present advisory p, and beside the means at a vertex there is room for their costs
pub record IsPricedAt (m : ModelData) (p : ℕ) (l : PricedList) (vertex_means : List Pair) : Type 0 where
  pub list : IsPricedList m p l
  pub means : LeaveRoom m vertex_means

-- so it has, and there is room beside the means at each place of a column
pub record IsPricedIn (m : ModelData) (p : ℕ) (l : PricedList) (column_means : List (List Pair)) : Type 0 where
  pub list : IsPricedList m p l
  pub means : ColumnLeavesRoom m column_means
