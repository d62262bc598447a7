-- What the check of an entry for the state of a number says.
use Rattle.std.specs.Prelude.{ℕ, ◌<◌}
use Rattle.acas_spec.specs.Model.{ModelData}
use Rattle.acas_grid.specs.States.{state_present}
use Rattle.acas_process.specs.Cost.{MayChoose}

-- with a second to go, an advice may be chosen at the state of a number
abbrev pub MayAdvise : ModelData → ℕ → ℕ → ℕ → Type 0
MayAdvise m n s advice = 0 < n → MayChoose m (state_present m.grid s) advice
