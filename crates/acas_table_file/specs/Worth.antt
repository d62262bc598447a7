-- What it is worth that a table's file is accepted, or rejected.
use Rattle.std.specs.Prelude.{◌≡◌, ℕ, ◌≤◌, List, Some}
use Rattle.std.specs.FinMap.{get}
use Rattle.sha2.specs.Sha256.{sha256}
use Rattle.acas_spec.specs.Model.{ModelData}
use Rattle.acas_spec.specs.Table.{Table}
use Rattle.acas_spec.specs.declared.place.Vertex.{Vertex}
use Rattle.acas_grid.specs.Grid.{state_number, vertex_number}
use Rattle.acas_base.specs.Advices.{AdvicesData, advice_at}
use Rattle.acas_outside.specs.Files.{Files}
use Rattle.acas_process.specs.Cost.{IsEntry}
use Rattle.acas_accept.specs.Accepted.{IsAcceptedTable}
use Rattle.acas_command.specs.Says.{RejectsBeside, SaysModel}

-- with at least one second to go, these are the advices of a table
pub record AreTabled (m : ModelData) (t : Table) (advices : AdvicesData) : Type 0 where
  pub each : (n p : ℕ) (x : Vertex) → 1 ≤ n → IsEntry m n p x → advice_at advices n (state_number m.grid p (vertex_number m.grid x)) ≡ t.advice n p x

-- M says the model m, and T is the text of the table t of it, whose entries are all sound
pub record SaysTable (model table : List ℕ) (files : Files) (m : ModelData) (t : Table) : Type 0 where
  pub bytes : List ℕ
  pub given : List ℕ
  pub says : SaysModel files model bytes m
  pub file : get files table ≡ Some given
  pub accepted : IsAcceptedTable m (sha256 bytes) given t

-- M says the model m, T is the text of a table of it whose entries are all sound, and these are that table's advices
pub record TellsAdvices (model table : List ℕ) (files : Files) (m : ModelData) (advices : AdvicesData) : Type 0 where
  pub t : Table
  pub says : SaysTable model table files m t
  pub tabled : AreTabled m t advices

-- M says a model, and T is the text of no table of it whose entries are all sound
abbrev pub RejectsTable : List ℕ → List ℕ → Files → Type 0
RejectsTable model table files = RejectsBeside IsAcceptedTable model table files
