-- What reading and checking a whole table answers.
use Rattle.std.specs.Prelude.{◌≡◌, ℕ, ◌+◌, ◌<◌, ◌≤◌, List, Option, Some, None, Result, Ok, Err, OnOk, ⊤}
use Rattle.acas_spec.specs.Model.{ModelData, states}
use Rattle.acas_base.specs.Advices.{AdvicesData, advice_at}
use Rattle.acas_base.specs.Layers.{LayersData, advice_of, pairs_of}
use Rattle.acas_outside.specs.Bytes.{IsBytes}
use Rattle.acas_outside.specs.Counts.{raised}
use Rattle.acas_outside.specs.declared.folder.Folder.{Ghosts as FolderMeanings}
use Rattle.acas_process.specs.Cost.{MayChoose}
use Rattle.acas_grid.specs.States.{state_present}
use Rattle.acas_table.specs.Reader.{TakesAtMost, Told}
use Rattle.acas_table_text.specs.Format.{expected_length, length_of}
use Rattle.acas_table_text.specs.Shape.{shape_of}
use Rattle.acas_table_text.specs.Tables.{layer_at}
use Rattle.acas_table_text.specs.Text.{entry_at, layer_of}
use Rattle.acas_table_text.specs.declared.format.Format.{Format}
use Rattle.acas_table_text.specs.declared.shape.TableShape.{TableShape}
use Rattle.acas_accept.specs.GivenTable.{entry_place}
use Rattle.acas_accept.specs.Keeping.{StandFor}
use Rattle.acas_accept.specs.Refusals.{first_refusal}
use Rattle.acas_accept.specs.declared.refusal.AcceptFault.{AcceptFault}
use Rattle.acas_accept.specs.declared.refusal.AcceptFault.TheVariants.{Refused, Absent, Failed, Memory}

-- with at least one second to go, the advices are those of the bytes
pub record HasAdvices (m : ModelData) (bytes : List ℕ) (advices : AdvicesData) : Type 0 where
  pub each : (n state : ℕ) → 1 ≤ n → n ≤ m.grid.horizon → state < states m.grid
      → advice_at advices n state ≡ (entry_at (shape_of m.grid) bytes (entry_place m.grid n state)).advice

-- each advice may be chosen under its present advisory
pub record AreAllowed (m : ModelData) (advices : AdvicesData) : Type 0 where
  pub each : (n state : ℕ) → 1 ≤ n → n ≤ m.grid.horizon → state < states m.grid
      → MayChoose m (state_present m.grid state) (advice_at advices n state)

-- all layers of a table of the model stand
abbrev pub AreWhole : ModelData → LayersData → Type 0
AreWhole m layers = StandFor m (m.grid.horizon + 1) layers

-- all layers stand, and they are those of the bytes
pub record HasLayers (m : ModelData) (bytes : List ℕ) (layers : LayersData) : Type 0 where
  pub whole : AreWhole m layers
  pub each : (n : ℕ) → n ≤ m.grid.horizon
      → layer_of (pairs_of layers n) (advice_of layers n) ≡ layer_at (shape_of m.grid) bytes n

-- the file's bytes have no refusal, and what is given is theirs, or their first refusal is answered
abbrev pub Gives : {X : Type 0} → (List ℕ → X → Type 0) → ModelData → List ℕ → Option (List ℕ)
    → Result X AcceptFault → Type 0
Gives IsOf m digest None (Ok given) = ⊥
Gives IsOf m digest (Some bytes) (Ok given) =
    (first_refusal m digest bytes ≡ None) × IsBytes bytes × IsOf bytes given
Gives IsOf m digest None (Err (Refused refusal)) = ⊥
Gives IsOf m digest (Some bytes) (Err (Refused refusal)) = first_refusal m digest bytes ≡ Some refusal
Gives IsOf m digest file (Err Absent) = file ≡ None
Gives IsOf m digest file (Err Failed) = ⊤
Gives IsOf m digest file (Err Memory) = ⊤

-- an accepted table is read once: just as many bytes as it has in one of the versions, and where the file is told, in that
-- which it names; of no file is more read than one byte more than a table has, nor than it has itself
pub record ReadsOnce {F X : Type 0} (d : FolderMeanings F) (old new : F) (name : List ℕ) (s : TableShape)
    (result : Result X AcceptFault) : Type 0 where
  pub all_taken : OnOk result ((f : Format) × (d.taken new ≡ raised (d.taken old) (length_of f s)))
  pub all_of_file : OnOk result (Told (d.holds old) name (λ bytes.
      d.taken new ≡ raised (d.taken old) (expected_length s bytes)))
  pub at_most : TakesAtMost d old new name s

-- given are the advices
abbrev pub Accepts : ModelData → List ℕ → Option (List ℕ) → Result AdvicesData AcceptFault → Type 0
Accepts m digest file result = Gives (HasAdvices m) m digest file result

-- given are the layers
abbrev pub AcceptsLayers : ModelData → List ℕ → Option (List ℕ) → Result LayersData AcceptFault → Type 0
AcceptsLayers m digest file result = Gives (HasLayers m) m digest file result
