-- A table in check, of which some entries were read and accepted.
use Rattle.std.specs.Prelude.{◌≡◌, ℕ, ◌*◌, ◌<◌, ◌≤◌, List, length, false, Some, None, ⊤}
use Rattle.acas_spec.specs.Limits.{IsModel}
use Rattle.acas_spec.specs.Model.{GridData, ModelData, states, vertices}
use Rattle.acas_grid.specs.Grid.{state_number}
use Rattle.acas_means.specs.Layer.{AreValuesOf}
use Rattle.acas_means.specs.Means.{AreMeansOf}
use Rattle.acas_bounds.specs.Checks.{OfBelow}
use Rattle.acas_table_text.specs.Faults.{first_below}
use Rattle.acas_table.specs.Reader.{HasRead, reader_state}
use Rattle.acas_table_text.specs.Shape.{shape_of}
use Rattle.acas_table_text.specs.Format.{format_of}
use Rattle.acas_table_text.specs.Tables.{layers_at}
use Rattle.acas_table_text.specs.Text.{text_of_layers}
use Rattle.acas_accept.specs.GivenTable.{entry_place, given_table}
use Rattle.acas_accept.specs.Keeping.{AreRead, MayBeChosen}
use Rattle.acas_accept.specs.Leasts.{HaveLeasts}
use Rattle.acas_accept.specs.Refusals.{entry_refusal, first_refusal}
use Rattle.acas_accept.specs.declared.check.TableCheck.{TableCheck}
use Rattle.acas_accept.specs.declared.refusal.AcceptFault.{AcceptFault}
use Rattle.acas_accept.specs.declared.refusal.AcceptFault.TheVariants.{Refused, Absent, Failed, Memory}

-- the layers below one and the first entries of that one were read and accepted, whatever the bytes
pub record IsCheckOf (m : ModelData) (t : TableCheck) (n state : ℕ) : Type 0 where
  pub valid : IsModel m
  pub shape : (reader_state t.reader).shape ≡ shape_of m.grid
  pub given : (reader_state t.reader).given ≡ entry_place m.grid n state
  pub no_fault : (reader_state t.reader).fault ≡ None
  pub not_done : (reader_state t.reader).done ≡ false
  pub pairs : length t.pairs.items ≡ states m.grid
  pub advice : length t.advice.items ≡ states m.grid
  pub means : length t.means.items ≡ states m.grid
  pub leasts : HaveLeasts m t.means.items t.leasts
  pub allowed : MayBeChosen m n state t.advice.items

-- with n seconds to go, a state is that of a vertex under a present advisory
pub record IsAt (g : GridData) (n present vertex state : ℕ) : Type 0 where
  pub seconds : n ≤ g.horizon
  pub advisory : present < g.advisories
  pub place : vertex < vertices g
  pub inside : state < states g
  pub is : state ≡ state_number g present vertex

-- the reader has read so many entries of these bytes, and none has a refusal
pub record HasAccepted (m : ModelData) (digest : List ℕ) (t : TableCheck) (count : ℕ) (bytes : List ℕ)
    : Type 0 where
  pub stands : HasRead digest t.reader bytes
  pub none : first_below (entry_refusal m bytes) count ≡ None

-- before a layer, the pairs are those of the layer below it
pub record IsBeforeLayer (m : ModelData) (digest : List ℕ) (t : TableCheck) (n : ℕ) (bytes : List ℕ)
    : Type 0 where
  pub accepted : HasAccepted m digest t (n * states m.grid) bytes
  pub values : OfBelow (λ k. AreValuesOf m (given_table m.grid bytes) k t.pairs.items) n

-- in a layer, its first states' pairs and advices are kept, and the means are those of the layer below it
pub record IsInLayer (m : ModelData) (digest : List ℕ) (t : TableCheck) (n state : ℕ) (bytes : List ℕ)
    : Type 0 where
  pub accepted : HasAccepted m digest t (entry_place m.grid n state) bytes
  pub read : AreRead m bytes n state t.pairs.items t.advice.items
  pub means : OfBelow (λ k. AreMeansOf m (given_table m.grid bytes) k t.means.items) n

-- the bytes have no refusal, and are the text of their layers in their format
pub record HasNoRefusal (m : ModelData) (digest bytes : List ℕ) : Type 0 where
  pub none : first_refusal m digest bytes ≡ None
  pub text :
      bytes ≡ text_of_layers (format_of bytes) digest (shape_of m.grid) (layers_at (shape_of m.grid) bytes)

-- what is answered at bytes: their first refusal, or that a read failed or that memory was refused
abbrev pub IsAnswer : ModelData → List ℕ → List ℕ → AcceptFault → Type 0
IsAnswer m digest bytes (Refused refusal) = first_refusal m digest bytes ≡ Some refusal
IsAnswer m digest bytes Absent = ⊥
IsAnswer m digest bytes Failed = ⊤
IsAnswer m digest bytes Memory = ⊤
