-- Accepted tables: texts of tables whose entries are all sound.
use Rattle.std.specs.Prelude.{◌≡◌, ℕ, List, FitsSigned}
use Rattle.std.specs.Int.{w64}
use Rattle.acas_spec.specs.Model.{ModelData}
use Rattle.acas_spec.specs.declared.place.Vertex.{Vertex}
use Rattle.acas_spec.specs.Table.{Table}
use Rattle.acas_policies.specs.Bounds.{IsSound}
use Rattle.acas_process.specs.Cost.{IsEntry}
use Rattle.acas_table_text.specs.Layers.{table_text}
use Rattle.acas_table_text.specs.declared.format.Format.{Format}

-- the values of a table fit 64 bits, and with no second to go its advice is 255
pub record IsWritable (m : ModelData) (t : Table) : Type 0 where
  pub upper : (n p : ℕ) (x : Vertex) → IsEntry m n p x → FitsSigned w64 (t.upper n p x)
  pub lower : (n p : ℕ) (x : Vertex) → IsEntry m n p x → FitsSigned w64 (t.lower n p x)
  pub no_advice : (p : ℕ) (x : Vertex) → IsEntry m 0 p x → t.advice 0 p x ≡ 255

-- bytes are a table's text in some format, for the model whose text has this digest, and all its entries are sound
pub record IsAcceptedTable (m : ModelData) (digest bytes : List ℕ) (t : Table) : Type 0 where
  pub writable : IsWritable m t
  pub sound : IsSound m t
  pub format : Format
  pub text : bytes ≡ table_text format digest m.grid t
