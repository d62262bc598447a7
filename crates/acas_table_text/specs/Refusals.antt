-- Refusals of a table.
use Rattle.std.specs.Prelude.{⊤}
use Rattle.acas_table_text.specs.declared.fault.TableFault.TheVariants as faults
use Rattle.acas_table_text.specs.declared.refusal.TableRefusal.{TableRefusal}
use Rattle.acas_table_text.specs.declared.refusal.TableRefusal.TheVariants.{Entry, Form}

-- a refusal is of the bytes: never a read that failed, a file that is not there, or want of memory
abbrev pub IsOfBytes : TableRefusal → Type 0
IsOfBytes (Form faults.Magic) = ⊤
IsOfBytes (Form (faults.Version found)) = ⊤
IsOfBytes (Form (faults.OtherModel kept found)) = ⊤
IsOfBytes (Form (faults.Shape place kept expected)) = ⊤
IsOfBytes (Form (faults.Length expected found)) = ⊤
IsOfBytes (Form (faults.Advice layer state byte)) = ⊤
IsOfBytes (Form (faults.Digest kept computed)) = ⊤
IsOfBytes (Form (faults.LayerDigest layer kept computed)) = ⊤
IsOfBytes (Form faults.Failed) = ⊥
IsOfBytes (Form faults.Absent) = ⊥
IsOfBytes (Form faults.Memory) = ⊥
IsOfBytes (Entry layer state fault) = ⊤
