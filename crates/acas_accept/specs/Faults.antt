-- What a fault of the reader is answered as.
use Rattle.std.specs.Prelude.{⊤}
use Rattle.acas_table_text.specs.declared.fault.TableFault.{TableFault}
use Rattle.acas_table_text.specs.declared.fault.TableFault.TheVariants as faults
use Rattle.acas_table_text.specs.Refusals.{IsOfBytes}
use Rattle.acas_table_text.specs.declared.refusal.TableRefusal.TheVariants.{Form}
use Rattle.acas_accept.specs.declared.refusal.AcceptFault.{AcceptFault}
use Rattle.acas_accept.specs.declared.refusal.AcceptFault.TheVariants.{Refused, Absent, Failed, Memory}

-- a fault of the bytes is a refusal
abbrev pub answered : TableFault → AcceptFault
answered faults.Failed = Failed
answered faults.Absent = Absent
answered faults.Memory = Memory
answered fault = Refused (Form fault)

-- a refusal that is answered is of the bytes
abbrev pub IsAnswerable : AcceptFault → Type 0
IsAnswerable (Refused refusal) = IsOfBytes refusal
IsAnswerable Absent = ⊤
IsAnswerable Failed = ⊤
IsAnswerable Memory = ⊤
