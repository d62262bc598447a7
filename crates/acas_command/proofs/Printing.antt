-- The two causes with which the whole output of a command is out.
use Rattle.std.proofs.Common.{◌≡◌, refl}
use Rattle.acas_command.specs.Called.{MayPrint}
use Rattle.acas_command.specs.declared.status.Cause.{Cause}
use Rattle.acas_command.specs.declared.status.Cause.TheVariants.{Done, Reported, Words, Absent, Model, Table, Input, Folder, Output, TooLong, Memory}

-- what holds of both holds of such a cause
pub by_printing : (P : Cause → Type 0) (cause : Cause) → MayPrint cause → P Done → P Reported → P cause
by_printing P Done prints done reported = done
by_printing P Reported prints done reported = reported
by_printing P Words prints done reported = absurd prints
by_printing P (Absent role) prints done reported = absurd prints
by_printing P (Model fault) prints done reported = absurd prints
by_printing P (Table refusal) prints done reported = absurd prints
by_printing P (Input fault) prints done reported = absurd prints
by_printing P Folder prints done reported = absurd prints
by_printing P Output prints done reported = absurd prints
by_printing P (TooLong role) prints done reported = absurd prints
by_printing P Memory prints done reported = absurd prints

-- a cause that is none of the two
pub undone : (cause : Cause) → (cause ≡ Done → ⊥) → (cause ≡ Reported → ⊥) → ¬ MayPrint cause
undone cause not_done not_reported prints = by_printing (λ c. cause ≡ c → ⊥) cause prints not_done not_reported refl
