-- What a run has counted, by its exit code.
use Rattle.std.proofs.Common.{◌≡◌, refl, arith}
use Rattle.acas_command.specs.Answers.{EndsLooking}
use Rattle.acas_command.specs.Codes.{code_of}
use Rattle.acas_command.specs.declared.status.Cause.{Cause}
use Rattle.acas_command.specs.declared.status.Cause.TheVariants.{Done, Reported, Words, Absent, Model, Table, Input, Folder, Output, TooLong, Memory}
use Rattle.acas_table_commands.specs.Work.{EndsUnswept}

pub done-code : (cause : Cause) → code_of cause ≡ 0 → cause ≡ Done
done-code Done e = refl
done-code Reported e = absurd (omega arith)
done-code Words e = absurd (omega arith)
done-code (Absent role) e = absurd (omega arith)
done-code (Model fault) e = absurd (omega arith)
done-code (Table refusal) e = absurd (omega arith)
done-code (Input fault) e = absurd (omega arith)
done-code Folder e = absurd (omega arith)
done-code Output e = absurd (omega arith)
done-code (TooLong role) e = absurd (omega arith)
done-code Memory e = absurd (omega arith)

pub looking-code : (cause : Cause) → (code_of cause ≡ 0 → ⊥) → (code_of cause ≡ 1 → ⊥) → (code_of cause ≡ 2 → ⊥) → (code_of cause ≡ 8 → ⊥) → EndsLooking cause
looking-code Done done reported words output = done refl
looking-code Reported done reported words output = reported refl
looking-code Words done reported words output = words refl
looking-code (Absent role) done reported words output = tt
looking-code (Model fault) done reported words output = tt
looking-code (Table refusal) done reported words output = tt
looking-code (Input fault) done reported words output = tt
looking-code Folder done reported words output = tt
looking-code Output done reported words output = output refl
looking-code (TooLong role) done reported words output = tt
looking-code Memory done reported words output = tt

pub unswept-code : (cause : Cause) → (code_of cause ≡ 7 → ⊥) → EndsLooking cause → EndsUnswept cause
unswept-code Done folder looks = looks
unswept-code Reported folder looks = looks
unswept-code Words folder looks = looks
unswept-code (Absent role) folder looks = looks
unswept-code (Model fault) folder looks = looks
unswept-code (Table refusal) folder looks = looks
unswept-code (Input fault) folder looks = looks
unswept-code Folder folder looks = folder refl
unswept-code Output folder looks = looks
unswept-code (TooLong role) folder looks = looks
unswept-code Memory folder looks = looks
