-- Drills over every folder.
use Rattle.std.proofs.Common.{◌≡◌, ◌⊎◌, ℕ, [], Some, inl, inr, refl}
use Rattle.std.specs.FinMap.{empty}
use Rattle.acas_outside.specs.Files.{Files}
use Rattle.acas_outside.specs.Outside.{Outside}
use Rattle.acas_command.specs.Answers.{Agrees}
use Rattle.acas_command.specs.Called.{MayPrint}
use Rattle.acas_command.specs.Codes.{code_of}
use Rattle.acas_command.specs.Outcome.{prints}
use Rattle.acas_command.specs.declared.status.Cause.{Cause}
use Rattle.acas_command.specs.declared.status.Cause.TheVariants.{Done, Reported, Words, Absent, Model, Table, Input, Folder, Output, TooLong, Memory}
use Rattle.acas_command.proofs.Reports.{IsPrinted, report-printed}
use Rattle.acas_command.proofs.Completed.{completed}
use Rattle.acas_drill.specs.Calls.{CallsForDrill, EndsDrill, IsDrillBegun, IsDrillText}
use Rattle.acas_cli.specs.Calls.{AnswersDrill}

abbrev pub no_files : Files
no_files = empty

-- the same moment, beside a folder that holds nothing
abbrev pub beside_none : Outside → Outside
beside_none o = record o { holds = Some no_files }

agrees-alone : (number : ℕ) (cause : Cause) (before after : Outside) → AnswersDrill number cause before after
    → Agrees (CallsForDrill number) no_files cause (beside_none before) (beside_none after)
agrees-alone number cause before after a = (a.answered (Some no_files)).told

pub drill-printed : (number : ℕ) (cause : Cause) (before after : Outside) → MayPrint cause → AnswersDrill number cause before after
    → IsPrinted (IsDrillText number) no_files cause (beside_none before) (beside_none after)
drill-printed number cause before after may a =
    report-printed (λ files. prints []) (λ files. IsDrillText number) (λ files. IsDrillBegun number) no_files cause (beside_none before) (beside_none after) may
    (completed (CallsForDrill number) no_files cause (beside_none before) (beside_none after) may (agrees-alone number cause before after a))

pub drill-begun : (number : ℕ) (before after : Outside) → AnswersDrill number Output before after → IsDrillBegun number before.written after.written
drill-begun number before after a = (agrees-alone number Output before after a).begun

-- the exit codes of a drill
pub drill-codes : (cause : Cause) → EndsDrill cause → (code_of cause ≡ 0) ⊎ ((code_of cause ≡ 1) ⊎ ((code_of cause ≡ 8) ⊎ (code_of cause ≡ 12)))
drill-codes Done h = inl refl
drill-codes Reported h = inr (inl refl)
drill-codes Words h = absurd h
drill-codes (Absent role) h = absurd h
drill-codes (Model fault) h = absurd h
drill-codes (Table refusal) h = absurd h
drill-codes (Input fault) h = absurd h
drill-codes Folder h = absurd h
drill-codes Output h = inr (inr (inl refl))
drill-codes (TooLong role) h = absurd h
drill-codes Memory h = inr (inr (inr refl))
