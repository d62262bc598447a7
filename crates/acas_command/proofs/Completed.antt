-- Commands that were completed, and the line of one.
use Rattle.std.proofs.Common.{◌≡◌, ℕ, List, subst}
use Rattle.acas_outside.specs.Bytes.{Appends, AppendsPart}
use Rattle.acas_outside.specs.Files.{Files}
use Rattle.acas_outside.specs.Outside.{Outside}
use Rattle.acas_command.specs.Answers.{Agrees, Completes}
use Rattle.acas_command.specs.Called.{Called, MayPrint}
use Rattle.acas_command.specs.Worth.{PrintsLine}
use Rattle.acas_command.specs.declared.status.Cause.{Cause}
use Rattle.acas_command.specs.declared.status.Cause.TheVariants.{Output}
use Rattle.acas_command.proofs.Printing.{by_printing}

-- a command whose cause may print was completed
pub completed : (called : Called) (files : Files) (cause : Cause) (before after : Outside) → MayPrint cause → Agrees called files cause before after → Completes called files cause before after
completed called files cause before after prints a =
    by_printing (λ c. Agrees called files c before after → Completes called files c before after) cause prints (λ done. done) (λ reported. reported) a

-- its whole line is out, or a part of it is
pub prints-whole_line : (cause : Cause) (before after : Outside) (line : List ℕ) → MayPrint cause → Appends before.written after.written line → PrintsLine cause before after line
prints-whole_line cause before after line prints printed = record { whole = λ may. printed; part = λ is. absurd (subst MayPrint is prints) }

pub prints-part_of_line : (cause : Cause) (before after : Outside) (line : List ℕ) → cause ≡ Output → AppendsPart before.written after.written line → PrintsLine cause before after line
prints-part_of_line cause before after line is part = record { whole = λ may. absurd (subst MayPrint is may); part = λ same. part }
