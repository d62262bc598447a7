use Rattle.acas_cli.specs.Calls.{CallsFor}
use Rattle.acas_run_laws.proofs.Causes.{agrees-form}
use Rattle.acas_run_laws.proofs.NamedFiles.{refused-code, right-words}
use Rattle.acas_run_laws.proofs.line.refusals_are_those_of_the_named_files.Goals as goal

pub returns : goal.returns
returns c = λ words form cause files before after is told a done reported folder output memory.
    right-words files cause after words form is
    (refused-code (CallsFor form) files cause before after (agrees-form form cause files before after told a) done reported folder output memory)
