-- How many bytes a run has taken of the files that it reads.
use Rattle.std.proofs.Common.{◌≡◌, ℕ, ◌+◌, ◌≤◌, List, [], length, Option, None, Some, refl, arith}
use Rattle.std.specs.Prelude.{unwrap_or}
use Rattle.acas_outside.specs.Files.{Files}
use Rattle.acas_outside.specs.Once.{TakesOnce, bytes_under, length_of_file}
use Rattle.acas_outside.specs.Outside.{Outside}
use Rattle.acas_command.specs.declared.status.Cause.{Cause}
use Rattle.acas_cli.specs.Calls.{AnswersForm, CallsFor}
use Rattle.acas_cli_words.specs.Words.{Form}
use Rattle.acas_run_laws.proofs.Causes.{answers-form}

pub length-file : (file : Option (List ℕ)) → length_of_file file ≡ length (unwrap_or file [])
length-file None = refl
length-file (Some bytes) = refl

pub taken-told : (names : List (List ℕ)) (holds : Option Files) (files : Files) (before after : ℕ) → holds ≡ Some files → TakesOnce names holds before after → after ≤ before + bytes_under names files
taken-told names None files before after told takes = absurd (cc told)
taken-told names (Some held) files before after told takes =
    let same : held ≡ files = cc told in
    rw (← same) (omega (arith, takes))

pub taken-form : (form : Form) (cause : Cause) (files : Files) (before after : Outside) → before.holds ≡ Some files → AnswersForm (Some form) cause before after
    → after.taken ≤ before.taken + bytes_under (CallsFor form).reads files
taken-form form cause files before after told a = taken-told (CallsFor form).reads before.holds files before.taken after.taken told (answers-form form cause before after a).once
