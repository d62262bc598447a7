-- How a run ends that is not refused, and which forms report.
use Rattle.std.proofs.Common.{◌≡◌, Option, None, Some, ◌⊎◌, inl, inr, refl, subst, arith}
use Rattle.std.specs.Prelude.{IfSome}
use Rattle.acas_outside.specs.Files.{Files}
use Rattle.acas_outside.specs.Outside.{Outside}
use Rattle.acas_command.specs.Codes.{code_of}
use Rattle.acas_command.specs.Worth.{IsDoneUnlessFailed, IsNotRefused}
use Rattle.acas_command.specs.declared.status.Cause.{Cause}
use Rattle.acas_command.specs.declared.status.Cause.TheVariants.{Done, Reported, Words, Absent, Model, Table, Input, Folder, Output, TooLong, Memory}
use Rattle.acas_drill.specs.Calls.{EndsDrill}
use Rattle.acas_cli.specs.Headline.{Headline, IsWorth}
use Rattle.acas_cli_words.specs.Words.{Form}
use Rattle.acas_run_laws.specs.Ends.{EndsDone, EndsWell, HasNoFault}
use Rattle.acas_run_laws.proofs.Causes.{rose-greater}

-- a run that is not refused, and of which no call failed
pub ends-well : (cause : Cause) (before after : Outside) → HasNoFault before after → IsNotRefused cause before after → EndsWell cause
ends-well Done before after none h = inl refl
ends-well Reported before after none h = inr (inl refl)
ends-well Words before after none h = absurd h
ends-well (Absent role) before after none h = absurd h
ends-well (Model fault) before after none h = absurd h
ends-well (Table refusal) before after none h = absurd h
ends-well (Input fault) before after none h = absurd h
ends-well Folder before after none h =
    let more = rose-greater before.faults after.faults h none.folder_room in
    let same = none.folder in
    absurd (omega (arith, more, same))
ends-well Output before after none h =
    let more = rose-greater before.output_faults after.output_faults h none.output_room in
    let same = none.output in
    absurd (omega (arith, more, same))
ends-well (TooLong role) before after none h = absurd h
ends-well Memory before after none h = inr (inr refl)

-- one that reports nothing
pub ends-done : (cause : Cause) (before after : Outside) → HasNoFault before after → IsDoneUnlessFailed cause before after → EndsDone cause
ends-done Done before after none h = inl refl
ends-done Reported before after none h = absurd h
ends-done Words before after none h = absurd h
ends-done (Absent role) before after none h = absurd h
ends-done (Model fault) before after none h = absurd h
ends-done (Table refusal) before after none h = absurd h
ends-done (Input fault) before after none h = absurd h
ends-done Folder before after none h =
    let more = rose-greater before.faults after.faults h none.folder_room in
    let same = none.folder in
    absurd (omega (arith, more, same))
ends-done Output before after none h =
    let more = rose-greater before.output_faults after.output_faults h none.output_room in
    let same = none.output in
    absurd (omega (arith, more, same))
ends-done (TooLong role) before after none h = absurd h
ends-done Memory before after none h = inr refl

-- what a form is worth, where the files are told
pub worth-form : (form : Form) (cause : Cause) (files : Files) (before after : Outside) → before.holds ≡ Some files → Headline (Some form) cause before after → IsWorth form files cause before after
worth-form form cause files before after told h = given before.holds told h
  where
    given : (holds : Option Files) → holds ≡ Some files → IfSome holds (λ fs. IsWorth form fs cause before after) → IsWorth form files cause before after
    given None e h = absurd (cc e)
    given (Some fs) e h = subst (λ (x : Files). IsWorth form x cause before after) (cc e) h

-- how a drill ends
pub drill-ends : (cause : Cause) → EndsDrill cause → EndsWell cause ⊎ (code_of cause ≡ 8)
drill-ends Done h = inl (inl refl)
drill-ends Reported h = inl (inr (inl refl))
drill-ends Words h = absurd h
drill-ends (Absent role) h = absurd h
drill-ends (Model fault) h = absurd h
drill-ends (Table refusal) h = absurd h
drill-ends (Input fault) h = absurd h
drill-ends Folder h = absurd h
drill-ends Output h = inr refl
drill-ends (TooLong role) h = absurd h
drill-ends Memory h = inl (inr (inr refl))
