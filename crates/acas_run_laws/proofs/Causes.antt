-- What an answer to words says of its cause.
use Rattle.std.proofs.Common.{◌≡◌, ℕ, ◌+◌, ◌-◌, ◌^◌, ◌<◌, ◌≤◌, ◌⊎◌, Option, None, Some, refl, sym, ap, subst, arith}
use Rattle.std.specs.Prelude.{IfSome}
use Rattle.acas_outside.specs.Counts.{Rose, raised}
use Rattle.acas_outside.specs.Files.{Files}
use Rattle.acas_outside.specs.Outside.{Outside}
use Rattle.acas_command.specs.Answers.{Agrees, Answers, HasCause, IsQuiet}
use Rattle.acas_command.specs.Called.{MayPrint}
use Rattle.acas_command.specs.Codes.{code_of}
use Rattle.acas_command.specs.declared.status.Cause.{Cause}
use Rattle.acas_command.specs.declared.status.Cause.TheVariants.{Done, Reported, Words, Absent, Model, Table, Input, Folder, Output, TooLong, Memory}
use Rattle.acas_cli.specs.Calls.{AnswersForm, CallsFor}
use Rattle.acas_cli_words.specs.Words.{Form, Values, Compile, Check, Risk, Audit, Regions, Manoeuvre, Safeable, Replay, Migrate, Drill}
use Rattle.acas_drill.specs.Calls.{CallsForDrill}

-- the answer to words of a form is that of its command; a drill's is the same over every folder
pub answers-form : (form : Form) (cause : Cause) (before after : Outside) → AnswersForm (Some form) cause before after → Answers (CallsFor form) cause before after
answers-form (Values model) cause before after a = a
answers-form (Compile model table) cause before after a = a
answers-form (Check model table) cause before after a = a
answers-form (Risk model table) cause before after a = a
answers-form (Audit model table which) cause before after a = a
answers-form (Regions model boxes) cause before after a = a
answers-form (Manoeuvre model boxes accel rate) cause before after a = a
answers-form (Safeable model table) cause before after a = a
answers-form (Replay model table encounter) cause before after a = a
answers-form (Migrate model table target) cause before after a = a
answers-form (Drill number) cause before after a =
    subst (λ (holds : Option Files). Answers (CallsForDrill number) cause before (record after { holds = holds })) (sym (ap (λ (o : Outside). o.holds) a.alone)) (a.answered before.holds)

pub has_cause-form : (form : Option Form) (cause : Cause) (before after : Outside) → (cause ≡ Words → ⊥) → AnswersForm form cause before after → HasCause cause before after
has_cause-form None cause before after other a = absurd (other a.0)
has_cause-form (Some form) cause before after other a = (answers-form form cause before after a).has_cause

pub quiet-form : (form : Option Form) (cause : Cause) (before after : Outside) → AnswersForm form cause before after → IsQuiet cause before after
quiet-form None cause before after a = subst (λ (c : Cause). IsQuiet c before after) (sym a.0) (ap (λ (o : Outside). o.written) a.1)
quiet-form (Some form) cause before after a = (answers-form form cause before after a).quiet

-- where the files are told, the answer is one that is called for
pub agrees-form : (form : Form) (cause : Cause) (files : Files) (before after : Outside) → before.holds ≡ Some files → AnswersForm (Some form) cause before after
    → Agrees (CallsFor form) files cause before after
agrees-form form cause files before after told a = given before.holds told (answers-form form cause before after a).told
  where
    given : (holds : Option Files) → holds ≡ Some files → IfSome holds (λ fs. Agrees (CallsFor form) fs cause before after) → Agrees (CallsFor form) files cause before after
    given None e h = absurd (cc e)
    given (Some fs) e h = subst (λ (x : Files). Agrees (CallsFor form) x cause before after) (cc e) h

-- ---- counts

pub raised-greater : (before n now : ℕ) → raised before n ≤ now → (before + n ≤ now) ⊎ (2 ^ 64 - 1 ≤ now)
raised-greater before n now h = grind arith

pub rose-greater : (before now : ℕ) → Rose before now → before < 2 ^ 64 - 1 → before < now
rose-greater before now h room = omega (arith, h, room)

-- ---- exit codes

pub may_print-code : (cause : Cause) → (code_of cause ≡ 0) ⊎ (code_of cause ≡ 1) → MayPrint cause
may_print-code Done e = tt
may_print-code Reported e = tt
may_print-code Words e = absurd (omega arith)
may_print-code (Absent role) e = absurd (omega arith)
may_print-code (Model fault) e = absurd (omega arith)
may_print-code (Table refusal) e = absurd (omega arith)
may_print-code (Input fault) e = absurd (omega arith)
may_print-code Folder e = absurd (omega arith)
may_print-code Output e = absurd (omega arith)
may_print-code (TooLong role) e = absurd (omega arith)
may_print-code Memory e = absurd (omega arith)

pub no_print-code : (cause : Cause) → (code_of cause ≡ 0 → ⊥) → (code_of cause ≡ 1 → ⊥) → ¬ MayPrint cause
no_print-code Done done reported h = done refl
no_print-code Reported done reported h = reported refl
no_print-code Words done reported h = h
no_print-code (Absent role) done reported h = h
no_print-code (Model fault) done reported h = h
no_print-code (Table refusal) done reported h = h
no_print-code (Input fault) done reported h = h
no_print-code Folder done reported h = h
no_print-code Output done reported h = h
no_print-code (TooLong role) done reported h = h
no_print-code Memory done reported h = h

pub nothing-code : (cause : Cause) (before after : Outside) → IsQuiet cause before after → (code_of cause ≡ 0 → ⊥) → (code_of cause ≡ 1 → ⊥) → (code_of cause ≡ 8 → ⊥)
    → after.written ≡ before.written
nothing-code Done before after h done reported output = absurd (done refl)
nothing-code Reported before after h done reported output = absurd (reported refl)
nothing-code Words before after h done reported output = h
nothing-code (Absent role) before after h done reported output = h
nothing-code (Model fault) before after h done reported output = h
nothing-code (Table refusal) before after h done reported output = h
nothing-code (Input fault) before after h done reported output = h
nothing-code Folder before after h done reported output = h
nothing-code Output before after h done reported output = absurd (output refl)
nothing-code (TooLong role) before after h done reported output = h
nothing-code Memory before after h done reported output = h
