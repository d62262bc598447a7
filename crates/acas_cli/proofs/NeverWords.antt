-- No form is refused as words.
use Rattle.acas_outside.specs.Outside.{Outside}
use Rattle.acas_command.specs.declared.status.Cause.TheVariants.{Words}
use Rattle.acas_cli.specs.Calls.{AnswersCall}
use Rattle.acas_cli_words.specs.Words.{Form, Values, Compile, Check, Risk, Audit, Regions, Manoeuvre, Safeable, Replay, Migrate, Drill}

pub never_words : (form : Form) (before after : Outside) → AnswersCall form Words before after → ⊥
never_words (Values model) before after a = a.has_cause
never_words (Compile model table) before after a = a.has_cause
never_words (Check model table) before after a = a.has_cause
never_words (Risk model table) before after a = a.has_cause
never_words (Audit model table which) before after a = a.has_cause
never_words (Regions model boxes) before after a = a.has_cause
never_words (Manoeuvre model boxes accel rate) before after a = a.has_cause
never_words (Safeable model table) before after a = a.has_cause
never_words (Replay model table encounter) before after a = a.has_cause
never_words (Migrate model table target) before after a = a.has_cause
never_words (Drill number) before after a = (a.answered before.holds).has_cause
