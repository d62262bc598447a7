use Rattle.acas_cli_words.specs.Words.{Drill}
use Rattle.acas_run_laws.proofs.NotRefused.{drill-ends, worth-form}
use Rattle.acas_run_laws.proofs.ends.drills_are_not_refused.Goals as goal

pub returns : goal.returns
returns c = λ number cause files before after told h. drill-ends cause (worth-form (Drill number) cause files before after told h).ends
