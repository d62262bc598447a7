use Rattle.std.proofs.Common.{refl}
use Rattle.acas_command.specs.declared.status.Cause.TheVariants.{Done, Input}
use Rattle.acas_cli_words.specs.Words.{Replay}
use Rattle.acas_run_laws.proofs.NotRefused.{worth-form}
use Rattle.acas_run_laws.proofs.reports.replays_print_their_course.Goals as goal

pub returns : goal.returns
returns c = record {
  printed = λ model table encounter files before after told h.
      let r = (worth-form (Replay model table encounter) Done files before after told h).printed tt in
      (r.m, r.advices, r.flown, r.course, r.advised, r.says, r.is_course, r.printed, r.kept, r.ruled_on.each);
  rejected = λ model table encounter files fault before after told h.
      (worth-form (Replay model table encounter) (Input fault) files before after told h).refused_encounter fault refl;
}
