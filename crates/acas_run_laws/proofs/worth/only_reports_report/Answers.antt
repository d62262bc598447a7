use Rattle.std.proofs.Common.{inl}
use Rattle.acas_command.specs.declared.status.Cause.TheVariants.{Reported}
use Rattle.acas_cli_words.specs.Words.{Check, Compile, Migrate, Replay, Risk, Values}
use Rattle.acas_run_laws.proofs.NotRefused.{worth-form}
use Rattle.acas_run_laws.proofs.worth.only_reports_report.Goals as goal

pub returns : goal.returns
returns c = record {
  values = λ model files before after told h.
      let w = worth-form (Values model) Reported files before after told h in
      let t = w.printed tt in
      w.not_refused t.bytes t.m t.made.says;
  compile = λ model table files before after told h.
      let w = worth-form (Compile model table) Reported files before after told h in
      let t = w.stored (inl tt) in
      w.not_refused t.bytes t.m t.made.says;
  check = λ model table files before after told h.
      let w = worth-form (Check model table) Reported files before after told h in
      let t = w.accepted tt in
      w.not_refused t.m t.t t.says;
  risk = λ model table files before after told h.
      let w = worth-form (Risk model table) Reported files before after told h in
      let t = w.printed tt in
      w.not_refused t.m t.t t.says;
  replay = λ model table encounter files before after told h.
      let w = worth-form (Replay model table encounter) Reported files before after told h in
      let t = w.printed tt in
      w.not_refused t.m t.advised.t t.flown t.advised.says t.says;
  migrate = λ model table target files before after told h.
      let w = worth-form (Migrate model table target) Reported files before after told h in
      let t = w.stored (inl tt) in
      w.not_refused t.m t.t t.says;
}
