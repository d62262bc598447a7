use Rattle.acas_cli_words.specs.Words.{Audit, Check, Compile, Drill, Manoeuvre, Migrate, Regions, Replay, Risk, Safeable, Values}
use Rattle.acas_run_laws.proofs.NotRefused.{ends-done, ends-well, worth-form}
use Rattle.acas_run_laws.proofs.ends.right_files_are_not_refused.Goals as goal

pub returns : goal.returns
returns c = record {
  values = λ model bytes m cause files before after told says none h.
      ends-done cause before after none ((worth-form (Values model) cause files before after told h).not_refused bytes m says);
  compile = λ model table bytes m cause files before after told says none h.
      ends-done cause before after none ((worth-form (Compile model table) cause files before after told h).not_refused bytes m says);
  check = λ model table bytes given m t cause files before after told says there accepted none h.
      ends-done cause before after none ((worth-form (Check model table) cause files before after told h).not_refused m t
      (record { bytes = bytes; given = given; says = says; file = there; accepted = accepted }));
  risk = λ model table bytes given m t cause files before after told says there accepted none h.
      ends-done cause before after none ((worth-form (Risk model table) cause files before after told h).not_refused m t
      (record { bytes = bytes; given = given; says = says; file = there; accepted = accepted }));
  audit = λ model table bytes given which m t cause files before after told says there accepted none h.
      ends-well cause before after none ((worth-form (Audit model table which) cause files before after told h).not_refused m t
      (record { bytes = bytes; given = given; says = says; file = there; accepted = accepted }));
  regions = λ model boxes bytes given m said cause files before after told says there short text none h.
      ends-well cause before after none ((worth-form (Regions model boxes) cause files before after told h).not_refused m said
      (record { bytes = bytes; given = given; says = says; file = there; short = short; text = text }));
  manoeuvre = λ model boxes bytes given accel rate m said cause files before after told says there short text rates none h.
      ends-well cause before after none ((worth-form (Manoeuvre model boxes accel rate) cause files before after told h).not_refused m said
      (record { bytes = bytes; given = given; says = says; file = there; short = short; text = text }) rates);
  safeable = λ model table bytes given m t cause files before after told says there accepted none h.
      ends-well cause before after none ((worth-form (Safeable model table) cause files before after told h).not_refused m t
      (record { bytes = bytes; given = given; says = says; file = there; accepted = accepted }));
  replay = λ model table encounter bytes given flown_bytes m t flown cause files before after told says there accepted flown_there short text none h.
      ends-done cause before after none ((worth-form (Replay model table encounter) cause files before after told h).not_refused m t flown
      (record { bytes = bytes; given = given; says = says; file = there; accepted = accepted })
      (record { bytes = bytes; given = flown_bytes; says = says; file = flown_there; short = short; text = text }));
  migrate = λ model table target bytes given m t cause files before after told says there accepted none h.
      ends-done cause before after none ((worth-form (Migrate model table target) cause files before after told h).not_refused m t
      (record { bytes = bytes; given = given; says = says; file = there; accepted = accepted }));
  drill = λ number cause files before after told none h. ends-well cause before after none (worth-form (Drill number) cause files before after told h).not_refused;
}
