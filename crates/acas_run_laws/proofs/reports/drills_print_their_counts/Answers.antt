use Rattle.acas_cli_words.specs.Words.{Drill}
use Rattle.acas_run_laws.proofs.NotRefused.{worth-form}
use Rattle.acas_run_laws.proofs.reports.drills_print_their_counts.Goals as goal

pub returns : goal.returns
returns c = record {
  table = λ number files cause before after told may h.
      let r = (worth-form (Drill number) cause files before after told h).printed may in
      (r.t, r.within, r.bounds, r.tight, r.accepted);
  report = λ number files cause before after told may h.
      let r = (worth-form (Drill number) cause files before after told h).printed may in
      (r.t, r.advices, r.counts, r.counted.text, r.bounds, r.tabled.each, r.counted.report, r.printed, r.kept, r.reported);
}
