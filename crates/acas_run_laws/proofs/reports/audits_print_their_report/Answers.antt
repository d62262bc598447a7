use Rattle.acas_cli_words.specs.Words.{Audit}
use Rattle.acas_run_laws.proofs.NotRefused.{worth-form}
use Rattle.acas_run_laws.proofs.reports.audits_print_their_report.Goals as goal

pub returns : goal.returns
returns c = λ model table which files cause before after told may h.
    let r = (worth-form (Audit model table which) cause files before after told h).printed may in
    (r.m, r.advices, r.counts, r.text, r.advised, r.report, r.printed, r.kept, r.reported)
