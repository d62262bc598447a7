use Rattle.acas_cli_words.specs.Words.{Safeable}
use Rattle.acas_run_laws.proofs.NotRefused.{worth-form}
use Rattle.acas_run_laws.proofs.reports.safeable_prints_what_is_found.Goals as goal

pub returns : goal.returns
returns c = λ model table files cause before after told may h.
    let r = (worth-form (Safeable model table) cause files before after told h).printed may in
    (r.m, r.advices, r.found, r.advised, r.outlooks, r.printed, r.kept, r.unshown)
