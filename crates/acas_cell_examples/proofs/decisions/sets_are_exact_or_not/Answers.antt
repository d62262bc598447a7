use Rattle.std.proofs.Common.{true≢false, refl, sym}
use Rattle.acas_cell_examples.proofs.Decided.{first_second}
use Rattle.acas_cell_examples.proofs.decisions.sets_are_exact_or_not.Goals as goal

pub returns-clause-reported : goal.returns-clause-reported
returns-clause-reported c = record {
  certified = (λ e. absurd (true≢false (sym e)), λ h. absurd (h.1 first_second));
  reported = (λ e. (refl, first_second), λ h. refl);
}

pub returns-clause-certified : goal.returns-clause-certified
returns-clause-certified c exact = true≢false (sym (exact.reported.1 (refl, first_second)))

pub returns-clause-certified_too : goal.returns-clause-certified_too
returns-clause-certified_too c exact = (exact.certified.0 refl).1 first_second

pub returns-clause-neither : goal.returns-clause-neither
returns-clause-neither c = record {
  certified = (λ e. absurd (true≢false (sym e)), λ h. absurd (true≢false (sym h.0)));
  reported = (λ e. absurd (true≢false (sym e)), λ h. absurd (true≢false (sym h.0)));
}

pub returns-clause-not_tabled : goal.returns-clause-not_tabled
returns-clause-not_tabled c exact = true≢false (sym (exact.reported.0 refl).0)
