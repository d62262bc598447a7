use Rattle.std.proofs.Common.{ap, ◌∙◌}
use Rattle.acas_process.proofs.Least.{first_at, least-le_at}
use Rattle.acas_process.proofs.laws.first_choices_of_the_least_value_win.Goals as goal

pub returns-clause-at_most : goal.returns-clause-at_most
returns-clause-at_most c = least-le_at

pub returns-clause-of_one : goal.returns-clause-of_one
returns-clause-of_one c f choices d some = let at = first_at f choices d some in (at.place, at.within, ap f at.stands ∙ at.value)

pub returns-clause-first : goal.returns-clause-first
returns-clause-first c f choices d some = let at = first_at f choices d some in (at.place, at.within, at.stands, at.value, at.before)
