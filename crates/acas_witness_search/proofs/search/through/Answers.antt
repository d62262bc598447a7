use Rattle.std.proofs.Common.{ap, ◌∙◌}
use Rattle.acas_areas.specs.Value.{is_below}
use Rattle.acas_areas.specs.Flights.{value}
use Rattle.acas_areas.specs.Search.{unit}
use Rattle.acas_pass_lemmas.proofs.Joins.{time-start}
use Rattle.acas_witness_search.specs.Surveys.{search_of}
use Rattle.acas_witness_search.proofs.search.through.Goals as goal

pub search_from-requires-clause-first : goal.search_from-requires-clause-first
search_from-requires-clause-first c = ap (λ x. is_below c.args.survey.now.half (value (unit (search_of c.args.survey.now)) x)) (time-start (search_of c.args.survey.now)) ∙ c.requires.first
