use Rattle.std.proofs.Common.{true, false}
use Rattle.acas_areas.specs.Flights.{value}
use Rattle.acas_areas.specs.Search.{unit}
use Rattle.acas_witness_search.specs.Surveys.{search_of, pass_of}
use Rattle.acas_witness_plans.specs.Plans.{clearance_of}
use Rattle.acas_witness_search.proofs.Chains.{search_fine, gentle_of, all_some, tested}
use Rattle.acas_witness_search.proofs.search.hit.Goals as goal

pub first_from-requires-clause-last_is_not : goal.first_from-requires-clause-last_is_not
first_from-requires-clause-last_is_not c =
    let s = search_of c.args.survey.now in
    tested c.args.survey.now.half (clearance_of c.at-last.result.climb c.at-last.result.intruder_end) (value (unit s) ((pass_of c.args.quantity s).point c.last.result)) c.is_below.result false
    c.at-last.ensures.some (all_some c.args.quantity s (search_fine c.args.survey.now) c.last.result) c.at-last.ensures.value c.is_below.ensures c.if-is_below.false

pub halve-requires-clause-last_is_not : goal.halve-requires-clause-last_is_not
halve-requires-clause-last_is_not c =
    let s = search_of c.args.survey.now in
    tested c.args.survey.now.half (clearance_of c.at-last.result.climb c.at-last.result.intruder_end) (value (unit s) ((pass_of c.args.quantity s).point c.last.result)) c.is_below.result false
    c.at-last.ensures.some (all_some c.args.quantity s (search_fine c.args.survey.now) c.last.result) c.at-last.ensures.value c.is_below.ensures c.if-is_below.false

pub halve-requires-clause-dens : goal.halve-requires-clause-dens
halve-requires-clause-dens c = λ i h. all_some c.args.quantity (search_of c.args.survey.now) (search_fine c.args.survey.now) i

pub halve-requires-clause-steps : goal.halve-requires-clause-steps
halve-requires-clause-steps c = λ i h. gentle_of c.args.quantity (search_of c.args.survey.now) (search_fine c.args.survey.now) i

pub returns-then-is_below : goal.returns-then-is_below
returns-then-is_below c =
    let s = search_of c.args.survey.now in
    record {
      last = c.last.result;
      is_last = c.last.ensures;
      below = tested c.args.survey.now.half (clearance_of c.at-last.result.climb c.at-last.result.intruder_end) (value (unit s) ((pass_of c.args.quantity s).point c.last.result)) c.is_below.result true
          c.at-last.ensures.some (all_some c.args.quantity s (search_fine c.args.survey.now) c.last.result) c.at-last.ensures.value c.is_below.ensures c.if-is_below.true;
    }

pub returns-in-Some : goal.returns-in-Some
returns-in-Some c =
    let s = search_of c.args.survey.now in
    record {
      last = c.last.result;
      at_end = c.first_from.ensures.end.0;
      is_last = c.last.ensures;
      not_below = tested c.args.survey.now.half (clearance_of c.at-last.result.climb c.at-last.result.intruder_end) (value (unit s) ((pass_of c.args.quantity s).point c.last.result)) c.is_below.result false
          c.at-last.ensures.some (all_some c.args.quantity s (search_fine c.args.survey.now) c.last.result) c.at-last.ensures.value c.is_below.ensures c.if-is_below.false;
      halves = c.first_from.ensures.end.1;
      point = (c.first_from.ensures.end.2, c.first_from.ensures.flown);
    }

pub returns-in-None : goal.returns-in-None
returns-in-None c =
    let s = search_of c.args.survey.now in
    record {
      last = c.last.result;
      at_end = c.halve.ensures.end.0;
      is_last = c.last.ensures;
      not_below = tested c.args.survey.now.half (clearance_of c.at-last.result.climb c.at-last.result.intruder_end) (value (unit s) ((pass_of c.args.quantity s).point c.last.result)) c.is_below.result false
          c.at-last.ensures.some (all_some c.args.quantity s (search_fine c.args.survey.now) c.last.result) c.at-last.ensures.value c.is_below.ensures c.if-is_below.false;
      halves = c.halve.ensures.end.1;
      point = c.halve.ensures.end.3;
    }
