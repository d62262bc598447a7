use Rattle.acas_areas.specs.Flights.{value}
use Rattle.acas_areas.specs.Passes.{at_low, at_high, between}
use Rattle.acas_areas.specs.Search.{unit, low_flight, high_flight}
use Rattle.acas_pass_lemmas.proofs.Somes.{low_some, high_some}
use Rattle.acas_pass_lemmas.proofs.Ends.{below_or_not}
use Rattle.acas_witness_search.specs.Surveys.{search_of}
use Rattle.acas_witness_plans.specs.Plans.{clearance_of}
use Rattle.acas_witness_search.proofs.Chains.{search_fine}
use Rattle.acas_witness_lemmas.proofs.Meetings.{above_of, within_of, not_within_of}
use Rattle.acas_witness.proofs.finding.meet.Goals as goal

pub returns-then-is_in_contact-clause-found : goal.returns-then-is_in_contact-clause-found
returns-then-is_in_contact-clause-found c =
    let s = search_of c.args.survey.now in
    record {
      flight = low_flight s;
      found = at_low (within_of c.args.survey.now.half (clearance_of c.low_outcome-lowest.result.climb c.low_outcome-lowest.result.intruder_end) (value (unit s) (low_flight s)) c.is_in_contact.result c.low_outcome-lowest.ensures.some c.low_outcome-lowest.ensures.same c.is_in_contact.ensures c.if-is_in_contact.true);
      point = c.low_outcome-lowest.ensures.point;
    }

pub returns-then-is_in_contact-2-clause-found : goal.returns-then-is_in_contact-2-clause-found
returns-then-is_in_contact-2-clause-found c =
    let s = search_of c.args.survey.now in
    record {
      flight = high_flight s;
      found = at_high
          (not_within_of c.args.survey.now.half (clearance_of c.low_outcome-lowest.result.climb c.low_outcome-lowest.result.intruder_end) (value (unit s) (low_flight s)) c.is_in_contact.result (low_some s (search_fine c.args.survey.now)) c.low_outcome-lowest.ensures.same c.is_in_contact.ensures c.if-is_in_contact.false)
          (within_of c.args.survey.now.half (clearance_of c.high_outcome-highest.result.climb c.high_outcome-highest.result.intruder_end) (value (unit s) (high_flight s)) c.is_in_contact-2.result c.high_outcome-highest.ensures.some c.high_outcome-highest.ensures.same c.is_in_contact-2.ensures c.if-is_in_contact-2.true);
      point = c.high_outcome-highest.ensures.point;
    }

pub through-requires-clause-first : goal.through-requires-clause-first
through-requires-clause-first c =
    let s = search_of c.args.survey.now in
    below_or_not c.args.survey.now.half (value (unit s) (low_flight s)) c.requires.low
    (not_within_of c.args.survey.now.half (clearance_of c.low_outcome-lowest.result.climb c.low_outcome-lowest.result.intruder_end) (value (unit s) (low_flight s)) c.is_in_contact.result (low_some s (search_fine c.args.survey.now)) c.low_outcome-lowest.ensures.same c.is_in_contact.ensures c.if-is_in_contact.false)

pub through-requires-clause-last : goal.through-requires-clause-last
through-requires-clause-last c =
    let s = search_of c.args.survey.now in
    above_of c.args.survey.now.half (value (unit s) (high_flight s)) c.requires.high

pub returns-clause-found : goal.returns-clause-found
returns-clause-found c =
    let s = search_of c.args.survey.now in
    record {
      flight = c.through.ensures.flight;
      found = between c.through.ensures.flight
          (not_within_of c.args.survey.now.half (clearance_of c.low_outcome-lowest.result.climb c.low_outcome-lowest.result.intruder_end) (value (unit s) (low_flight s)) c.is_in_contact.result (low_some s (search_fine c.args.survey.now)) c.low_outcome-lowest.ensures.same c.is_in_contact.ensures c.if-is_in_contact.false)
          (not_within_of c.args.survey.now.half (clearance_of c.high_outcome-highest.result.climb c.high_outcome-highest.result.intruder_end) (value (unit s) (high_flight s)) c.is_in_contact-2.result (high_some s (search_fine c.args.survey.now)) c.high_outcome-highest.ensures.same c.is_in_contact-2.ensures c.if-is_in_contact-2.false)
          c.through.ensures.ends;
      point = c.through.ensures.point.0;
    }

pub returns-then-is_in_contact-clause-flown : goal.returns-then-is_in_contact-clause-flown
returns-then-is_in_contact-clause-flown c = c.low_outcome-lowest.ensures.flown

pub returns-then-is_in_contact-2-clause-flown : goal.returns-then-is_in_contact-2-clause-flown
returns-then-is_in_contact-2-clause-flown c = c.high_outcome-highest.ensures.flown

pub returns-clause-flown : goal.returns-clause-flown
returns-clause-flown c = c.through.ensures.point.1
