use Rattle.std.proofs.Common.{◌∙◌, ap}
use Rattle.acas_areas.specs.Passes.{at_high, at_low, between}
use Rattle.acas_areas.specs.Value.{is_below}
use Rattle.acas_pass_lemmas.proofs.Ends.{below_or_not}
use Rattle.acas_rulings.specs.Hunt.{high_course, low_course}
use Rattle.acas_hunt_lemmas.proofs.Joins.{time-start}
use Rattle.acas_hunt_lemmas.proofs.Somes.{high_some, low_some}
use Rattle.acas_witness_lemmas.proofs.Meetings.{above_of, within_of, not_within_of}
use Rattle.acas_meeting_search.specs.Courses.{value_at}
use Rattle.acas_meeting_search.specs.Turns.{value_in}
use Rattle.acas_meeting_search.specs.View.{hunt_of}
use Rattle.acas_meeting_search.proofs.Pursuits.{hunt_fine}
use Rattle.acas_meeting_search.proofs.search.meet.Goals as goal

pub returns-then-is_in_contact : goal.returns-then-is_in_contact
returns-then-is_in_contact c =
    let p = c.args.pursuit.now in
    let l = c.lowest-low in
    record {
      course = low_course (hunt_of p);
      found = at_low (within_of p.survey.half (value_in l.result) (value_at p (low_course (hunt_of p))) c.is_in_contact.result l.ensures.some l.ensures.same c.is_in_contact.ensures c.if-is_in_contact.true);
      flown = l.ensures.flown;
    }

pub returns-then-is_in_contact-2 : goal.returns-then-is_in_contact-2
returns-then-is_in_contact-2 c =
    let p = c.args.pursuit.now in
    let l = c.lowest-low in
    let u = c.highest-high in
    record {
      course = high_course (hunt_of p);
      found = at_high
          (not_within_of p.survey.half (value_in l.result) (value_at p (low_course (hunt_of p))) c.is_in_contact.result (low_some (hunt_of p) (hunt_fine p)) l.ensures.same c.is_in_contact.ensures c.if-is_in_contact.false)
          (within_of p.survey.half (value_in u.result) (value_at p (high_course (hunt_of p))) c.is_in_contact-2.result u.ensures.some u.ensures.same c.is_in_contact-2.ensures c.if-is_in_contact-2.true);
      flown = u.ensures.flown;
    }

pub search_from-requires-clause-first : goal.search_from-requires-clause-first
search_from-requires-clause-first c =
    let p = c.args.pursuit.now in
    let l = c.lowest-low in
    ap (λ x. is_below p.survey.half (value_at p x)) (time-start (hunt_of p))
    ∙ below_or_not p.survey.half (value_at p (low_course (hunt_of p))) c.requires.low
    (not_within_of p.survey.half (value_in l.result) (value_at p (low_course (hunt_of p))) c.is_in_contact.result (low_some (hunt_of p) (hunt_fine p)) l.ensures.same c.is_in_contact.ensures c.if-is_in_contact.false)

pub search_from-requires-clause-last : goal.search_from-requires-clause-last
search_from-requires-clause-last c =
    let p = c.args.pursuit.now in
    above_of p.survey.half (value_at p (high_course (hunt_of p))) c.requires.high

pub returns : goal.returns
returns c =
    let p = c.args.pursuit.now in
    let l = c.lowest-low in
    let u = c.highest-high in
    let end = c.search_from.ensures in
    record {
      course = end.flight;
      found = between end.flight
          (not_within_of p.survey.half (value_in l.result) (value_at p (low_course (hunt_of p))) c.is_in_contact.result (low_some (hunt_of p) (hunt_fine p)) l.ensures.same c.is_in_contact.ensures c.if-is_in_contact.false)
          (not_within_of p.survey.half (value_in u.result) (value_at p (high_course (hunt_of p))) c.is_in_contact-2.result (high_some (hunt_of p) (hunt_fine p)) u.ensures.same c.is_in_contact-2.ensures c.if-is_in_contact-2.false)
          end.ends;
      flown = end.point;
    }
