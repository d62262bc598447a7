use Rattle.std.proofs.Common.{true, false}
use Rattle.acas_witness_search.proofs.Chains.{tested}
use Rattle.acas_meeting_search.specs.Courses.{point_of, value_at}
use Rattle.acas_meeting_search.specs.Turns.{value_in}
use Rattle.acas_meeting_search.proofs.Chains.{all_some, gentle_of}
use Rattle.acas_meeting_search.proofs.search.hit.Goals as goal

pub halve-requires-clause-last_is_not : goal.halve-requires-clause-last_is_not
halve-requires-clause-last_is_not c =
    let p = c.args.pursuit.now in
    tested p.survey.half (value_in c.at.result) (value_at p (point_of p c.args.stage c.last.result)) c.is_below.result false
    c.at.ensures.some (all_some p c.args.stage c.last.result) c.at.ensures.value c.is_below.ensures c.if-is_below.false

pub halve-requires-clause-dens : goal.halve-requires-clause-dens
halve-requires-clause-dens c = λ i h. all_some c.args.pursuit.now c.args.stage i

pub halve-requires-clause-steps : goal.halve-requires-clause-steps
halve-requires-clause-steps c = λ i h. gentle_of c.args.pursuit.now c.args.stage i

pub returns-then-is_below : goal.returns-then-is_below
returns-then-is_below c =
    let p = c.args.pursuit.now in
    record {
      last = c.last.result;
      is_last = c.last.ensures;
      below = tested p.survey.half (value_in c.at.result) (value_at p (point_of p c.args.stage c.last.result)) c.is_below.result true
          c.at.ensures.some (all_some p c.args.stage c.last.result) c.at.ensures.value c.is_below.ensures c.if-is_below.true;
    }

pub returns-else-is_below : goal.returns-else-is_below
returns-else-is_below c =
    let p = c.args.pursuit.now in
    record {
      last = c.last.result;
      at_end = c.halve.ensures.end.0;
      is_last = c.last.ensures;
      not_below = tested p.survey.half (value_in c.at.result) (value_at p (point_of p c.args.stage c.last.result)) c.is_below.result false
          c.at.ensures.some (all_some p c.args.stage c.last.result) c.at.ensures.value c.is_below.ensures c.if-is_below.false;
      halves = c.halve.ensures.end.1;
      point = c.halve.ensures.end.3;
    }
