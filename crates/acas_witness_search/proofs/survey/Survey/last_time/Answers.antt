use Rattle.acas_witness_plans.proofs.Ways.{last_time_of}
use Rattle.acas_witness_search.proofs.survey.Survey.last_time.Goals as goal

pub returns : goal.returns
returns c =
    let s = c.args.self.now in
    let b = last_time_of s.low s.high c.end_parts-a.result.0 c.end_parts-a.result.1 c.end_parts-c.result.0 c.end_parts-c.result.1 c.time_steps_between.result c.end_parts-a.ensures.num c.end_parts-a.ensures.den c.end_parts-c.ensures.num c.end_parts-c.ensures.den c.time_steps_between.ensures.reaches c.time_steps_between.ensures.first in
    record { reaches = b.0; first = b.1 }
