use Rattle.std.proofs.Common.{◌≡◌, Bool, true, false, arith}
use Rattle.acas_areas.specs.Flights.{value}
use Rattle.acas_areas.specs.Search.{unit}
use Rattle.acas_witness_plans.specs.Plans.{clearance_of}
use Rattle.acas_witness_search.specs.Surveys.{below_in, search_of, pass_of}
use Rattle.acas_witness_search.proofs.Chains.{search_fine, all_some, tested}
use Rattle.acas_witness_search.proofs.Rises.{first_not_below, below_in_before}
use Rattle.acas_witness_search.proofs.first.first_from.Goals as goal
use Rattle.acas_witness_search.proofs.first.first_from.Goals.{then-is_below, else-is_below}

pub loop-high-preserved : goal.loop-high-preserved
loop-high-preserved c =
    let survey = c.args.pass.now.survey in
    let quantity = c.args.pass.now.quantity in
    let s = search_of survey in
    let middle = c.between-middle.result in
    let within = c.loop-high.invariant in
    let flight = c.at-flight.result in
    let known : (t : Bool) → c.is_below.result ≡ t → below_in survey quantity middle ≡ t =
    λ t e. tested survey.half (clearance_of flight.climb flight.intruder_end) (value (unit s) ((pass_of quantity s).point middle)) c.is_below.result t
    c.at-flight.ensures.some (all_some quantity s (search_fine survey) middle) c.at-flight.ensures.value c.is_below.ensures e in
    elim c.if-is_below.branch [
      | then-is_below w ↦ rw (w.low-is, w.high-is, w.found-is)
          (c.between-middle.ensures.before, within.1, known true w.if-is_below.true, within.3, within.4, within.5)
      | else-is_below w ↦ rw (w.low-is, w.high-is, w.found-is)
          (c.between-middle.ensures.after, omega (arith, within.1), within.2, known false w.if-is_below.false, c.at-flight.ensures.point.0, c.at-flight.ensures.point.1)
    ]

pub returns-clause-end : goal.returns-clause-end
returns-clause-end c =
    let survey = c.args.pass.now.survey in
    let quantity = c.args.pass.now.quantity in
    let within = c.loop-high.invariant in (
      c.loop-high.high,
      first_not_below (below_in survey quantity) c.args.pass.now.last c.loop-high.low c.loop-high.high (below_in_before survey quantity c.requires.rises)
          within.0 (omega (arith, within.0, c.loop-high-test.false)) within.1 within.2 within.3,
      within.4,
    )
