use Rattle.std.proofs.Common.{◌≡◌, pos, neg_ℤ, ◌-ℤ◌, unsigned_abs, to_z, of_z, arith}
use Rattle.std.specs.Int.{w64}
use Rattle.std.proofs.lemmas.Int.{ints}
use Rattle.acas_areas.specs.Search.{grain}
use Rattle.acas_witness_search.specs.Surveys.{search_of}
use Rattle.acas_witness_plans.proofs.Ways.{exact_last, eighth_some, eighths_way}
use Rattle.acas_rulings.specs.Hunt.{goal_pass}
use Rattle.acas_meeting_search.specs.View.{hunt_of}
use Rattle.acas_meeting_search.proofs.Pursuits.{grain_some}
use Rattle.acas_meeting_search.proofs.pursuit.Pursuit.last_goal.Goals as goal

pub returns : goal.returns
returns c =
    let p = c.args.self.now in
    let g : to_z w64 (of_z w64 c.args.self.now.may.rate) ≡ pos (unsigned_abs c.args.self.now.may.rate) = omega (arith, ints, p.may.within.least_rate, p.may.within.greatest_rate) in
    let l : to_z w64 (of_z w64 (pos 0 -ℤ pos (unsigned_abs c.args.self.now.may.rate))) ≡ neg_ℤ (pos (unsigned_abs c.args.self.now.may.rate)) = omega (arith, ints, p.may.within.least_rate, p.may.within.greatest_rate) in
    exact_last (goal_pass (hunt_of p)) c.rate_steps_between.result
    (eighths_way (pos (unsigned_abs p.may.rate)) (neg_ℤ (pos (unsigned_abs p.may.rate))) (grain (search_of p.survey)) c.rate_steps_between.result (rw (g, l) at c.rate_steps_between.ensures))
    (eighth_some (grain (search_of p.survey)) (grain_some p))
