use Rattle.std.proofs.Common.{pos}
use Rattle.acas_spec.specs.Model.{choices_at}
use Rattle.acas_flight.specs.Clear.{IsClear}
use Rattle.acas_flight.specs.Response.{demand_of}
use Rattle.acas_areas.specs.View.{area_of, times_of}
use Rattle.acas_safeable.proofs.Firsts.{IsPassed}
use Rattle.acas_safeable.proofs.finding.first_clear.Given as goal

-- the area is clear under none of the choices so far
abbrev pub invariant-loop-choice : goal.invariant-loop-choice
invariant-loop-choice l = IsPassed (λ a. IsClear l.model.half (demand_of l.model a) (area_of l.area) (times_of l.window)) (choices_at l.model 0) (record { advisory = 0; cost = pos 0 }) l.choice-index
