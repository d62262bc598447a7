use Rattle.std.proofs.Common.{true≢false, subst, sym, ◌∙◌}
use Rattle.acas_flight.specs.Response.{demand_of}
use Rattle.acas_flight.specs.Clear.{Area, IsEndangeredDuring}
use Rattle.acas_flight_lemmas.proofs.Endangered.{endangered_cell}
use Rattle.acas_areas.specs.View.{times_of}
use Rattle.acas_witness.proofs.verdicts.verdict.Goals as goal

pub witness_in-requires-clause-not_clear : goal.witness_in-requires-clause-not_clear
witness_in-requires-clause-not_clear c = λ clear. true≢false (sym (c.is_clear.ensures.exact.1 clear) ∙ c.if-is_clear.false)

pub returns-then-is_clear : goal.returns-then-is_clear
returns-then-is_clear c =
    let m = c.args.model.now in
    let name = c.args.name.now in
    let w = times_of c.states_of-window.result.1 in
    λ danger. c.is_clear.ensures.safe c.if-is_clear.true
    (subst (λ (x : Area). IsEndangeredDuring m.half (demand_of m name.advice) x w) (sym c.states_of-window.ensures.area)
    ((endangered_cell m name.n name.i name.j name.k name.advice w c.states_of-window.ensures.window).0 danger))
