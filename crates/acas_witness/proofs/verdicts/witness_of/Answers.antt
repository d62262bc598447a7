use Rattle.std.proofs.Common.{subst}
use Rattle.acas_flight.specs.Response.{demand_of}
use Rattle.acas_flight.specs.Clear.{Area, IsClear}
use Rattle.acas_flight_lemmas.proofs.Dangers.{clear_cell_is_safe}
use Rattle.acas_areas.specs.View.{times_of}
use Rattle.acas_witness.proofs.verdicts.witness_of.Goals as goal

pub witness_in-requires-clause-not_clear : goal.witness_in-requires-clause-not_clear
witness_in-requires-clause-not_clear c =
    let m = c.args.model.now in
    let name = c.args.name.now in
    let w = times_of c.states_of-window.result.1 in
    λ clear. clear_cell_is_safe m name.n name.i name.j name.k name.advice w c.grid.ensures.valid c.requires.advice c.states_of-window.ensures.window
    (subst (λ (x : Area). IsClear m.half (demand_of m name.advice) x w) c.states_of-window.ensures.area clear) c.requires.danger
