use Rattle.std.proofs.Common.{subst, sym, unsigned_abs}
use Rattle.acas_frac.specs.Fraction.{Fraction}
use Rattle.acas_flight.specs.Response.{demand_of}
use Rattle.acas_flight.specs.State.{IsInCell}
use Rattle.acas_flight.specs.Clear.{Area, IsEndangeredDuring}
use Rattle.acas_flight_lemmas.proofs.Endangered.{endangered_cell}
use Rattle.acas_areas.specs.View.{area_of, times_of}
use Rattle.acas_rulings.specs.declared.flight.Witness.{Witness}
use Rattle.acas_rulings.specs.Rulings.{IsReported, IsWitnessOfCell}
use Rattle.acas_witness.proofs.Showing.{reported_cell}
use Rattle.acas_witness.proofs.verdicts.witness_in.Goals as goal

pub of_cell-requires-clause-during : goal.of_cell-requires-clause-during
of_cell-requires-clause-during c =
    (c.requires.window.exact (Fraction.den c.find-flight.result.time) (unsigned_abs (Fraction.num c.find-flight.result.time)) c.find-flight.ensures.time.some).0 c.find-flight.ensures.during

pub returns : goal.returns
returns c =
    let m = c.args.model.now in
    let name = c.args.name.now in
    let w = times_of c.args.window.now in
    subst (λ (x : Witness). IsReported m name.advice (IsInCell m name.n name.i name.j name.k) (IsWitnessOfCell m name) x) (sym c.opened.ensures.same)
    (reported_cell m name (area_of c.args.area.now) w c.find-flight.result c.of_cell.result
    c.requires.area c.requires.window
    ((endangered_cell m name.n name.i name.j name.k name.advice w c.requires.window).1
    (subst (λ (x : Area). IsEndangeredDuring m.half (demand_of m name.advice) x w) c.requires.area c.find-flight.ensures.endangered))
    c.find-flight.ensures.rule c.find-flight.ensures.contact c.of_cell.ensures.flight c.of_cell.ensures.rule c.of_cell.ensures.contact
    c.opened.ensures.range c.opened.ensures.speed)
