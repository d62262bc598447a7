use Rattle.std.proofs.Common.{refl, subst, sym, unsigned_abs}
use Rattle.acas_frac.specs.Fraction.{Fraction}
use Rattle.acas_flight.specs.State.{IsInBox}
use Rattle.acas_areas.specs.View.{times_of}
use Rattle.acas_rulings.specs.declared.flight.Witness.{Witness}
use Rattle.acas_rulings.specs.Boxes.{audited}
use Rattle.acas_rulings.specs.Rulings.{IsReported, IsWitnessOfBox}
use Rattle.acas_witness.proofs.Showing.{reported_box}
use Rattle.acas_witness.proofs.verdicts.box_verdict.Goals as goal

pub of_box-requires-clause-during : goal.of_box-requires-clause-during
of_box-requires-clause-during c =
    (c.window_of_box-window.ensures.exact (Fraction.den c.in-Some.flight.time) (unsigned_abs (Fraction.num c.in-Some.flight.time)) c.in-Some.ensures.time.some).0 c.in-Some.ensures.during

pub returns-in-None : goal.returns-in-None
returns-in-None c = c.in-None.ensures.in_box (audited c.args.area.now).states refl c.window_of_box-window.ensures

pub returns-in-Some : goal.returns-in-Some
returns-in-Some c =
    let m = c.args.model.now in
    let b = audited c.args.area.now in
    subst (λ (w : Witness). IsReported m b.advisory (IsInBox b.states) (IsWitnessOfBox m b) w) (sym c.opened.ensures.same)
    (reported_box m b (times_of c.window_of_box-window.result) c.in-Some.flight c.of_box.result
    c.window_of_box-window.ensures (c.in-Some.ensures.in_box b.states refl c.window_of_box-window.ensures)
    c.in-Some.ensures.rule c.in-Some.ensures.contact c.of_box.ensures.flight c.of_box.ensures.rule c.of_box.ensures.contact
    c.opened.ensures.range c.opened.ensures.speed)
