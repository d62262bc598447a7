use Rattle.std.proofs.Common.{subst, sym}
use Rattle.acas_flight_lemmas.proofs.Endangered.{endangered_cell, endangered_box}
use Rattle.acas_flight.specs.Response.{demand_of}
use Rattle.acas_flight.specs.Clear.{Area, IsEndangeredDuring}
use Rattle.acas_areas.specs.View.{times_of}
use Rattle.acas_witness.proofs.contact.contact_in.Goals as goal

pub returns-then-is_clear-clause-exact : goal.returns-then-is_clear-clause-exact
returns-then-is_clear-clause-exact c =
    (λ _. c.is_clear.ensures.safe c.if-is_clear.true, λ _. c.is_clear.ensures.exact.0 c.if-is_clear.true)

pub returns-then-is_clear-clause-cell : goal.returns-then-is_clear-clause-cell
returns-then-is_clear-clause-cell c = λ n i j k e w d.
    let m = c.args.model.now in
    c.is_clear.ensures.safe c.if-is_clear.true
    (subst (λ (x : Area). IsEndangeredDuring m.half (demand_of m c.args.advisory) x (times_of c.args.window.now)) (sym e) ((endangered_cell m n i j k c.args.advisory (times_of c.args.window.now) w).0 d))

pub returns-then-is_clear-clause-in_box : goal.returns-then-is_clear-clause-in_box
returns-then-is_clear-clause-in_box c = λ box e w d.
    let m = c.args.model.now in
    c.is_clear.ensures.safe c.if-is_clear.true
    (subst (λ (x : Area). IsEndangeredDuring m.half (demand_of m c.args.advisory) x (times_of c.args.window.now)) (sym e) ((endangered_box m box c.args.advisory (times_of c.args.window.now) w).0 d))

pub returns-else-is_clear-clause-cell : goal.returns-else-is_clear-clause-cell
returns-else-is_clear-clause-cell c = λ n i j k e w.
    let m = c.args.model.now in
    (endangered_cell m n i j k c.args.advisory (times_of c.args.window.now) w).1
    (subst (λ (x : Area). IsEndangeredDuring m.half (demand_of m c.args.advisory) x (times_of c.args.window.now)) e c.find.ensures.endangered)

pub returns-else-is_clear-clause-in_box : goal.returns-else-is_clear-clause-in_box
returns-else-is_clear-clause-in_box c = λ box e w.
    let m = c.args.model.now in
    (endangered_box m box c.args.advisory (times_of c.args.window.now) w).1
    (subst (λ (x : Area). IsEndangeredDuring m.half (demand_of m c.args.advisory) x (times_of c.args.window.now)) e c.find.ensures.endangered)
