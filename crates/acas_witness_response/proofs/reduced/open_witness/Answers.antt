use Rattle.std.proofs.Common.{◌∷◌}
use Rattle.std.proofs.lemmas.List.Elements.{All-cons}
use Rattle.acas_frac.specs.Fraction.{IsReduced}
use Rattle.acas_rulings.specs.Printed.{flight_fractions}
use Rattle.acas_witness_response.proofs.reduced.open_witness.Goals as goal

pub returns : goal.returns
returns c =
    let w = c.args.witness.now in
    All-cons IsReduced w.range (w.speed ∷ flight_fractions w.flight) c.open.ensures (All-cons IsReduced w.speed (flight_fractions w.flight) c.open-2.ensures c.open_flight.ensures)
