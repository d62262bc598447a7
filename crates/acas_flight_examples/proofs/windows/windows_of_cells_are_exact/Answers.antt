use Rattle.std.proofs.Common.{ℕ, ◌+◌, ◌*◌, ◌≤◌, ◌<◌, ◌↔◌, arith}
use Rattle.std.proofs.lemmas.Int.{ints}
use Rattle.acas_flight.specs.Window.{IsContactTimeOfCell}
use Rattle.acas_flight_windows.proofs.Windows.{window_of_cell}
use Rattle.acas_flight_examples.specs.Flown.{small}
use Rattle.acas_flight_examples.proofs.windows.windows_of_cells_are_exact.Goals as goal

-- the times of contact, by the law
in_contact : (q t : ℕ) → 0 < q → ((1 * q ≤ t) × (250 * t ≤ 250 * ((1 + 1) * q) + 2 * 500 * q)) ↔ IsContactTimeOfCell small 1 q t
in_contact q t p = window_of_cell small 1 q t p (omega arith) (omega arith)

pub returns : goal.returns
returns c = record {
  exact = λ q t p.
      let law = in_contact q t p in (
        λ during. law.0 (omega (arith, ints, during.0), omega (arith, ints, during.1)),
        λ contact. let within = law.1 contact in (omega (arith, ints, within.0), omega (arith, ints, within.1)),
      );
}
