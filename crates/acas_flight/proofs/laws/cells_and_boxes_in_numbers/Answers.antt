use Rattle.acas_flight.proofs.laws.cells_and_boxes_in_numbers.Goals as goal

pub returns : goal.returns
returns c = record {
  cells = λ m n i j k q s. (
    λ a. (a.away, a.altitude.0, a.altitude.1, a.own.0, a.own.1, a.intruder.0, a.intruder.1),
    λ b. record { away = b.0; altitude = (b.1, b.2); own = (b.3, b.4); intruder = (b.5, b.6) },
  );
  boxes = λ box q s. (
    λ a. (a.range.0, a.range.1, a.closing.0, a.closing.1, a.altitude.0, a.altitude.1, a.own.0, a.own.1, a.intruder.0, a.intruder.1),
    λ b. record { range = (b.0, b.1); closing = (b.2, b.3); altitude = (b.4, b.5); own = (b.6, b.7); intruder = (b.8, b.9) },
  );
}
