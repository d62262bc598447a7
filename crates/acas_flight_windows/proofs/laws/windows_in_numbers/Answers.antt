use Rattle.std.proofs.Common.{refl, arith, pos}
use Rattle.acas_flight_windows.proofs.Windows.{window_of_cell}
use Rattle.acas_flight_windows.proofs.BoxWindows.{window_of_box}
use Rattle.acas_flight_windows.proofs.laws.windows_in_numbers.Goals as goal

pub returns : goal.returns
returns c = record {
  cells = λ m n q t f p. window_of_cell m n q t p (omega (arith, f.some_closing)) f.closing;
  boxes = λ radius near far slow fast q t p r s. window_of_box radius (record { least = pos near; greatest = pos far }) (record { least = pos slow; greatest = pos fast }) near far slow fast q t refl refl refl refl p r s;
}
