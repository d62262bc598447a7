use Rattle.acas_flight_lemmas.proofs.Endangered.{endangered_cell, endangered_box}
use Rattle.acas_flight_laws.proofs.flights.danger_is_in_the_window.Goals as goal

pub returns : goal.returns
returns c = record { cells = endangered_cell; boxes = endangered_box }
