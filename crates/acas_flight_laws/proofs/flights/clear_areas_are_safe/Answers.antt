use Rattle.acas_flight_lemmas.proofs.Dangers.{clear_cell_is_safe, clear_box_is_safe}
use Rattle.acas_flight_lemmas.proofs.Safe as safe
use Rattle.acas_flight_laws.proofs.flights.clear_areas_are_safe.Goals as goal

pub returns : goal.returns
returns c = record { area = safe.clear_areas_are_safe; cells = clear_cell_is_safe; boxes = clear_box_is_safe }
