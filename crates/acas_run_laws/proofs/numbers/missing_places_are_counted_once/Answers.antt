use Rattle.acas_run_laws.proofs.MissingPlaces.{missing_in-between, missing_in-map, missing_in-replicate}
use Rattle.acas_run_laws.proofs.numbers.missing_places_are_counted_once.Goals as goal

pub returns : goal.returns
returns c = record { none_written = missing_in-replicate; all_written = missing_in-map; one_missing = missing_in-between }
