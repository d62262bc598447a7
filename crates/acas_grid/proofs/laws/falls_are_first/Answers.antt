use Rattle.acas_grid.proofs.Falls.{fall_is_found, found_is_fall, none_is_rising, rising_is_none}
use Rattle.acas_grid.proofs.laws.falls_are_first.Goals as goal

pub returns-clause-found : goal.returns-clause-found
returns-clause-found c values before = (found_is_fall values before, fall_is_found values before)

pub returns-clause-none : goal.returns-clause-none
returns-clause-none c values = (none_is_rising values, rising_is_none values)
