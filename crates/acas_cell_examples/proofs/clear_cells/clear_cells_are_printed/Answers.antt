use Rattle.std.proofs.Common.{refl}
use Rattle.std.specs.Fmt.{digits}
use Rattle.acas_safeable.specs.SafeableText.{cell_line, counts_text, safeable_text}
use Rattle.acas_cell_examples.proofs.clear_cells.clear_cells_are_printed.Goals as goal

pub returns-clause-named : goal.returns-clause-named
unfolding cell_line digits
returns-clause-named c = refl

pub returns-clause-open : goal.returns-clause-open
unfolding cell_line digits
returns-clause-open c = refl

pub returns-clause-line : goal.returns-clause-line
unfolding cell_line digits
returns-clause-line c = refl

pub returns-clause-counts_line : goal.returns-clause-counts_line
unfolding counts_text digits
returns-clause-counts_line c = refl

pub returns-clause-text : goal.returns-clause-text
unfolding safeable_text cell_line counts_text digits
returns-clause-text c = refl
