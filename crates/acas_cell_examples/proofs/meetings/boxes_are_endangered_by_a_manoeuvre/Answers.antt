use Rattle.acas_cell_examples.proofs.Shown.{flown}
use Rattle.acas_cell_examples.proofs.ShownMeeting.{meets, start, turn}
use Rattle.acas_cell_examples.proofs.meetings.boxes_are_endangered_by_a_manoeuvre.Goals as goal

pub returns-clause-the_box : goal.returns-clause-the_box
returns-clause-the_box c = (1, start, flown, turn, meets)

pub returns-clause-not_certified : goal.returns-clause-not_certified
returns-clause-not_certified c none = none (1, start, flown, turn, meets)
