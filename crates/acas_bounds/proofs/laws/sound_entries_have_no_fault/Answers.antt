use Rattle.acas_bounds.proofs.Sound.{no_fault-is}
use Rattle.acas_bounds.proofs.laws.sound_entries_have_no_fault.Goals as goal

pub returns : goal.returns
returns c = no_fault-is
