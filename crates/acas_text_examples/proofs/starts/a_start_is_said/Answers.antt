use Rattle.std.proofs.Common.{pos, refl}
use Rattle.acas_text_examples.proofs.starts.a_start_is_said.Goals as goal

pub returns-clause-said : goal.returns-clause-said
returns-clause-said c = record { advisory = refl; range = refl; closing = refl; feet = pos 101; altitude = refl; ticks = refl; own = refl; intruder = refl }
