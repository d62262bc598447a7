use Rattle.std.proofs.Common.{refl, arith, rules}
use Rattle.acas_cell_examples.specs.Tabled.{under_climb}
use Rattle.acas_cell_examples.proofs.replays.states_are_audited_or_not.Goals as goal

pub returns-clause-audited : goal.returns-clause-audited
returns-clause-audited c = record { name = under_climb 0 0 0; present = refl; advice_is = refl; holds = search rules; ruled_on = (0, omega arith, refl) }
