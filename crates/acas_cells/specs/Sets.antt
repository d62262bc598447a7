-- The members of a set of advices.
use Rattle.std.specs.Prelude.{ℕ, ◌/◌, ◌==◌, Bool}
use Rattle.std.specs.Int.{bit_at}
use Rattle.acas_cells.specs.declared.set.AdviceSet.{AdviceSet}

-- the advice is in the set
abbrev pub holds : AdviceSet → ℕ → Bool
holds set advice = bit_at set.bits advice == 1

-- no advice is in the set but clear of conflict
abbrev pub has_no_advisory : AdviceSet → Bool
has_no_advisory set = set.bits / 2 == 0
