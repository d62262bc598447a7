use Rattle.std.proofs.Common.{take}
use Rattle.acas_spec.proofs.Each.{Goes}
use Rattle.acas_model.specs.Advisories as rules
use Rattle.acas_model.proofs.advisories.distinct.Given as goal

abbrev pub invariant-loop-place : goal.invariant-loop-place
invariant-loop-place l = Goes rules.new_name (take l.place l.advisories) l.place l.advisories (rules.distinct l.advisories)
