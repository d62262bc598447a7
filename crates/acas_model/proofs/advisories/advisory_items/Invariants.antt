use Rattle.std.proofs.Common.{length, map}
use Rattle.toml.specs.View.{view}
use Rattle.acas_spec.proofs.Each.{Goes}
use Rattle.acas_model.specs.Advisories as rules
use Rattle.acas_model.proofs.advisories.advisory_items.Given as goal

abbrev pub invariant-loop-place : goal.invariant-loop-place
invariant-loop-place l =
    Goes (λ before d. rules.advisory_item (length before) d) l.advisories.items l.place (map view l.items) (rules.advisory_items (map view l.items))
