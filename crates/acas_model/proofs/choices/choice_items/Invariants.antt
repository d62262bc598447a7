use Rattle.std.proofs.Common.{map}
use Rattle.toml.specs.View.{view}
use Rattle.acas_spec.proofs.Each.{Goes}
use Rattle.acas_model.specs.Choices as rules
use Rattle.acas_model.proofs.choices.choice_items.Given as goal

abbrev pub invariant-loop-place : goal.invariant-loop-place
invariant-loop-place l =
    Goes (rules.choice_item l.advisories l.path l.advisory) l.chosen.items l.place (map view l.items) (rules.choice_items l.advisories l.path l.advisory (map view l.items))
