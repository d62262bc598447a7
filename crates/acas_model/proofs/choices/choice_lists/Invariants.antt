use Rattle.std.proofs.Common.{length, map}
use Rattle.toml.specs.View.{view}
use Rattle.acas_spec.proofs.Each.{Goes}
use Rattle.acas_model.specs.Choices as rules
use Rattle.acas_model.proofs.choices.choice_lists.Given as goal

abbrev pub invariant-loop-place : goal.invariant-loop-place
invariant-loop-place l =
    Goes (λ before d. rules.choices_item l.advisories (length before) d) (map (λ v. v.items) l.lists.items) l.place (map view l.items) (rules.choice_lists l.advisories (map view l.items))
