use Rattle.std.proofs.Common.{length, map}
use Rattle.toml.specs.View.{view}
use Rattle.acas_model.specs.Axes as rules
use Rattle.acas_spec.proofs.Each.{Goes}
use Rattle.acas_model.proofs.axes.axis_items.Given as goal

abbrev pub invariant-loop-place : goal.invariant-loop-place
invariant-loop-place l =
    Goes (λ before d. rules.axis_item l.name l.path (length before) d) l.values.items l.place (map view l.items) (rules.axis_items l.name l.path (map view l.items))
