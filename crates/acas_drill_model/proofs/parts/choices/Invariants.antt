use Rattle.std.proofs.Common.{◌≡◌, map}
use Rattle.std.specs.List.{range_with_len}
use Rattle.acas_base.specs.View.{lists_of}
use Rattle.acas_drill_model.specs.DrilledModel.{drilled_choices}
use Rattle.acas_drill_model.proofs.parts.choices.Given as goal

abbrev pub invariant-loop : goal.invariant-loop
invariant-loop l = lists_of l.lists ≡ map (λ place. drilled_choices) (range_with_len 0 l.counter)
