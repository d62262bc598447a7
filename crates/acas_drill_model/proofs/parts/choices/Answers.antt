use Rattle.std.proofs.Common.{List, [], ◌∷◌, ◌++◌, map, ap, sym, ◌∙◌, arith}
use Rattle.std.proofs.lemmas.List.{map-append}
use Rattle.std.proofs.lemmas.List.FromFn.{map-range_with_len_more}
use Rattle.std.specs.List.{range_with_len}
use Rattle.acas_spec.specs.declared.parts.Choice.{Choice}
use Rattle.acas_drill_model.specs.DrilledModel.{drilled_choices}
use Rattle.acas_drill_model.proofs.parts.choices.Goals as goal

pub loop-preserved : goal.loop-preserved
loop-preserved c =
    ap (map (λ l. l.items)) c.in_ok-push.ensures.items
    ∙ map-append (λ l. l.items) c.loop.lists.items (c.in_ok-from_slice.field-0 ∷ [])
    ∙ ap (λ (lists : List (List Choice)). lists ++ c.in_ok-from_slice.field-0.items ∷ []) c.loop.invariant
    ∙ ap (λ (list : List Choice). map (λ place. drilled_choices) (range_with_len 0 c.loop.counter) ++ list ∷ []) (c.in_ok-from_slice.ensures.items ∙ c.each_choice-each.ensures)
    ∙ sym (map-range_with_len_more (λ place. drilled_choices) 0 c.loop.counter c.loop.counter (omega arith))
