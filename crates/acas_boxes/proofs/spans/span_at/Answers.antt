use Rattle.std.proofs.Common.{arith, rules, refl, w64}
use Rattle.std.proofs.lemmas.Grind.{common_steps}
use Rattle.std.proofs.lemmas.Int.{to_z-of_z}
use Rattle.acas_boxes.specs.Spans.{span_at}
use Rattle.acas_boxes.proofs.spans.span_at.Goals as goal
use mir.Val.{SFits}

pub new-requires : goal.new-requires
new-requires c = search rules

pub item-requires-2 : goal.item-requires-2
item-requires-2 c = grind (arith, common_steps)

pub returns-clause-value : goal.returns-clause-value
unfolding span_at
returns-clause-value c =
    let low : SFits w64 c.args.within.least = search rules in
    let high : SFits w64 c.args.within.greatest = search rules in
    let first : SFits w64 c.in_ok-first.first = search rules in
    let second : SFits w64 c.in_ok-second.second = search rules in
    rw (c.in_ok-items.ensures.value, ← c.in_ok-list_path.ensures, ← c.bytes.ensures, simp to_z-of_z at c.in_ok-first.ensures.value)
    (rw (c.bytes.ensures, ← c.bytes-2.ensures, simp to_z-of_z at c.in_ok-second.ensures.value)
    (rw (simp to_z-of_z at c.new.ensures.least, simp to_z-of_z at c.new.ensures.greatest) refl))
