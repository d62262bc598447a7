use Rattle.std.proofs.Common.{length, map}
use Rattle.std.specs.List.{AllByRecursion}
use Rattle.toml.specs.View.{view}
use Rattle.acas_spec.proofs.Each.{Goes}
use Rattle.acas_rulings.specs.Boxes.{IsBoxOf, audited}
use Rattle.acas_boxes.specs.OneBox.{box_item}
use Rattle.acas_boxes.specs.Whole as rules
use Rattle.acas_boxes.proofs.whole.box_items.Given as goal

abbrev pub invariant-loop-place : goal.invariant-loop-place
invariant-loop-place l = record {
  goes : Goes (λ before d. box_item l.model (length before) d) (map audited l.boxes.items) l.place (map view l.items) (rules.box_items l.model (map view l.items));
  fits : AllByRecursion (IsBoxOf l.model) (map audited l.boxes.items);
}
