use Rattle.std.proofs.Common.{length, map}
use Rattle.toml.specs.View.{view}
use Rattle.acas_spec.proofs.Each.{Goes}
use Rattle.acas_doc.specs.Keys as keys
use Rattle.acas_doc.proofs.items.whole_items.Given as goal

abbrev pub invariant-loop-place : goal.invariant-loop-place
invariant-loop-place l =
    Goes (λ before d. keys.whole_item l.path (length before) l.least l.greatest d) l.wholes.items l.place (map view l.items) (keys.whole_items l.path l.least l.greatest (map view l.items))
