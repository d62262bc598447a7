use Rattle.std.proofs.Common.{◌≡◌}
use Rattle.toml.specs.View.{members_view, table_view}
use Rattle.acas_doc.specs.Known.{unknown_in}
use Rattle.acas_doc.proofs.known.unknown_key.Given as goal

abbrev pub invariant-loop-key : goal.invariant-loop-key
invariant-loop-key l = unknown_in l.known (members_view l.key-iterator) ≡ unknown_in l.known (table_view l.table)
