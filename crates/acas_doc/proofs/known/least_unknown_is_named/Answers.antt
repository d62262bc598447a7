use Rattle.toml.specs.View.{table_view}
use Rattle.acas_doc.proofs.LeastUnknown.{only_known_passes, only_known_names}
use Rattle.acas_doc.proofs.known.least_unknown_is_named.Goals as goal

pub returns-clause-passes : goal.returns-clause-passes
returns-clause-passes c = only_known_passes c.args.path.now c.args.known.now (table_view c.args.table.now)

pub returns-clause-names : goal.returns-clause-names
returns-clause-names c = only_known_names c.args.path.now c.args.known.now c.args.table.now.entries c.iter-ascending_keys.ensures.ordered
