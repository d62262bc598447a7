use Rattle.std.proofs.Common.{◌||◌, ◌∙◌, ap, arith}
use Rattle.acas_audit_blocks.specs.declared.block_audit.CellSets.{CellSets}
use Rattle.acas_cells.specs.Sets.{holds}
use Rattle.acas_report.proofs.sources.ByBlocksRulings.advised.Goals as goal

pub sets-sets-requires-clause-place : goal.sets-sets-requires-clause-place
sets-sets-requires-clause-place c = record {
  altitude = omega (arith, c.requires.ready.cells.altitudes, c.requires.cell.i);
  own = omega (arith, c.requires.ready.cells.own_rates, c.requires.cell.j);
  intruder = omega (arith, c.requires.ready.cells.intruder_rates, c.requires.cell.k);
}

pub returns : goal.returns
returns c = λ a.
    c.union.ensures.more a
    ∙ ap (λ (s : CellSets). holds s.certified a || holds s.reported a) c.sets-sets.ensures
    ∙ c.requires.ready.tabled c.args.at.i c.args.at.j c.args.at.k a c.requires.cell
