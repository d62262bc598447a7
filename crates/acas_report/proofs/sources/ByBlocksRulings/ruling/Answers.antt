use Rattle.std.proofs.Common.{◌≡◌, true, sym, ◌∙◌, ap, arith}
use Rattle.acas_audit_blocks.specs.Audits.{certified_at, reported_at}
use Rattle.acas_audit_blocks.specs.declared.block_audit.CellSets.{CellSets}
use Rattle.acas_cells.specs.Sets.{holds}
use Rattle.acas_report.proofs.sources.ByBlocksRulings.ruling.Goals as goal

pub sets-sets-requires-clause-place : goal.sets-sets-requires-clause-place
sets-sets-requires-clause-place c = record {
  altitude = omega (arith, c.requires.ready.1.cells.altitudes, c.requires.cell.i);
  own = omega (arith, c.requires.ready.1.cells.own_rates, c.requires.cell.j);
  intruder = omega (arith, c.requires.ready.1.cells.intruder_rates, c.requires.cell.k);
}

pub has-requires : goal.has-requires
has-requires c = omega (arith, c.requires.advice, c.grid.ensures.valid.grid.few_advisories)

pub returns-then-has : goal.returns-then-has
returns-then-has c =
    let name = c.args.name.now in
    let there : holds (certified_at c.args.self.now.0 name.i name.j name.k) name.advice ≡ true =
    ap (λ (s : CellSets). holds s.certified name.advice) (sym c.sets-sets.ensures) ∙ (sym c.has.ensures ∙ c.if-has.true)
    in
    c.requires.ready.1.safe name.i name.j name.k name.advice c.requires.cell c.requires.advice there

pub witness_of-requires-clause-danger : goal.witness_of-requires-clause-danger
witness_of-requires-clause-danger c =
    let name = c.args.name.now in
    let there : holds (reported_at c.args.self.now.0 name.i name.j name.k) name.advice ≡ true =
    ap (λ (s : CellSets). holds s.reported name.advice) (sym c.sets-sets.ensures) ∙ (sym c.has-2.ensures ∙ c.if-has-2.true)
    in
    c.requires.ready.1.endangered name.i name.j name.k name.advice c.requires.cell c.requires.advice there
