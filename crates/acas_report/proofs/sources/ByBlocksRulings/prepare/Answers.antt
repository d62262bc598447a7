use Rattle.acas_report.proofs.sources.ByBlocksRulings.prepare.Goals as goal

pub returns-clause-ready : goal.returns-clause-ready
returns-clause-ready c = record {
  cells = c.decide.ensures.audit;
  sets = c.decide.ensures.sets.sets;
  safe = λ i j k advice cell known there. ((c.decide.ensures.sets.exact i j k advice cell known).certified.0 there).1;
  endangered = λ i j k advice cell known there. ((c.decide.ensures.sets.exact i j k advice cell known).reported.0 there).1;
  tabled = c.decide.ensures.sets.tabled;
}
