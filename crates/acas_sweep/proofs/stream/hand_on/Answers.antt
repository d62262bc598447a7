use Rattle.std.proofs.Common.{List, OnErr, OnOk, subst, ◌∙◌}
use Rattle.acas_units.specs.declared.pair.Pair.{Pair}
use Rattle.acas_sweep.specs.Handed.{LayerData}
use Rattle.acas_sweep.proofs.Filled.{pairs_in-all}
use Rattle.acas_sweep.proofs.stream.hand_on.Goals as goal

pub returns-clause-finished : goal.returns-clause-finished
returns-clause-finished g c = pairs_in-all c.turn.new.self.finished c.args.block.now.work c.turn.ensures.finished

pub returns-clause-ok : goal.returns-clause-ok
returns-clause-ok g c =
    let handed = λ (pairs : List Pair). let l : LayerData = record { n = c.args.n; pairs = pairs; advice = c.args.advice.now } in l in
    subst (λ (pairs : List Pair). OnOk c.layer.result (g.S.LayerSink.adds c.args.rows.now (handed pairs) c.layer.new.self))
    (c.finished.ensures ∙ pairs_in-all c.turn.new.self.finished c.args.block.now.work c.turn.ensures.finished) c.layer.ensures.ok

pub returns-clause-err : goal.returns-clause-err
returns-clause-err g c =
    let handed = λ (pairs : List Pair). let l : LayerData = record { n = c.args.n; pairs = pairs; advice = c.args.advice.now } in l in
    subst (λ (pairs : List Pair). OnErr c.layer.result (g.S.LayerSink.cuts c.args.rows.now (handed pairs) c.layer.new.self))
    (c.finished.ensures ∙ pairs_in-all c.turn.new.self.finished c.args.block.now.work c.turn.ensures.finished) c.layer.ensures.err
