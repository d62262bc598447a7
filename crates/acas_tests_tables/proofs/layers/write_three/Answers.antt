use Rattle.std.proofs.Common.{[]}
use Rattle.acas_outside.proofs.Grown.{held_stored, held_grown}
use Rattle.acas_tests_tables.proofs.layers.write_three.Goals as goal

pub layer-requires-clause-held : goal.layer-requires-clause-held
layer-requires-clause-held g c = held_stored _ _ c.args.name.now _ c.in_ok-start.ensures.ok

pub layer-requires-2-clause-held : goal.layer-requires-2-clause-held
layer-requires-2-clause-held g c = held_grown _ _ c.args.name.now _ (c.in_ok-layer.ensures.appends.ok [] (c.in_ok-start.ensures.written [] c.requires.written))

pub layer-requires-3-clause-held : goal.layer-requires-3-clause-held
layer-requires-3-clause-held g c =
    held_grown _ _ c.args.name.now _ (c.in_ok-layer-2.ensures.appends.ok _ (c.in_ok-layer.ensures.appends.written [] (c.in_ok-start.ensures.written [] c.requires.written)))

pub finish-requires-clause-held : goal.finish-requires-clause-held
finish-requires-clause-held g c =
    held_grown _ _ c.args.name.now _
    (c.in_ok-layer-3.ensures.appends.ok _ (c.in_ok-layer-2.ensures.appends.written _ (c.in_ok-layer.ensures.appends.written [] (c.in_ok-start.ensures.written [] c.requires.written))))
