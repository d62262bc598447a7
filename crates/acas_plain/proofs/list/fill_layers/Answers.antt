use Rattle.std.proofs.Common.{◌≡◌, ◌+◌, ◌-◌, ◌≤◌, ap, arith}
use Rattle.std.proofs.Math.Nat.{mul-le-mul_right}
use Rattle.acas_spec.specs.Model.{GridData}
use Rattle.acas_sweep.specs.Layers.{layer_backups}
use Rattle.acas_plain.proofs.list.fill_layers.Goals as goal

pub fill_next-requires-clause-count : goal.fill_next-requires-clause-count
fill_next-requires-clause-count c =
    let done : c.loop-n.n - 1 + 1 ≤ c.args.model.now.grid.horizon = omega (arith, c.loop-n-test.true, ap (λ (g : GridData). g.horizon) c.behind-model.view_is, ap (λ (g : GridData). g.horizon) c.grid.ensures.value) in
    omega (arith, c.loop-n.invariant.counted, c.requires.count, mul-le-mul_right (layer_backups c.args.model.now) done)

pub loop-n-preserved : goal.loop-n-preserved
loop-n-preserved c = record {
  some = omega arith;
  below = c.fill_next.ensures.below;
  counted =
      let next : c.loop-n.n + 1 - 1 ≡ c.loop-n.n - 1 + 1 = omega arith in
      rw next (omega (arith, c.loop-n.invariant.counted, c.fill_next.ensures.count));
}
