use Rattle.std.proofs.Common.{◌≡◌, ℕ, ◌<◌, pos, ◌+ℤ◌, length, get_or}
use Rattle.acas_means.specs.Layer.{value_at}
use Rattle.acas_means.specs.declared.layer.Side.TheVariants.{Lower}
use Rattle.acas_bounds.proofs.leasts.put_values.Given as goal

abbrev pub invariant-loop-vertex : goal.invariant-loop-vertex
invariant-loop-vertex l = record {
  count : length l.leasts ≡ length l.means;
  values : (v : ℕ) → v < l.vertex → get_or l.leasts v (pos 0) ≡ value_at Lower l.means v +ℤ l.cost;
}
