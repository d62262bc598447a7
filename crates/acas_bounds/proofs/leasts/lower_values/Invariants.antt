use Rattle.std.specs.Int.{int_min}
use Rattle.std.proofs.Common.{◌≡◌, ℕ, ◌<◌, ◌≤◌, pos, ◌+ℤ◌, length, get_or}
use Rattle.acas_means.specs.Layer.{value_at}
use Rattle.acas_means.specs.declared.layer.Side.TheVariants.{Lower}
use Rattle.acas_bounds.proofs.leasts.lower_values.Given as goal

abbrev pub invariant-loop-vertex : goal.invariant-loop-vertex
invariant-loop-vertex l = record {
  count : length l.leasts ≡ length l.means;
  values : (v : ℕ) → v < l.vertex → get_or l.leasts v (pos 0) ≡ int_min (value_at Lower l.means v +ℤ l.cost) (get_or l.initial.leasts v (pos 0));
  rest : (v : ℕ) → l.vertex ≤ v → get_or l.leasts v (pos 0) ≡ get_or l.initial.leasts v (pos 0);
}
