use Rattle.std.proofs.Common.{◌≡◌, ℕ, ◌+◌, ◌-◌, ◌<◌, drop, ◌<ℤ◌}
use Rattle.acas_spec.specs.Axis.{place_value}
use Rattle.acas_grid.specs.Axis.{first_fall}
use Rattle.acas_grid.proofs.axis.falls_at.Given as goal

abbrev pub invariant-loop-place : goal.invariant-loop-place
invariant-loop-place l =
    (first_fall (l.place - 1) (drop (l.place - 1) l.values) ≡ first_fall 0 l.values)
    × ((k : ℕ) → k + 1 < l.place → place_value l.values k <ℤ place_value l.values (k + 1))
