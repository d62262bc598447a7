-- The least lower values that are found once for planes with the same choices.
use Rattle.std.specs.Bool.{Decides}
use Rattle.std.proofs.Common.{◌≡◌, ◌&&◌, nat_eq, arith}
use Rattle.std.specs.Ordering.{int_eq}
use Rattle.acas_spec.specs.declared.parts.Choice.{Choice}

-- what `==` answers at two choices
pub choice_eq-Decides : (a b : Choice) → Decides (nat_eq a.advisory b.advisory && int_eq a.cost b.cost) (a ≡ b)
choice_eq-Decides a b = grind arith
