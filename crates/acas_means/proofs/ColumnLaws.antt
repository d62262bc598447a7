-- The vertices of the columns of a grid.
use Rattle.std.proofs.Common.{◌≡◌, ◌≢◌, ℕ, ◌*◌, ◌<◌, ⊎_elim, List, [], length, set, sym, subst, arith}
use Rattle.std.proofs.Math.Nat.{mul_assoc}
use Rattle.std.proofs.lemmas.Bool.{cases_eq}
use Rattle.std.proofs.lemmas.Grind.{get_or-set_at}
use Rattle.std.proofs.lemmas.List.{get_or-set_other}
use Rattle.acas_spec.specs.Model.{GridData, vertices}
use Rattle.acas_grid.proofs.Vertices.{row_below}
use Rattle.acas_units.specs.declared.pair.Pair.{Pair}
use Rattle.acas_means.specs.Columns.{AreAllWithin, columns, vertex_in}
use Rattle.acas_means.specs.Layer.{AreWithin}
use Rattle.acas_means.specs.declared.layer.Side.{Side}

-- all vertices are in the columns
pub all_columns : (g : GridData) → length g.h * columns g ≡ vertices g
all_columns g = omega (arith, mul_assoc (length g.h) (length g.v0) (length g.v1))

-- a vertex of a column is one of the grid
pub vertex_in-below : (g : GridData) (column i : ℕ) → column < columns g → i < length g.h → vertex_in g column i < vertices g
vertex_in-below g column i inside here = omega (arith, all_columns g, row_below (length g.h) (columns g) i column here inside)

-- no value of the lists is larger after one of them is written that has none that is larger
pub all_within_written : (most : ℕ) (side : Side) (lists : List (List Pair)) (i : ℕ) (pairs : List Pair) → i < length lists → AreAllWithin most side lists → AreWithin most side pairs → AreAllWithin most side (set lists i pairs)
all_within_written most side lists i pairs inside before here = record {
  each = λ j. ⊎_elim
      (λ (at : j ≡ i). subst (λ (l : List Pair). AreWithin most side l) (sym (get_or-set_at lists i j pairs [] at inside)) here)
      (λ (apart : j ≢ i). subst (λ (l : List Pair). AreWithin most side l) (sym (get_or-set_other lists i j pairs [] apart)) (before.each j))
      (cases_eq j i);
}
