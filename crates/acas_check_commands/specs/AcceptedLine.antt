-- The line of `check`.
use Rattle.std.specs.Prelude.{ℕ, ◌+◌, List, [], ◌∷◌, ◌++◌, codes}
use Rattle.std.specs.Fmt.{decimal}
use Rattle.acas_spec.specs.Model.{GridData, states}

-- how many layers an accepted table over the grid has, and how many states each of them
unfoldable pub accepted_line : GridData → List ℕ
accepted_line g = codes "accepted layers " ++ decimal (g.horizon + 1) ++ codes " states " ++ decimal (states g) ++ 10 ∷ []
