-- The lines of the commands that store a table.
use Rattle.std.specs.Prelude.{ℕ, ◌+◌, List, [], ◌∷◌, ◌++◌, codes}
use Rattle.std.specs.Fmt.{decimal}
use Rattle.acas_spec.specs.Model.{GridData, states}
use Rattle.acas_table_text.specs.Shape.{shape_of}
use Rattle.acas_table_text.specs.Format.{length_of}
use Rattle.acas_table_text.specs.declared.format.Format.TheVariants.{Layered}

-- what was done, how many layers a table over the grid has, how many states each of them, and how many bytes its file
unfoldable pub stored_line : List ℕ → GridData → List ℕ
stored_line done g =
    done ++ codes " layers " ++ decimal (g.horizon + 1) ++ codes " states " ++ decimal (states g)
    ++ codes " bytes " ++ decimal (length_of Layered (shape_of g)) ++ 10 ∷ []

-- the line of `compile`
abbrev pub compiled_line : GridData → List ℕ
compiled_line g = stored_line (codes "compiled") g

-- the line of `migrate`
abbrev pub migrated_line : GridData → List ℕ
migrated_line g = stored_line (codes "migrated") g
