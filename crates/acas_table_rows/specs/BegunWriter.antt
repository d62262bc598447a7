-- A writer of a table that has begun.
use Rattle.std.specs.Prelude.{◌≡◌, ℕ, Bool, true, List, Option, Some, None, is_some}
use Rattle.std.specs.FinMap.{get}
use Rattle.acas_units.specs.declared.pair.Entry.{Entry}
use Rattle.acas_outside.specs.Files.{Files}
use Rattle.acas_table_writer.specs.Writer.{HasWritten, writer_state}
use Rattle.acas_table_writer.specs.declared.writer.Phase.TheVariants.{Started}
use Rattle.acas_table_writer.specs.declared.writer.TableWriter.{TableWriter}

-- unless a call has failed or the table is finished, it was given some layers
abbrev pub HasBegun : TableWriter → Type 0
HasBegun w = (writer_state w).phase ≡ Started → ∥ ((layers : List (List Entry)) × HasWritten w layers) ∥₁

-- a folder that tells its files holds a name
abbrev pub is_held : Option Files → List ℕ → Bool
is_held None name = true
is_held (Some files) name = is_some (get files name)
