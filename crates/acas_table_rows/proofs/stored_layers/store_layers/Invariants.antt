use Rattle.acas_outside.specs.Files.{Stores}
use Rattle.acas_outside.specs.Frame.{OnlyWrites}
use Rattle.acas_table_text.specs.Shape.{shape_of}
use Rattle.acas_table_rows.specs.TableFile.{IsWriting, entries_of, first_part}
use Rattle.acas_table_rows.proofs.stored_layers.store_layers.Given as goal

abbrev pub invariant-loop-n : goal.invariant-loop-n
invariant-loop-n g l = record {
  stored : Stores (g.F.Folder.holds l.fn.folder) (g.F.Folder.holds l.folder) l.name (first_part l.found.digest (shape_of l.found.model.grid) (entries_of l.layers) l.n);
  writing : IsWriting l.found.digest (shape_of l.found.model.grid) (entries_of l.layers) l.n l.begun;
  frame : OnlyWrites g.F.Folder l.fn.folder l.folder ⊥;
}
