use Rattle.std.proofs.Common.{◌-◌, ◌≤◌, ◌++◌, List, ℕ, length, take, IsSome}
use Rattle.acas_outside.specs.Files.{Given, Grows}
use Rattle.acas_outside.specs.Frame.{OnlyWrites}
use Rattle.acas_table_writer.specs.Pieces.{Holds}
use Rattle.acas_table_text.specs.Text.{layer_text, layer_of}
use Rattle.acas_table_writer.proofs.pieces.Pieces.layer.Given as goal

abbrev pub invariant-loop-at : goal.invariant-loop-at
invariant-loop-at g l = record {
  within : l.at ≤ length l.pairs;
  held : Given (g.F.Folder.holds l.folder) l.name (λ file. IsSome file);
  grown : Grows (g.F.Folder.holds l.fn.folder) (g.F.Folder.holds l.folder) l.name (layer_text (layer_of (take l.at l.pairs) (take l.at l.advice)));
  hashed : (m : List ℕ) → Holds l.fn.self m → Holds l.self (m ++ layer_text (layer_of (take l.at l.pairs) (take l.at l.advice)));
  frame : OnlyWrites g.F.Folder l.fn.folder l.folder ⊥;
}

abbrev pub decreases-loop-at : goal.decreases-loop-at
decreases-loop-at g l = length l.pairs - l.at
