use Rattle.std.proofs.Common.{◌-◌, ◌≤◌, length, take, IsSome}
use Rattle.acas_outside.specs.Files.{Given, Grows}
use Rattle.acas_outside.specs.Frame.{OnlyWrites}
use Rattle.acas_outside.proofs.storing.write_piece.Given as goal

abbrev pub invariant-loop-at : goal.invariant-loop-at
invariant-loop-at g l = record {
  within : l.at ≤ length l.bytes;
  held : Given (g.F.Folder.holds l.folder) l.name (λ file. IsSome file);
  grown : Grows (g.F.Folder.holds l.initial.folder) (g.F.Folder.holds l.folder) l.name (take l.at l.bytes);
  frame : OnlyWrites g.F.Folder l.initial.folder l.folder ⊥;
}

abbrev pub decreases-loop-at : goal.decreases-loop-at
decreases-loop-at g l = length l.bytes - l.at
