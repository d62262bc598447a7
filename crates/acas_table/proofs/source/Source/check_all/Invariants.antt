use Rattle.std.proofs.Common.{take}
use Rattle.acas_outside.specs.Files.{Given}
use Rattle.acas_outside.specs.Frame.{OnlyReads}
use Rattle.acas_table_text.specs.Faults.{widths}
use Rattle.acas_table.specs.Source.{IsAtFile, StaysWithin, Steps, TakesMore, bytes_taken}
use Rattle.acas_table.proofs.Passed.{HasPassed}
use Rattle.acas_table.proofs.source.Source.check_all.Given as goal

abbrev pub invariant-loop-field : goal.invariant-loop-field
invariant-loop-field g l = record {
  steps : Steps l.fn.self l.self (widths (take l.field-index l.fields));
  given : Given (g.F.Folder.holds l.fn.folder) l.name (λ file. IsAtFile l.fn.self file → HasPassed l.fn.self.expected l.fn.self.place (take l.field-index l.fields) file l.self);
  taken : TakesMore g.F.Folder l.fn.folder l.folder l.fn.self l.self;
  within : StaysWithin (g.F.Folder.holds l.fn.folder) l.name (bytes_taken l.fn.self) (bytes_taken l.self);
  frame : OnlyReads g.F.Folder l.fn.folder l.folder ⊥ ⊥;
}
