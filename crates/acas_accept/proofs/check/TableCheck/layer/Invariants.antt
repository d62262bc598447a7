use Rattle.std.proofs.Common.{ℕ, List, Ok}
use Rattle.acas_grid.specs.Grid.{state_number}
use Rattle.acas_table.specs.Reader.{Told}
use Rattle.acas_accept.specs.Checking.{IsBeforeLayer, IsCheckOf, IsInLayer}
use Rattle.acas_accept.specs.Reading.{ReadsOn}
use Rattle.acas_accept.proofs.check.TableCheck.layer.Given as goal

abbrev pub invariant-loop-present : goal.invariant-loop-present
invariant-loop-present g l = record {
  check : IsCheckOf l.model l.self l.n (state_number l.model.grid l.present 0);
  given : (digest : List ℕ) → Told (g.F.Folder.holds l.fn.folder) l.name (λ bytes. IsBeforeLayer l.model digest l.fn.self l.n bytes → IsInLayer l.model digest l.self l.n (state_number l.model.grid l.present 0) bytes);
  reads : ReadsOn {X = Unit {0}} g.F.Folder l.fn.folder l.folder l.name l.fn.self l.self (Ok tt);
}
