use Rattle.std.proofs.Common.{ℕ, List, Ok, IsTrue}
use Rattle.acas_grid.specs.Grid.{state_number}
use Rattle.acas_table.specs.Reader.{Told}
use Rattle.acas_accept.specs.Checking.{IsCheckOf, IsInLayer}
use Rattle.acas_accept.specs.Leasts.{AreFound}
use Rattle.acas_accept.specs.Reading.{ReadsOn}
use Rattle.acas_accept.proofs.check.TableCheck.plane.Given as goal

abbrev pub invariant-loop-vertex : goal.invariant-loop-vertex
invariant-loop-vertex g l = record {
  check : IsCheckOf l.model l.self l.n (state_number l.model.grid l.plane.present l.vertex);
  given : (digest : List ℕ) → Told (g.F.Folder.holds l.fn.folder) l.name (λ bytes. IsInLayer l.model digest l.fn.self l.n (state_number l.model.grid l.plane.present 0) bytes → IsInLayer l.model digest l.self l.n (state_number l.model.grid l.plane.present l.vertex) bytes);
  found : IsTrue l.found → AreFound l.model l.n l.plane.present l.self.means.items l.self.leasts;
  reads : ReadsOn {X = Unit {0}} g.F.Folder l.fn.folder l.folder l.name l.fn.self l.self (Ok tt);
}
