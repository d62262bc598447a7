use Rattle.std.proofs.Common.{ℕ, List, Ok}
use Rattle.acas_table.specs.Reader.{Told}
use Rattle.acas_accept.specs.Checking.{HasAccepted, IsBeforeLayer, IsCheckOf}
use Rattle.acas_accept.specs.Reading.{ReadsOn}
use Rattle.acas_accept.proofs.check.TableCheck.layers.Given as goal

abbrev pub invariant-loop-n : goal.invariant-loop-n
invariant-loop-n g l = record {
  check : IsCheckOf l.model l.self l.n 0;
  kept : g.K.KeepsLayers.was_given l.kept l.model l.n;
  given : (digest : List ℕ) → Told (g.F.Folder.holds l.fn.folder) l.name (λ bytes. HasAccepted l.model digest l.fn.self 0 bytes → IsBeforeLayer l.model digest l.self l.n bytes × g.K.KeepsLayers.is_of l.kept l.model bytes l.n);
  reads : ReadsOn {X = Unit {0}} g.F.Folder l.fn.folder l.folder l.name l.fn.self l.self (Ok tt);
}
