use Rattle.std.proofs.Common.{◌≡◌, false}
use Rattle.acas_table.specs.Reader.{reader_state}
use Rattle.acas_tests_tables.proofs.tables.read_rest.Given as goal

abbrev pub invariant-loop-place : goal.invariant-loop-place
invariant-loop-place g l = record {
  given : (reader_state l.reader).given ≡ l.place;
  shape : (reader_state l.reader).shape ≡ (reader_state l.fn.reader).shape;
  done : (reader_state l.reader).done ≡ false;
  serves : g.F.Folder.serves l.folder ≡ g.F.Folder.serves l.fn.folder;
}
