-- The next entry of a table, where nothing is to be done but to take it.
use Rattle.std.specs.Prelude.{◌≡◌, ◌-◌, ◌≤◌, ◌<◌, None}
use Rattle.acas_outside.specs.Bytes.{IsBytes}
use Rattle.acas_units.specs.declared.pair.Entry.{Entry}
use Rattle.acas_table_text.specs.Format.{part}
use Rattle.acas_table_text.specs.Text.{entry_of}
use Rattle.acas_table_text.specs.Faults.{advice_fault}
use Rattle.acas_table.specs.declared.reader.TableReader.{TableReader}
use Rattle.acas_table.specs.declared.source.Source.{Source}

-- the buffer has 17 bytes at hand, and the entry is the one that they are
pub record HasAtHand (s : Source) (entry : Entry) : Type 0 where
  pub there : 17 ≤ s.to - s.from
  pub small : IsBytes (part s.buffer.items s.from 17)
  pub is : entry ≡ entry_of (part s.buffer.items s.from 17)

-- no fault was found, no digest is to be read before the entry, and its advice is one that it may have
pub record IsNext (r : TableReader) (entry : Entry) : Type 0 where
  pub sound : r.fault ≡ None
  pub left : 0 < r.place.left
  pub source : HasAtHand r.source entry
  pub advice : advice_fault r.shape r.given entry.advice ≡ None
