-- An entry that is taken from the bytes at hand.
use Rattle.std.proofs.Common.{◌≡◌, ℕ, false, List, None, Some, Ok, ◌∙◌, ap, arith}
use Rattle.acas_units.specs.declared.pair.Entry.{Entry}
use Rattle.acas_table_text.specs.Format.{entry_start, format_of, part}
use Rattle.acas_table_text.specs.Text.{entry_at, entry_of}
use Rattle.acas_table_text.specs.Faults.{end_fault, entry_fault}
use Rattle.acas_table_text.proofs.Parts.{end_none}
use Rattle.acas_table.specs.AtHand.{HasAtHand, IsNext}
use Rattle.acas_table.specs.Source.{Checks, IsAt, StandsAt}
use Rattle.acas_table.specs.declared.reader.TableReader.{TableReader}
use Rattle.acas_table.specs.declared.source.Source.{Source}
use Rattle.acas_table.proofs.Ahead.{at_hand_first}
use Rattle.acas_table.proofs.Looks.{alone_file, read_file}
use Rattle.acas_table.proofs.Standing.{ReadsNext, reads_entry}

-- what a reader is to read next is the entry
pub next_read : (r : TableReader) (entry : Entry) → IsNext r entry → r.done ≡ false → ReadsNext r.format r.shape r.source r.given None
next_read r entry next more = reads_entry r.format r.shape r.source r.given r.place.groups r.place.left r.limited (r.stands next.sound more) next.left

-- an entry at hand is the one that the bytes in which the source stands have at its place
pub at_hand_is : (s : Source) (entry : Entry) (bytes : List ℕ) → HasAtHand s entry → IsAt s bytes
    → entry ≡ entry_of (part bytes s.place 17)
at_hand_is s entry bytes has at = has.is ∙ ap entry_of (at_hand_first s bytes 17 has.there at)

-- the bytes of an entry at hand are there
there : (old new : Source) (entry : Entry) (bytes : List ℕ) → HasAtHand old entry → IsAt new bytes → IsAt old bytes
    → Checks (λ b. end_fault old.expected b old.place 17) (λ e b. e ≡ entry_of (part b old.place 17)) (Some bytes) new (Ok entry)
there old new entry bytes has on at =
    (end_none old.expected bytes old.place 17 (omega (arith, at.within, has.there)), at_hand_is old entry bytes has at, on)

-- they are those of the table's next entry, which has no fault
pub next_checks : (r : TableReader) (new : Source) (entry : Entry) (bytes : List ℕ) → IsNext r entry → r.done ≡ false → IsAt new bytes → IsAt r.source bytes → format_of bytes ≡ r.format
    → Checks (λ b. entry_fault r.shape b r.given) (λ e b. e ≡ entry_at r.shape b r.given) (Some bytes) new (Ok entry)
next_checks r new entry bytes next more on at format =
    let reads = next_read r entry next more in
    let starts : StandsAt r.format r.shape r.source (entry_start r.format r.shape r.given) = record { place = reads.place; limit = r.limit; expected = r.expected } in
    alone_file (λ e b. e ≡ entry_at r.shape b r.given) (Some bytes) r.format r.shape r.given new (Ok entry) reads.group format
    (read_file (Some bytes) r.format r.shape r.given r.source new entry starts format next.advice (there r.source new entry bytes next.source on at))
