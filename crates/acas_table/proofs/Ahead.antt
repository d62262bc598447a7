-- Bytes at hand, as more are read behind them.
use Rattle.std.proofs.Common.{◌≡◌, ℕ, ◌+◌, ◌-◌, ◌<◌, ◌≤◌, List, [], ◌++◌, length, take, drop, Bool, cond, Option, None, Some, Ok, Err, sym, ◌∙◌, ap, subst, arith, inl, inr, append_assoc}
use Rattle.std.proofs.Math.Seq.{take-add, take-append-add}
use Rattle.std.proofs.lemmas.List.{take-take, take-append-le, drop-take, drop-append-le, drop-drop, length-take-le, length-take, take_all}
use Rattle.std.proofs.lemmas.Bool.{cases_lt, le-ltb}
use Rattle.std.specs.FinMap.{get}
use Rattle.std.specs.Prelude.{⊤}
use Rattle.acas_outside.specs.Bytes.{IsBytes}
use Rattle.acas_outside.specs.Files.{Files, Given, Reads}
use Rattle.acas_table.specs.declared.source.Source.{Source}
use Rattle.acas_table_text.specs.Format.{part}
use Rattle.sha2.specs.Hashers.{Holds256}
use Rattle.sha2.specs.Sha256.{sha256}
use Rattle.acas_table_text.specs.Faults.{end_fault, more_fault}
use Rattle.acas_table.specs.Source.{hashed_place, IsHashed, IsAt, IsAtFile, Moves, Checks, Finds}
use Rattle.acas_table_text.proofs.Parts.{bytes_of_both, end_none, part-first, part-join, part-rest}
use Rattle.acas_table_text.specs.declared.fault.TableFault.{TableFault}
use Rattle.acas_table_text.specs.declared.fault.TableFault.TheVariants.{Length}

-- a buffer into which bytes were read behind its first ones
pub refilled : (items into rest past : List ℕ) (len to n : ℕ) → to ≤ length items → n ≤ length into → to + n ≤ len
    → take (to + n) (take len (take to items ++ (into ++ rest) ++ past)) ≡ take to items ++ take n into
refilled items into rest past len to n first within fits =
    let front : length (take to items) ≡ to = length-take-le to items first in
    take-take (to + n) len (take to items ++ (into ++ rest) ++ past) fits
    ∙ ap (λ (l : List ℕ). take (to + n) l) (append_assoc (take to items) (into ++ rest) past)
    ∙ ap (λ (k : ℕ). take (k + n) (take to items ++ (into ++ rest ++ past))) (sym front)
    ∙ take-append-add (take to items) (into ++ rest ++ past) n
    ∙ ap (λ (l : List ℕ). take to items ++ take n l) (append_assoc into rest past)
    ∙ ap (λ (l : List ℕ). take to items ++ l) (take-append-le n into (rest ++ past) within)

ahead_more : (old new bytes into : List ℕ) (from k n place : ℕ) → from + k ≤ length old → take (from + k + n) new ≡ take (from + k) old ++ take n into
    → part old from k ≡ part bytes place k → take n into ≡ take n (drop (place + k) bytes) → part new from (k + n) ≡ part bytes place (k + n)
ahead_more old new bytes into from k n place room grown so_far more =
    sym (drop-take from (k + n) new)
    ∙ ap (λ (m : ℕ). drop from (take m new)) (omega arith)
    ∙ ap (λ (l : List ℕ). drop from l) grown
    ∙ drop-append-le from (take (from + k) old) (take n into) (omega (arith, length-take (from + k) old))
    ∙ ap (λ (l : List ℕ). l ++ take n into) (drop-take from k old)
    ∙ ap (λ (l : List ℕ). l ++ take n into) so_far
    ∙ ap (λ (l : List ℕ). part bytes place k ++ l) (more ∙ ap (λ (l : List ℕ). take n l) (sym (drop-drop k place bytes)))
    ∙ sym (take-add k n (drop place bytes))

-- what was seen stays, and grows by a field
seen_moves : (old new : Source) (bytes : List ℕ) → new.place ≡ old.place → IsBytes (take old.place bytes) → IsBytes (take new.place bytes)
seen_moves old new bytes place seen = subst (λ (k : ℕ). IsBytes (take k bytes)) (sym place) seen

seen_more : (old new : Source) (bytes field : List ℕ) (n : ℕ) → new.place ≡ old.place + n → field ≡ part bytes old.place n → IsBytes field → IsBytes (take old.place bytes) → IsBytes (take new.place bytes)
seen_more old new bytes field n place is small seen =
    subst IsBytes
    (ap (λ (l : List ℕ). take old.place bytes ++ l) is ∙ sym (take-add old.place n bytes) ∙ ap (λ (k : ℕ). take k bytes) (sym place))
    (bytes_of_both (take old.place bytes) field seen small)

-- what the digest took in stays, where it takes in no more
hashed_same : (old new : Source) (bytes : List ℕ) → new.hasher ≡ old.hasher → new.mark ≡ old.mark → hashed_place new ≡ hashed_place old → IsHashed old bytes → IsHashed new bytes
hashed_same old new bytes hasher mark place hashed =
    let same : part bytes old.mark (hashed_place old - old.mark) ≡ part bytes new.mark (hashed_place new - new.mark) =
    ap (λ (m : ℕ). part bytes old.mark (m - old.mark)) (sym place) ∙ ap (λ (m : ℕ). part bytes m (hashed_place new - m)) (sym mark) in
    rw hasher (subst (λ (l : List ℕ). Holds256 old.hasher l) same hashed)

more_file : {X : Type 0} (x : X) (file : Option (List ℕ)) (old new : Source) (into : List ℕ) (n at : ℕ) → 0 < n → Reads file at (Ok n) into → at ≡ old.place + (old.to - old.from)
    → new.hashed ≡ old.hashed → new.from ≡ old.from → new.to ≡ old.to + n → new.hasher ≡ old.hasher → Moves old new → take (old.to + n) new.buffer.items ≡ take old.to old.buffer.items ++ take n into
    → IsAtFile old file → Checks {X = X} (λ bytes. end_fault old.expected bytes (old.place + (old.to - old.from)) 1) (λ _ _. ⊤) file new (Ok x)
more_file x None old new into n at some reads place hashed from to hasher moves grown stands = absurd reads
more_file x (Some bytes) old new into n at some reads place hashed from to hasher moves grown stands =
    let k = old.to - old.hashed in
    let end : old.hashed + k ≡ old.to = omega (arith, old.behind, old.ordered) in
    let fresh : new.to - new.hashed ≡ k + n = omega (arith, old.behind, old.ordered) in
    let same : hashed_place new ≡ hashed_place old = omega (arith, moves.place) in
    let up : at ≡ hashed_place old + k = omega (arith, old.behind, old.ordered, old.marked) in
    let after : take n into ≡ take n (drop (hashed_place old + k) bytes) = reads.bytes ∙ ap (λ (m : ℕ). take n (drop m bytes)) up in
    let whole : take (old.hashed + k + n) new.buffer.items ≡ take (old.hashed + k) old.buffer.items ++ take n into =
    subst (λ (m : ℕ). take (m + n) new.buffer.items ≡ take m old.buffer.items ++ take n into) (sym end) grown in (
      end_none old.expected bytes (old.place + (old.to - old.from)) 1 (omega (arith, reads.within, stands.within)),
      tt,
      record {
        ahead =
            ap (λ (m : ℕ). part new.buffer.items m (new.to - new.hashed)) hashed
            ∙ ap (λ (m : ℕ). part new.buffer.items old.hashed m) fresh
            ∙ ahead_more old.buffer.items new.buffer.items bytes into old.hashed k n (hashed_place old) (omega (arith, old.behind, old.ordered, old.room)) whole stands.ahead after
            ∙ ap (λ (m : ℕ). part bytes (hashed_place old) m) (sym fresh)
            ∙ ap (λ (m : ℕ). part bytes m (new.to - new.hashed)) (sym same);
        within = omega (arith, reads.within, stands.within, old.ordered, moves.place);
        hashed = hashed_same old new bytes hasher moves.mark same stands.hashed;
        seen = seen_moves old new bytes moves.place stands.seen;
      },
    )

pub more_given : {X : Type 0} (x : X) (holds : Option Files) (name : List ℕ) (old new : Source) (into : List ℕ) (n at : ℕ) → 0 < n → Given holds name (λ file. Reads file at (Ok n) into) → at ≡ old.place + (old.to - old.from)
    → new.hashed ≡ old.hashed → new.from ≡ old.from → new.to ≡ old.to + n → new.hasher ≡ old.hasher → Moves old new → take (old.to + n) new.buffer.items ≡ take old.to old.buffer.items ++ take n into
    → Given holds name (λ file. IsAtFile old file → Checks {X = X} (λ bytes. end_fault old.expected bytes (old.place + (old.to - old.from)) 1) (λ _ _. ⊤) file new (Ok x))
more_given x None name old new into n at some reads place hashed from to hasher moves grown = tt
more_given x (Some files) name old new into n at some reads place hashed from to hasher moves grown = more_file x (get files name) old new into n at some reads place hashed from to hasher moves grown

-- of what the buffer has, the bytes that the digest lacks
behind_hand : (s : Source) (bytes : List ℕ) → IsAt s bytes → part s.buffer.items s.hashed (s.from - s.hashed) ≡ part bytes (hashed_place s) (s.from - s.hashed)
behind_hand s bytes stands =
    part-first s.buffer.items bytes s.hashed (hashed_place s) (s.from - s.hashed) (s.to - s.hashed) (omega (arith, s.ordered)) stands.ahead

-- and those at hand
at_hand : (s : Source) (bytes : List ℕ) → IsAt s bytes → part s.buffer.items s.from (s.to - s.from) ≡ part bytes s.place (s.to - s.from)
at_hand s bytes stands =
    let d = s.from - s.hashed in
    let from : s.hashed + d ≡ s.from = omega (arith, s.behind) in
    let place : hashed_place s + d ≡ s.place = omega (arith, s.behind, s.marked) in
    let rest : s.to - s.hashed - d ≡ s.to - s.from = omega (arith, s.behind, s.ordered) in
    ap (λ (m : ℕ). part s.buffer.items m (s.to - s.from)) (sym from)
    ∙ ap (λ (m : ℕ). part s.buffer.items (s.hashed + d) m) (sym rest)
    ∙ part-rest s.buffer.items bytes s.hashed (hashed_place s) d (s.to - s.hashed) (omega (arith, s.ordered)) stands.ahead
    ∙ ap (λ (m : ℕ). part bytes (hashed_place s + d) m) rest
    ∙ ap (λ (m : ℕ). part bytes m (s.to - s.from)) place

-- the digest, as it takes in more
hashed_more : (old new : Source) (bytes : List ℕ) (n : ℕ) → hashed_place new ≡ hashed_place old + n → new.mark ≡ old.mark
    → ((m : List ℕ) → Holds256 old.hasher m → Holds256 new.hasher (m ++ part bytes (hashed_place old) n)) → IsHashed old bytes → IsHashed new bytes
hashed_more old new bytes n place mark update hashed =
    let k = hashed_place old - old.mark in
    let up : old.mark + k ≡ hashed_place old = omega (arith, old.marked) in
    let whole : part bytes old.mark k ++ part bytes (hashed_place old) n ≡ part bytes new.mark (hashed_place new - new.mark) =
    ap (λ (m : ℕ). part bytes old.mark k ++ part bytes m n) (sym up) ∙ part-join bytes old.mark k n
    ∙ ap (λ (m : ℕ). part bytes old.mark m) (omega (arith, old.marked)) ∙ ap (λ (m : ℕ). part bytes m (hashed_place new - new.mark)) (sym mark) in
    subst (λ (l : List ℕ). Holds256 new.hasher l) whole (update (part bytes old.mark k) hashed)

-- a source whose digest takes in all that was read
pub hashed_file : (file : Option (List ℕ)) (old new : Source) (field : List ℕ) → field ≡ part old.buffer.items old.hashed (old.from - old.hashed)
    → new.buffer.items ≡ old.buffer.items → new.hashed ≡ old.from → new.from ≡ old.from → new.to ≡ old.to → new.place ≡ old.place → new.mark ≡ old.mark
    → ((m : List ℕ) → Holds256 old.hasher m → Holds256 new.hasher (m ++ field)) → IsAtFile old file → IsAtFile new file
hashed_file None old new field is buffer hashed from to place mark update stands = from ∙ stands ∙ sym to
hashed_file (Some bytes) old new field is buffer hashed from to place mark update stands =
    let rest : new.to - new.hashed ≡ old.to - old.from = omega arith in
    let up : hashed_place new ≡ old.place = omega arith in
    let more : hashed_place new ≡ hashed_place old + (old.from - old.hashed) = omega (arith, old.behind, old.marked) in
    let same : field ≡ part bytes (hashed_place old) (old.from - old.hashed) = is ∙ behind_hand old bytes stands in
    record {
      ahead =
          ap (λ (l : List ℕ). part l new.hashed (new.to - new.hashed)) buffer
          ∙ ap (λ (m : ℕ). part old.buffer.items m (new.to - new.hashed)) hashed
          ∙ ap (λ (m : ℕ). part old.buffer.items old.from m) rest
          ∙ at_hand old bytes stands
          ∙ ap (λ (m : ℕ). part bytes old.place m) (sym rest)
          ∙ ap (λ (m : ℕ). part bytes m (new.to - new.hashed)) (sym up);
      within = omega (arith, stands.within);
      hashed = hashed_more old new bytes (old.from - old.hashed) more mark (λ m holds. subst (λ (l : List ℕ). Holds256 new.hasher (m ++ l)) same (update m holds)) stands.hashed;
      seen = seen_moves old new bytes place stands.seen;
    }

-- the digest of a source that has taken in all that was read
pub digest_of : (old new : Source) (bytes digest : List ℕ) → Moves old new → new.hashed ≡ new.from → ((m : List ℕ) → Holds256 new.hasher m → digest ≡ sha256 m)
    → IsAt new bytes → digest ≡ sha256 (part bytes old.mark (old.place - old.mark))
digest_of old new bytes digest moves hashed finished stands =
    let width : hashed_place new - new.mark ≡ old.place - old.mark = omega (arith, moves.place, moves.mark) in
    finished (part bytes new.mark (hashed_place new - new.mark)) stands.hashed
    ∙ ap (λ (m : ℕ). sha256 (part bytes new.mark m)) width
    ∙ ap (λ (m : ℕ). sha256 (part bytes m (old.place - old.mark))) moves.mark

-- the first bytes at hand are the next ones
pub at_hand_first : (s : Source) (bytes : List ℕ) (n : ℕ) → n ≤ s.to - s.from → IsAt s bytes → part s.buffer.items s.from n ≡ part bytes s.place n
at_hand_first s bytes n filled stands = part-first s.buffer.items bytes s.from s.place n (s.to - s.from) filled (at_hand s bytes stands)

-- bytes that are passed over
pub passed : (old new : Source) (bytes : List ℕ) (n : ℕ) → n ≤ old.to - old.from → IsBytes (part old.buffer.items old.from n)
    → new.buffer.items ≡ old.buffer.items → new.hashed ≡ old.hashed → new.from ≡ old.from + n → new.to ≡ old.to → new.place ≡ old.place + n → new.mark ≡ old.mark
    → new.hasher ≡ old.hasher → IsAt old bytes → IsAt new bytes
passed old new bytes n filled small buffer hashed from to place mark hasher stands =
    let rest : new.to - new.hashed ≡ old.to - old.hashed = omega arith in
    let up : hashed_place new ≡ hashed_place old = omega (arith, old.behind) in
    record {
      ahead =
          ap (λ (l : List ℕ). part l new.hashed (new.to - new.hashed)) buffer
          ∙ ap (λ (m : ℕ). part old.buffer.items m (new.to - new.hashed)) hashed
          ∙ ap (λ (m : ℕ). part old.buffer.items old.hashed m) rest
          ∙ stands.ahead
          ∙ ap (λ (m : ℕ). part bytes (hashed_place old) m) (sym rest)
          ∙ ap (λ (m : ℕ). part bytes m (new.to - new.hashed)) (sym up);
      within = omega (arith, stands.within);
      hashed = hashed_same old new bytes hasher mark up stands.hashed;
      seen = seen_more old new bytes (part old.buffer.items old.from n) n place (at_hand_first old bytes n filled stands) small stands.seen;
    }

-- a source that has read nothing is at the front of every file
pub at_front : (s : Source) (file : Option (List ℕ)) → s.hashed ≡ 0 → s.from ≡ 0 → s.to ≡ 0 → s.place ≡ 0 → s.mark ≡ 0 → Holds256 s.hasher [] → IsAtFile s file
at_front s None hashed from to place mark empty = from ∙ sym to
at_front s (Some bytes) hashed from to place mark empty =
    let none : s.to - s.hashed ≡ 0 = omega arith in
    let unread : hashed_place s - s.mark ≡ 0 = omega arith in
    record {
      ahead = ap (λ (m : ℕ). part s.buffer.items s.hashed m) none ∙ sym (ap (λ (m : ℕ). part bytes (hashed_place s) m) none);
      within = omega arith;
      hashed = subst (λ (l : List ℕ). Holds256 s.hasher l) (sym (ap (λ (m : ℕ). part bytes s.mark m) unread)) empty;
      seen = subst (λ (k : ℕ). IsBytes (take k bytes)) (sym place) (λ i. omega arith);
    }

-- where bytes are wanted that are not there, the bytes end before
end_short : (e : ℕ) (bytes : List ℕ) (at n : ℕ) (fault : TableFault) → end_fault e bytes at n ≡ Some fault → length bytes < at + n
end_short e bytes at n fault found =
    elim (cases_lt (length bytes) (at + n)) [
      | inl lt ↦ lt
      | inr le ↦ absurd (cc (end_none e bytes at n le))
    ]

-- where the file ends behind what was read, all of it was seen
ends_file : {X : Type 0} (x : X) (file : Option (List ℕ)) (old new : Source) (a b : ℕ) → old.place ≡ old.expected → IsAtFile old file
    → Checks {X = Unit {0}} (λ bytes. end_fault old.expected bytes old.place 1) (λ _ _. ⊤) file new (Err (Length a b)) → Finds {X = X} (more_fault old.expected) file (Ok x)
ends_file x None old new a b place stands checks = absurd checks
ends_file x (Some bytes) old new a b place stands checks =
    let short : length bytes < old.place + 1 = end_short old.expected bytes old.place 1 (Length a b) checks in
    let most : length bytes ≤ old.place = omega arith in (
      ap (λ (b : Bool). cond b (Some (Length old.expected (old.expected + 1))) None) (le-ltb old.expected (length bytes) (omega (arith, most, place))),
      subst IsBytes (take_all old.place bytes most) stands.seen,
    )

pub ends_given : {X : Type 0} (x : X) (holds : Option Files) (name : List ℕ) (old new : Source) (fault : TableFault) (a b : ℕ) → fault ≡ Length a b → old.place ≡ old.expected
    → Given holds name (λ file. IsAtFile old file → Checks {X = Unit {0}} (λ bytes. end_fault old.expected bytes old.place 1) (λ _ _. ⊤) file new (Err fault))
    → Given holds name (λ file. IsAtFile old file → Finds {X = X} (more_fault old.expected) file (Ok x))
ends_given x None name old new fault a b is place checks = tt
ends_given x (Some files) name old new fault a b is place checks = λ stands.
    ends_file x (get files name) old new a b place stands
    (subst (λ (f : TableFault). Checks {X = Unit {0}} (λ bytes. end_fault old.expected bytes old.place 1) (λ _ _. ⊤) (get files name) new (Err f)) is (checks stands))
