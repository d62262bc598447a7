-- A table that is accepted or refused, from its header to its end.
use Rattle.std.proofs.Common.{◌≡◌, ◌∙◌, ℕ, ◌+◌, ◌-◌, ◌≤◌, List, [], ◌∷◌, Option, None, Some, Result, Ok, Err, refl, sym, subst, arith}
use Rattle.std.specs.Prelude.{IfSome}
use Rattle.std.specs.FinMap.{get}
use Rattle.acas_spec.specs.Limits.{IsModel}
use Rattle.acas_spec.specs.Model.{ModelData, entries}
use Rattle.acas_base.specs.Advices.{AdvicesData}
use Rattle.acas_outside.specs.Bytes.{IsBytes}
use Rattle.acas_outside.specs.Counts.{raised}
use Rattle.acas_outside.specs.Files.{Files, Given}
use Rattle.acas_outside.specs.Once.{TakesOnce, length_of_file}
use Rattle.acas_outside.specs.declared.folder.Folder.{Ghosts as FolderMeanings}
use Rattle.acas_table.specs.Reader.{Starts, TakesAtMost, Told, reader_state}
use Rattle.acas_table.specs.Source.{StaysWithin, Takes}
use Rattle.acas_table.specs.declared.reader.TableReader.{TableReader}
use Rattle.acas_table_text.specs.Shape.{shape_of}
use Rattle.acas_table_text_laws.proofs.FieldFaults.{advice_small}
use Rattle.acas_table_text.specs.Format.{expected_length, format_of, length_of}
use Rattle.acas_table_text.specs.declared.format.Format.{Format}
use Rattle.acas_table_text.specs.declared.format.Format.TheVariants.{Layered, Whole}
use Rattle.acas_table_text.specs.declared.shape.TableShape.{TableShape}
use Rattle.acas_table_text_laws.proofs.Twice.{each_entry_none}
use Rattle.acas_table_text_laws.proofs.Texts.{text_given_small}
use Rattle.acas_table.proofs.Told.{told_both, told_map}
use Rattle.acas_accept.specs.Answers.{AreAllowed, Gives, ReadsOnce}
use Rattle.acas_accept.specs.Checking.{HasAccepted, HasNoRefusal, IsAnswer}
use Rattle.acas_accept.specs.Keeping.{AreAllowedBelow}
use Rattle.acas_accept.specs.Reading.{ReadsOn, TakesLeft}
use Rattle.acas_accept.specs.declared.check.TableCheck.{TableCheck}
use Rattle.acas_accept.specs.declared.refusal.AcceptFault.{AcceptFault}
use Rattle.acas_accept.specs.declared.refusal.AcceptFault.TheVariants.{Refused, Absent, Failed, Memory}
use Rattle.acas_accept.proofs.NoRefusal.{refused_none}

text_is_bytes : (m : ModelData) (digest bytes : List ℕ) → IsModel m → IsBytes digest → HasNoRefusal m digest bytes → IsBytes bytes
text_is_bytes m digest bytes v small whole =
    let s = shape_of m.grid in
    let has = refused_none m digest bytes whole.none in
    let few : m.grid.advisories ≤ 256 = omega (arith, v.grid.few_advisories) in
    subst IsBytes (sym whole.text) (text_given_small (format_of bytes) digest s bytes small (λ i within. advice_small s bytes i few (each_entry_none digest s bytes i has.form within)))

-- ---- what is answered of a file whose header was read

-- a reader has read the header
pub record Begins {F : Type 0} (d : FolderMeanings F) (old new : F) (name : List ℕ) (m : ModelData) (digest : List ℕ) (r : TableReader) : Type 0 where
  pub starts : Given (d.holds old) name (λ file. Starts digest (shape_of m.grid) file (Ok r))
  pub shape : r.shape ≡ shape_of m.grid
  pub holds : d.holds new ≡ d.holds old
  pub taken : Takes d old new 0 (reader_state r).taken
  pub within : StaysWithin (d.holds old) name 0 (reader_state r).taken

module _ {X : Type 0} (IsOf : List ℕ → X → Type 0) (m : ModelData) (digest : List ℕ) where
  fault_given : (bytes : List ℕ) (fault : AcceptFault) → IsAnswer m digest bytes fault → Gives IsOf m digest (Some bytes) (Err fault)
  fault_given bytes (Refused refusal) answer = answer
  fault_given bytes Absent answer = absurd answer
  fault_given bytes Failed answer = tt
  fault_given bytes Memory answer = tt

  reads_file : (file : Option (List ℕ)) (t : TableCheck) (result : Result X AcceptFault) → Starts digest (shape_of m.grid) file (Ok t.reader)
      → IfSome file (λ bytes. HasAccepted m digest t 0 bytes → Gives IsOf m digest (Some bytes) result) → Gives IsOf m digest file result
  reads_file None t result begins reads = absurd begins
  reads_file (Some bytes) t result begins reads = reads (record { stands = begins; none = refl })

  reads_given : (holds : Option Files) (name : List ℕ) (t : TableCheck) (result : Result X AcceptFault) → Given holds name (λ file. Starts digest (shape_of m.grid) file (Ok t.reader))
      → Told holds name (λ bytes. HasAccepted m digest t 0 bytes → Gives IsOf m digest (Some bytes) result) → Given holds name (λ file. Gives IsOf m digest file result)
  reads_given None name t result begins reads = tt
  reads_given (Some files) name t result begins reads = reads_file (get files name) t result begins reads

  -- a fault in the entries
  pub fault_in_layers : (holds : Option Files) (name : List ℕ) (t : TableCheck) (fault : AcceptFault) → Given holds name (λ file. Starts digest (shape_of m.grid) file (Ok t.reader))
      → Told holds name (λ bytes. HasAccepted m digest t 0 bytes → IsAnswer m digest bytes fault) → Given holds name (λ file. Gives IsOf m digest file (Err fault))
  fault_in_layers holds name t fault begins answers =
      reads_given holds name t (Err fault) begins
      (told_map holds name (λ bytes. HasAccepted m digest t 0 bytes → IsAnswer m digest bytes fault) _ (λ bytes answer accepted. fault_given bytes fault (answer accepted)) answers)

  -- a fault behind them
  pub fault_at_end : (holds : Option Files) (name : List ℕ) (t all : TableCheck) (given : X) (fault : AcceptFault) → Given holds name (λ file. Starts digest (shape_of m.grid) file (Ok t.reader))
      → Told holds name (λ bytes. HasAccepted m digest t 0 bytes → HasAccepted m digest all (entries m.grid) bytes × IsOf bytes given)
      → Told holds name (λ bytes. HasAccepted m digest all (entries m.grid) bytes → IsAnswer m digest bytes fault) → Given holds name (λ file. Gives IsOf m digest file (Err fault))
  fault_at_end holds name t all given fault begins reads answers =
      fault_in_layers holds name t fault begins
      (told_map holds name
      (λ bytes. (HasAccepted m digest t 0 bytes → HasAccepted m digest all (entries m.grid) bytes × IsOf bytes given) × (HasAccepted m digest all (entries m.grid) bytes → IsAnswer m digest bytes fault)) _
      (λ bytes both accepted. both.1 (both.0 accepted).0)
      (told_both holds name _ _ reads answers))

  -- no fault
  pub whole_given : (holds : Option Files) (name : List ℕ) (t all : TableCheck) (given : X) → IsModel m → IsBytes digest → Given holds name (λ file. Starts digest (shape_of m.grid) file (Ok t.reader))
      → Told holds name (λ bytes. HasAccepted m digest t 0 bytes → HasAccepted m digest all (entries m.grid) bytes × IsOf bytes given)
      → Told holds name (λ bytes. HasAccepted m digest all (entries m.grid) bytes → HasNoRefusal m digest bytes) → Given holds name (λ file. Gives IsOf m digest file (Ok given))
  whole_given holds name t all given v small begins reads ends =
      reads_given holds name t (Ok given) begins
      (told_map holds name
      (λ bytes. (HasAccepted m digest t 0 bytes → HasAccepted m digest all (entries m.grid) bytes × IsOf bytes given) × (HasAccepted m digest all (entries m.grid) bytes → HasNoRefusal m digest bytes)) _
      (λ bytes both accepted.
      let whole = both.1 (both.0 accepted).0 in
      (whole.none, text_is_bytes m digest bytes v small whole, (both.0 accepted).1))
      (told_both holds name _ _ reads ends))

-- ---- how much of it was read

-- what holds of the length in the format that was read holds of the length that the bytes are to have
pub file_expected : (P : ℕ → Type 0) (m : ModelData) (digest : List ℕ) (holds : Option Files) (name : List ℕ) (t : TableCheck) (format : Format) → format ≡ (reader_state t.reader).format
    → Given holds name (λ file. Starts digest (shape_of m.grid) file (Ok t.reader)) → P (length_of format (shape_of m.grid)) → Told holds name (λ bytes. P (expected_length (shape_of m.grid) bytes))
file_expected P m digest None name t format same begins long = tt
file_expected P m digest (Some files) name t format same begins long = of_file (get files name) begins
  where
    of_file : (file : Option (List ℕ)) → Starts digest (shape_of m.grid) file (Ok t.reader) → IfSome file (λ bytes. P (expected_length (shape_of m.grid) bytes))
    of_file None begins = tt
    of_file (Some bytes) begins = subst (λ (f : Format). P (length_of f (shape_of m.grid))) (same ∙ sym begins.format) long

-- of a file that is read from its front on, no byte is taken twice
once_read : (holds mid new : Option Files) (name : List ℕ) (first all a c last : ℕ) → mid ≡ holds → new ≡ mid → StaysWithin holds name 0 first → StaysWithin mid name first all → TakesLeft new name all c last
    → c ≤ raised a all → TakesOnce (name ∷ []) holds a last
once_read None mid new name first all a c last one two begins reads left taken = tt
once_read (Some files) mid new name first all a c last one two begins reads left taken =
    let on = subst (λ (h : Option Files). StaysWithin h name first all) one reads in
    let rest = subst (λ (h : Option Files). TakesLeft h name all c last) (two ∙ one) left in
    let so_far : all ≤ length_of_file (get files name) = on.told (begins.told (omega arith)) in
    omega (arith, so_far, rest.told so_far, taken)

-- nothing more is taken
pub none_left : (holds : Option Files) (name : List ℕ) (so_far before : ℕ) → TakesLeft holds name so_far before before
none_left None name so_far before = record { told = tt }
none_left (Some files) name so_far before = record { told = λ inside. omega arith }

length_most : (f : Format) (s : TableShape) → length_of f s ≤ length_of Layered s
length_most Whole s = omega arith
length_most Layered s = omega arith

module _ {F X : Type 0} (d : FolderMeanings F) (old mid new last : F) (name : List ℕ) (m : ModelData) (digest : List ℕ) (t all : TableCheck) (result : Result X AcceptFault)
    (begins : Begins d old mid name m digest t.reader) (reads : ReadsOn d mid new name t all result) (left : TakesLeft (d.holds new) name (reader_state all.reader).taken (d.taken new) (d.taken last)) where
  at_most_read : d.taken last ≤ raised (d.taken old) (length_of all.reader.format (shape_of m.grid) + 1) → TakesAtMost d old last name (shape_of m.grid)
  at_most_read most = record {
    most_taken = omega (arith, most, length_most all.reader.format (shape_of m.grid));
    most_of_file = file_expected (λ n. d.taken last ≤ raised (d.taken old) (n + 1)) m digest (d.holds old) name t all.reader.format reads.format begins.starts most;
    once = once_read (d.holds old) (d.holds mid) (d.holds new) name (reader_state t.reader).taken (reader_state all.reader).taken (d.taken old) (d.taken new) (d.taken last)
        begins.holds reads.frame.holds begins.within reads.within left (omega (arith, begins.taken.taken, reads.taken.later, reads.taken.taken));
  }

  -- a fault behind the header
  pub fault_read : {Y : Type 0} (fault : AcceptFault) → d.taken last ≤ raised (d.taken new) (length_of all.reader.format all.reader.shape + 1 - (reader_state all.reader).taken)
      → ReadsOnce {X = Y} d old last name (shape_of m.grid) (Err fault)
  fault_read fault most =
      let so_far : d.taken last ≤ raised (d.taken old) (length_of all.reader.format all.reader.shape + 1) =
      omega (arith, begins.taken.taken, reads.taken.later, reads.taken.taken, most, all.reader.limit, all.reader.source.limited) in
      let of_shape = subst (λ (s : TableShape). d.taken last ≤ raised (d.taken old) (length_of all.reader.format s + 1)) (reads.shape ∙ begins.shape) so_far in
      record { all_taken = tt; all_of_file = tt; at_most = at_most_read of_shape }

  -- no fault
  pub whole_read : {Y : Type 0} (given : Y) → Takes d new last (reader_state all.reader).taken (length_of all.reader.format all.reader.shape) → ReadsOnce d old last name (shape_of m.grid) (Ok given)
  whole_read given rest =
      let long =
      subst (λ (s : TableShape). d.taken last ≡ raised (d.taken old) (length_of all.reader.format s)) (reads.shape ∙ begins.shape)
      (omega (arith, begins.taken.taken, reads.taken.later, reads.taken.taken, rest.later, rest.taken)) in
      record {
        all_taken = (all.reader.format, long);
        all_of_file = file_expected (λ n. d.taken last ≡ raised (d.taken old) n) m digest (d.holds old) name t all.reader.format reads.format begins.starts long;
        at_most = at_most_read (omega (arith, long));
      }

-- ---- what is given

pub are_allowed : (m : ModelData) (advices : AdvicesData) → AreAllowedBelow m (m.grid.horizon + 1) advices → AreAllowed m advices
are_allowed m advices allowed = record { each = λ n state some seconds inside. allowed.each n state some (omega arith) inside }
