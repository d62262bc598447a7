-- A fault of the reader, answered as a refusal.
use Rattle.std.proofs.Common.{◌≡◌, ℕ, ◌<◌, List, Option, None, Some, Err, sym, ◌∙◌, ap, subst}
use Rattle.std.specs.FinMap.{get}
use Rattle.acas_spec.specs.Model.{ModelData, entries}
use Rattle.acas_outside.specs.Files.{Files, Given}
use Rattle.acas_table_text.specs.Faults.{entry_fault, first_below, header_fault}
use Rattle.acas_table.specs.Reader.{reader_state, Finishes, GivesEntry, HasRead, Starts}
use Rattle.acas_table_text.specs.Shape.{shape_of}
use Rattle.acas_table_text.specs.declared.shape.TableShape.{TableShape}
use Rattle.acas_table.specs.declared.reader.TableReader.{TableReader}
use Rattle.acas_table_text.specs.declared.fault.TableFault.{TableFault}
use Rattle.acas_table_text.specs.declared.fault.TableFault.TheVariants.{Magic, Version, OtherModel, Shape, Length, Advice, Digest, LayerDigest, Failed, Absent, Memory}
use Rattle.acas_accept.specs.Answers.{Gives}
use Rattle.acas_accept.specs.Checking.{IsAnswer}
use Rattle.acas_accept.specs.Faults.{answered}
use Rattle.acas_accept.specs.Refusals.{entry_refusal, first_refusal}
use Rattle.acas_accept.specs.declared.refusal.AcceptFault.{AcceptFault}
use Rattle.acas_table_text.specs.declared.refusal.TableRefusal.TheVariants.{Form}
use Rattle.acas_accept.proofs.Firsts.{at_end, form_refusal, in_entry, in_header}

-- ---- in the header

module _ {X : Type 0} (IsOf : List ℕ → X → Type 0) (m : ModelData) (digest : List ℕ) where
  start_file : (file : Option (List ℕ)) (fault : TableFault) → Starts digest (shape_of m.grid) file (Err fault) → Gives IsOf m digest file (Err (answered fault))
  start_file None Magic starts = absurd starts
  start_file None (Version a) starts = absurd starts
  start_file None (OtherModel a b) starts = absurd starts
  start_file None (Shape a b d) starts = absurd starts
  start_file None (Length a b) starts = absurd starts
  start_file None (Advice a b d) starts = absurd starts
  start_file None (Digest a b) starts = absurd starts
  start_file None (LayerDigest a b d) starts = absurd starts
  start_file None Failed starts = tt
  start_file None Absent starts = starts
  start_file None Memory starts = tt
  start_file (Some bytes) Magic starts = in_header m digest bytes _ starts.0
  start_file (Some bytes) (Version a) starts = in_header m digest bytes _ starts.0
  start_file (Some bytes) (OtherModel a b) starts = in_header m digest bytes _ starts.0
  start_file (Some bytes) (Shape a b d) starts = in_header m digest bytes _ starts.0
  start_file (Some bytes) (Length a b) starts = in_header m digest bytes _ starts.0
  start_file (Some bytes) (Advice a b d) starts = in_header m digest bytes _ starts.0
  start_file (Some bytes) (Digest a b) starts = in_header m digest bytes _ starts.0
  start_file (Some bytes) (LayerDigest a b d) starts = in_header m digest bytes _ starts.0
  start_file (Some bytes) Failed starts = tt
  start_file (Some bytes) Absent starts = starts
  start_file (Some bytes) Memory starts = tt

  start_given : (holds : Option Files) (name : List ℕ) (fault : TableFault) → Given holds name (λ file. Starts digest (shape_of m.grid) file (Err fault)) → Given holds name (λ file. Gives IsOf m digest file (Err (answered fault)))
  start_given None name fault starts = tt
  start_given (Some files) name fault starts = start_file (get files name) fault starts

  pub start_answered : (holds : Option Files) (name : List ℕ) (fault : TableFault) (answer : AcceptFault) → answer ≡ answered fault
      → Given holds name (λ file. Starts digest (shape_of m.grid) file (Err fault)) → Given holds name (λ file. Gives IsOf m digest file (Err answer))
  start_answered holds name fault answer is starts = subst (λ (a : AcceptFault). Given holds name (λ file. Gives IsOf m digest file (Err a))) (sym is) (start_given holds name fault starts)

-- ---- in an entry

pub header_of : (m : ModelData) (digest : List ℕ) (r : TableReader) (bytes : List ℕ) → HasRead digest r bytes → r.shape ≡ shape_of m.grid → header_fault digest (shape_of m.grid) bytes ≡ None
header_of m digest r bytes stands shape = subst (λ (s : TableShape). header_fault digest s bytes ≡ None) shape stands.header

-- the reader has read so many entries, none of which has a refusal
pub record IsPast (m : ModelData) (digest : List ℕ) (r : TableReader) (i : ℕ) (bytes : List ℕ) : Type 0 where
  pub stands : HasRead digest r bytes
  pub none : first_below (entry_refusal m bytes) i ≡ None
  pub shape : r.shape ≡ shape_of m.grid
  pub given : r.given ≡ i

pub entry_same : (m : ModelData) (digest : List ℕ) (r : TableReader) (i : ℕ) (bytes : List ℕ) → IsPast m digest r i bytes → entry_fault (shape_of m.grid) bytes i ≡ entry_fault r.shape bytes r.given
entry_same m digest r i bytes past = ap (λ (s : TableShape). entry_fault s bytes i) (sym past.shape) ∙ ap (λ (k : ℕ). entry_fault r.shape bytes k) (sym past.given)

entry_form : (m : ModelData) (digest : List ℕ) (r : TableReader) (i : ℕ) (bytes : List ℕ) (fault : TableFault) → IsPast m digest r i bytes → i < entries m.grid → entry_fault r.shape bytes r.given ≡ Some fault
    → first_refusal m digest bytes ≡ Some (Form fault)
entry_form m digest r i bytes fault past within here =
    in_entry m digest bytes i (Form fault) (header_of m digest r bytes past.stands past.shape) past.none within (form_refusal m bytes i fault (entry_same m digest r i bytes past ∙ here))

pub entry_answered : (m : ModelData) (digest : List ℕ) (r : TableReader) (i : ℕ) (bytes : List ℕ) (fault : TableFault) → IsPast m digest r i bytes → i < entries m.grid
    → GivesEntry digest (reader_state r) bytes (Err fault) → IsAnswer m digest bytes (answered fault)
entry_answered m digest r i bytes Magic past within gives = entry_form m digest r i bytes _ past within gives.0
entry_answered m digest r i bytes (Version a) past within gives = entry_form m digest r i bytes _ past within gives.0
entry_answered m digest r i bytes (OtherModel a b) past within gives = entry_form m digest r i bytes _ past within gives.0
entry_answered m digest r i bytes (Shape a b d) past within gives = entry_form m digest r i bytes _ past within gives.0
entry_answered m digest r i bytes (Length a b) past within gives = entry_form m digest r i bytes _ past within gives.0
entry_answered m digest r i bytes (Advice a b d) past within gives = entry_form m digest r i bytes _ past within gives.0
entry_answered m digest r i bytes (Digest a b) past within gives = entry_form m digest r i bytes _ past within gives.0
entry_answered m digest r i bytes (LayerDigest a b d) past within gives = entry_form m digest r i bytes _ past within gives.0
entry_answered m digest r i bytes Failed past within gives = tt
entry_answered m digest r i bytes Absent past within gives = absurd gives
entry_answered m digest r i bytes Memory past within gives = tt

pub entry_answered_as : (m : ModelData) (digest : List ℕ) (r : TableReader) (i : ℕ) (bytes : List ℕ) (fault : TableFault) (answer : AcceptFault) → answer ≡ answered fault
    → IsPast m digest r i bytes → i < entries m.grid → GivesEntry digest (reader_state r) bytes (Err fault) → IsAnswer m digest bytes answer
entry_answered_as m digest r i bytes fault answer is past within gives =
    subst (λ (a : AcceptFault). IsAnswer m digest bytes a) (sym is) (entry_answered m digest r i bytes fault past within gives)

-- ---- behind the entries

pub finish_answered : (X : Type 0) (m : ModelData) (digest : List ℕ) (r : TableReader) (bytes : List ℕ) (fault : TableFault) → IsPast m digest r (entries m.grid) bytes
    → Finishes {X = X} digest (shape_of m.grid) bytes (Err fault) → IsAnswer m digest bytes (answered fault)
finish_answered X m digest r bytes Magic past ends = at_end m digest bytes _ (header_of m digest r bytes past.stands past.shape) past.none ends.0
finish_answered X m digest r bytes (Version a) past ends = at_end m digest bytes _ (header_of m digest r bytes past.stands past.shape) past.none ends.0
finish_answered X m digest r bytes (OtherModel a b) past ends = at_end m digest bytes _ (header_of m digest r bytes past.stands past.shape) past.none ends.0
finish_answered X m digest r bytes (Shape a b d) past ends = at_end m digest bytes _ (header_of m digest r bytes past.stands past.shape) past.none ends.0
finish_answered X m digest r bytes (Length a b) past ends = at_end m digest bytes _ (header_of m digest r bytes past.stands past.shape) past.none ends.0
finish_answered X m digest r bytes (Advice a b d) past ends = at_end m digest bytes _ (header_of m digest r bytes past.stands past.shape) past.none ends.0
finish_answered X m digest r bytes (Digest a b) past ends = at_end m digest bytes _ (header_of m digest r bytes past.stands past.shape) past.none ends.0
finish_answered X m digest r bytes (LayerDigest a b d) past ends = at_end m digest bytes _ (header_of m digest r bytes past.stands past.shape) past.none ends.0
finish_answered X m digest r bytes Failed past ends = tt
finish_answered X m digest r bytes Absent past ends = absurd ends
finish_answered X m digest r bytes Memory past ends = tt

pub finish_answered_as : (X : Type 0) (m : ModelData) (digest : List ℕ) (r : TableReader) (bytes : List ℕ) (fault : TableFault) (answer : AcceptFault) → answer ≡ answered fault
    → IsPast m digest r (entries m.grid) bytes → Finishes {X = X} digest (shape_of m.grid) bytes (Err fault) → IsAnswer m digest bytes answer
finish_answered_as X m digest r bytes fault answer is past ends =
    subst (λ (a : AcceptFault). IsAnswer m digest bytes a) (sym is) (finish_answered X m digest r bytes fault past ends)
