-- What a command calls for, behind the file of a table, and the file of a command that is not refused, or refused, by it.
use Rattle.std.proofs.Common.{◌≡◌, ℕ, List, Option, None, Some, refl, subst, ap, ◌∙◌, sym}
use Rattle.std.specs.Prelude.{IfSome, IsSomeAnd}
use Rattle.std.specs.FinMap.{get}
use Rattle.sha2.specs.Sha256.{sha256}
use Rattle.sha2.proofs.Facts256.{length-sha256}
use Rattle.acas_spec.specs.Model.{ModelData}
use Rattle.acas_spec.specs.Table.{Table}
use Rattle.acas_grid.specs.Grid.{state_number, vertex_number}
use Rattle.acas_base.specs.Advices.{AdvicesData}
use Rattle.acas_base.specs.Layers.{LayersData}
use Rattle.acas_means.proofs.NumberedStates.{state_number-below}
use Rattle.acas_outside.specs.Bytes.{IsBytes}
use Rattle.acas_outside.specs.Files.{Files, Given}
use Rattle.acas_table_text.specs.declared.refusal.TableRefusal.{TableRefusal}
use Rattle.acas_accept.specs.Answers.{HasLayers}
use Rattle.acas_accept.specs.Refusals.{first_refusal}
use Rattle.acas_accept.proofs.Tables.{accepted_has_none, given_is_accepted}
use Rattle.acas_accept.specs.GivenTable.{given_table}
use Rattle.acas_command.specs.Called.{MayPrint}
use Rattle.acas_command.specs.Calls.{with_model}
use Rattle.acas_command.specs.Outcome.{Outcome}
use Rattle.acas_command.specs.Says.{SaysModel}
use Rattle.acas_command.specs.declared.status.Cause.TheVariants.{Input, Table as Refused}
use Rattle.acas_doc.specs.declared.input_fault.InputFault.{InputFault}
use Rattle.acas_command.proofs.Behind.{told-map}
use Rattle.acas_command.proofs.Refused.{IsNoFileCause, behind-model}
use Rattle.acas_command.proofs.Says.{file-says, read-model, says-model}
use Rattle.acas_table_file.specs.AcceptedFile.{IsLayersFile, IsTableFile, IsTableOf}
use Rattle.acas_table_file.specs.Calls.{with_acceptance, with_table}
use Rattle.acas_table_file.specs.Worth.{RejectsTable, SaysTable, TellsAdvices}

pub with_table-accepted : (m : ModelData) (digest bytes : List ℕ) (rest : List ℕ → Outcome) → first_refusal m digest bytes ≡ None → with_table m digest (Some bytes) rest ≡ rest bytes
with_table-accepted m digest bytes rest none = rw none refl

-- behind the table's file, where nothing more is asked of its bytes
pub with_table-file : (m : ModelData) (digest : List ℕ) (file : Option (List ℕ)) (advices : AdvicesData) (o : Outcome) → IsTableFile m digest file advices → with_table m digest file (λ bytes. o) ≡ o
with_table-file m digest file advices o is = ap (λ (f : Option (List ℕ)). with_table m digest f (λ bytes. o)) is.there ∙ with_table-accepted m digest is.bytes (λ bytes. o) is.accepted

pub called-table : (holds : Option Files) (name digest : List ℕ) (m : ModelData) (advices : AdvicesData) (o : Outcome) → Given holds name (λ file. IsTableFile m digest file advices)
    → IfSome holds (λ files. with_table m digest (get files name) (λ bytes. o) ≡ o)
called-table holds name digest m advices o accepted = told-map holds _ _ (λ files is. with_table-file m digest (get files name) advices o is) accepted

-- behind it, where what goes on with its bytes is the same for all bytes that have these layers
with_table-layers : (m : ModelData) (digest : List ℕ) (file : Option (List ℕ)) (layers : LayersData) (rest : List ℕ → Outcome) (o : Outcome) → ((bytes : List ℕ) → HasLayers m bytes layers → rest bytes ≡ o)
    → IsLayersFile m digest file layers → with_table m digest file rest ≡ o
with_table-layers m digest file layers rest o same is =
    ap (λ (f : Option (List ℕ)). with_table m digest f rest) is.there ∙ with_table-accepted m digest is.bytes rest is.accepted ∙ same is.bytes is.held

pub called-layers : (holds : Option Files) (name digest : List ℕ) (m : ModelData) (layers : LayersData) (rest : List ℕ → Outcome) (o : Outcome) → ((bytes : List ℕ) → HasLayers m bytes layers → rest bytes ≡ o)
    → Given holds name (λ file. IsLayersFile m digest file layers) → IfSome holds (λ files. with_table m digest (get files name) rest ≡ o)
called-layers holds name digest m layers rest o same accepted =
    told-map holds _ _ (λ files is. with_table-layers m digest (get files name) layers rest o same is) accepted

-- a table that is not refused, and one that is
pub behind-table : (m : ModelData) (digest : List ℕ) (file : Option (List ℕ)) (rest : List ℕ → Outcome) → MayPrint (with_table m digest file rest).cause
    → (bytes : List ℕ) × (file ≡ Some bytes) × (first_refusal m digest bytes ≡ None)
behind-table m digest None rest h = absurd h
behind-table m digest (Some bytes) rest h = (bytes, refl, not_refused (first_refusal m digest bytes) (rest bytes) h)
  where
    not_refused : (o : Option TableRefusal) (rest : Outcome) → MayPrint (with_acceptance o rest).cause → o ≡ None
    not_refused None rest h = refl
    not_refused (Some refusal) rest h = absurd h

pub rejected-table : (m : ModelData) (digest : List ℕ) (file : Option (List ℕ)) (rest : List ℕ → Outcome) (refusal : TableRefusal)
    → ((bytes : List ℕ) → (rest bytes).cause ≡ Refused refusal → ⊥) → (with_table m digest file rest).cause ≡ Refused refusal
    → (bytes : List ℕ) × (file ≡ Some bytes) × (first_refusal m digest bytes ≡ Some refusal)
rejected-table m digest None rest refusal never h = absurd (cc h)
rejected-table m digest (Some bytes) rest refusal never h = (bytes, refl, refused (first_refusal m digest bytes) (rest bytes) (never bytes) h)
  where
    refused : (o : Option TableRefusal) (rest : Outcome) → (rest.cause ≡ Refused refusal → ⊥) → (with_acceptance o rest).cause ≡ Refused refusal → o ≡ Some refusal
    refused None rest never h = absurd (never h)
    refused (Some other) rest never h = cc h

-- what is refused as an input is so behind the table
pub behind-input : (m : ModelData) (digest : List ℕ) (file : Option (List ℕ)) (rest : List ℕ → Outcome) (fault : InputFault) → (with_table m digest file rest).cause ≡ Input fault
    → (bytes : List ℕ) × ((rest bytes).cause ≡ Input fault)
behind-input m digest None rest fault h = absurd (cc h)
behind-input m digest (Some bytes) rest fault h = (bytes, behind (first_refusal m digest bytes) (rest bytes) h)
  where
    behind : (o : Option TableRefusal) (rest : Outcome) → (with_acceptance o rest).cause ≡ Input fault → rest.cause ≡ Input fault
    behind None rest h = h
    behind (Some refusal) rest h = absurd (cc h)

-- a table that refuses a command is rejected, where nothing behind it refuses a table
pub rejects-table : (model table : List ℕ) (files : Files) (rest : List ℕ → ModelData → List ℕ → Outcome) (refusal : TableRefusal)
    → ((digest : List ℕ) (m : ModelData) (bytes : List ℕ) → (rest digest m bytes).cause ≡ Refused refusal → ⊥)
    → (with_model (get files model) (λ digest m. with_table m digest (get files table) (rest digest m))).cause ≡ Refused refusal → RejectsTable model table files
rejects-table model table files rest refusal never cause =
    let behind : List ℕ → ModelData → Outcome = λ digest m. with_table m digest (get files table) (rest digest m) in
    let b = behind-model (get files model) behind (subst IsNoFileCause (sym cause) tt) in
    let says : SaysModel files model b.bytes b.m = says-model files model behind b in
    let t = rejected-table b.m (sha256 b.bytes) (get files table) (rest (sha256 b.bytes) b.m) refusal (never (sha256 b.bytes) b.m) (ap (λ (o : Outcome). o.cause) (sym b.is) ∙ cause) in
    record {
      bytes = b.bytes;
      m = b.m;
      given = t.0;
      says = says;
      file = t.1;
      none = λ table_of accepted.
          let none = accepted_has_none b.m (sha256 b.bytes) t.0 table_of says.text.within (length-sha256 b.bytes) accepted in
          let both = sym t.2 ∙ none in
          absurd (cc both);
    }

-- looking at a table's file stores nothing
pub no_file-table : (m : ModelData) (digest : List ℕ) (file : Option (List ℕ)) (rest : List ℕ → Outcome) → ((bytes : List ℕ) → (rest bytes).file ≡ None) → (with_table m digest file rest).file ≡ None
no_file-table m digest None rest none = refl
no_file-table m digest (Some bytes) rest none = accepted (first_refusal m digest bytes) (rest bytes) (none bytes)
  where
    accepted : (o : Option TableRefusal) (rest : Outcome) → rest.file ≡ None → (with_acceptance o rest).file ≡ None
    accepted None rest h = h
    accepted (Some refusal) rest h = refl

-- the file of an accepted table is one of a table whose entries are all sound
pub tells-advices : (model table : List ℕ) (files : Files) (m : ModelData) (advices : AdvicesData) → IsTableOf model table files m advices → TellsAdvices model table files m advices
tells-advices model table files m advices a =
    let bytes : List ℕ = a.model_file.bytes in
    let given : List ℕ = a.table_file.bytes in
    let says : SaysModel files model bytes m = file-says files model a.digest m a.model_file in
    let none : first_refusal m (sha256 bytes) given ≡ None = subst (λ (d : List ℕ). first_refusal m d given ≡ None) a.model_file.hashed a.table_file.accepted in
    record {
      t = given_table m.grid given;
      says = record {
        bytes = bytes;
        given = given;
        says = says;
        file = a.table_file.there;
        accepted = given_is_accepted m (sha256 bytes) given says.text.within a.table_file.whole none;
      };
      tabled = record {
        each = λ n present x some entry.
            a.table_file.held.each n (state_number m.grid present (vertex_number m.grid x)) some entry.seconds (state_number-below m.grid present x entry.present entry.vertex);
      };
    }

-- what goes on behind the files of a model and of such a table
pub read-table : (files : Files) (model table : List ℕ) (m : ModelData) (t : Table) (rest : List ℕ → ModelData → List ℕ → Outcome) (s : SaysTable model table files m t)
    → with_model (get files model) (λ digest n. with_table n digest (get files table) (rest digest n)) ≡ rest (sha256 s.bytes) m s.given
read-table files model table m t rest s =
    let digest : List ℕ = sha256 s.bytes in
    read-model files model s.bytes m (λ d n. with_table n d (get files table) (rest d n)) s.says
    ∙ ap (λ (file : Option (List ℕ)). with_table m digest file (rest digest m)) s.file
    ∙ with_table-accepted m digest s.given (rest digest m) (accepted_has_none m digest s.given t s.says.text.within (length-sha256 s.bytes) s.accepted)

-- a file that is told to be bytes
pub bytes-of : (file : Option (List ℕ)) (bytes : List ℕ) → file ≡ Some bytes → IsSomeAnd file IsBytes → IsBytes bytes
bytes-of file bytes there h = let some : IsSomeAnd (Some bytes) IsBytes = subst (λ (f : Option (List ℕ)). IsSomeAnd f IsBytes) there h in some
