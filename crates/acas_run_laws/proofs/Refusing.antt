-- What looking at the files of a form is refused by.
use Rattle.std.proofs.Common.{◌≡◌, ◌<◌, ℕ, List, length, Option, None, Some, Result, Ok, Err, Bool, true, false, cond, nat_lt, refl, sym, subst}
use Rattle.std.specs.Prelude.{IsSomeAnd}
use Rattle.std.specs.FinMap.{get}
use Rattle.std.proofs.lemmas.Bool.{ltb-false, ltb-true}
use Rattle.sha2.specs.Sha256.{sha256}
use Rattle.acas_units.specs.declared.limits.TheConstants.{TEXT_BYTES}
use Rattle.acas_spec.specs.Model.{ModelData}
use Rattle.acas_model.specs.Whole.{model_of}
use Rattle.acas_model.specs.declared.fault.ModelFault.{ModelFault}
use Rattle.acas_outside.specs.Files.{Files}
use Rattle.acas_doc.specs.declared.input_fault.InputFault.{InputFault}
use Rattle.acas_accept.specs.Refusals.{first_refusal}
use Rattle.acas_table_text.specs.declared.refusal.TableRefusal.{TableRefusal}
use Rattle.acas_command.specs.Called.{MayPrint}
use Rattle.acas_command.specs.Calls.{with_input, with_input_file, with_model, with_reading, with_text}
use Rattle.acas_command.specs.ModelFile.{IsModelFile}
use Rattle.acas_command.specs.Outcome.{Outcome, refuses}
use Rattle.acas_command.specs.TextFile.{IsTextFile}
use Rattle.acas_command.specs.declared.status.Cause.{Cause}
use Rattle.acas_command.specs.declared.status.Cause.TheVariants.{Input, TooLong}
use Rattle.acas_command.specs.declared.status.FileRole.{FileRole}
use Rattle.acas_command.specs.declared.status.FileRole.TheVariants.{Model as ModelFile, Table as TableFile}
use Rattle.acas_table_file.specs.Calls.{with_acceptance, with_table}
use Rattle.acas_cli_words.specs.Words.{Form}
use Rattle.acas_run_laws.specs.Refusals.{RefusesBy, TableIsRefused}

some-and : (P : List ℕ → Type 0) (o : Option (List ℕ)) (bytes : List ℕ) → o ≡ Some bytes → P bytes → IsSomeAnd o P
some-and P o bytes e h = subst (λ (x : Option (List ℕ)). IsSomeAnd x P) (sym e) h

-- a refusal by a file of a form, or by what stands behind it
module _ (form : Form) (name : FileRole → List ℕ) (files : Files) (cause : Cause) where
  pub refused-text : (role : FileRole) (rest : List ℕ → Outcome) → ((bytes : List ℕ) → IsTextFile (get files (name role)) bytes → (rest bytes).cause ≡ cause → RefusesBy form name files cause)
      → (with_text role (get files (name role)) rest).cause ≡ cause → RefusesBy form name files cause
  refused-text role rest behind h = by_file (get files (name role)) refl h
    where
      in_length : (bytes : List ℕ) (b : Bool) → get files (name role) ≡ Some bytes → nat_lt TEXT_BYTES (length bytes) ≡ b
          → (cond b (refuses (TooLong role)) (rest bytes)).cause ≡ cause → RefusesBy form name files cause
      in_length bytes true there test h =
          subst (RefusesBy form name files) h (some-and (λ bs. TEXT_BYTES < length bs) (get files (name role)) bytes there (ltb-true TEXT_BYTES (length bytes) test))
      in_length bytes false there test h = behind bytes (record { there = there; short = ltb-false TEXT_BYTES (length bytes) test }) h

      by_file : (o : Option (List ℕ)) → get files (name role) ≡ o → (with_text role o rest).cause ≡ cause → RefusesBy form name files cause
      by_file None there h = subst (RefusesBy form name files) h there
      by_file (Some bytes) there h = in_length bytes (nat_lt TEXT_BYTES (length bytes)) there refl h

  pub refused-model : (rest : List ℕ → ModelData → Outcome)
      → ((digest : List ℕ) (m : ModelData) → IsModelFile (get files (name ModelFile)) digest m → (rest digest m).cause ≡ cause → RefusesBy form name files cause)
      → (with_model (get files (name ModelFile)) rest).cause ≡ cause → RefusesBy form name files cause
  refused-model rest behind h =
      refused-text ModelFile (λ bytes. with_reading (model_of bytes) (rest (sha256 bytes))) (λ bytes text h. read bytes text (model_of bytes) refl h) h
    where
      read : (bytes : List ℕ) → IsTextFile (get files (name ModelFile)) bytes → (r : Result ModelData ModelFault) → model_of bytes ≡ r
          → (with_reading r (rest (sha256 bytes))).cause ≡ cause → RefusesBy form name files cause
      read bytes text (Ok m) is h = behind (sha256 bytes) m (record { bytes = bytes; text = text; read = is; hashed = refl }) h
      read bytes text (Err fault) is h = subst (RefusesBy form name files) h (some-and (λ bs. model_of bs ≡ Err fault) (get files (name ModelFile)) bytes text.there is)

  pub refused-table : (digest : List ℕ) (m : ModelData) (rest : List ℕ → Outcome) → IsModelFile (get files (name ModelFile)) digest m
      → ((bytes : List ℕ) → (rest bytes).cause ≡ cause → RefusesBy form name files cause)
      → (with_table m digest (get files (name TableFile)) rest).cause ≡ cause → RefusesBy form name files cause
  refused-table digest m rest file behind h = by_file (get files (name TableFile)) refl h
    where
      accepted : (bytes : List ℕ) (o : Option TableRefusal) → get files (name TableFile) ≡ Some bytes → first_refusal m digest bytes ≡ o
          → (with_acceptance o (rest bytes)).cause ≡ cause → RefusesBy form name files cause
      accepted bytes None there is h = behind bytes h
      accepted bytes (Some refusal) there is h =
          let refused : TableIsRefused name files refusal = record {
            digest = digest;
            m = m;
            file = file;
            refused = some-and (λ bs. first_refusal m digest bs ≡ Some refusal) (get files (name TableFile)) bytes there is;
          } in
          subst (RefusesBy form name files) h refused

      by_file : (o : Option (List ℕ)) → get files (name TableFile) ≡ o → (with_table m digest o rest).cause ≡ cause → RefusesBy form name files cause
      by_file None there h = subst (RefusesBy form name files) h there
      by_file (Some bytes) there h = accepted bytes (first_refusal m digest bytes) there refl h

  pub refused-input : {A : Type 0} (role : FileRole) (read : List ℕ → Result A InputFault) (rest : A → Outcome)
      → ((fault : InputFault) → IsSomeAnd (get files (name role)) (λ bytes. read bytes ≡ Err fault) → RefusesBy form name files (Input fault))
      → ((said : A) → (rest said).cause ≡ cause → RefusesBy form name files cause)
      → (with_input_file role read (get files (name role)) rest).cause ≡ cause → RefusesBy form name files cause
  refused-input {A = A} role read rest fault_of behind h = refused-text role (λ bytes. with_input (read bytes) rest) (λ bytes text h. by_read bytes text.there (read bytes) refl h) h
    where
      by_read : (bytes : List ℕ) → get files (name role) ≡ Some bytes → (r : Result A InputFault) → read bytes ≡ r → (with_input r rest).cause ≡ cause → RefusesBy form name files cause
      by_read bytes there (Ok said) is h = behind said h
      by_read bytes there (Err fault) is h = subst (RefusesBy form name files) h (fault_of fault (some-and (λ bs. read bs ≡ Err fault) (get files (name role)) bytes there is))

  -- what is printed refuses nothing
  pub refused-printed : (o : Outcome) → ¬ MayPrint cause → MayPrint o.cause → o.cause ≡ cause → RefusesBy form name files cause
  refused-printed o never may h = absurd (never (subst MayPrint h may))
