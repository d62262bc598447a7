-- What a command that writes one file leaves in the folder.
use Rattle.std.proofs.Common.{◌≡◌, ℕ, ◌<◌, nat_lt, Bool, true, false, cond, Result, Ok, Err, List, length, take, Option, None, Some, ◌⊎◌, inl, inr, ⊎_elim, refl, sym, ap, subst, ◌∙◌, arith}
use Rattle.std.specs.Prelude.{IsSomeAnd}
use Rattle.std.specs.FinMap.{get, insert}
use Rattle.sha2.specs.Sha256.{sha256}
use Rattle.acas_units.specs.declared.limits.TheConstants.{TEXT_BYTES}
use Rattle.acas_spec.specs.Model.{ModelData}
use Rattle.acas_model.specs.Whole.{model_of}
use Rattle.acas_model.specs.declared.fault.ModelFault.{ModelFault}
use Rattle.acas_outside.specs.Files.{Files, StoresPart}
use Rattle.acas_outside.specs.Outside.{Outside}
use Rattle.acas_outside.proofs.Inserted.{get-insert_other}
use Rattle.acas_accept.specs.Refusals.{first_refusal}
use Rattle.acas_table_text.specs.declared.refusal.TableRefusal.{TableRefusal}
use Rattle.acas_command.specs.Answers.{Agrees}
use Rattle.acas_command.specs.Called.{MayPrint, MayStorePart, calls_for}
use Rattle.acas_command.specs.Calls.{with_model, with_reading}
use Rattle.acas_command.specs.Codes.{code_of}
use Rattle.acas_command.specs.Outcome.{Outcome, refuses, stores, with_file}
use Rattle.acas_command.specs.declared.status.Cause.{Cause}
use Rattle.acas_command.specs.declared.status.Cause.TheVariants.{Done, Reported, Words, Absent, Model, Table, Input, Folder, Output, TooLong, Memory}
use Rattle.acas_command.specs.declared.status.FileRole.TheVariants.{Model as ModelFile}
use Rattle.acas_table_file.specs.Calls.{with_acceptance, with_table}
use Rattle.acas_run_laws.proofs.Kept.{same-name}

-- ---- who is refused stores nothing

-- an outcome with whose cause nothing is printed has no file
abbrev pub StoresNothing : Outcome → Type 0
StoresNothing o = ¬ MayPrint o.cause → o.file ≡ None

pub nothing-model : (file : Option (List ℕ)) (rest : List ℕ → ModelData → Outcome) → ((digest : List ℕ) (m : ModelData) → StoresNothing (rest digest m)) → StoresNothing (with_model file rest)
nothing-model None rest behind never = refl
nothing-model (Some bytes) rest behind never = in_length (nat_lt TEXT_BYTES (length bytes)) never
  where
    read : (r : Result ModelData ModelFault) → StoresNothing (with_reading r (rest (sha256 bytes)))
    read (Ok m) never = behind (sha256 bytes) m never
    read (Err fault) never = refl

    in_length : (b : Bool) → StoresNothing (cond b (refuses (TooLong ModelFile)) (with_reading (model_of bytes) (rest (sha256 bytes))))
    in_length true never = refl
    in_length false never = read (model_of bytes) never

pub nothing-table : (m : ModelData) (digest : List ℕ) (file : Option (List ℕ)) (rest : List ℕ → Outcome) → ((bytes : List ℕ) → StoresNothing (rest bytes)) → StoresNothing (with_table m digest file rest)
nothing-table m digest None rest behind never = refl
nothing-table m digest (Some bytes) rest behind never = accepted (first_refusal m digest bytes) never
  where
    accepted : (o : Option TableRefusal) → StoresNothing (with_acceptance o (rest bytes))
    accepted None never = behind bytes never
    accepted (Some refusal) never = refl

pub prints_or_not : (cause : Cause) → MayPrint cause ⊎ (¬ MayPrint cause)
prints_or_not Done = inl tt
prints_or_not Reported = inl tt
prints_or_not Words = inr (λ h. h)
prints_or_not (Absent role) = inr (λ h. h)
prints_or_not (Model fault) = inr (λ h. h)
prints_or_not (Table refusal) = inr (λ h. h)
prints_or_not (Input fault) = inr (λ h. h)
prints_or_not Folder = inr (λ h. h)
prints_or_not Output = inr (λ h. h)
prints_or_not (TooLong role) = inr (λ h. h)
prints_or_not Memory = inr (λ h. h)

-- ---- what is written

-- a command that goes on stores such a text under a name, and is done
pub record GoesOn (name : List ℕ) (IsText : List ℕ → Type 0) (o : Outcome) : Type 0 where
  pub text : List ℕ
  pub line : List ℕ
  pub right : IsText text
  pub is : o ≡ stores name text line

-- the name holds such a text, or the first bytes of one and not all
pub record HoldsWhole (name : List ℕ) (IsText : List ℕ → Type 0) (files : Files) (now : Option Files) : Type 0 where
  pub text : List ℕ
  pub right : IsText text
  pub stored : now ≡ Some (insert files name text)

pub record HoldsPart (name : List ℕ) (IsText : List ℕ → Type 0) (files : Files) (now : Option Files) : Type 0 where
  pub text : List ℕ
  pub right : IsText text
  pub count : ℕ
  pub proper : count < length text
  pub stored : now ≡ Some (insert files name (take count text))

module _ (names : List (List ℕ)) (name : List ℕ) (IsText : List ℕ → Type 0) (outcome_of : Files → Outcome) (files : Files)
    (goes_on : MayPrint (outcome_of files).cause → GoesOn name IsText (outcome_of files)) (nothing : StoresNothing (outcome_of files)) where
  whole : (now : Option Files) (o : Outcome) → o ≡ outcome_of files → MayPrint o.cause → now ≡ Some (with_file o.file files) → HoldsWhole name IsText files now
  whole now o called may stored =
      let g = goes_on (subst (λ (p : Outcome). MayPrint p.cause) called may) in
      record { text = g.text; right = g.right; stored = stored ∙ ap (λ (p : Outcome). Some (with_file p.file files)) (called ∙ g.is) }

  -- with the causes of the codes 0 and 8
  pub written-whole : (cause : Cause) (before after : Outside) → Agrees (calls_for names outcome_of) files cause before after → (code_of cause ≡ 0) ⊎ (code_of cause ≡ 8)
      → HoldsWhole name IsText files after.holds
  written-whole Done before after a e = whole after.holds a.outcome a.may (subst MayPrint (sym a.ends) tt) a.stored
  written-whole Reported before after a e = absurd (omega arith)
  written-whole Words before after a e = absurd a
  written-whole (Absent role) before after a e = absurd (omega arith)
  written-whole (Model fault) before after a e = absurd (omega arith)
  written-whole (Table refusal) before after a e = absurd (omega arith)
  written-whole (Input fault) before after a e = absurd (omega arith)
  written-whole Folder before after a e = absurd (omega arith)
  written-whole Output before after a e = whole after.holds _ refl a.prints a.stored
  written-whole (TooLong role) before after a e = absurd (omega arith)
  written-whole Memory before after a e = absurd (omega arith)

  -- where the folder failed: one that is refused stores nothing, and one that goes on may have stored a part
  stored-part : (now : Option Files) → MayStorePart (outcome_of files).file files now → (now ≡ Some files) ⊎ HoldsPart name IsText files now
  stored-part now stored = ⊎_elim (λ may. part (goes_on may)) (λ never. kept (nothing never)) (prints_or_not (outcome_of files).cause)
    where
      part : GoesOn name IsText (outcome_of files) → (now ≡ Some files) ⊎ HoldsPart name IsText files now
      part g = ⊎_elim (λ same. inl same)
          (λ (p : StoresPart (Some files) now name g.text). inr (record { text = g.text; right = g.right; count = p.count; proper = p.proper; stored = p.stored }))
          (subst (λ (o : Outcome). MayStorePart o.file files now) g.is stored)

      none_stored : MayStorePart None files now → (now ≡ Some files) ⊎ HoldsPart name IsText files now
      none_stored s = ⊎_elim (λ same. inl same) (λ never. absurd never) s

      kept : (outcome_of files).file ≡ None → (now ≡ Some files) ⊎ HoldsPart name IsText files now
      kept none = none_stored (subst (λ (f : Option (List ℕ × List ℕ)). MayStorePart f files now) none stored)

  -- with that of the code 7
  pub written-part : (cause : Cause) (before after : Outside) → Agrees (calls_for names outcome_of) files cause before after → code_of cause ≡ 7
      → (after.holds ≡ Some files) ⊎ HoldsPart name IsText files after.holds
  written-part Done before after a e = absurd (omega arith)
  written-part Reported before after a e = absurd (omega arith)
  written-part Words before after a e = absurd a
  written-part (Absent role) before after a e = absurd (omega arith)
  written-part (Model fault) before after a e = absurd (omega arith)
  written-part (Table refusal) before after a e = absurd (omega arith)
  written-part (Input fault) before after a e = absurd (omega arith)
  written-part Folder before after a e = stored-part after.holds a
  written-part Output before after a e = absurd (omega arith)
  written-part (TooLong role) before after a e = absurd (omega arith)
  written-part Memory before after a e = absurd (omega arith)

  -- with all other causes
  pub written-none : (cause : Cause) (before after : Outside) → Agrees (calls_for names outcome_of) files cause before after
      → (code_of cause ≡ 0 → ⊥) → (code_of cause ≡ 7 → ⊥) → (code_of cause ≡ 8 → ⊥) → after.holds ≡ Some files
  written-none Done before after a done folder output = absurd (done refl)
  written-none Reported before after a done folder output =
      let g = goes_on (subst (λ (o : Outcome). MayPrint o.cause) a.may (subst MayPrint (sym a.ends) tt)) in
      let both = sym a.ends ∙ ap (λ (o : Outcome). o.cause) (a.may ∙ g.is) in
      absurd (cc both)
  written-none Words before after a done folder output = absurd a
  written-none (Absent role) before after a done folder output = a.kept
  written-none (Model fault) before after a done folder output = a.kept
  written-none (Table refusal) before after a done folder output = a.kept
  written-none (Input fault) before after a done folder output = a.kept
  written-none Folder before after a done folder output = absurd (folder refl)
  written-none Output before after a done folder output = absurd (output refl)
  written-none (TooLong role) before after a done folder output = a.kept
  written-none Memory before after a done folder output = a

  -- whatever it answers, no other name holds anything else
  pub written-other : (cause : Cause) (before after : Outside) (other : List ℕ) → Agrees (calls_for names outcome_of) files cause before after → (other ≡ name → ⊥)
      → IsSomeAnd after.holds (λ now. get now other ≡ get files other)
  written-other cause before after other a apart = by_cause cause a
    where
      -- the files as before, or with something else under the name
      same : after.holds ≡ Some files → IsSomeAnd after.holds (λ now. get now other ≡ get files other)
      same e = same-name files other after.holds e

      changed : (bytes : List ℕ) → after.holds ≡ Some (insert files name bytes) → IsSomeAnd after.holds (λ now. get now other ≡ get files other)
      changed bytes e = subst (λ (o : Option Files). IsSomeAnd o (λ now. get now other ≡ get files other)) (sym e) (get-insert_other files name bytes other apart)

      whole_there : HoldsWhole name IsText files after.holds → IsSomeAnd after.holds (λ now. get now other ≡ get files other)
      whole_there h = changed h.text h.stored

      part_there : HoldsPart name IsText files after.holds → IsSomeAnd after.holds (λ now. get now other ≡ get files other)
      part_there h = changed (take h.count h.text) h.stored

      by_cause : (c : Cause) → Agrees (calls_for names outcome_of) files c before after → IsSomeAnd after.holds (λ now. get now other ≡ get files other)
      by_cause Done a = whole_there (written-whole Done before after a (inl refl))
      by_cause Reported a = same (written-none Reported before after a (λ e. omega arith) (λ e. omega arith) (λ e. omega arith))
      by_cause Words a = absurd a
      by_cause (Absent role) a = same a.kept
      by_cause (Model fault) a = same a.kept
      by_cause (Table refusal) a = same a.kept
      by_cause (Input fault) a = same a.kept
      by_cause Folder a = ⊎_elim same part_there (written-part Folder before after a refl)
      by_cause Output a = whole_there (written-whole Output before after a (inr refl))
      by_cause (TooLong role) a = same a.kept
      by_cause Memory a = same a
