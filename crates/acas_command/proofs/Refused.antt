-- What the files hold where a command was not to be refused by them, and a command that was to be refused by nothing.
use Rattle.std.proofs.Common.{◌≡◌, ℕ, ◌≤◌, List, length, Bool, true, false, cond, nat_lt, Option, None, Some, Result, Ok, Err, refl, ap, sym, subst, ◌∙◌}
use Rattle.std.proofs.lemmas.Bool.{le-ltb, ltb-false}
use Rattle.sha2.specs.Sha256.{sha256}
use Rattle.acas_units.specs.declared.limits.TheConstants.{TEXT_BYTES}
use Rattle.acas_spec.specs.Model.{ModelData}
use Rattle.acas_model.specs.Whole.{model_of}
use Rattle.acas_model.specs.declared.fault.ModelFault.{ModelFault}
use Rattle.acas_outside.specs.Files.{Files}
use Rattle.acas_outside.specs.Outside.{Outside}
use Rattle.acas_command.specs.Answers.{Agrees, HasCause}
use Rattle.acas_command.specs.Called.{Called, MayPrint}
use Rattle.acas_command.specs.Calls.{with_model, with_reading}
use Rattle.acas_command.specs.Outcome.{Outcome, refuses}
use Rattle.acas_command.specs.Worth.{IsDoneUnlessFailed, IsNotRefused}
use Rattle.acas_command.specs.declared.status.Cause.{Cause}
use Rattle.acas_command.specs.declared.status.Cause.TheVariants.{Done, Reported, Words, Absent, Model, Table, Input, Folder, Output, TooLong, Memory}
use Rattle.acas_command.specs.declared.status.FileRole.TheVariants.{Model as ModelFile}

-- a cause that no file's absence, length or text gives
abbrev pub IsNoFileCause : Cause → Type 0
IsNoFileCause Done = Unit {0}
IsNoFileCause Reported = Unit {0}
IsNoFileCause Words = Unit {0}
IsNoFileCause (Absent role) = ⊥
IsNoFileCause (Model fault) = ⊥
IsNoFileCause (Table refusal) = Unit {0}
IsNoFileCause (Input fault) = Unit {0}
IsNoFileCause Folder = Unit {0}
IsNoFileCause Output = Unit {0}
IsNoFileCause (TooLong role) = ⊥
IsNoFileCause Memory = Unit {0}

pub no_file_cause-may_print : (cause : Cause) → MayPrint cause → IsNoFileCause cause
no_file_cause-may_print Done h = tt
no_file_cause-may_print Reported h = tt
no_file_cause-may_print Words h = tt
no_file_cause-may_print (Absent role) h = h
no_file_cause-may_print (Model fault) h = h
no_file_cause-may_print (Table refusal) h = tt
no_file_cause-may_print (Input fault) h = tt
no_file_cause-may_print Folder h = tt
no_file_cause-may_print Output h = tt
no_file_cause-may_print (TooLong role) h = h
no_file_cause-may_print Memory h = tt

-- a file is a model's text, and the rest goes on behind it
pub record IsBehindModel (file : Option (List ℕ)) (rest : List ℕ → ModelData → Outcome) : Type 0 where
  pub bytes : List ℕ
  pub m : ModelData
  pub there : file ≡ Some bytes
  pub short : length bytes ≤ TEXT_BYTES
  pub read : model_of bytes ≡ Ok m
  pub is : with_model file rest ≡ rest (sha256 bytes) m

short-enough : (b : Bool) (rest : Outcome) → IsNoFileCause (cond b (refuses (TooLong ModelFile)) rest).cause → b ≡ false
short-enough true rest h = absurd h
short-enough false rest h = refl

read-whole : (r : Result ModelData ModelFault) (rest : ModelData → Outcome) → IsNoFileCause (with_reading r rest).cause → (m : ModelData) × (r ≡ Ok m)
read-whole (Ok m) rest h = (m, refl)
read-whole (Err fault) rest h = absurd h

pub behind-model : (file : Option (List ℕ)) (rest : List ℕ → ModelData → Outcome) → IsNoFileCause (with_model file rest).cause → IsBehindModel file rest
behind-model None rest h = absurd h
behind-model (Some bytes) rest h =
    let tail : Outcome = with_reading (model_of bytes) (rest (sha256 bytes)) in
    let short : nat_lt TEXT_BYTES (length bytes) ≡ false = short-enough (nat_lt TEXT_BYTES (length bytes)) tail h in
    let same : with_model (Some bytes) rest ≡ tail = ap (λ (b : Bool). cond b (refuses (TooLong ModelFile)) tail) short in
    let read = read-whole (model_of bytes) (rest (sha256 bytes)) (subst (λ (o : Outcome). IsNoFileCause o.cause) same h) in
    record {
      bytes = bytes;
      m = read.0;
      there = refl;
      short = ltb-false TEXT_BYTES (length bytes) short;
      read = read.1;
      is = same ∙ ap (λ (r : Result ModelData ModelFault). with_reading r (rest (sha256 bytes))) read.1;
    }

-- the other way: what a model's text goes on with
pub with_model-read : (bytes : List ℕ) (m : ModelData) (rest : List ℕ → ModelData → Outcome) → length bytes ≤ TEXT_BYTES → model_of bytes ≡ Ok m
    → with_model (Some bytes) rest ≡ rest (sha256 bytes) m
with_model-read bytes m rest short read = rw (le-ltb TEXT_BYTES (length bytes) short, read) refl

-- a command that is to be refused by nothing is not refused
pub not_refused : (called : Called) (files : Files) (cause : Cause) (before after : Outside) → ((o : Outcome) → called.ends files o → MayPrint o.cause)
    → HasCause cause before after → Agrees called files cause before after → IsNotRefused cause before after
not_refused called files Done before after prints h a = tt
not_refused called files Reported before after prints h a = tt
not_refused called files Words before after prints h a = h
not_refused called files (Absent role) before after prints h a = subst MayPrint a.refused (prints a.outcome a.may)
not_refused called files (Model fault) before after prints h a = subst MayPrint a.refused (prints a.outcome a.may)
not_refused called files (Table refusal) before after prints h a = subst MayPrint a.refused (prints a.outcome a.may)
not_refused called files (Input fault) before after prints h a = subst MayPrint a.refused (prints a.outcome a.may)
not_refused called files Folder before after prints h a = h
not_refused called files Output before after prints h a = h
not_refused called files (TooLong role) before after prints h a = subst MayPrint a.refused (prints a.outcome a.may)
not_refused called files Memory before after prints h a = tt

-- a command that is to be done is done, unless a call failed or memory was refused
pub done_unless_failed : (called : Called) (files : Files) (cause : Cause) (before after : Outside) → ((o : Outcome) → called.ends files o → o.cause ≡ Done)
    → HasCause cause before after → Agrees called files cause before after → IsDoneUnlessFailed cause before after
done_unless_failed called files Done before after done h a = tt
done_unless_failed called files Reported before after done h a = absurd (never (sym a.ends ∙ done a.outcome a.may))
  where
    never : Reported ≡ Done → ⊥
    never is = cc
done_unless_failed called files Words before after done h a = h
done_unless_failed called files (Absent role) before after done h a = subst MayPrint (sym (done a.outcome a.may) ∙ a.refused) tt
done_unless_failed called files (Model fault) before after done h a = subst MayPrint (sym (done a.outcome a.may) ∙ a.refused) tt
done_unless_failed called files (Table refusal) before after done h a = subst MayPrint (sym (done a.outcome a.may) ∙ a.refused) tt
done_unless_failed called files (Input fault) before after done h a = subst MayPrint (sym (done a.outcome a.may) ∙ a.refused) tt
done_unless_failed called files Folder before after done h a = h
done_unless_failed called files Output before after done h a = h
done_unless_failed called files (TooLong role) before after done h a = subst MayPrint (sym (done a.outcome a.may) ∙ a.refused) tt
done_unless_failed called files Memory before after done h a = tt

-- a cause that outcomes share may print in both
pub prints-cause : (o o' : Outcome) → o ≡ o' → MayPrint o'.cause → MayPrint o.cause
prints-cause o o' same h = subst (λ (p : Outcome). MayPrint p.cause) (sym same) h
