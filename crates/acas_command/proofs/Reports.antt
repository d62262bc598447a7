-- Commands that are refused as they look at their files, or print a report.
use Rattle.std.proofs.Common.{◌≡◌, ℕ, zero, suc, ◌⊎◌, ⊎_elim, inl, Bool, true, false, cond, nat_lt, List, [], length, Option, None, Some, Result, Ok, Err, refl, sym, subst, ap, ◌∙◌, arith}
use Rattle.std.specs.Prelude.{IfSome}
use Rattle.sha2.specs.Sha256.{sha256}
use Rattle.acas_units.specs.declared.limits.TheConstants.{TEXT_BYTES}
use Rattle.acas_spec.specs.Model.{ModelData}
use Rattle.acas_model.specs.Whole.{model_of}
use Rattle.acas_model.specs.declared.fault.ModelFault.{ModelFault}
use Rattle.acas_outside.specs.Bytes.{Appends}
use Rattle.acas_outside.specs.Counts.{Rose}
use Rattle.acas_outside.specs.Files.{Files}
use Rattle.acas_outside.specs.Once.{TakesOnce}
use Rattle.acas_outside.specs.Outside.{Outside}
use Rattle.acas_outside.proofs.Once.{takes_none}
use Rattle.acas_command.specs.Answers.{Answers, Completes, EndsLooking, Refuses}
use Rattle.acas_command.specs.Called.{Called, IsRefusal, IsReportOutcome, MayPrint, MayStorePart, calls_for, calls_for_report}
use Rattle.acas_command.specs.Calls.{with_model, with_reading, with_text}
use Rattle.acas_command.specs.Outcome.{Outcome, refuses, report_cause, with_file}
use Rattle.acas_command.specs.declared.status.Cause.{Cause}
use Rattle.acas_command.specs.declared.status.Cause.TheVariants.{Output, TooLong}
use Rattle.acas_command.specs.declared.status.FileRole.{FileRole}
use Rattle.acas_command.specs.declared.status.FileRole.TheVariants.{Model as ModelFile}
use Rattle.acas_command.proofs.Behind.{Refers, answers-behind, told-both}

pub told-all : (holds : Option Files) (P : Files → Type 0) → ((files : Files) → P files) → IfSome holds P
told-all None P all = tt
told-all (Some files) P all = all files

pub may_print-report_cause : (reported : ℕ) → MayPrint (report_cause reported)
may_print-report_cause zero = tt
may_print-report_cause (suc more) = tt

-- ---- looking at files stores nothing

no_file-cond : (b : Bool) (o p : Outcome) → o.file ≡ None → p.file ≡ None → (cond b o p).file ≡ None
no_file-cond true o p first second = first
no_file-cond false o p first second = second

pub no_file-text : (role : FileRole) (file : Option (List ℕ)) (rest : List ℕ → Outcome) → ((bytes : List ℕ) → (rest bytes).file ≡ None) → (with_text role file rest).file ≡ None
no_file-text role None rest none = refl
no_file-text role (Some bytes) rest none = no_file-cond (nat_lt TEXT_BYTES (length bytes)) (refuses (TooLong role)) (rest bytes) refl (none bytes)

no_file-reading : (r : Result ModelData ModelFault) (rest : ModelData → Outcome) → ((m : ModelData) → (rest m).file ≡ None) → (with_reading r rest).file ≡ None
no_file-reading (Ok m) rest none = none m
no_file-reading (Err fault) rest none = refl

pub no_file-model : (file : Option (List ℕ)) (rest : List ℕ → ModelData → Outcome) → ((digest : List ℕ) (m : ModelData) → (rest digest m).file ≡ None) → (with_model file rest).file ≡ None
no_file-model file rest none =
    no_file-text ModelFile file (λ bytes. with_reading (model_of bytes) (rest (sha256 bytes))) (λ bytes. no_file-reading (model_of bytes) (rest (sha256 bytes)) (none (sha256 bytes)))

-- ---- answers

-- what ends another command as it looks at the same files ends this one
pub refers-report : (names : List (List ℕ)) (files : Files) (outcome : Outcome) (looks : Files → Outcome) (R : Files → ℕ → List ℕ → Type 0) (B : Files → Option (List ℕ) → Option (List ℕ) → Type 0)
    → outcome ≡ looks files → (looks files).file ≡ None → Refers files outcome (calls_for_report names looks R B)
refers-report names files outcome looks R B same none = record {
  refuses = λ refused. inl (record { is = same; refused = λ prints. refused (subst (λ (o : Outcome). MayPrint o.cause) (sym same) prints) });
  stored = λ now stored. kept now (subst (λ (f : Option (List ℕ × List ℕ)). MayStorePart f files now) (ap (λ (o : Outcome). o.file) same ∙ none) stored);
}
  where
    kept : (now : Option Files) → MayStorePart None files now → now ≡ Some files
    kept now stored = ⊎_elim (λ same. same) (λ never. absurd never) stored

pub answers-refer : (outcome_of : Files → Outcome) (called : Called) (cause : Cause) (before after : Outside) → EndsLooking cause → IfSome before.holds (λ files. Refers files (outcome_of files) called)
    → Answers (calls_for called.reads outcome_of) cause before after → Answers called cause before after
answers-refer outcome_of called cause before after looks refers answers =
    answers-behind [] called.reads outcome_of called cause before before after looks refl (record {
      holds = refl;
      written = refl;
      misses = omega arith;
      taken = omega arith;
      faults = omega arith;
      output_faults = omega arith;
      once = takes_none [] before.holds before.taken before.taken refl;
    }) refers answers

-- a report whose output failed
pub answers-begun : (names : List (List ℕ)) (looks : Files → Outcome) (R : Files → ℕ → List ℕ → Type 0) (B : Files → Option (List ℕ) → Option (List ℕ) → Type 0) (before after : Outside)
    → IfSome before.holds (λ files. B files before.written after.written) → IfSome before.holds (λ files. after.holds ≡ Some files) → Rose before.output_faults after.output_faults
    → TakesOnce names before.holds before.taken after.taken → Answers (calls_for_report names looks R B) Output before after
answers-begun names looks R B before after begun stored rose once = record {
  has_cause = rose;
  quiet = tt;
  told = told-both before.holds _ _ _ (λ files part kept. record { begun = part; kept = kept }) begun stored;
  once = once;
}

-- ---- what an answer says of the report, and of the files

-- a report was printed
pub record IsPrinted (R : ℕ → List ℕ → Type 0) (files : Files) (cause : Cause) (before after : Outside) : Type 0 where
  pub reported : ℕ
  pub text : List ℕ
  pub report : R reported text
  pub printed : Appends before.written after.written text
  pub kept : after.holds ≡ Some files
  pub ends : cause ≡ report_cause reported

pub report-printed : {names : List (List ℕ)} (looks : Files → Outcome) (R : Files → ℕ → List ℕ → Type 0) (B : Files → Option (List ℕ) → Option (List ℕ) → Type 0) (files : Files) (cause : Cause) (before after : Outside)
    → MayPrint cause → Completes (calls_for_report names looks R B) files cause before after → IsPrinted (R files) files cause before after
report-printed {names = names} looks R B files cause before after prints a = ⊎_elim refused written a.may
  where
    refused : IsRefusal (looks files) a.outcome → IsPrinted (R files) files cause before after
    refused r = absurd (r.refused (subst (λ (o : Outcome). MayPrint o.cause) r.is (subst MayPrint (sym a.ends) prints)))

    written : IsReportOutcome (R files) a.outcome → IsPrinted (R files) files cause before after
    written w = record {
      reported = w.reported;
      text = w.text;
      report = w.report;
      printed = subst (λ (o : Outcome). Appends before.written after.written o.output) w.is a.printed;
      kept = a.stored ∙ ap (λ (o : Outcome). Some (with_file o.file files)) w.is;
      ends = sym a.ends ∙ ap (λ (o : Outcome). o.cause) w.is;
    }

-- the files refuse the command by the cause that it was refused by
pub report-refused : {names : List (List ℕ)} (looks : Files → Outcome) (R : Files → ℕ → List ℕ → Type 0) (B : Files → Option (List ℕ) → Option (List ℕ) → Type 0) (files : Files) (cause : Cause) (after : Outside)
    → ¬ MayPrint cause → Refuses (calls_for_report names looks R B) files cause after → (looks files).cause ≡ cause
report-refused {names = names} looks R B files cause after never a = ⊎_elim refused written a.may
  where
    refused : IsRefusal (looks files) a.outcome → (looks files).cause ≡ cause
    refused r = ap (λ (o : Outcome). o.cause) (sym r.is) ∙ a.refused

    written : IsReportOutcome (R files) a.outcome → (looks files).cause ≡ cause
    written w = absurd (never (subst MayPrint (ap (λ (o : Outcome). o.cause) (sym w.is) ∙ a.refused) (may_print-report_cause w.reported)))

-- files that do not refuse the command
pub report-may_print : (looks : Files → Outcome) (R : Files → ℕ → List ℕ → Type 0) (B : Files → Option (List ℕ) → Option (List ℕ) → Type 0) (files : Files) (o : Outcome)
    → MayPrint (looks files).cause → IsRefusal (looks files) o ⊎ IsReportOutcome (R files) o → MayPrint o.cause
report-may_print looks R B files o prints may = ⊎_elim refused written may
  where
    refused : IsRefusal (looks files) o → MayPrint o.cause
    refused r = absurd (r.refused prints)

    written : IsReportOutcome (R files) o → MayPrint o.cause
    written w = subst (λ (p : Outcome). MayPrint p.cause) (sym w.is) (may_print-report_cause w.reported)
