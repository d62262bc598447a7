-- Answers of a command, made at its end, and seen from an earlier moment.
use Rattle.std.proofs.Common.{◌≡◌, ℕ, ◌≤◌, ◌⊎◌, List, ◌++◌, Option, None, Some, refl, sym, ap, subst, ◌∙◌, arith}
use Rattle.std.specs.Prelude.{IfSome}
use Rattle.std.specs.FinMap.{insert}
use Rattle.acas_outside.specs.Bytes.{Appends, AppendsPart}
use Rattle.acas_outside.specs.Counts.{Rose, raised}
use Rattle.acas_outside.specs.Files.{Files, Stores, StoresPart}
use Rattle.acas_outside.specs.Once.{TakesOnce}
use Rattle.acas_outside.specs.Outside.{Outside}
use Rattle.acas_outside.proofs.Once.{takes_both}
use Rattle.acas_command.specs.Answers.{Agrees, Answers, EndsLooking, HasCause, IsQuiet, PrintsNothing, Refuses}
use Rattle.acas_command.specs.Called.{Called, MayPrint, MayStorePart, PrintsPart, calls_for, calls_for_report, reading}
use Rattle.acas_command.specs.Outcome.{Outcome, with_file}
use Rattle.acas_command.proofs.Printing.{by_printing}
use Rattle.acas_command.specs.declared.status.Cause.{Cause}
use Rattle.acas_command.specs.declared.status.Cause.TheVariants.{Done, Reported, Words, Absent, Model, Table, Input, Folder, Output, TooLong, Memory}

-- nothing was stored or printed between two moments, no count fell, and no more bytes were taken than the files of these names have
pub record IsBehind (names : List (List ℕ)) (before mid : Outside) : Type 0 where
  pub holds : mid.holds ≡ before.holds
  pub written : mid.written ≡ before.written
  pub misses : before.misses ≤ mid.misses
  pub taken : before.taken ≤ mid.taken
  pub faults : before.faults ≤ mid.faults
  pub output_faults : before.output_faults ≤ mid.output_faults
  pub once : TakesOnce names before.holds before.taken mid.taken

raised-behind : (a b n c : ℕ) → a ≤ b → raised b n ≤ c → raised a n ≤ c
raised-behind a b n c later rose = omega (arith, later, rose)

has_cause-behind : (names : List (List ℕ)) (cause : Cause) (before mid after : Outside) → IsBehind names before mid → HasCause cause mid after → HasCause cause before after
has_cause-behind names Done before mid after behind h = tt
has_cause-behind names Reported before mid after behind h = tt
has_cause-behind names Words before mid after behind h = h
has_cause-behind names (Absent role) before mid after behind h = raised-behind before.misses mid.misses 1 after.misses behind.misses h
has_cause-behind names (Model fault) before mid after behind h = h
has_cause-behind names (Table refusal) before mid after behind h = h
has_cause-behind names (Input fault) before mid after behind h = h
has_cause-behind names Folder before mid after behind h = raised-behind before.faults mid.faults 1 after.faults behind.faults h
has_cause-behind names Output before mid after behind h = raised-behind before.output_faults mid.output_faults 1 after.output_faults behind.output_faults h
has_cause-behind names (TooLong role) before mid after behind h = raised-behind before.taken mid.taken _ after.taken behind.taken h
has_cause-behind names Memory before mid after behind h = tt

quiet-behind : (names : List (List ℕ)) (cause : Cause) (before mid after : Outside) → IsBehind names before mid → IsQuiet cause mid after → IsQuiet cause before after
quiet-behind names Done before mid after behind h = tt
quiet-behind names Reported before mid after behind h = tt
quiet-behind names Words before mid after behind h = h ∙ behind.written
quiet-behind names (Absent role) before mid after behind h = h ∙ behind.written
quiet-behind names (Model fault) before mid after behind h = h ∙ behind.written
quiet-behind names (Table refusal) before mid after behind h = h ∙ behind.written
quiet-behind names (Input fault) before mid after behind h = h ∙ behind.written
quiet-behind names Folder before mid after behind h = h ∙ behind.written
quiet-behind names Output before mid after behind h = tt
quiet-behind names (TooLong role) before mid after behind h = h ∙ behind.written
quiet-behind names Memory before mid after behind h = h ∙ behind.written

-- An outcome that ends one command as it looks at its files ends another: what refuses the one refuses the other, and where the folder
-- failed, so that the files are as the one leaves them, the other leaves them so too.
pub record RefersTo (files : Files) (outcome : Outcome) (ends : Outcome → Type 0) (stores : Option Files → Type 0) : Type 0 where
  pub refuses : ¬ MayPrint outcome.cause → ends outcome
  pub stored : (now : Option Files) → MayStorePart outcome.file files now → stores now

abbrev pub Refers : Files → Outcome → Called → Type 0
Refers files outcome called = RefersTo files outcome (called.ends files) (called.stores files)

refused-behind : (names : List (List ℕ)) (outcome_of : Files → Outcome) (called : Called) (files : Files) (cause : Cause) (after : Outside) → ¬ MayPrint cause → Refers files (outcome_of files) called
    → Refuses (calls_for names outcome_of) files cause after → Refuses called files cause after
refused-behind names outcome_of called files cause after never refers h = record {
  outcome = outcome_of files;
  may = refers.refuses (λ prints. never (subst MayPrint same prints));
  refused = same;
  kept = h.kept;
}
  where
    same : (outcome_of files).cause ≡ cause
    same = ap (λ (o : Outcome). o.cause) (sym h.may) ∙ h.refused

agrees-behind : (names : List (List ℕ)) (outcome_of : Files → Outcome) (called : Called) (files : Files) (cause : Cause) (before mid after : Outside) → EndsLooking cause
    → Refers files (outcome_of files) called → Agrees (calls_for names outcome_of) files cause mid after → Agrees called files cause before after
agrees-behind names outcome_of called files Done before mid after looks refers h = absurd looks
agrees-behind names outcome_of called files Reported before mid after looks refers h = absurd looks
agrees-behind names outcome_of called files Words before mid after looks refers h = absurd looks
agrees-behind names outcome_of called files (Absent role) before mid after looks refers h = refused-behind names outcome_of called files (Absent role) after (λ never. never) refers h
agrees-behind names outcome_of called files (Model fault) before mid after looks refers h = refused-behind names outcome_of called files (Model fault) after (λ never. never) refers h
agrees-behind names outcome_of called files (Table refusal) before mid after looks refers h = refused-behind names outcome_of called files (Table refusal) after (λ never. never) refers h
agrees-behind names outcome_of called files (Input fault) before mid after looks refers h = refused-behind names outcome_of called files (Input fault) after (λ never. never) refers h
agrees-behind names outcome_of called files Folder before mid after looks refers h = refers.stored after.holds h
agrees-behind names outcome_of called files Output before mid after looks refers h = absurd looks
agrees-behind names outcome_of called files (TooLong role) before mid after looks refers h = refused-behind names outcome_of called files (TooLong role) after (λ never. never) refers h
agrees-behind names outcome_of called files Memory before mid after looks refers h = h

-- a fact of the files that are told follows from others
pub told-map : (holds : Option Files) (P Q : Files → Type 0) → ((files : Files) → P files → Q files) → IfSome holds P → IfSome holds Q
told-map None P Q to h = tt
told-map (Some files) P Q to h = to files h

pub told-both : (holds : Option Files) (P Q R : Files → Type 0) → ((files : Files) → P files → Q files → R files) → IfSome holds P → IfSome holds Q → IfSome holds R
told-both None P Q R to h k = tt
told-both (Some files) P Q R to h k = to files h k

-- what was taken up to a moment, and from there on
once-behind : (names rest all : List (List ℕ)) (before mid after : Outside) → IsBehind names before mid → all ≡ names ++ rest → TakesOnce rest mid.holds mid.taken after.taken
    → TakesOnce all before.holds before.taken after.taken
once-behind names rest all before mid after behind both once =
    subst (λ (l : List (List ℕ)). TakesOnce l before.holds before.taken after.taken) (sym both)
    (takes_both names rest before.holds mid.holds before.taken mid.taken after.taken behind.holds behind.once once)

-- What ends a command as it looks at its files, from a moment at which nothing was stored or printed yet, ends the command from the
-- earlier one.
pub answers-behind : (names rest : List (List ℕ)) (outcome_of : Files → Outcome) (called : Called) (cause : Cause) (before mid after : Outside) → EndsLooking cause → called.reads ≡ names ++ rest
    → IsBehind names before mid → IfSome before.holds (λ files. Refers files (outcome_of files) called) → Answers (calls_for rest outcome_of) cause mid after → Answers called cause before after
answers-behind names rest outcome_of called cause before mid after looks both behind refers h =
    let told : IfSome before.holds (λ files. Agrees (calls_for rest outcome_of) files cause mid after) =
    subst (λ (o : Option Files). IfSome o (λ files. Agrees (calls_for rest outcome_of) files cause mid after)) behind.holds h.told in
    record {
      has_cause = has_cause-behind names cause before mid after behind h.has_cause;
      quiet = quiet-behind names cause before mid after behind h.quiet;
      told = told-both before.holds _ _ _ (λ files to agrees. agrees-behind rest outcome_of called files cause before mid after looks to agrees) refers told;
      once = once-behind names rest called.reads before mid after behind both h.once;
    }

-- a command of which some files were read, and the rest is still to be read
agrees-from : (names rest : List (List ℕ)) (called : Called) (files : Files) (cause : Cause) (before mid after : Outside) → IsBehind names before mid → (called.prints files mid after → called.prints files before after)
    → Agrees (reading rest called) files cause mid after → Agrees called files cause before after
agrees-from names rest called files Done before mid after behind prints h =
    record { outcome = h.outcome; may = h.may; ends = h.ends; printed = subst (λ (w : Option (List ℕ)). Appends w after.written h.outcome.output) behind.written h.printed; stored = h.stored }
agrees-from names rest called files Reported before mid after behind prints h =
    record { outcome = h.outcome; may = h.may; ends = h.ends; printed = subst (λ (w : Option (List ℕ)). Appends w after.written h.outcome.output) behind.written h.printed; stored = h.stored }
agrees-from names rest called files Words before mid after behind prints h = h
agrees-from names rest called files (Absent role) before mid after behind prints h = record { outcome = h.outcome; may = h.may; refused = h.refused; kept = h.kept }
agrees-from names rest called files (Model fault) before mid after behind prints h = record { outcome = h.outcome; may = h.may; refused = h.refused; kept = h.kept }
agrees-from names rest called files (Table refusal) before mid after behind prints h = record { outcome = h.outcome; may = h.may; refused = h.refused; kept = h.kept }
agrees-from names rest called files (Input fault) before mid after behind prints h = record { outcome = h.outcome; may = h.may; refused = h.refused; kept = h.kept }
agrees-from names rest called files Folder before mid after behind prints h = h
agrees-from names rest called files Output before mid after behind prints h = prints h
agrees-from names rest called files (TooLong role) before mid after behind prints h = record { outcome = h.outcome; may = h.may; refused = h.refused; kept = h.kept }
agrees-from names rest called files Memory before mid after behind prints h = h

-- The answers of a command from a moment at which nothing was stored or printed yet, and only some of its files were read, are its
-- answers from the earlier one.
pub answers-from : (names rest : List (List ℕ)) (called : Called) (cause : Cause) (before mid after : Outside) → called.reads ≡ names ++ rest → IsBehind names before mid
    → ((files : Files) → called.prints files mid after → called.prints files before after) → Answers (reading rest called) cause mid after → Answers called cause before after
answers-from names rest called cause before mid after both behind prints h =
    let told : IfSome before.holds (λ files. Agrees (reading rest called) files cause mid after) =
    subst (λ (o : Option Files). IfSome o (λ files. Agrees (reading rest called) files cause mid after)) behind.holds h.told in
    record {
      has_cause = has_cause-behind names cause before mid after behind h.has_cause;
      quiet = quiet-behind names cause before mid after behind h.quiet;
      told = told-map before.holds _ _ (λ files agrees. agrees-from names rest called files cause before mid after behind (prints files) agrees) told;
      once = once-behind names rest called.reads before mid after behind both h.once;
    }

pub answers-from-report : (names rest : List (List ℕ)) (looks : Files → Outcome) (IsReport : Files → ℕ → List ℕ → Type 0) (IsBegun : Files → Option (List ℕ) → Option (List ℕ) → Type 0) (cause : Cause)
    (before mid after : Outside) → IsBehind names before mid → Answers (calls_for_report rest looks IsReport IsBegun) cause mid after → Answers (calls_for_report (names ++ rest) looks IsReport IsBegun) cause before after
answers-from-report names rest looks IsReport IsBegun cause before mid after behind h =
    answers-from names rest (calls_for_report (names ++ rest) looks IsReport IsBegun) cause before mid after refl behind
    (λ files begins. record { begun = subst (λ (w : Option (List ℕ)). IsBegun files w after.written) behind.written begins.begun; kept = begins.kept }) h

pub answers-from-one : (names rest : List (List ℕ)) (outcome_of : Files → Outcome) (cause : Cause) (before mid after : Outside) → IsBehind names before mid → Answers (calls_for rest outcome_of) cause mid after
    → Answers (calls_for (names ++ rest) outcome_of) cause before after
answers-from-one names rest outcome_of cause before mid after behind h =
    answers-from names rest (calls_for (names ++ rest) outcome_of) cause before mid after refl behind
    (λ files part. record { prints = part.prints; printed = subst (λ (w : Option (List ℕ)). AppendsPart w after.written (outcome_of files).output) behind.written part.printed; stored = part.stored }) h

-- two commands that have the same outcome
pub refers-same : (names : List (List ℕ)) (files : Files) (outcome : Outcome) (outcome_of : Files → Outcome) → outcome ≡ outcome_of files → Refers files outcome (calls_for names outcome_of)
refers-same names files outcome outcome_of same = record {
  refuses = λ refused. same;
  stored = λ now stored. subst (λ (o : Outcome). MayStorePart o.file files now) same stored;
}

-- what is stored, where the files are told
pub told-kept : (old new : Option Files) → new ≡ old → IfSome old (λ files. new ≡ Some files)
told-kept None new same = tt
told-kept (Some files) new same = same

pub told-stored : (old new : Option Files) (name bytes : List ℕ) → Stores old new name bytes → IfSome old (λ files. new ≡ Some (insert files name bytes))
told-stored None new name bytes stored = tt
told-stored (Some files) new name bytes stored = stored

pub told-part : (old new : Option Files) (name bytes : List ℕ) → (new ≡ old) ⊎ StoresPart old new name bytes → IfSome old (λ files. MayStorePart (Some (name, bytes)) files new)
told-part None new name bytes either = tt
told-part (Some files) new name bytes either = either

-- a command whose whole output is out
pub answers-printed : (called : Called) (cause : Cause) (o : Outcome) (before after : Outside) → MayPrint cause → IfSome before.holds (λ files. called.ends files o) → o.cause ≡ cause
    → IfSome before.holds (λ files. after.holds ≡ Some (with_file o.file files)) → Appends before.written after.written o.output → TakesOnce called.reads before.holds before.taken after.taken
    → Answers called cause before after
answers-printed called cause o before after prints may ends stored printed once = record {
  has_cause = by_printing (λ c. HasCause c before after) cause prints tt tt;
  quiet = by_printing (λ c. IsQuiet c before after) cause prints tt tt;
  told = told-both before.holds _ _ _ (λ files is kept.
      by_printing (λ c. o.cause ≡ c → Agrees called files c before after) cause prints
      (λ done. record { outcome = o; may = is; ends = done; printed = printed; stored = kept })
      (λ reported. record { outcome = o; may = is; ends = reported; printed = printed; stored = kept }) ends) may stored;
  once = once;
}

-- a command that is done
pub answers-done : (names : List (List ℕ)) (outcome_of : Files → Outcome) (o : Outcome) (before after : Outside) → IfSome before.holds (λ files. o ≡ outcome_of files) → o.cause ≡ Done
    → IfSome before.holds (λ files. after.holds ≡ Some (with_file o.file files)) → Appends before.written after.written o.output
    → TakesOnce names before.holds before.taken after.taken → Answers (calls_for names outcome_of) Done before after
answers-done names outcome_of o before after is ends stored printed once = answers-printed (calls_for names outcome_of) Done o before after tt is ends stored printed once

-- one whose output failed
pub answers-output : (names : List (List ℕ)) (outcome_of : Files → Outcome) (o : Outcome) (before after : Outside) → IfSome before.holds (λ files. o ≡ outcome_of files) → MayPrint o.cause
    → IfSome before.holds (λ files. after.holds ≡ Some (with_file o.file files)) → AppendsPart before.written after.written o.output
    → Rose before.output_faults after.output_faults → TakesOnce names before.holds before.taken after.taken → Answers (calls_for names outcome_of) Output before after
answers-output names outcome_of o before after is prints stored printed rose once = record {
  has_cause = rose;
  quiet = tt;
  told = told-both before.holds _ _ _ (λ files same kept.
      subst (λ (p : Outcome). PrintsPart p files before after) same (record { prints = prints; printed = printed; stored = kept })) is stored;
  once = once;
}

-- one whose file was not stored
pub answers-folder : (names : List (List ℕ)) (outcome_of : Files → Outcome) (o : Outcome) (before after : Outside) → IfSome before.holds (λ files. o ≡ outcome_of files)
    → IfSome before.holds (λ files. MayStorePart o.file files after.holds) → PrintsNothing before after → Rose before.faults after.faults
    → TakesOnce names before.holds before.taken after.taken → Answers (calls_for names outcome_of) Folder before after
answers-folder names outcome_of o before after is stored quiet rose once = record {
  has_cause = rose;
  quiet = quiet;
  told = told-both before.holds _ _ _ (λ files same part. subst (λ (p : Outcome). MayStorePart p.file files after.holds) same part) is stored;
  once = once;
}
