-- Calls that only read, one after another.
use Rattle.std.proofs.Common.{◌≡◌, ℕ, List, Result, Ok, Err, refl, ◌∙◌, arith}
use Rattle.std.specs.Prelude.{IsErrOf}
use Rattle.acas_outside.specs.Frame.{OnlyReads}
use Rattle.acas_outside.specs.declared.folder.Folder.{Ghosts as FolderMeanings}
use Rattle.acas_table.specs.Reader.{reader_state}
use Rattle.acas_table.proofs.Within.{within_same, within_then}
use Rattle.acas_accept.specs.Reading.{ReadsOn}
use Rattle.acas_accept.specs.declared.check.TableCheck.{TableCheck}
use Rattle.acas_accept.specs.declared.refusal.AcceptFault.{AcceptFault}
use Rattle.acas_accept.specs.declared.refusal.AcceptFault.TheVariants.{Absent, Failed, Memory}

module _ {F : Type 0} (d : FolderMeanings F) where
  pub reads_both : (a b c : F) (unread missed failed absent : Type 0) → OnlyReads d a b unread missed → OnlyReads d b c failed absent → OnlyReads d a c failed absent
  reads_both a b c unread missed failed absent first second = record {
    holds = second.holds ∙ first.holds;
    serves = second.serves ∙ first.serves;
    faults = omega (arith, first.faults, second.faults);
    misses = omega (arith, first.misses, second.misses);
    taken = omega (arith, first.taken, second.taken);
    fault = λ is. omega (arith, first.faults, second.fault is);
    miss = λ is. omega (arith, first.misses, second.miss is);
  }

  -- what is answered in another way
  reads_as : (a b : F) (failed absent unread missed : Type 0) → (unread → failed) → (missed → absent) → OnlyReads d a b failed absent → OnlyReads d a b unread missed
  reads_as a b failed absent unread missed fails misses reads = record { holds = reads.holds; serves = reads.serves; faults = reads.faults; misses = reads.misses; taken = reads.taken; fault = λ is. reads.fault (fails is); miss = λ is. reads.miss (misses is) }

  -- the second call has failed, and its fault is answered
  pub reads_then : {X Y : Type 0} (a b c : F) (found : AcceptFault) (unread missed : Type 0) → OnlyReads d a b unread missed
      → OnlyReads d b c (IsErrOf {T = X} (Err found) Failed) (IsErrOf {T = X} (Err found) Absent) → OnlyReads d a c (IsErrOf {T = Y} (Err found) Failed) (IsErrOf {T = Y} (Err found) Absent)
  reads_then a b c found unread missed first second = reads_as a c _ _ _ _ (λ is. cc) (λ is. cc) (reads_both a b c unread missed _ _ first second)

  -- none has failed, and that is answered, or that memory was refused
  pub reads_ok : {X : Type 0} (a b : F) (x : X) (unread missed : Type 0) → OnlyReads d a b unread missed → OnlyReads d a b (IsErrOf (Ok x) Failed) (IsErrOf (Ok x) Absent)
  reads_ok a b x unread missed reads = reads_as a b unread missed _ _ (λ is. cc) (λ is. cc) reads

  pub reads_memory : {X : Type 0} (a b : F) (unread missed : Type 0) → OnlyReads d a b unread missed → OnlyReads d a b (IsErrOf {T = X} (Err Memory) Failed) (IsErrOf {T = X} (Err Memory) Absent)
  reads_memory a b unread missed reads = reads_as a b unread missed _ _ (λ is. cc) (λ is. cc) reads

  -- ---- in a table in check

  -- no byte
  pub stays : {X : Type 0} (a : F) (name : List ℕ) (before now : TableCheck) (x : X) → (reader_state now.reader).shape ≡ (reader_state before.reader).shape → (reader_state now.reader).format ≡ (reader_state before.reader).format
      → (reader_state now.reader).taken ≡ (reader_state before.reader).taken → ReadsOn d a a name before now (Ok x)
  stays a name before now x shape format taken = record {
    shape = shape;
    format = format;
    taken = record { later = omega (arith, taken); taken = omega (arith, taken) };
    within = within_same (d.holds a) name _ _ taken;
    kind = tt;
    frame = record { holds = refl; serves = refl; faults = omega arith; misses = omega arith; taken = omega arith; fault = λ is. cc; miss = λ is. cc };
  }

  pub reads_on : {X : Type 0} (a b c : F) (name : List ℕ) (before mid now : TableCheck) (x : X) (result : Result X AcceptFault) → ReadsOn d a b name before mid (Ok x) → ReadsOn d b c name mid now result → ReadsOn d a c name before now result
  reads_on a b c name before mid now x result first second = record {
    shape = second.shape ∙ first.shape;
    format = second.format ∙ first.format;
    taken = record { later = omega (arith, first.taken.later, second.taken.later); taken = omega (arith, first.taken.later, first.taken.taken, second.taken.later, second.taken.taken) };
    within = within_then (d.holds a) (d.holds b) name _ _ _ first.frame.holds first.within second.within;
    kind = second.kind;
    frame = reads_both a b c _ _ _ _ first.frame second.frame;
  }
