-- What a cause is not, and what a call that ended leaves of a folder.
use Rattle.std.proofs.Common.{◌≡◌, Result, Ok, Err, refl, arith, le_refl}
use Rattle.std.specs.Prelude.{IsErrOf}
use Rattle.acas_outside.specs.Frame.{OnlyWrites, ReadsAndWrites}
use Rattle.acas_outside.specs.declared.folder.Folder.{Ghosts as FolderMeanings}
use Rattle.acas_command.specs.declared.status.Cause.{Cause}
use Rattle.acas_command.specs.declared.status.Cause.TheVariants.{Done, Folder, Output, Memory}

pub undone : {A : Type 0} → (Memory ≡ Done → A) × (Folder ≡ Done → A) × (Output ≡ Done → A)
undone = (λ is. cc, λ is. cc, λ is. cc)

pub no_folder : {A : Type 0} → (IsErrOf {T = Unit {0}} (Ok tt) Folder → A) × (IsErrOf {T = Unit {0}} (Err Output) Folder → A)
no_folder = (λ is. cc, λ is. cc)

pub wrote : {F : Type 0} (d : FolderMeanings F) (a b : F) (failed : Type 0) (r : Result (Unit {0}) Cause) → (IsErrOf r Folder → failed)
    → OnlyWrites d a b failed → ReadsAndWrites d a b (IsErrOf r Folder)
wrote d a b failed r is w = record {
  serves = w.serves;
  faults = w.faults;
  misses = omega (arith, w.misses);
  taken = omega (arith, w.taken);
  fault = λ f. w.fault (is f);
}

pub none : {F : Type 0} (d : FolderMeanings F) (a : F) → ReadsAndWrites d a a (IsErrOf {T = Unit {0}} (Err Memory) Folder)
none d a = record { serves = refl; faults = le_refl _; misses = le_refl _; taken = le_refl _; fault = λ is. cc }
