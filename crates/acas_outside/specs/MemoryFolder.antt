-- What is seen of a folder in memory.
use Rattle.std.specs.Prelude.{◌≡◌, ◌⊎◌, ℕ, ◌+◌, ◌-◌, min, List, [], length, take, None, Result, Ok, Err, IsSome, IsSomeAnd}
use Rattle.std.specs.FinMap.{empty, get, insert}
use Rattle.acas_outside.specs.Calls.{CallState, call_state, no_calls, made_one, failed_one, IsListed}
use Rattle.acas_outside.specs.Counts.{raised}
use Rattle.acas_outside.specs.Files.{Files, grown}
use Rattle.acas_outside.specs.Stored.{files_of}
use Rattle.acas_outside.specs.declared.sink.Failed.{Failed as CallFailed}
use Rattle.acas_outside.specs.declared.folder.ReadMiss.{ReadMiss}
use Rattle.acas_outside.specs.declared.folder.ReadMiss.TheVariants.{Absent, Failed}
use Rattle.acas_outside.specs.declared.memory_folder.MemoryFolder.{MemoryFolder}

pub record FolderState : Type 0 where
  pub files : Files
  pub reads : CallState
  pub creates : CallState
  pub appends : CallState
  -- the greatest number of bytes per call
  pub most : ℕ
  -- how many reads were of a name that is not held
  pub misses : ℕ
  -- how many bytes the reads have given
  pub taken : ℕ
  -- how many creates and appends failed for want of memory
  pub refused : ℕ

-- what is seen of a folder in memory
abbrev pub folder_state : MemoryFolder → FolderState
folder_state f = record {
  files = files_of f.files;
  reads = call_state f.reads;
  creates = call_state f.creates;
  appends = call_state f.appends;
  most = f.most;
  misses = f.misses;
  taken = f.taken;
  refused = f.refused;
}

-- no file is held, and no call was made
abbrev pub new_folder : List ℕ → List ℕ → List ℕ → ℕ → FolderState
new_folder reads creates appends most = record {
  files = empty;
  reads = no_calls reads;
  creates = no_calls creates;
  appends = no_calls appends;
  most = most;
  misses = 0;
  taken = 0;
  refused = 0;
}

-- the listed calls that failed, and those that failed for want of memory
abbrev pub faults_of : FolderState → ℕ
faults_of f = f.reads.failed + f.creates.failed + f.appends.failed + f.refused

-- a read gives as many bytes as there are, have room and may be given; it is a miss exactly where the name is not
-- held, and otherwise fails exactly where it is listed
abbrev pub ReadsInMemory : FolderState → FolderState → List ℕ → ℕ → ℕ → Result ℕ ReadMiss → Type 0
ReadsInMemory old new name at room (Ok n) = (IsListed old.reads → ⊥)
    × IsSomeAnd (get old.files name) (λ bytes. n ≡ min (min (length bytes - at) room) old.most)
    × (new ≡ record old { reads = made_one old.reads; taken = raised old.taken n })
ReadsInMemory old new name at room (Err Absent) = (get old.files name ≡ None)
    × (new ≡ record old { reads = made_one old.reads; misses = raised old.misses 1 })
ReadsInMemory old new name at room (Err Failed) = IsListed old.reads × IsSome (get old.files name)
    × (new ≡ record old { reads = failed_one old.reads })

-- a create makes the name hold no bytes, and fails exactly where it is listed or where memory was refused
abbrev pub CreatesInMemory : FolderState → FolderState → List ℕ → Result (Unit {0}) CallFailed → Type 0
CreatesInMemory old new name (Ok done) = (IsListed old.creates → ⊥)
    × (new ≡ record old { files = insert old.files name []; creates = made_one old.creates })
CreatesInMemory old new name (Err e) =
    (IsListed old.creates × (new ≡ record old { creates = failed_one old.creates }))
    ⊎ ((IsListed old.creates → ⊥)
    × (new ≡ record old { creates = made_one old.creates; refused = raised old.refused 1 }))

-- an append takes as many bytes as it may, and fails exactly where it is listed or where memory was refused
abbrev pub AppendsInMemory : FolderState → FolderState → List ℕ → List ℕ → Result ℕ CallFailed → Type 0
AppendsInMemory old new name piece (Ok n) = (IsListed old.appends → ⊥) × (n ≡ min (length piece) old.most)
    × (new ≡ record old { files = grown old.files name (take n piece); appends = made_one old.appends })
AppendsInMemory old new name piece (Err e) =
    (IsListed old.appends × (new ≡ record old { appends = failed_one old.appends }))
    ⊎ ((IsListed old.appends → ⊥)
    × (new ≡ record old { appends = made_one old.appends; refused = raised old.refused 1 }))
