-- What a folder holds, what a read of it gives, and how it changes.
use Rattle.std.specs.Prelude.{◌≡◌, ℕ, ◌-◌, ◌<◌, ◌≤◌, List, [], ◌++◌, length, take, drop, Option, unwrap_or, None, Result, MatchResult, IfSome, IsSomeAnd}
use Rattle.std.specs.Ordering.{nat_cmp}
use Rattle.std.specs.Cmp.Lexicographic.{slice_cmp}
use Rattle.std.specs.FinMap.{FinMap, get, insert}
use Rattle.std.specs.Option.{option_map}
use Rattle.acas_outside.specs.declared.folder.ReadMiss.{ReadMiss}
use Rattle.acas_outside.specs.declared.folder.ReadMiss.TheVariants.{Absent}

-- the files of a folder: from the bytes of a name to the bytes of its file
abbrev pub Files : Type 0
Files = FinMap (slice_cmp nat_cmp) (List ℕ)

-- where the files are told, P of the file under a name
abbrev pub Given : Option Files → List ℕ → (Option (List ℕ) → Type 0) → Type 0
Given holds name P = IfSome holds (λ files. P (get files name))

-- the first n bytes of `into` are the file's from a place on, and there are none only at the end of the file
pub record TakesFrom (file : List ℕ) (at n : ℕ) (into : List ℕ) : Type 0 where
  pub bytes : take n into ≡ take n (drop at file)
  pub within : n ≤ length file - at
  pub end : n ≡ 0 → 0 < length into → length file ≤ at

-- a read gives bytes of a file that is held, and answers that it is absent only where it is not held
abbrev pub Reads : Option (List ℕ) → ℕ → Result ℕ ReadMiss → List ℕ → Type 0
Reads file at result into =
    MatchResult result
    (λ n. IsSomeAnd file (λ bytes. TakesFrom bytes at n into))
    (λ miss. miss ≡ Absent → file ≡ None)

-- a read writes nothing behind the bytes that it gives, and nothing where it gives none
abbrev pub LeavesRest : Result ℕ ReadMiss → List ℕ → List ℕ → Type 0
LeavesRest result old new = MatchResult result (λ n. drop n new ≡ drop n old) (λ miss. new ≡ old)

-- a name holds these bytes, and all other names are as before
abbrev pub Stores : Option Files → Option Files → List ℕ → List ℕ → Type 0
Stores old new name bytes = new ≡ option_map (λ files. insert files name bytes) old

-- a name holds the first of these bytes and not all, and all other names are as before
pub record StoresPart (old new : Option Files) (name bytes : List ℕ) : Type 0 where
  pub count : ℕ
  pub proper : count < length bytes
  pub stored : Stores old new name (take count bytes)

-- the files where the one under a name has these bytes behind its own
abbrev pub grown : Files → List ℕ → List ℕ → Files
grown files name bytes = insert files name (unwrap_or (get files name) [] ++ bytes)

-- the file under a name grew by these bytes, and all other names are as before
abbrev pub Grows : Option Files → Option Files → List ℕ → List ℕ → Type 0
Grows old new name bytes = new ≡ option_map (λ files. grown files name bytes) old

-- it grew by the first of these bytes and not by all, and all other names are as before
pub record GrowsPart (old new : Option Files) (name bytes : List ℕ) : Type 0 where
  pub count : ℕ
  pub proper : count < length bytes
  pub grown : Grows old new name (take count bytes)
