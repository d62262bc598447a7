-- A count of the bytes that were taken of a file from its front on stays within the file.
use Rattle.std.proofs.Common.{◌≡◌, ℕ, ◌+◌, ◌≤◌, List, [], ◌∷◌, Option, None, Some, Ok, sym, subst, arith}
use Rattle.std.specs.Prelude.{IsSomeAnd}
use Rattle.std.specs.FinMap.{get}
use Rattle.acas_outside.specs.Counts.{raised}
use Rattle.acas_outside.specs.Files.{Files, Given, Reads, TakesFrom}
use Rattle.acas_outside.specs.Once.{TakesOnce, length_of_file}
use Rattle.acas_table.specs.Source.{StaysWithin}

-- nothing is taken
pub within_same : (holds : Option Files) (name : List ℕ) (before now : ℕ) → now ≡ before → StaysWithin holds name before now
within_same None name before now same = record { told = tt }
within_same (Some files) name before now same = record { told = λ inside. omega (arith, same, inside) }

-- one call after another
pub within_then : (holds mid : Option Files) (name : List ℕ) (a b c : ℕ) → mid ≡ holds → StaysWithin holds name a b → StaysWithin mid name b c → StaysWithin holds name a c
within_then None mid name a b c same first second = record { told = tt }
within_then (Some files) mid name a b c same first second =
    let told = subst (λ (h : Option Files). StaysWithin h name b c) same second in
    record { told = λ inside. told.told (first.told inside) }

-- the same, where the second begins at the count with which the first ended
pub within_joined : (holds mid : Option Files) (name : List ℕ) (a a' b b' c : ℕ) → a ≡ a' → b' ≡ b → mid ≡ holds → StaysWithin holds name a' b → StaysWithin mid name b' c → StaysWithin holds name a c
within_joined holds mid name a a' b b' c begins joins same first second =
    within_then holds mid name a b c same (subst (λ (n : ℕ). StaysWithin holds name n b) (sym begins) first) (subst (λ (n : ℕ). StaysWithin mid name n c) joins second)

-- bytes that a read gave at the place up to which bytes were taken
within_read : (file : Option (List ℕ)) (at n before now : ℕ) (into : List ℕ) → IsSomeAnd file (λ bytes. TakesFrom bytes at n into) → before ≡ at → now ≡ at + n → before ≤ length_of_file file → now ≤ length_of_file file
within_read None at n before now into takes place more inside = absurd takes
within_read (Some bytes) at n before now into takes place more inside = omega (arith, takes.within, place, more, inside)

pub within_more : (holds : Option Files) (name into : List ℕ) (at n before now : ℕ) → Given holds name (λ file. Reads file at (Ok n) into) → before ≡ at → now ≡ at + n → StaysWithin holds name before now
within_more None name into at n before now reads place more = record { told = tt }
within_more (Some files) name into at n before now reads place more = record { told = λ inside. within_read (get files name) at n before now into reads place more inside }

-- from the front on, no byte is taken twice
pub within_once : (holds : Option Files) (name : List ℕ) (a b now : ℕ) → StaysWithin holds name 0 now → b ≤ raised a now → TakesOnce (name ∷ []) holds a b
within_once None name a b now within taken = tt
within_once (Some files) name a b now within taken = omega (arith, within.told (omega arith), taken)
