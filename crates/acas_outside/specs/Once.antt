-- Bytes of files that are told, none of which is taken twice.
use Rattle.std.specs.Prelude.{ℕ, ◌≤◌, List, length, sum_by, Option, None, Some, IfSome}
use Rattle.std.specs.FinMap.{get}
use Rattle.acas_outside.specs.Counts.{raised}
use Rattle.acas_outside.specs.Files.{Files}

-- how many bytes a file has; one that is not held has none
abbrev pub length_of_file : Option (List ℕ) → ℕ
length_of_file None = 0
length_of_file (Some bytes) = length bytes

-- how many bytes the files of these names have together
abbrev pub bytes_under : List (List ℕ) → Files → ℕ
bytes_under names files = sum_by (λ name. length_of_file (get files name)) names

-- from one count of the bytes that reads gave to another: where the files are told, the reads gave no more than the files of these
-- names have together
abbrev pub TakesOnce : List (List ℕ) → Option Files → ℕ → ℕ → Type 0
TakesOnce names holds before after = IfSome holds (λ files. after ≤ raised before (bytes_under names files))
