-- Files that a folder can hold.
use Rattle.std.specs.Prelude.{◌≡◌, ℕ, List, Some}
use Rattle.std.specs.FinMap.{get}
use Rattle.acas_outside.specs.Bytes.{IsBytes}
use Rattle.acas_outside.specs.Files.{Files}

-- each file is a list of bytes
abbrev pub AreBytes : Files → Type 0
AreBytes files = (name bytes : List ℕ) → get files name ≡ Some bytes → IsBytes bytes
