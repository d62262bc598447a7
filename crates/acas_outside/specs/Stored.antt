-- The files of a map from names to bytes.
use Rattle.std.specs.Prelude.{ℕ, map, String, string_bytes, Vec}
use Rattle.std.specs.declared.alloc.Global.{Global}
use Rattle.std.specs.BTreeMap.{BTreeMap}
use Rattle.std.specs.FinMap.{from_entries}
use Rattle.acas_outside.specs.Files.{Files}

-- each name of the map holds its bytes
abbrev pub files_of : BTreeMap (String Global) (Vec ℕ Global) → Files
files_of m = from_entries (map (λ e. (string_bytes e.0, e.1.items)) m.entries)
