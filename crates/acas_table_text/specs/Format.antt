-- The two formats of a table's file: entries in groups, each group with a digest behind it.
use Rattle.std.specs.Prelude.{ℕ, zero, suc, ◌+◌, ◌*◌, ◌/◌, ◌%◌, nat_lt, ◌==◌, if◌then◌else◌, List, length, take, drop, Option, Some, None}
use Rattle.byteorder.specs.Endian.{little_number}
use Rattle.acas_table_text.specs.Shape.{entry_count}
use Rattle.acas_table_text.specs.declared.shape.TableShape.{TableShape}
use Rattle.acas_table_text.specs.declared.format.Format.{Format}
use Rattle.acas_table_text.specs.declared.format.Format.TheVariants.{Layered, Whole}

-- the version that a file of a format names
abbrev pub version_of : Format → ℕ
version_of Whole = 1
version_of Layered = 2

-- the format of the files that name a version
abbrev pub format_of_version : ℕ → Option Format
format_of_version version =
    if version == 1 then Some Whole else (if version == 2 then Some Layered else None)

-- how many entries a group has: all of the table, or those of a layer
abbrev pub group_size : Format → TableShape → ℕ
group_size Whole s = entry_count s
group_size Layered s = s.states

-- the number of the last group, counted from 0
abbrev pub last_group : Format → TableShape → ℕ
last_group Whole s = 0
last_group Layered s = s.horizon

-- a file has 60 bytes of header, 17 for each entry and 32 for each digest
abbrev pub length_of : Format → TableShape → ℕ
length_of f s = 60 + (17 * entry_count s + 32 * (last_group f s + 1))

-- where an entry begins, by its number: behind the header, the entries before it, and the digests of the groups before
abbrev pub entry_start : Format → TableShape → ℕ → ℕ
entry_start f s i = 60 + (17 * i + 32 * (i / group_size f s))

-- where the digest of a group begins: behind the entries of the group
abbrev pub digest_start : Format → TableShape → ℕ → ℕ
digest_start f s k = 60 + (17 * ((k + 1) * group_size f s) + 32 * k)

-- a group's digest is over all before it from the front of the file on, or from the digest of the group before
abbrev pub hashed_from : Format → TableShape → ℕ → ℕ
hashed_from f s zero = 0
hashed_from f s (suc k) = digest_start f s k

-- the group that ends right before an entry, where one does
abbrev pub group_before : ℕ → Option ℕ
group_before zero = None
group_before (suc k) = Some k

abbrev pub ended_group : Format → TableShape → ℕ → Option ℕ
ended_group f s i = if i % group_size f s == 0 then group_before (i / group_size f s) else None

-- the n bytes at a place
abbrev pub part : List ℕ → ℕ → ℕ → List ℕ
part bytes at n = take n (drop at bytes)

-- a file that names version 1 is whole; each other one is layered, and so is one that ends before its version does
abbrev pub format_of : List ℕ → Format
format_of bytes =
    if nat_lt (length bytes) 8 then Layered
    else (if little_number 4 (part bytes 4 4) == 1 then Whole else Layered)

-- how many bytes a file is to have
abbrev pub expected_length : TableShape → List ℕ → ℕ
expected_length s bytes = length_of (format_of bytes) s
