-- Where a source stands in a table, entry by entry.
use Rattle.std.specs.Prelude.{◌≡◌, ℕ, ◌+◌, ◌*◌, ◌/◌, ◌<◌, ◌≤◌, Option, Some, None}
use Rattle.acas_table_text.specs.Shape.{IsShape, entry_count}
use Rattle.acas_table_text.specs.Format.{digest_start, entry_start, group_size, hashed_from, last_group}
use Rattle.acas_table_text.specs.declared.format.Format.{Format}
use Rattle.acas_table_text.specs.declared.shape.TableShape.{TableShape}
use Rattle.acas_table.specs.declared.source.Source.{Source}

-- a number is that of an entry of the tables of a shape, which is within the limits
pub record IsEntryNumber (s : TableShape) (i : ℕ) : Type 0 where
  pub limited : IsShape s
  pub index : i < entry_count s

-- what is read with an entry begins at the digest of the group that ends before it, or at the entry itself
abbrev pub reading_start : Format → TableShape → ℕ → Option ℕ → ℕ
reading_start f s i None = entry_start f s i
reading_start f s i (Some k) = digest_start f s k

-- and what the digest at hand is over begins there
abbrev pub reading_mark : Format → TableShape → ℕ → Option ℕ → ℕ
reading_mark f s i None = hashed_from f s (i / group_size f s)
reading_mark f s i (Some k) = hashed_from f s k

-- a source behind so many entries and digests of a table: so many entries of the group that it is in are still to come,
-- and all of them in the first group alone, since the digest before a later one is read with its first entry
pub record StandsIn (f : Format) (s : TableShape) (source : Source) (given groups left : ℕ) : Type 0 where
  pub place : source.place ≡ 60 + (17 * given + 32 * groups)
  pub mark : source.mark ≡ hashed_from f s groups
  pub group : given + left ≡ (groups + 1) * group_size f s
  pub rest : left ≤ group_size f s
  pub begun : left ≡ group_size f s → groups ≡ 0
  pub within : groups ≤ last_group f s
