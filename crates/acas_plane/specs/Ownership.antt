-- What places of pairs own.
use Rattle.std.specs.Prelude.{ℕ}
use denote.Memory.{lone}
use denote.Param.{param}
use denote.RattleType.{RattleType}
use mir.Syntax.{Ty, ty_array}
use Rattle.acas_units.specs.contracts.pair.Pair.{the_row}

-- a pair, as one value of a type that is given to the row of places
abbrev pub one_pair : RattleType
one_pair = param 0 the_row

-- the memory of so many pairs
abbrev pub block_of : ℕ → Ty
block_of len = ty_array (lone the_row.mir) len
