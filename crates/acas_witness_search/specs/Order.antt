-- The order of the passes by the quantities that they move.
use Rattle.std.specs.Prelude.{Option, Some, None, Bool, true, false}
use Rattle.acas_witness_search.specs.declared.quantity.Quantity.{Quantity}
use Rattle.acas_witness_search.specs.declared.quantity.Quantity.TheVariants.{Time, Altitude, Intruder, Aim, Pull, Hold, Own}

-- the quantity that the next pass moves
abbrev pub next_of : Quantity → Option Quantity
next_of Time = Some Altitude
next_of Altitude = Some Intruder
next_of Intruder = Some Aim
next_of Aim = Some Pull
next_of Pull = Some Hold
next_of Hold = Some Own
next_of Own = None

-- the value of a flight never falls along the pass
abbrev pub rises : Quantity → Bool
rises Time = false
rises Altitude = true
rises Intruder = true
rises Aim = true
rises Pull = false
rises Hold = false
rises Own = false
