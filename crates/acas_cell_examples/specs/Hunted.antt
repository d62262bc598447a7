-- A search of a meeting.
use Rattle.std.specs.Prelude.{pos}
use Rattle.acas_rulings.specs.Hunt.{Hunt}
use Rattle.acas_flight_examples.specs.Numbers.{over}
use Rattle.acas_flight_examples.specs.Searched.{level_search}

-- both fly level at one altitude for a second; the intruder may have rates of up to 100 ft/min, and changes them by as much in a second
abbrev pub level_hunt : Hunt
level_hunt = record { search = record level_search { high = over (pos 1) 1 }; may = record { accel = 100; rate = 100 } }
