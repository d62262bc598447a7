-- The tables `puck`, `closing`, `pilot` and `cost`.
use Rattle.std.specs.Prelude.{ℕ, ◌*◌, nat_le, List, codes, ℤ, if◌then◌else◌, Result, Ok}
use Rattle.toml.specs.Data.{Members}
use Rattle.acas_units.specs.declared.limits.TheConstants.{LEAST_RADIUS, GREATEST_RADIUS, LEAST_HALF_HEIGHT, GREATEST_HALF_HEIGHT, LEAST_CLOSING, GREATEST_CLOSING, LEAST_PULL, GREATEST_LIMIT, GREATEST_DELAY, LEAST_COST, GREATEST_COST}
use Rattle.acas_units.specs.declared.ticks.TheConstants.{TICKS_PER_FOOT}
use Rattle.acas_spec.specs.Steps.{◌>>=◌}
use Rattle.acas_doc.specs.Keys.{whole_at}
use Rattle.acas_model.specs.declared.fault.ModelFault.{ModelFault}
use Rattle.acas_model.specs.declared.numbers.TheConstants.{DELAY_VERSION}
use Rattle.acas_base.specs.declared.numbers.Puck.{Puck}
use Rattle.acas_base.specs.declared.numbers.Closing.{Closing}
use Rattle.acas_base.specs.declared.numbers.Pilot.{Pilot}
use Rattle.acas_base.specs.declared.numbers.Numbers.{Numbers}
use Rattle.acas_model.specs.Document.{in_doc, number_at, closed_table}

-- `puck` is a table that has no other keys
unfoldable pub puck_table : Members → Result Members ModelFault
puck_table doc = closed_table doc (codes "puck") (codes "radius half_height")

-- half of the puck's height, in feet
unfoldable pub half_height : Members → Result ℕ ModelFault
half_height puck = number_at puck (codes "puck") (codes "half_height") LEAST_HALF_HEIGHT GREATEST_HALF_HEIGHT

-- the puck: its radius, in ft, and half of its height, which is feet in the file and ticks in the model
unfoldable pub puck_of : Members → Result Puck ModelFault
puck_of doc = do
  puck ← puck_table doc
  radius ← number_at puck (codes "puck") (codes "radius") LEAST_RADIUS GREATEST_RADIUS
  feet ← half_height puck
  Ok (record { radius = radius; half = TICKS_PER_FOOT * feet })

-- the least closing speed, then the greatest, which is not below it, in ft/s
unfoldable pub closing_of : Members → Result Closing ModelFault
closing_of doc = do
  closing ← closed_table doc (codes "closing") (codes "least greatest")
  least ← number_at closing (codes "closing") (codes "least") LEAST_CLOSING GREATEST_CLOSING
  greatest ← number_at closing (codes "closing") (codes "greatest") least GREATEST_CLOSING
  Ok (record { least = least; greatest = greatest })

-- the keys of `pilot` in a text of this version
abbrev pub pilot_keys : ℕ → List ℕ
pilot_keys version = if nat_le DELAY_VERSION version then codes "pull limit delay" else codes "pull limit"

-- how long the pilot may hold the rate before following, in seconds, which is 0 where the version has no key for it
unfoldable pub delay_of : Members → ℕ → Result ℕ ModelFault
delay_of pilot version =
    if nat_le DELAY_VERSION version then number_at pilot (codes "pilot") (codes "delay") 0 GREATEST_DELAY else Ok 0

-- the least acceleration of a pilot who follows an advisory, then the greatest, which is not below it, then the delay
unfoldable pub pilot_of : Members → ℕ → Result Pilot ModelFault
pilot_of doc version = do
  pilot ← closed_table doc (codes "pilot") (pilot_keys version)
  pull ← number_at pilot (codes "pilot") (codes "pull") LEAST_PULL GREATEST_LIMIT
  limit ← number_at pilot (codes "pilot") (codes "limit") pull GREATEST_LIMIT
  delay ← delay_of pilot version
  Ok (record { pull = pull; limit = limit; delay = delay })

-- the cost of contact, in units
unfoldable pub contact_of : Members → Result ℤ ModelFault
contact_of doc = do
  cost ← closed_table doc (codes "cost") (codes "contact")
  in_doc (whole_at cost (codes "cost") (codes "contact") LEAST_COST GREATEST_COST)

-- the four tables, each in turn
unfoldable pub numbers_of : Members → ℕ → Result Numbers ModelFault
numbers_of doc version = do
  puck ← puck_of doc
  closing ← closing_of doc
  pilot ← pilot_of doc version
  contact ← contact_of doc
  Ok (record { puck = puck; closing = closing; pilot = pilot; contact = contact })
