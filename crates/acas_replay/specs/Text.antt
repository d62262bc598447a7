-- What an encounter's text says, key by key and in no order: each key holds the encounter's numbers, there are no other keys, and the
-- encounter is within its limits.
use Rattle.std.specs.Prelude.{◌≡◌, ℕ, List, map, codes, ℤ, pos, ◌*ℤ◌, Some, IsUtf8}
use Rattle.toml.specs.Data.{Members, integer}
use Rattle.toml.specs.Parse.{parse_document}
use Rattle.acas_units.specs.declared.ticks.TheConstants.{TICKS_PER_FOOT}
use Rattle.acas_spec.specs.Model.{ModelData, advisory_at}
use Rattle.acas_model.specs.Text.{HasOnly, HoldsWhole, HoldsText, HoldsList}
use Rattle.acas_doc.specs.declared.input.TheConstants.{INPUT_VERSION}
use Rattle.acas_replay.specs.declared.start.Start.{Start}
use Rattle.acas_replay.specs.Encounter.{EncounterData, IsEncounter, IsEncounterOf}

-- the keys say a start: the name of its advisory, and its numbers, of which the altitude is in feet
pub record IsStartText (m : ModelData) (s : Start) (doc : Members) : Type 0 where
  pub advisory : HoldsText doc (codes "advisory") (advisory_at m s.advisory).name
  pub range : HoldsWhole doc (codes "range") s.range
  pub closing : HoldsWhole doc (codes "closing") s.closing
  pub feet : ℤ
  pub altitude : HoldsWhole doc (codes "altitude") feet
  pub ticks : s.altitude ≡ pos TICKS_PER_FOOT *ℤ feet
  pub own : HoldsWhole doc (codes "own") s.own
  pub intruder : HoldsWhole doc (codes "intruder") s.intruder

-- the bytes are a text in UTF-8, a TOML document, and its keys say this encounter, which is within its limits and names an advisory of
-- the model
pub record IsEncounterText (m : ModelData) (bytes : List ℕ) (e : EncounterData) : Type 0 where
  pub text : IsUtf8 bytes
  pub doc : Members
  pub toml : parse_document bytes ≡ Some doc
  pub keys : HasOnly (codes "version advisory range closing altitude own intruder own_accel intruder_accel") doc
  pub version : HoldsWhole doc (codes "version") INPUT_VERSION
  pub start : IsStartText m e.start doc
  pub own_accel : HoldsList doc (codes "own_accel") (map integer e.own)
  pub intruder_accel : HoldsList doc (codes "intruder_accel") (map integer e.intruder)
  pub within : IsEncounter e
  pub known : IsEncounterOf m e
