-- The rules of an encounter's text, in the order in which they are looked at: the encounter that the text says, or the first rule that it
-- fails.
use Rattle.std.specs.Prelude.{◌≡◌, ℕ, List, [], length, codes, Result, Ok}
use Rattle.toml.specs.Data.{Members}
use Rattle.acas_units.specs.declared.limits.TheConstants.{LEAST_SECONDS, GREATEST_SECONDS}
use Rattle.acas_spec.specs.Model.{ModelData}
use Rattle.acas_spec.specs.Steps.{◌>>=◌, ◌>>◌}
use Rattle.acas_doc.specs.Document.{document_of}
use Rattle.acas_doc.specs.Known.{only_known}
use Rattle.acas_doc.specs.declared.input_fault.InputFault.{InputFault}
use Rattle.acas_doc.specs.declared.input_fault.InputFault.TheVariants.{NotToml, Doc, UnknownName, Window, Rate, Memory}
use Rattle.acas_doc.specs.Input.{in_doc, version_of}
use Rattle.acas_replay.specs.Encounter.{EncounterData}
use Rattle.acas_replay.specs.Start.{start_of}
use Rattle.acas_replay.specs.Accelerations.{accelerations_at}

-- the encounter of a document: its keys, its version, the start, the own accelerations, and as many of the intruder
unfoldable pub encounter_in : ModelData → Members → Result EncounterData InputFault
encounter_in m doc = do
  in_doc (only_known [] (codes "version advisory range closing altitude own intruder own_accel intruder_accel") doc)
  version_of doc
  start ← start_of m doc
  own ← accelerations_at doc (codes "own_accel") LEAST_SECONDS GREATEST_SECONDS
  intruder ← accelerations_at doc (codes "intruder_accel") (length own) (length own)
  Ok (record { start = start; own = own; intruder = intruder })

-- the encounter that a text says, beside a model
unfoldable pub encounter_of : ModelData → List ℕ → Result EncounterData InputFault
encounter_of m bytes = do
  doc ← document_of NotToml bytes
  encounter_in m doc

-- a fault that an encounter can have: its advisory has place 0, and it has no window, and no greatest rate
abbrev pub IsOfEncounter : InputFault → Type 0
IsOfEncounter NotToml = Unit {0}
IsOfEncounter (Doc f) = Unit {0}
IsOfEncounter (UnknownName place) = place ≡ 0
IsOfEncounter (Window place) = ⊥
IsOfEncounter (Rate place) = ⊥
IsOfEncounter Memory = Unit {0}
