-- A text that says an encounter passes the rules.
use Rattle.std.proofs.Common.{◌≡◌, ℕ, ◌<◌, ◌≤◌, List, [], length, map, codes, ℤ, pos, ◌*ℤ◌, Ok, refl, arith}
use Rattle.std.proofs.lemmas.Int.{ints}
use Rattle.std.proofs.lemmas.List.{length-map}
use Rattle.toml.specs.Data.{Members, integer}
use Rattle.acas_units.specs.declared.limits.TheConstants.{LEAST_CLOSING, GREATEST_CLOSING, LEAST_ALTITUDE, GREATEST_ALTITUDE, LEAST_RATE, GREATEST_RATE, LEAST_SECONDS, GREATEST_SECONDS}
use Rattle.acas_units.specs.declared.ticks.TheConstants.{TICKS_PER_FOOT}
use Rattle.acas_spec.specs.Axis.{IsBetween, IsWithin}
use Rattle.acas_spec.specs.Model.{ModelData}
use Rattle.acas_spec.specs.Limits.{IsModel}
use Rattle.acas_doc.specs.Paths.{key_path}
use Rattle.acas_doc.proofs.Documents.{document_of-read}
use Rattle.acas_doc.proofs.Holds.{list_at_passes, whole_at_passes}
use Rattle.acas_doc.proofs.LeastUnknown.{only_known_passes}
use Rattle.acas_model.specs.Text.{HoldsList, HoldsWhole}
use Rattle.acas_model.proofs.Wholes.{wholes_pass}
use Rattle.acas_doc.specs.declared.input_fault.InputFault.TheVariants.{NotToml}
use Rattle.acas_model.proofs.InputKeys.{advisory_passes, version_passes}
use Rattle.acas_replay.specs.declared.limits.TheConstants.{LEAST_START_RANGE, GREATEST_START_RANGE, LEAST_ACCELERATION, GREATEST_ACCELERATION}
use Rattle.acas_replay.specs.declared.start.Start.{Start}
use Rattle.acas_replay.specs.Encounter.{EncounterData, IsStart}
use Rattle.acas_replay.specs.Start.{number_at, start_of}
use Rattle.acas_replay.specs.Accelerations.{accelerations_at}
use Rattle.acas_replay.specs.Whole.{encounter_in, encounter_of}
use Rattle.acas_replay.specs.Text.{IsEncounterText, IsStartText}

-- ---- the start

number_passes : (doc : Members) (key : List ℕ) (least greatest z : ℤ) → HoldsWhole doc key z → IsBetween least greatest z → number_at doc key least greatest ≡ Ok z
unfolding number_at
number_passes doc key least greatest z there between = rw (whole_at_passes doc [] key least greatest z there between.low between.high) refl

in_feet : (feet : ℤ) → IsBetween (pos TICKS_PER_FOOT *ℤ LEAST_ALTITUDE) (pos TICKS_PER_FOOT *ℤ GREATEST_ALTITUDE) (pos TICKS_PER_FOOT *ℤ feet) → IsBetween LEAST_ALTITUDE GREATEST_ALTITUDE feet
in_feet feet is = record { low = omega (arith, ints); high = omega (arith, ints) }

start_passes : (m : ModelData) (doc : Members) (s : Start) → IsModel m → IsStartText m s doc → IsStart s → s.advisory < length m.advisories → start_of m doc ≡ Ok s
unfolding start_of
start_passes m doc s valid says fits known =
    let altitude : IsBetween (pos TICKS_PER_FOOT *ℤ LEAST_ALTITUDE) (pos TICKS_PER_FOOT *ℤ GREATEST_ALTITUDE) (pos TICKS_PER_FOOT *ℤ says.feet) = rw (← says.ticks) fits.altitude in
    rw (
      advisory_passes m doc [] 0 s.advisory valid (record { there = says.advisory; known = known }),
      number_passes doc (codes "range") LEAST_START_RANGE GREATEST_START_RANGE s.range says.range fits.range,
      number_passes doc (codes "closing") (pos LEAST_CLOSING) (pos GREATEST_CLOSING) s.closing says.closing fits.closing,
      number_passes doc (codes "altitude") LEAST_ALTITUDE GREATEST_ALTITUDE says.feet says.altitude (in_feet says.feet altitude),
      number_passes doc (codes "own") LEAST_RATE GREATEST_RATE s.own says.own fits.own,
      number_passes doc (codes "intruder") LEAST_RATE GREATEST_RATE s.intruder says.intruder fits.intruder,
      ← says.ticks,
    ) refl

-- ---- the accelerations

accelerations_pass : (doc : Members) (key : List ℕ) (least greatest : ℕ) (zs : List ℤ) → HoldsList doc key (map integer zs) → least ≤ length zs → length zs ≤ greatest → IsWithin LEAST_ACCELERATION GREATEST_ACCELERATION zs →
    accelerations_at doc key least greatest ≡ Ok zs
unfolding accelerations_at
accelerations_pass doc key least greatest zs there some few within =
    rw (list_at_passes doc [] key least greatest (map integer zs) there (omega (arith, some, length-map zs integer)) (omega (arith, few, length-map zs integer)), wholes_pass (key_path [] key) LEAST_ACCELERATION GREATEST_ACCELERATION zs within) refl

-- ---- the whole text

pub understood : (m : ModelData) (bytes : List ℕ) (e : EncounterData) → IsModel m → IsEncounterText m bytes e → encounter_of m bytes ≡ Ok e
unfolding encounter_of encounter_in
understood m bytes e valid is =
    rw (
      document_of-read NotToml bytes is.doc (record { text = is.text; toml = is.toml }),
      (only_known_passes [] _ is.doc).1 is.keys.none,
      version_passes is.doc is.version,
      start_passes m is.doc e.start valid is.start is.within.start (omega (arith, is.known.advisory, valid.advisory_count)),
      accelerations_pass is.doc (codes "own_accel") LEAST_SECONDS GREATEST_SECONDS e.own is.own_accel is.within.some is.within.few is.within.own,
      accelerations_pass is.doc (codes "intruder_accel") (length e.own) (length e.own) e.intruder is.intruder_accel (omega (arith, is.within.paired)) (omega (arith, is.within.paired)) is.within.intruder,
    ) refl
