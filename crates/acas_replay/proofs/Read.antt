-- What the keys hold of a text that passes the rules.
use Rattle.std.proofs.Common.{◌≡◌, ℕ, ◌<◌, ◌≤◌, List, [], length, map, codes, ℤ, pos, ◌*ℤ◌, Ok, refl, subst, arith}
use Rattle.std.proofs.lemmas.Int.{ints}
use Rattle.toml.specs.Data.{Members, integer}
use Rattle.acas_units.specs.declared.limits.TheConstants.{LEAST_CLOSING, GREATEST_CLOSING, LEAST_ALTITUDE, GREATEST_ALTITUDE, LEAST_RATE, GREATEST_RATE, LEAST_SECONDS, GREATEST_SECONDS}
use Rattle.acas_units.specs.declared.ticks.TheConstants.{TICKS_PER_FOOT}
use Rattle.acas_spec.specs.Axis.{IsBetween, IsWithin}
use Rattle.acas_spec.specs.Model.{ModelData}
use Rattle.acas_spec.specs.Limits.{IsModel}
use Rattle.acas_spec.proofs.Each.{bind_ok, same_ok}
use Rattle.acas_doc.specs.Document.{document_of}
use Rattle.acas_doc.proofs.Documents.{document_of-found}
use Rattle.acas_doc.specs.Keys.{list_at}
use Rattle.acas_doc.specs.Known.{only_known}
use Rattle.acas_doc.specs.Paths.{key_path}
use Rattle.acas_doc.proofs.Holds.{fault_as_ok, list_at_ok, whole_at_ok}
use Rattle.acas_doc.proofs.LeastUnknown.{only_known_passes}
use Rattle.acas_model.specs.Text.{HasOnly, HoldsList, HoldsWhole}
use Rattle.acas_model.proofs.ReadNumbers.{passed_ok, step_ok}
use Rattle.acas_model.proofs.Wholes.{wholes_ok}
use Rattle.acas_doc.specs.declared.input.TheConstants.{INPUT_VERSION}
use Rattle.acas_doc.specs.declared.input_fault.InputFault.{InputFault}
use Rattle.acas_doc.specs.declared.input_fault.InputFault.TheVariants.{NotToml}
use Rattle.acas_doc.specs.Input.{in_doc, version_of}
use Rattle.acas_model.specs.Named.{advisory_at}
use Rattle.acas_model.proofs.InputKeys.{advisory_ok, version_ok}
use Rattle.acas_replay.specs.declared.limits.TheConstants.{LEAST_START_RANGE, GREATEST_START_RANGE, LEAST_ACCELERATION, GREATEST_ACCELERATION}
use Rattle.acas_replay.specs.declared.start.Start.{Start}
use Rattle.acas_replay.specs.Encounter.{EncounterData, IsStart}
use Rattle.acas_replay.specs.Start.{number_at, start_of, start_with}
use Rattle.acas_replay.specs.Accelerations.{accelerations_at}
use Rattle.acas_replay.specs.Whole.{encounter_in, encounter_of}
use Rattle.acas_replay.specs.Text.{IsEncounterText, IsStartText}

-- ---- the start

-- a number that was read
pub record IsReadNumber (doc : Members) (key : List ℕ) (least greatest z : ℤ) : Type 0 where
  pub there : HoldsWhole doc key z
  pub between : IsBetween least greatest z

number_ok : (doc : Members) (key : List ℕ) (least greatest z : ℤ) → number_at doc key least greatest ≡ Ok z → IsReadNumber doc key least greatest z
unfolding number_at
number_ok doc key least greatest z e =
    let w = whole_at_ok doc [] key least greatest z (fault_as_ok _ _ z e) in
    record { there = w.0; between = record { low = w.1; high = w.2 } }

pub in_ticks : (feet : ℤ) → IsBetween LEAST_ALTITUDE GREATEST_ALTITUDE feet → IsBetween (pos TICKS_PER_FOOT *ℤ LEAST_ALTITUDE) (pos TICKS_PER_FOOT *ℤ GREATEST_ALTITUDE) (pos TICKS_PER_FOOT *ℤ feet)
in_ticks feet is = record { low = omega (arith, ints); high = omega (arith, ints) }

-- a start that was read
pub record IsReadStart (m : ModelData) (doc : Members) (s : Start) : Type 0 where
  pub says : IsStartText m s doc
  pub fits : IsStart s
  pub known : s.advisory < length m.advisories

pub start_ok : (m : ModelData) (doc : Members) (s : Start) → start_of m doc ≡ Ok s → IsReadStart m doc s
unfolding start_of
start_ok m doc s e =
    let a = bind_ok (advisory_at m doc [] 0) _ s e in
    let r = bind_ok (number_at doc (codes "range") LEAST_START_RANGE GREATEST_START_RANGE) _ s a.2 in
    let c = bind_ok (number_at doc (codes "closing") (pos LEAST_CLOSING) (pos GREATEST_CLOSING)) _ s r.2 in
    let h = bind_ok (number_at doc (codes "altitude") LEAST_ALTITUDE GREATEST_ALTITUDE) _ s c.2 in
    let v = bind_ok (number_at doc (codes "own") LEAST_RATE GREATEST_RATE) _ s h.2 in
    let w = bind_ok (number_at doc (codes "intruder") LEAST_RATE GREATEST_RATE) _ s v.2 in
    let same : start_with a.0 r.0 c.0 h.0 v.0 w.0 ≡ s = same_ok {E = InputFault} _ _ w.2 in
    let advisory = advisory_ok m doc [] 0 a.0 a.1 in
    let range = number_ok doc (codes "range") LEAST_START_RANGE GREATEST_START_RANGE r.0 r.1 in
    let closing = number_ok doc (codes "closing") (pos LEAST_CLOSING) (pos GREATEST_CLOSING) c.0 c.1 in
    let altitude = number_ok doc (codes "altitude") LEAST_ALTITUDE GREATEST_ALTITUDE h.0 h.1 in
    let own = number_ok doc (codes "own") LEAST_RATE GREATEST_RATE v.0 v.1 in
    let intruder = number_ok doc (codes "intruder") LEAST_RATE GREATEST_RATE w.0 w.1 in
    subst (IsReadStart m doc) same (record {
      says = record {
        advisory = advisory.there;
        range = range.there;
        closing = closing.there;
        feet = h.0;
        altitude = altitude.there;
        ticks = refl;
        own = own.there;
        intruder = intruder.there;
      };
      fits = record {
        range = range.between;
        closing = closing.between;
        altitude = in_ticks h.0 altitude.between;
        own = own.between;
        intruder = intruder.between;
      };
      known = advisory.known;
    })

-- ---- the accelerations

-- a list that was read
pub record AreRead (doc : Members) (key : List ℕ) (least greatest : ℕ) (zs : List ℤ) : Type 0 where
  pub there : HoldsList doc key (map integer zs)
  pub some : least ≤ length zs
  pub few : length zs ≤ greatest
  pub within : IsWithin LEAST_ACCELERATION GREATEST_ACCELERATION zs

pub accelerations_ok : (doc : Members) (key : List ℕ) (least greatest : ℕ) (zs : List ℤ) → accelerations_at doc key least greatest ≡ Ok zs → AreRead doc key least greatest zs
unfolding accelerations_at
accelerations_ok doc key least greatest zs e =
    let l = bind_ok (in_doc (list_at doc [] key least greatest)) _ zs e in
    let list = list_at_ok doc [] key least greatest l.0 (fault_as_ok _ _ l.0 l.1) in
    let items = wholes_ok (key_path [] key) LEAST_ACCELERATION GREATEST_ACCELERATION l.0 zs (fault_as_ok _ _ zs l.2) in
    record {
      there = subst (HoldsList doc key) items.there list.0;
      some = omega (arith, list.1, items.long);
      few = omega (arith, list.2, items.long);
      within = items.within;
    }

-- ---- the whole text

-- an encounter that was read
pub record IsRead (m : ModelData) (doc : Members) (e : EncounterData) : Type 0 where
  pub keys : HasOnly (codes "version advisory range closing altitude own intruder own_accel intruder_accel") doc
  pub version : HoldsWhole doc (codes "version") INPUT_VERSION
  pub start : IsReadStart m doc e.start
  pub own : AreRead doc (codes "own_accel") LEAST_SECONDS GREATEST_SECONDS e.own
  pub intruder : AreRead doc (codes "intruder_accel") (length e.own) (length e.own) e.intruder

in_ok : (m : ModelData) (doc : Members) (e : EncounterData) → encounter_in m doc ≡ Ok e → IsRead m doc e
unfolding encounter_in
in_ok m doc e is =
    let k = step_ok (in_doc (only_known [] (codes "version advisory range closing altitude own intruder own_accel intruder_accel") doc)) _ e is in
    let v = passed_ok (version_of doc) _ e k.1 in
    let s = bind_ok (start_of m doc) _ e v.2 in
    let o = bind_ok (accelerations_at doc (codes "own_accel") LEAST_SECONDS GREATEST_SECONDS) _ e s.2 in
    let i = bind_ok (accelerations_at doc (codes "intruder_accel") (length o.0) (length o.0)) _ e o.2 in
    let made : EncounterData = record { start = s.0; own = o.0; intruder = i.0 } in
    let same : made ≡ e = same_ok {E = InputFault} _ _ i.2 in
    subst (IsRead m doc) same (record {
      keys = record { none = (only_known_passes [] _ doc).0 (fault_as_ok _ _ tt k.0) };
      version = version_ok doc v.0 v.1;
      start = start_ok m doc s.0 s.1;
      own = accelerations_ok doc (codes "own_accel") LEAST_SECONDS GREATEST_SECONDS o.0 o.1;
      intruder = accelerations_ok doc (codes "intruder_accel") (length o.0) (length o.0) i.0 i.1;
    })

pub said : (m : ModelData) (bytes : List ℕ) (e : EncounterData) → IsModel m → encounter_of m bytes ≡ Ok e → IsEncounterText m bytes e
unfolding encounter_of
said m bytes e valid is =
    let d = bind_ok (document_of NotToml bytes) (encounter_in m) e is in
    let doc = document_of-found NotToml bytes d.0 d.1 in
    let read = in_ok m d.0 e d.2 in
    record {
      text = doc.text;
      doc = d.0;
      toml = doc.toml;
      keys = read.keys;
      version = read.version;
      start = read.start.says;
      own_accel = read.own.there;
      intruder_accel = read.intruder.there;
      within = record {
        start = read.start.fits;
        some = read.own.some;
        few = read.own.few;
        paired = omega (arith, read.intruder.some, read.intruder.few);
        own = read.own.within;
        intruder = read.intruder.within;
      };
      known = record { advisory = omega (arith, read.start.known, valid.advisory_count) };
    }
