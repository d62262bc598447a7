-- What the inner functions say of an encounter that is being replayed: no number is larger than the limits of an encounter allow.
use Rattle.std.specs.Prelude.{◌≡◌, ℕ, ◌+◌, ◌*◌, ◌<◌, ◌≤◌, ℤ, pos, neg_ℤ, ◌≤ℤ◌, ◌<ℤ◌, unsigned_abs, IsTrue, ◌↔◌, List, length}
use Rattle.acas_units.specs.declared.limits.TheConstants.{GREATEST_CLOSING, GREATEST_ALTITUDE, GREATEST_RATE}
use Rattle.acas_units.specs.declared.ticks.TheConstants.{TICKS_PER_FOOT}
use Rattle.acas_spec.specs.Model.{ModelData}
use Rattle.acas_outside.specs.Printing.{below}
use Rattle.acas_base.specs.Advices.{AdvicesData, AreAdvicesOf}
use Rattle.acas_replay.specs.Encounter.{EncounterData, IsEncounterOf, intruder_at, own_at, seconds}
use Rattle.acas_replay.specs.declared.limits.TheConstants.{GREATEST_ACCELERATION, GREATEST_START_RANGE}
use Rattle.acas_process.specs.Axis.{tent}
use Rattle.acas_replay.specs.Contact.{HasContact}
use Rattle.acas_replay.specs.States.{second_from}
use Rattle.acas_replay.specs.Issue.{IsIssued}
use Rattle.acas_replay.specs.Replay.{Course, IsCourse, contacts, replay_text, second_line, state_at}
use Rattle.acas_replay.specs.declared.progress.Found.{Found}
use Rattle.acas_replay.specs.declared.progress.Progress.{Progress}
use Rattle.acas_replay.specs.declared.progress.Replayed.{Replayed}
use Rattle.acas_replay.specs.declared.state.EncounterState.{EncounterState}

-- how large a rate is after so many seconds
abbrev pub rate_size : ℕ → ℕ
rate_size k = unsigned_abs GREATEST_RATE + unsigned_abs GREATEST_ACCELERATION * k

-- how large an altitude is
abbrev pub altitude_size : ℕ → ℕ
altitude_size k = TICKS_PER_FOOT * unsigned_abs GREATEST_ALTITUDE + 4 * unsigned_abs GREATEST_RATE * k + 2 * unsigned_abs GREATEST_ACCELERATION * (k * k)

-- a state of an encounter after so many seconds
pub record IsReached (k : ℕ) (s : EncounterState) : Type 0 where
  pub behind : neg_ℤ (pos (GREATEST_CLOSING * k)) ≤ℤ s.range
  pub ahead : s.range ≤ℤ GREATEST_START_RANGE
  pub some_closing : pos 0 <ℤ s.closing
  pub closing : s.closing ≤ℤ pos GREATEST_CLOSING
  pub altitude : unsigned_abs s.point.h ≤ altitude_size k
  pub own : unsigned_abs s.point.v0 ≤ rate_size k
  pub intruder : unsigned_abs s.point.v1 ≤ rate_size k

-- what is found in the second of a number that begins at a state: the issued advice, and whether there is contact
pub record IsFound (m : ModelData) (a : AdvicesData) (e : EncounterData) (k : ℕ) (s : EncounterState) (f : Found) : Type 0 where
  pub issued : IsIssued m a s f.advice
  pub in_contact : IsTrue f.contact ↔ HasContact m.radius m.half (second_from s (own_at e k) (intruder_at e k))
  pub known : f.advice < m.grid.advisories

-- So many seconds of an encounter are replayed, whatever its course is: this is the state at their end, and so many of them are in
-- contact.
pub record HasFlown (m : ModelData) (a : AdvicesData) (e : EncounterData) (k : ℕ) (p : Progress) : Type 0 where
  pub state : (c : Course) → IsCourse m a e c → p.state ≡ state_at e c k
  pub contacts_are : (c : Course) → IsCourse m a e c → p.contacts ≡ contacts c k
  pub present : p.state.present < m.grid.advisories
  pub reached : IsReached k p.state
  pub few : p.contacts ≤ k

-- ---- of what is replayed

-- the advices are those of the model, and the encounter is one that the model takes
pub record IsReplayable (r : Replayed) : Type 0 where
  pub advices : AreAdvicesOf r.model.now r.advices.now
  pub encounter : IsEncounterOf r.model.now r.encounter.now

-- the course of an encounter that is replayed
abbrev pub IsCourseOf : Replayed → Course → Type 0
IsCourseOf r c = IsCourse r.model.now r.advices.now r.encounter.now c

-- so many of its seconds are in contact, whatever its course is
abbrev pub HasContacts : Replayed → ℕ → Type 0
HasContacts r count = (c : Course) → IsCourseOf r c → count ≡ contacts c (seconds r.encounter.now)

-- what is found in its second of a number, which begins at a state
abbrev pub IsFoundIn : Replayed → ℕ → EncounterState → Found → Type 0
IsFoundIn r k s f = IsFound r.model.now r.advices.now r.encounter.now k s f

-- how far it is after so many seconds
abbrev pub IsFlown : Replayed → ℕ → Progress → Type 0
IsFlown r k p = HasFlown r.model.now r.advices.now r.encounter.now k p

-- its line of a second, the lines of all its seconds, and its text
abbrev pub line_in : Replayed → Course → ℕ → List ℕ
line_in r c k = second_line r.model.now r.encounter.now c k

abbrev pub lines_in : Replayed → Course → List ℕ
lines_in r c = below (seconds r.encounter.now) (second_line r.model.now r.encounter.now c)

abbrev pub text_in : Replayed → Course → List ℕ
text_in r c = replay_text r.model.now r.encounter.now c

-- ---- on an axis

-- the first of the places of an axis at which a number's tent is the greatest
pub record IsNearestPlace (axis : List ℤ) (x : ℤ) (place : ℕ) : Type 0 where
  pub inside : place < length axis
  pub some : 0 < tent axis place x
  pub greatest : (other : ℕ) → other < length axis → tent axis other x ≤ tent axis place x
  pub first : (other : ℕ) → other < length axis → tent axis place x ≤ tent axis other x → place ≤ other
