-- The replay of an encounter under a table's advice.
use Rattle.std.specs.Prelude.{◌≡◌, ℕ, zero, suc, ◌+◌, ◌<◌, Bool, IsTrue, ◌↔◌, if◌then◌else◌, List, ◌++◌, codes}
use Rattle.std.specs.Fmt.{decimal, signed_decimal}
use Rattle.acas_spec.specs.Model.{ModelData, advisory_at}
use Rattle.acas_outside.specs.Printing.{below}
use Rattle.acas_base.specs.Advices.{AdvicesData}
use Rattle.acas_replay.specs.Encounter.{EncounterData, intruder_at, own_at, seconds}
use Rattle.acas_replay.specs.Contact.{HasContact}
use Rattle.acas_replay.specs.declared.second.Second.{Second}
use Rattle.acas_replay.specs.States.{second_from, start_of, state_after}
use Rattle.acas_replay.specs.Issue.{IsIssued}
use Rattle.acas_replay.specs.declared.state.EncounterState.{EncounterState}

-- what is issued in each second by its number, and whether the second is in contact
pub record Course : Type 0 where
  pub advice : ℕ → ℕ
  pub contact : ℕ → Bool

-- the state as a second begins: the start, or that at the end of the second before
abbrev pub state_at : EncounterData → Course → ℕ → EncounterState
state_at e c zero = start_of e
state_at e c (suc k) = state_after (state_at e c k) (c.advice k) (own_at e k) (intruder_at e k)

-- the second of a number
abbrev pub second_at : EncounterData → Course → ℕ → Second
second_at e c k = second_from (state_at e c k) (own_at e k) (intruder_at e k)

-- The course of an encounter: in each second the advice is that which the table issues at its state, and the second is in contact
-- exactly where some fraction of it is.
pub record IsCourse (m : ModelData) (a : AdvicesData) (e : EncounterData) (c : Course) : Type 0 where
  pub issued : (k : ℕ) → k < seconds e → IsIssued m a (state_at e c k) (c.advice k)
  pub in_contact : (k : ℕ) → k < seconds e → IsTrue (c.contact k) ↔ HasContact m.radius m.half (second_at e c k)

-- how many of the first seconds are in contact
abbrev pub contacts : Course → ℕ → ℕ
contacts c zero = 0
contacts c (suc k) = contacts c k + (if c.contact k then 1 else 0)

-- ---- the text

-- a line: the number of the second, the issued advice by name, the state, and whether the second is in contact
unfoldable pub line_of : ModelData → ℕ → EncounterState → ℕ → Bool → List ℕ
line_of m number s advice contact =
    decimal number ++ codes " " ++ (advisory_at m advice).name
    ++ codes " range " ++ signed_decimal s.range
    ++ codes " ticks " ++ signed_decimal s.point.h
    ++ codes " own " ++ signed_decimal s.point.v0
    ++ codes " intruder " ++ signed_decimal s.point.v1
    ++ (if contact then codes " contact\n" else codes " apart\n")

-- the line of a second
abbrev pub second_line : ModelData → EncounterData → Course → ℕ → List ℕ
second_line m e c k = line_of m k (state_at e c k) (c.advice k) (c.contact k)

-- the last line: how many seconds there are, and how many are in contact
unfoldable pub counts_line : ℕ → ℕ → List ℕ
counts_line all count = codes "seconds " ++ decimal all ++ codes " contact " ++ decimal count ++ codes "\n"

-- the lines of all seconds, and then the counts
unfoldable pub replay_text : ModelData → EncounterData → Course → List ℕ
replay_text m e c = below (seconds e) (second_line m e c) ++ counts_line (seconds e) (contacts c (seconds e))

-- A replay: the text of the encounter's course, and how many of its seconds are in contact.
pub record IsReplay (m : ModelData) (a : AdvicesData) (e : EncounterData) (count : ℕ) (text : List ℕ) : Type 0 where
  pub course : Course
  pub is_course : IsCourse m a e course
  pub counted : count ≡ contacts course (seconds e)
  pub printed : text ≡ replay_text m e course
