-- States of encounters, an encounter and a course of it.
use Rattle.std.specs.Prelude.{ℕ, nat_eq, ℤ, pos, false, [], ◌∷◌}
use Rattle.acas_spec.specs.declared.place.Point.{Point}
use Rattle.acas_replay.specs.Encounter.{EncounterData}
use Rattle.acas_replay.specs.declared.second.Second.{Second}
use Rattle.acas_replay.specs.Replay.{Course}
use Rattle.acas_replay.specs.declared.state.EncounterState.{EncounterState}

-- the point at this relative altitude and these two rates
abbrev pub point : ℤ → ℤ → ℤ → Point
point h v0 v1 = record { h = h; v0 = v0; v1 = v1 }

-- under a present advisory, at a range that closes at 250 ft/s, at a point
abbrev pub at : ℕ → ℤ → Point → EncounterState
at present range place = record { present = present; range = range; closing = pos 250; point = place }

-- a second that begins at this range, closing speed and relative altitude, in which the relative rate stays at 0
abbrev pub steady : ℤ → ℤ → ℤ → Second
steady range closing altitude = record { range = range; closing = closing; altitude = altitude; rate = pos 0; change = pos 0 }

-- a second that begins 100 ticks below, at a relative rate of 5 ft/min that changes by 4
abbrev pub changing : Second
changing = record { range = pos 0; closing = pos 250; altitude = pos 100; rate = pos 5; change = pos 4 }

-- Two seconds that start under climb at 1000 ft, 60 ticks below the intruder, at 5 and at 7 ft/min. In the first the own rate
-- changes by 10 and the intruder's by 20.
abbrev pub encounter : EncounterData
encounter = record {
  start = record { advisory = 1; range = pos 1000; closing = pos 250; altitude = pos 60; own = pos 5; intruder = pos 7 };
  own = pos 10 ∷ pos 0 ∷ [];
  intruder = pos 20 ∷ pos 0 ∷ [];
}

-- clear of conflict is issued and then climb, and of the seconds that of number 1 alone is in contact
abbrev pub course : Course
course = record { advice = λ k. k; contact = λ k. nat_eq k 1 }

-- one second that starts after clear of conflict, a foot farther away than any layer advises
abbrev pub far_away : EncounterData
far_away = record {
  start = record { advisory = 0; range = pos 1001; closing = pos 250; altitude = pos 60; own = pos 5; intruder = pos 7 };
  own = pos 0 ∷ [];
  intruder = pos 0 ∷ [];
}

-- the same advice is issued in each second, and none is in contact
abbrev pub apart_under : ℕ → Course
apart_under advice = record { advice = λ k. advice; contact = λ k. false }
