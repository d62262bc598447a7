-- What the structs stand for.
use Rattle.acas_areas.specs.declared.parts.Moment.{Moment}
use Rattle.acas_rulings.specs.Race.{Race, race_of}
use Rattle.acas_rulings.specs.Turns.{Instant}
use Rattle.acas_race.specs.declared.contest.Contest.{Contest}

abbrev pub race_in : Contest → Race
race_in c = race_of c.chase.start c.chase.aim c.chase.pull c.chase.hold c.chase.height c.chase.rate c.goal c.accel

abbrev pub instant_at : Moment → Instant
instant_at t = record { num = t.num; den = t.den }
