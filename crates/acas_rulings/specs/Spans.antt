-- Spans of an axis.
use Rattle.std.specs.Prelude.{ℕ, List, ℤ}
use Rattle.acas_spec.specs.Axis.{place_value}
use Rattle.acas_flight.specs.State.{Interval}

-- the numbers from a place of an axis to another
abbrev pub between : List ℤ → ℕ → ℕ → Interval
between axis first last = record { least = place_value axis first; greatest = place_value axis last }
