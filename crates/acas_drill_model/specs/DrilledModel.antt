-- The model of a drill, by its number. All divisions round down.
use Rattle.std.specs.Prelude.{ℕ, ◌+◌, ◌*◌, ◌/◌, ◌%◌, ℤ, pos, neg_ℤ, ◌+ℤ◌, List, [], ◌∷◌, map, codes}
use Rattle.std.specs.List.{range_with_len}
use Rattle.acas_units.specs.declared.ticks.TheConstants.{TICKS_PER_FOOT}
use Rattle.acas_spec.specs.Model.{GridData, ModelData}
use Rattle.acas_spec.specs.declared.parts.Advisory.{Advisory}
use Rattle.acas_spec.specs.declared.parts.Choice.{Choice}
use Rattle.acas_spec.specs.declared.parts.SigmaPoint.{SigmaPoint}

-- the number that is n below 0
abbrev pub minus : ℕ → ℤ
minus n = neg_ℤ (pos n)

-- ---- the grid

-- so many numbers from the least on, each a step above the one before it
abbrev pub stepped : ℤ → ℕ → ℕ → List ℤ
stepped least step count = map (λ place. least +ℤ pos (step * place)) (range_with_len 0 count)

-- the numbers by a step, from so many steps below 0 to so many above it
abbrev pub about_zero : ℕ → ℕ → List ℤ
about_zero step steps = stepped (minus (step * steps)) step (2 * steps + 1)

-- the altitudes go by 100 ft, in 6 to 12 steps on each side of 0
abbrev pub altitude_steps : ℕ → ℕ
altitude_steps number = 6 + number % 7

-- the own rates go by 500 ft/min, in 2 to 5 steps on each side of 0
abbrev pub own_steps : ℕ → ℕ
own_steps number = 2 + (number / 7) % 4

-- and so do the intruder rates
abbrev pub intruder_steps : ℕ → ℕ
intruder_steps number = 2 + (number / 28) % 4

-- the table goes back 10 to 40 seconds
abbrev pub drilled_horizon : ℕ → ℕ
drilled_horizon number = 10 + (number / 112) % 31

abbrev pub drilled_grid : ℕ → GridData
drilled_grid number = record {
  h = about_zero (100 * TICKS_PER_FOOT) (altitude_steps number);
  v0 = about_zero 500 (own_steps number);
  v1 = about_zero 500 (intruder_steps number);
  advisories = 7;
  horizon = drilled_horizon number;
}

-- ---- the advisories, what may be chosen, and the sigma points

-- an advisory asks for the rates from one to another
abbrev pub asks : List ℕ → ℤ → ℤ → Advisory
asks name lo hi = record { name = name; lo = lo; hi = hi }

-- the seven advisories
abbrev pub drilled_advisories : List Advisory
drilled_advisories =
    asks (codes "clear") (minus 10_000) (pos 10_000)
    ∷ asks (codes "no-climb") (minus 10_000) (pos 0)
    ∷ asks (codes "no-descend") (pos 0) (pos 10_000)
    ∷ asks (codes "level") (minus 500) (pos 500)
    ∷ asks (codes "climb") (pos 1500) (pos 10_000)
    ∷ asks (codes "descend") (minus 10_000) (minus 1500)
    ∷ asks (codes "climb-fast") (pos 2500) (pos 10_000)
    ∷ []

-- an advisory may be chosen at a cost
abbrev pub costs : ℕ → ℤ → Choice
costs advisory cost = record { advisory = advisory; cost = cost }

-- under each of them each may be chosen, at these costs
abbrev pub drilled_choices : List Choice
drilled_choices =
    costs 0 (pos 0)
    ∷ costs 1 (pos 1)
    ∷ costs 2 (pos 1)
    ∷ costs 3 (pos 2)
    ∷ costs 4 (pos 5)
    ∷ costs 5 (pos 5)
    ∷ costs 6 (pos 8)
    ∷ []

-- a sigma point changes the own rate and the intruder's
abbrev pub changes : ℤ → ℤ → ℤ → SigmaPoint
changes weight own intruder = record { weight = weight; own = own; intruder = intruder }

-- the three sigma points
abbrev pub drilled_sigmas : List SigmaPoint
drilled_sigmas =
    changes (pos 2) (pos 0) (pos 0)
    ∷ changes (pos 1) (pos 60) (minus 60)
    ∷ changes (pos 1) (minus 60) (pos 60)
    ∷ []

-- ---- the model

-- the pilot holds no rate before following; contact costs 1000 to 9999
abbrev pub drilled_model : ℕ → ModelData
drilled_model number = record {
  grid = drilled_grid number;
  advisories = drilled_advisories;
  choices = map (λ a. drilled_choices) drilled_advisories;
  sigmas = drilled_sigmas;
  pull = 480;
  limit = 960;
  delay = 0;
  radius = 500;
  half = 100 * TICKS_PER_FOOT;
  least_closing = 500;
  greatest_closing = 1500;
  contact = pos (1000 + number % 9000);
}
