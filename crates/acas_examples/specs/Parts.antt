-- The parts of small models.
use Rattle.std.specs.Prelude.{ℕ, ℤ, pos, neg_ℤ, List, [], ◌∷◌, codes}
use Rattle.acas_units.specs.declared.limits.TheConstants.{LEAST_RATE, GREATEST_RATE}
use Rattle.acas_frac.specs.Fraction.{Fraction}
use Rattle.acas_spec.specs.Model.{GridData}
use Rattle.acas_spec.specs.declared.parts.Advisory.{Advisory}
use Rattle.acas_spec.specs.declared.parts.Choice.{Choice}
use Rattle.acas_spec.specs.declared.parts.SigmaPoint.{SigmaPoint}
use Rattle.acas_spec.specs.declared.place.Point.{Point}
use Rattle.acas_spec.specs.declared.place.Vertex.{Vertex}

-- the number that is n below 0
abbrev pub minus : ℕ → ℤ
minus n = neg_ℤ (pos n)

-- num / den
abbrev pub fraction : ℤ → ℕ → Fraction
fraction num den = record { num = num; den = den }

-- the vertex at these places of the axes of relative altitude, own rate and intruder rate
abbrev pub vertex : ℕ → ℕ → ℕ → Vertex
vertex i j k = record { i = i; j = j; k = k }

-- the point at this relative altitude and these two rates
abbrev pub point : ℤ → ℤ → ℤ → Point
point h v0 v1 = record { h = h; v0 = v0; v1 = v1 }

-- the grid of these altitudes, own rates and intruder rates, for so many advisories and seconds
abbrev pub grid : List ℤ → List ℤ → List ℤ → ℕ → ℕ → GridData
grid h v0 v1 advisories horizon = record { h = h; v0 = v0; v1 = v1; advisories = advisories; horizon = horizon }

-- two altitudes, 0 and a top in ticks, and the rates 0 and 600 ft/min, for two advisories
abbrev pub two_rates : ℤ → ℕ → GridData
two_rates top horizon = grid (pos 0 ∷ top ∷ []) (pos 0 ∷ pos 600 ∷ []) (pos 0 ∷ pos 600 ∷ []) 2 horizon

-- clear of conflict, which asks for nothing
abbrev pub clear : Advisory
clear = record { name = codes "clear"; lo = LEAST_RATE; hi = GREATEST_RATE }

-- the advisory "level" of these rates
abbrev pub level : ℤ → ℤ → Advisory
level lo hi = record { name = codes "level"; lo = lo; hi = hi }

-- nearly level flight
abbrev pub nearly_level : Advisory
nearly_level = level (minus 500) (pos 500)

-- the choice of the advisory of this number, at a cost
abbrev pub choice : ℕ → ℤ → Choice
choice advisory cost = record { advisory = advisory; cost = cost }

-- under each of two advisories only clear may be chosen, at a cost
abbrev pub only_clear : ℤ → List (List Choice)
only_clear cost = (choice 0 cost ∷ []) ∷ (choice 0 cost ∷ []) ∷ []

-- a sigma point of this weight changes the own rate and the intruder's by so much
abbrev pub sigma : ℤ → ℤ → ℤ → SigmaPoint
sigma weight own intruder = record { weight = weight; own = own; intruder = intruder }

-- one sigma point that changes nothing
abbrev pub no_noise : List SigmaPoint
no_noise = sigma (pos 1) (pos 0) (pos 0) ∷ []

-- three of equal weight: the intruder's rate stays, rises by 600 ft/min or falls by 600 ft/min
abbrev pub three_noises : List SigmaPoint
three_noises = sigma (pos 1) (pos 0) (pos 0) ∷ sigma (pos 1) (pos 0) (pos 600) ∷ sigma (pos 1) (pos 0) (minus 600) ∷ []

-- two of the weights 1 and 3, of which the second moves the two rates apart
abbrev pub gusts : List SigmaPoint
gusts = sigma (pos 1) (pos 0) (pos 0) ∷ sigma (pos 3) (pos 60) (minus 60) ∷ []
