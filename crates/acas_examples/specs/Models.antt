-- Small models, whose numbers were also worked out by hand.
use Rattle.std.specs.Prelude.{ℕ, ℤ, pos, List, [], ◌∷◌, codes}
use Rattle.acas_units.specs.declared.limits.TheConstants.{LEAST_RATE, GREATEST_RATE}
use Rattle.acas_spec.specs.Model.{GridData, ModelData}
use Rattle.acas_spec.specs.declared.parts.Advisory.{Advisory}
use Rattle.acas_spec.specs.declared.parts.Choice.{Choice}
use Rattle.acas_spec.specs.declared.parts.SigmaPoint.{SigmaPoint}
use Rattle.acas_examples.specs.Parts.{choice, clear, grid, gusts, level, minus, nearly_level, no_noise, only_clear, three_noises, two_rates}

-- A model of this grid. A pilot changes the rate by 480 ft/min in a second. The puck's radius is 500 ft, and all close at 500 ft/s.
abbrev pub at_one_speed : GridData → List Advisory → List (List Choice) → List SigmaPoint → ℕ → ℤ → ModelData
at_one_speed grid advisories choices sigmas half contact = record {
  grid = grid;
  advisories = advisories;
  choices = choices;
  sigmas = sigmas;
  pull = 480;
  limit = 960;
  delay = 0;
  radius = 500;
  half = half;
  least_closing = 500;
  greatest_closing = 500;
  contact = contact;
}

-- two altitudes, 0 and a top in ticks, and the rates 0 and 600 ft/min; half the puck's height is 120 ticks
abbrev pub two_altitudes : ℤ → ℕ → ℤ → Advisory → List (List Choice) → List SigmaPoint → ModelData
two_altitudes top horizon contact second choices sigmas =
    at_one_speed (two_rates top horizon) (clear ∷ second ∷ []) choices sigmas 120 contact

-- only clear may be chosen, at no cost; contact costs 1
abbrev pub noisy : ModelData
noisy = two_altitudes (pos 3600) 2 (pos 1) nearly_level (only_clear (pos 0)) three_noises

-- the same, where under clear level may be chosen too, which stands first and asks for nothing
abbrev pub tied : ModelData
tied = two_altitudes (pos 3600) 2 (pos 1) (level LEAST_RATE GREATEST_RATE)
    ((choice 1 (pos 0) ∷ choice 0 (pos 0) ∷ []) ∷ (choice 0 (pos 0) ∷ []) ∷ []) three_noises

-- without noise; a second under clear costs 1 and contact 7
abbrev pub calm : ModelData
calm = two_altitudes (pos 1200) 1 (pos 7) nearly_level (only_clear (pos 1)) no_noise

-- without noise; under clear only level may be chosen, at the cost 3, and under level only clear, at the cost 5
abbrev pub switching : ModelData
switching = two_altitudes (pos 1200) 2 (pos 7) nearly_level ((choice 1 (pos 3) ∷ []) ∷ (choice 0 (pos 5) ∷ []) ∷ []) no_noise

-- the same for three seconds, where under clear clear may be chosen too, at no cost
abbrev pub levelling : ModelData
levelling = two_altitudes (pos 1200) 3 (pos 7) nearly_level
    ((choice 0 (pos 0) ∷ choice 1 (pos 3) ∷ []) ∷ (choice 0 (pos 5) ∷ []) ∷ []) no_noise

-- without noise; under clear level may be chosen too, at the cost 1, and asks for a descent of 600 to 1000 ft/min; contact costs 7
abbrev pub evading : ModelData
evading = two_altitudes (pos 1200) 1 (pos 7) (level (minus 1000) (minus 600))
    ((choice 0 (pos 0) ∷ choice 1 (pos 1) ∷ []) ∷ (choice 0 (pos 0) ∷ []) ∷ []) no_noise

-- two sigma points that do not weigh the same; only clear may be chosen, and contact costs 1
abbrev pub gusty : ModelData
gusty = two_altitudes (pos 3600) 1 (pos 1) nearly_level (only_clear (pos 0)) gusts

-- level asks for 900 to 1000 ft/min, which is less than the pull above the own rate 600
abbrev pub small_climb : ModelData
small_climb = two_altitudes (pos 3600) 1 (pos 1) (level (pos 900) (pos 1000)) (only_clear (pos 0)) no_noise

-- contact costs 7, and the upper altitude is this many ticks away
abbrev pub ends_at : ℕ → ModelData
ends_at ticks = two_altitudes (pos ticks) 0 (pos 7) nearly_level (only_clear (pos 0)) no_noise

-- the upper altitude is at half the puck's height, one tick past it, and at the number that is the puck's radius in ft
abbrev pub at_edge : ModelData
at_edge = ends_at 120

abbrev pub past_edge : ModelData
past_edge = ends_at 121

abbrev pub at_radius : ModelData
at_radius = ends_at 500

-- clear, climb, descend and level: each may follow each, and each but clear costs 1
abbrev pub all_four : List Choice
all_four = choice 0 (pos 0) ∷ choice 1 (pos 1) ∷ choice 2 (pos 1) ∷ choice 3 (pos 1) ∷ []

-- Four altitudes, -1000, -670, 0 and 1000 ft, three own rates and two of the intruder, and four advisories. Contact costs 5.
abbrev pub four_advisories : ModelData
four_advisories =
    at_one_speed
    (grid (minus 120_000 ∷ minus 80_400 ∷ pos 0 ∷ pos 120_000 ∷ []) (pos 0 ∷ pos 1500 ∷ pos 3000 ∷ []) (pos 0 ∷ pos 3000 ∷ []) 4 30)
    (clear
    ∷ record { name = codes "climb"; lo = pos 1500; hi = GREATEST_RATE }
    ∷ record { name = codes "descend"; lo = LEAST_RATE; hi = minus 1500 }
    ∷ nearly_level
    ∷ [])
    (all_four ∷ all_four ∷ all_four ∷ all_four ∷ []) no_noise 12_000 (pos 5)
