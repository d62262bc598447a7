-- The model of a drill, written out.
use Rattle.std.specs.Prelude.{ℕ, ℤ, pos, List, [], ◌∷◌, codes}
use Rattle.acas_spec.specs.Model.{ModelData}
use Rattle.acas_spec.specs.declared.parts.Advisory.{Advisory}
use Rattle.acas_spec.specs.declared.parts.Choice.{Choice}
use Rattle.acas_examples.specs.Parts.{choice, grid, minus, sigma}

-- an advisory of these rates
abbrev pub advisory : List ℕ → ℤ → ℤ → Advisory
advisory name lo hi = record { name = name; lo = lo; hi = hi }

-- what may be chosen under each of the seven advisories
abbrev pub seven_choices : List Choice
seven_choices = choice 0 (pos 0) ∷ choice 1 (pos 1) ∷ choice 2 (pos 1) ∷ choice 3 (pos 2) ∷ choice 4 (pos 5) ∷ choice 5 (pos 5)
    ∷ choice 6 (pos 8) ∷ []

-- Drill 12345: 12345 is 7 * 1763 + 4, 1763 is 4 * 440 + 3, 440 is 4 * 110, and 110 is 3 * 31 + 17; 12345 is 9000 + 3345. So there are 10
-- altitudes on each side of 0, 5 own rates and 2 of the intruder, and 27 seconds; contact costs 4345.
abbrev pub drill_12345 : ModelData
drill_12345 = record {
  grid = grid
      (minus 120_000 ∷ minus 108_000 ∷ minus 96_000 ∷ minus 84_000 ∷ minus 72_000 ∷ minus 60_000 ∷ minus 48_000 ∷ minus 36_000
      ∷ minus 24_000 ∷ minus 12_000 ∷ pos 0 ∷ pos 12_000 ∷ pos 24_000 ∷ pos 36_000 ∷ pos 48_000 ∷ pos 60_000 ∷ pos 72_000
      ∷ pos 84_000 ∷ pos 96_000 ∷ pos 108_000 ∷ pos 120_000 ∷ [])
      (minus 2500 ∷ minus 2000 ∷ minus 1500 ∷ minus 1000 ∷ minus 500 ∷ pos 0 ∷ pos 500 ∷ pos 1000 ∷ pos 1500 ∷ pos 2000
      ∷ pos 2500 ∷ [])
      (minus 1000 ∷ minus 500 ∷ pos 0 ∷ pos 500 ∷ pos 1000 ∷ [])
      7 27;
  advisories =
      advisory (codes "clear") (minus 10_000) (pos 10_000)
      ∷ advisory (codes "no-climb") (minus 10_000) (pos 0)
      ∷ advisory (codes "no-descend") (pos 0) (pos 10_000)
      ∷ advisory (codes "level") (minus 500) (pos 500)
      ∷ advisory (codes "climb") (pos 1500) (pos 10_000)
      ∷ advisory (codes "descend") (minus 10_000) (minus 1500)
      ∷ advisory (codes "climb-fast") (pos 2500) (pos 10_000)
      ∷ [];
  choices = seven_choices ∷ seven_choices ∷ seven_choices ∷ seven_choices ∷ seven_choices ∷ seven_choices ∷ seven_choices ∷ [];
  sigmas = sigma (pos 2) (pos 0) (pos 0) ∷ sigma (pos 1) (pos 60) (minus 60) ∷ sigma (pos 1) (minus 60) (pos 60) ∷ [];
  pull = 480;
  limit = 960;
  delay = 0;
  radius = 500;
  half = 12_000;
  least_closing = 500;
  greatest_closing = 1500;
  contact = pos 4345;
}
