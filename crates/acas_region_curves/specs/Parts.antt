-- The two parts of a fraction.
use Rattle.std.specs.Prelude.{◌≡◌, ℕ, ◌*◌, ◌<◌, ◌≤◌, pos}
use Rattle.acas_frac.specs.Fraction.{Fraction}

-- n and d are the parts of a fraction from 0 to a limit, over so much at most
pub record AreParts (limit fine : ℕ) (f : Fraction) (n d : ℕ) : Type 0 where
  pub num : f.num ≡ pos n
  pub den : f.den ≡ d
  pub some : 0 < d
  pub most : n ≤ limit * d
  pub den_size : d ≤ fine
  pub num_size : n ≤ limit * fine
