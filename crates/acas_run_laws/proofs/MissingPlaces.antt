-- How many places of a plane are missing.
use Rattle.std.proofs.Common.{◌≡◌, ℕ, zero, suc, List, [], ◌∷◌, ◌++◌, map, Option, None, Some, refl, arith}
use Rattle.std.specs.Prelude.{replicate}
use Rattle.acas_units.specs.declared.pair.Pair.{Pair}
use Rattle.acas_plane.specs.Plane.{missing_in}

pub missing_in-replicate : (n : ℕ) → let none : Option Pair = None in missing_in (replicate n none) ≡ n
missing_in-replicate zero = refl
missing_in-replicate (suc n) = omega (arith, missing_in-replicate n)

pub missing_in-map : (pairs : List Pair) → let work : List (Option Pair) = map Some pairs in missing_in work ≡ 0
missing_in-map [] = refl
missing_in-map (pair ∷ pairs) = missing_in-map pairs

pub missing_in-between : (pairs more : List Pair) → let work : List (Option Pair) = map Some pairs in let rest : List (Option Pair) = map Some more in missing_in (work ++ None ∷ rest) ≡ 1
missing_in-between [] more = omega (arith, missing_in-map more)
missing_in-between (pair ∷ pairs) more = missing_in-between pairs more
