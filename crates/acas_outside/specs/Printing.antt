-- Text that is printed piece by piece, and gathered to blocks on its way to a sink.
use Rattle.std.specs.Prelude.{◌≡◌, ℕ, zero, suc, List, [], ◌++◌, Option}
use Rattle.acas_outside.specs.Bytes.{Appends}

-- what waited and these bytes are what was written and what waits now
pub record Prints (old new : Option (List ℕ)) (waited waits bytes : List ℕ) : Type 0 where
  pub sent : List ℕ
  pub written : Appends old new sent
  pub all : waited ++ bytes ≡ sent ++ waits

-- all of f 0, then all of f 1, up to f (n - 1)
abbrev pub below : {A : Type 0} → ℕ → (ℕ → List A) → List A
below zero f = []
below (suc n) f = below n f ++ f n
