-- A small grid, and an advisory, for texts that are worked out by hand.
use Rattle.std.specs.Prelude.{pos, negsuc, [], ◌∷◌, codes}
use Rattle.acas_spec.specs.Model.{GridData}
use Rattle.acas_spec.specs.declared.parts.Advisory.{Advisory}

-- 3 altitudes, 100 ft below to 100 ft above, 2 own rates and 1 intruder rate, with 2 advisories and 4 seconds
abbrev pub a_grid : GridData
a_grid = record {
  h = negsuc 11999 ∷ pos 0 ∷ pos 12000 ∷ [];
  v0 = pos 0 ∷ pos 500 ∷ [];
  v1 = negsuc 249 ∷ [];
  advisories = 2;
  horizon = 4;
}

-- an advisory to climb
abbrev pub an_advisory : Advisory
an_advisory = record { name = codes "climb"; lo = pos 500; hi = pos 2500 }
