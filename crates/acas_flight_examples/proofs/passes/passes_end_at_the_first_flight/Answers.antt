use Rattle.std.proofs.Common.{◌≡◌, ℕ, List, [], ◌∷◌, false, true≢false, pos, refl, sym, subst, arith}
use Rattle.acas_flight.specs.Curves.{approach}
use Rattle.acas_areas.specs.Flights.{Flight, value}
use Rattle.acas_areas.specs.Passes.{EndsAt, IsLast, Pass, below_at, here, later}
use Rattle.acas_flight_examples.specs.Searched.{at_start, far_below, up_to_it}
use Rattle.acas_flight_examples.proofs.UpToIt.{ends_there}
use Rattle.acas_flight_examples.proofs.passes.passes_end_at_the_first_flight.Goals as goal

pub returns-clause-one : goal.returns-clause-one
returns-clause-one c = ends_there

pub returns-clause-two : goal.returns-clause-two
unfolding approach
returns-clause-two c = later far_below (up_to_it ∷ []) 2 (at_start (pos 100)) (record { reaches = omega arith; first = omega arith }) refl ends_there

-- the flight of 300 ticks is the last of the first pass, and it is below
last_is_below : (last : ℕ) → IsLast far_below last → below_at (value 1) 120 far_below last ≡ false → ⊥
unfolding approach
last_is_below last l =
    let e : last ≡ 2 = omega (arith, l.reaches, l.first) in
    rw e (λ t. true≢false t)

ends_nowhere : (ps : List (Pass Flight)) (c : Flight) → ps ≡ far_below ∷ [] → EndsAt (value 1) 120 ps c → ⊥
ends_nowhere _ _ e (here p rest last at l t h) =
    let same : p ≡ far_below = cc in
    subst (λ (x : Pass Flight). IsLast x last → below_at (value 1) 120 x last ≡ false → ⊥) (sym same) (last_is_below last) l t
ends_nowhere _ _ e (later p rest last c l t h) = nothing rest c (cc) h
  where
    nothing : (ps : List (Pass Flight)) (c : Flight) → ps ≡ [] → EndsAt (value 1) 120 ps c → ⊥
    nothing _ _ e (here p rest last at l t h) = cc
    nothing _ _ e (later p rest last c l t h) = cc

pub returns-clause-below : goal.returns-clause-below
returns-clause-below c d h = ends_nowhere (far_below ∷ []) d refl h
