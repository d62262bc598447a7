use Rattle.std.proofs.Common.{◌≡◌, ℕ, List, [], ◌∷◌, length, pos, ◌*ℤ◌, refl, subst, arith}
use Rattle.std.proofs.lemmas.Int.{ints}
use Rattle.acas_flight.specs.Response.{Segment}
use Rattle.acas_flight_examples.specs.Numbers.{minus, over, segment}
use Rattle.acas_rulings.specs.Printed.{AreParts, a_part, no_parts}
use Rattle.acas_rulings.specs.declared.flight.Segment as printed
use Rattle.acas_cell_examples.specs.Witnesses.{part}
use Rattle.acas_cell_examples.proofs.printed.segments_are_printed_or_not.Goals as goal

abbrev sinks : Segment
sinks = segment 3 (minus 50)

abbrev stays : Segment
stays = segment 6 (pos 0)

abbrev sinking : printed.Segment
sinking = part (over (pos 1) 2) (over (minus 25) 3)

abbrev rising : printed.Segment
rising = part (over (pos 1) 2) (over (pos 25) 3)

abbrev staying : printed.Segment
staying = part (over (pos 1) 1) (over (pos 0) 1)

as_many : (n : ℕ) (ss : List Segment) (fs : List printed.Segment) → AreParts n ss fs → length ss ≡ length fs
as_many n _ _ no_parts = refl
as_many n _ _ (a_part s f rest others p more) = omega (arith, as_many n rest others more)

-- where the one is printed as the other, their accelerations are the same, over n
first_two : (n : ℕ) (ss : List Segment) (fs : List printed.Segment) → ss ≡ sinks ∷ [] → fs ≡ rising ∷ [] → AreParts n ss fs → minus 50 *ℤ pos 3 ≡ pos 25 *ℤ pos n
first_two n _ _ d e no_parts = absurd (cc)
first_two n _ _ d e (a_part s f rest others p more) =
    let a : s ≡ sinks = cc in
    let b : f ≡ rising = cc in
    let over_n = subst (λ (x : Segment). x.acceleration *ℤ pos f.acceleration.den ≡ f.acceleration.num *ℤ pos n) a p.acceleration in
    subst (λ (x : printed.Segment). minus 50 *ℤ pos x.acceleration.den ≡ x.acceleration.num *ℤ pos n) b over_n

pub returns-clause-both : goal.returns-clause-both
returns-clause-both c = a_part sinks sinking (stays ∷ []) (staying ∷ []) (record { duration = refl; acceleration = refl })
    (a_part stays staying [] [] (record { duration = refl; acceleration = refl }) no_parts)

pub returns-clause-one_is_missing : goal.returns-clause-one_is_missing
returns-clause-one_is_missing c p = omega (arith, as_many 6 (sinks ∷ stays ∷ []) (sinking ∷ []) p)

pub returns-clause-one_more : goal.returns-clause-one_more
returns-clause-one_more c p = omega (arith, as_many 6 (sinks ∷ []) (sinking ∷ staying ∷ []) p)

pub returns-clause-another : goal.returns-clause-another
returns-clause-another c p = omega (arith, ints, first_two 6 (sinks ∷ []) (rising ∷ []) refl refl p)
