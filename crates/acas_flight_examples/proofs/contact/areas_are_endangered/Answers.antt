use Rattle.std.proofs.Common.{inl, inr, [], ◌∷◌, pos, arith, rules}
use Rattle.std.proofs.lemmas.Int.{ints}
use Rattle.acas_flight.specs.Curves.{approach}
use Rattle.acas_flight_examples.specs.Numbers.{segment, state}
use Rattle.acas_flight_examples.proofs.contact.areas_are_endangered.Goals as goal

pub returns-clause-the_cell : goal.returns-clause-the_cell
returns-clause-the_cell c = (1, state (pos 1000) (pos 250) (pos 1200) (pos 500) (pos 230), segment 2 (pos 0) ∷ [], search rules)

pub returns-clause-the_box : goal.returns-clause-the_box
returns-clause-the_box c = (1, state (pos 1000) (pos 500) (pos 920) (pos 500) (pos 100), segment 1 (pos 0) ∷ [], search rules)

pub returns-clause-the_area : goal.returns-clause-the_area
returns-clause-the_area c = (1, pos 920, pos 500, pos 100, segment 1 (pos 0) ∷ [], search rules)

pub returns-clause-not_clear : goal.returns-clause-not_clear
unfolding approach
returns-clause-not_clear c (inl above) = omega (arith, ints, above 1 0 (omega arith) (omega (arith, ints), omega (arith, ints)))
returns-clause-not_clear c (inr below) = omega (arith, ints, below 1 0 (omega arith) (omega (arith, ints), omega (arith, ints)))

pub returns-clause-not_clear_either : goal.returns-clause-not_clear_either
unfolding approach
returns-clause-not_clear_either c (inl above) = omega (arith, ints, above 1 0 (omega arith) (omega (arith, ints), omega (arith, ints)))
returns-clause-not_clear_either c (inr below) = omega (arith, ints, below 1 0 (omega arith) (omega (arith, ints), omega (arith, ints)))
