-- How many decisions the blocks of the model take.
use Rattle.std.proofs.Common.{◌≡◌, ℕ, zero, suc, ◌+◌, ◌<◌, true, true≢false, [], ◌∷◌, pos, refl, sym, arith, rules}
use Rattle.acas_flight.specs.Contact.{IsEndangeredCell}
use Rattle.acas_flight_examples.specs.Numbers.{segment, state}
use Rattle.acas_cells.specs.Blocks.{IsInBlock, all_cells}
use Rattle.acas_audit_blocks.specs.BlockStates.{IsEndangeredBlock}
use Rattle.acas_cells.specs.Cells.{cell_at}
use Rattle.acas_cells.specs.Corners.{is_at_corner}
use Rattle.acas_audit_blocks.specs.Decisions.{IsDecidedBy, halved, one_cell, untabled}
use Rattle.acas_cells.specs.declared.block.Block.{Block}
use Rattle.acas_cell_examples.specs.Tabled.{block, stacked, tabled}

abbrev pub lower : Block
lower = block 0 1 0 1 0 1

abbrev pub upper : Block
upper = block 1 2 0 1 0 1

-- at the radius and at the intruder's altitude there is contact at the start, and a second away after a hold of one
pub first_second : IsEndangeredCell stacked 0 0 0 0 1
first_second = (1, state (pos 500) (pos 250) (pos 0) (pos 0) (pos 0), [], search rules)

next_second : IsEndangeredCell stacked 1 0 0 0 1
next_second = (1, state (pos 750) (pos 250) (pos 0) (pos 0) (pos 0), segment 1 (pos 0) ∷ [], search rules)

in_lower : IsInBlock (all_cells stacked) 0 0 0
in_lower = record { from_i = omega arith; from_j = omega arith; from_k = omega arith; before_i = omega arith; before_j = omega arith; before_k = omega arith }

in_upper : IsInBlock (all_cells stacked) 1 0 0
in_upper = record { from_i = omega arith; from_j = omega arith; from_k = omega arith; before_i = omega arith; before_j = omega arith; before_k = omega arith }

endangered : IsEndangeredBlock stacked 0 1 (all_cells stacked)
endangered = record { i = 0; j = 0; k = 0; inside = in_lower; danger = first_second }

endangered_next : IsEndangeredBlock stacked 1 1 (all_cells stacked)
endangered_next = record { i = 0; j = 0; k = 0; inside = in_lower; danger = next_second }

-- where climb is tabled at no corner

not_below : (i j k : ℕ) → i < 1 → j < 1 → k < 1 → is_at_corner stacked tabled (cell_at 0 1 i j k) 1 ≡ true → ⊥
not_below zero zero zero a b c e = true≢false (sym e)
not_below zero zero (suc k) a b c e = absurd (omega (arith, c))
not_below zero (suc j) k a b c e = absurd (omega (arith, b))
not_below (suc i) j k a b c e = absurd (omega (arith, a))

not_above_next : (i j k : ℕ) → 1 < i + 1 → i < 2 → j < 1 → k < 1 → is_at_corner stacked tabled (cell_at 1 0 i j k) 1 ≡ true → ⊥
not_above_next (suc zero) zero zero d a b c e = true≢false (sym e)
not_above_next (suc zero) zero (suc k) d a b c e = absurd (omega (arith, c))
not_above_next (suc zero) (suc j) k d a b c e = absurd (omega (arith, b))
not_above_next (suc (suc i)) j k d a b c e = absurd (omega (arith, a))
not_above_next zero j k d a b c e = absurd (omega (arith, d))

nowhere : (i j k : ℕ) → i < 2 → j < 1 → k < 1 → is_at_corner stacked tabled (cell_at 1 1 i j k) 1 ≡ true → ⊥
nowhere zero zero zero a b c e = true≢false (sym e)
nowhere (suc zero) zero zero a b c e = true≢false (sym e)
nowhere (suc (suc i)) j k a b c e = absurd (omega (arith, a))
nowhere i (suc j) k a b c e = absurd (omega (arith, b))
nowhere i j (suc k) a b c e = absurd (omega (arith, c))

-- ---- blocks

pub lower_alone : IsDecidedBy stacked tabled 0 0 1 lower 1
lower_alone = one_cell lower (0, 0, 0, search rules, refl) refl

upper_alone : IsDecidedBy stacked tabled 0 0 1 upper 1
upper_alone = one_cell upper (1, 0, 0, search rules, refl) refl

pub both : IsDecidedBy stacked tabled 0 0 1 (all_cells stacked) 3
both = halved (all_cells stacked) 1 1 (0, 0, 0, in_lower, refl) endangered refl lower_alone upper_alone

pub lower_untabled : IsDecidedBy stacked tabled 0 1 1 lower 0
lower_untabled = untabled lower (λ t. not_below t.0 t.1 t.2 t.3.before_i t.3.before_j t.3.before_k t.4)

upper_under_climb : IsDecidedBy stacked tabled 0 1 1 upper 1
upper_under_climb = one_cell upper (1, 0, 0, search rules, refl) refl

pub upper_of_both : IsDecidedBy stacked tabled 0 1 1 (all_cells stacked) 2
upper_of_both = halved (all_cells stacked) 0 1 (1, 0, 0, in_upper, refl) endangered refl lower_untabled upper_under_climb

lower_next : IsDecidedBy stacked tabled 1 0 1 lower 1
lower_next = one_cell lower (0, 0, 0, search rules, refl) refl

upper_next : IsDecidedBy stacked tabled 1 0 1 upper 0
upper_next = untabled upper (λ t. not_above_next t.0 t.1 t.2 (omega (arith, t.3.from_i)) t.3.before_i t.3.before_j t.3.before_k t.4)

pub lower_of_both : IsDecidedBy stacked tabled 1 0 1 (all_cells stacked) 2
lower_of_both = halved (all_cells stacked) 1 0 (0, 0, 0, in_lower, refl) endangered_next refl lower_next upper_next

pub none_of_both : IsDecidedBy stacked tabled 1 1 1 (all_cells stacked) 0
none_of_both = untabled (all_cells stacked) (λ t. nowhere t.0 t.1 t.2 t.3.before_i t.3.before_j t.3.before_k t.4)
