use Rattle.std.proofs.Common.{ℕ, ◌*◌, ◌<◌, ℤ, pos, ◌*ℤ◌, ◌≤ℤ◌, ◌-ℤ◌, arith}
use Rattle.std.proofs.lemmas.Int.{ints, int_max_is}
use Rattle.std.proofs.lemmas.Nat.{mul-le}
use Rattle.acas_frac.proofs.SignedProducts.{mul-le_ℤ}
use Rattle.acas_flight.specs.State.{IsSecondsAway}
use Rattle.acas_flight.specs.Contact.{IsHorizontalContact}
use Rattle.acas_flight_examples.specs.Flown.{small}
use Rattle.acas_flight_examples.proofs.windows.times_are_of_contact_or_not.Goals as goal

pub returns-clause-cell : goal.returns-clause-cell
returns-clause-cell c = (pos 1000, pos 250, record { ahead = omega (arith, ints); speed = (omega (arith, ints), omega (arith, ints)); not_before = omega (arith, ints); not_after = omega (arith, ints) }, omega arith)

apart : (range closing : ℤ) → IsSecondsAway small 1 1 range closing → IsHorizontalContact 500 1 range closing 0 → ⊥
apart range closing away near = omega (arith, ints, int_max_is (pos 0) (range -ℤ pos 500), away.not_before, away.speed.0)

pub returns-clause-not_cell : goal.returns-clause-not_cell
returns-clause-not_cell c h = apart h.0 h.1 h.2 h.3

pub returns-clause-the_box : goal.returns-clause-the_box
returns-clause-the_box c = (1, pos 1000, pos 500, omega arith, (omega (arith, ints), omega (arith, ints)), (omega (arith, ints), omega (arith, ints)), omega arith)

pub returns-clause-the_box_last : goal.returns-clause-the_box_last
returns-clause-the_box_last c = (1, pos 6000, pos 1250, omega arith, (omega (arith, ints), omega (arith, ints)), (omega (arith, ints), omega (arith, ints)), omega arith)

-- at the start the range is at least 1000 over the multiple, and the radius 500
outside : (n : ℕ) (range closing : ℤ) → 0 < n → (pos 1000 *ℤ pos n) ≤ℤ range → IsHorizontalContact 500 (1 * n) range closing (0 * n) → ⊥
outside n range closing some far near =
    omega (arith, ints, near, mul-le_ℤ n (pos 1000 *ℤ pos n) range far, mul-le 1 1 n n some some)

pub returns-clause-not_box : goal.returns-clause-not_box
returns-clause-not_box c h = outside h.0 h.1 h.2 h.3 (omega (arith, ints, h.4.0)) h.6
