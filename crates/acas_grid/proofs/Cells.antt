-- The cell of a number on a rising list.
use Rattle.std.proofs.Common.{◌≡◌, ℕ, zero, suc, ◌+◌, ◌-◌, ◌<◌, ◌≤◌, ⊎_elim, List, length, ℤ, ◌<ℤ◌, ◌≤ℤ◌, refl, arith}
use Rattle.std.proofs.lemmas.Int.{ints}
use Rattle.std.proofs.lemmas.Bool.{cases_lt}
use Rattle.acas_spec.specs.Axis.{Rises, place_value}
use Rattle.acas_grid.specs.Axis.{IsCell}

-- a later place has no smaller number
rises_from : (axis : List ℤ) → Rises axis → (place more later : ℕ) → place + more ≡ later → later < length axis → place_value axis place ≤ℤ place_value axis later
unfolding Rises
rises_from axis up place zero later e h = let same : later ≡ place = omega arith in rw same (omega (arith, ints))
rises_from axis up place (suc more) later e h =
    let next : place + more + 1 ≡ later = omega arith in
    let step = rw next at (up (place + more) (omega arith)) in
    omega (arith, ints, rises_from axis up place more (place + more) refl (omega arith), step)

pub rises : (axis : List ℤ) → Rises axis → (i j : ℕ) → i ≤ j → j < length axis → place_value axis i ≤ℤ place_value axis j
rises axis up i j h k = rises_from axis up i (j - i) j (omega arith) k

-- a place with its number at or below x, and the next number above x or the last, begins the cell
pub cell_from : (axis : List ℤ) (place : ℕ) (x : ℤ) → Rises axis → place + 1 < length axis → place_value axis place ≤ℤ x → x ≤ℤ place_value axis (place + 1)
    → (place + 2 < length axis → x <ℤ place_value axis (place + 1)) → IsCell axis place x
cell_from axis place x up inside lower upper next = record {
  before_last = inside;
  lower = lower;
  upper = upper;
  greatest = no_greater;
}
  where
    no_greater : (other : ℕ) → other + 1 < length axis → place_value axis other ≤ℤ x → other ≤ place
    no_greater other h k = ⊎_elim
        (λ (l : place < other).
        let above = next (omega arith) in
        let order = rises axis up (place + 1) other (omega arith) (omega arith) in
        absurd (omega (arith, ints)))
        (λ (l : other ≤ place). l)
        (cases_lt place other)
