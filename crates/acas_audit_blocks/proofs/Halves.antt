-- The halves of a block: each has a cell, and together they have the block's, each once.
use Rattle.std.proofs.Common.{◌≡◌, ℕ, ◌+◌, ◌-◌, ◌*◌, ◌/◌, ◌<◌, ◌≤◌, ◌⊎◌, inl, inr, nat_le, ◌==◌, ◌&&◌, Bool, true, false, if◌then◌else◌, refl, sym, subst, mul-pos, arith}
use Rattle.std.proofs.lemmas.Bool.{cases_lt}
use Rattle.std.proofs.lemmas.Bool.Decides.{nat_tests}
use Rattle.acas_cells.specs.Blocks.{IsInBlock, IsSome, altitudes, cells_in, first_half, intruder_rates, is_highest, is_one_cell, is_wider, own_rates, second_half}
use Rattle.acas_cells.specs.declared.block.Block.{Block}

-- how many cells a block has along all axes
abbrev pub sides : Block → ℕ
sides b = altitudes b + own_rates b + intruder_rates b

-- two blocks have a block's cells, each once
pub record AreParts (b first second : Block) : Type 0 where
  pub some_first : IsSome first
  pub some_second : IsSome second
  pub in_first : (i j k : ℕ) → IsInBlock first i j k → IsInBlock b i j k
  pub in_second : (i j k : ℕ) → IsInBlock second i j k → IsInBlock b i j k
  pub either : (i j k : ℕ) → IsInBlock b i j k → IsInBlock first i j k ⊎ IsInBlock second i j k
  pub apart : (i j k : ℕ) → IsInBlock first i j k → ¬ IsInBlock second i j k
  pub cells : cells_in first + cells_in second ≡ cells_in b
  pub first_smaller : sides first < sides b
  pub second_smaller : sides second < sides b
  pub first_i : first.i1 ≤ b.i1
  pub first_j : first.j1 ≤ b.j1
  pub first_k : first.k1 ≤ b.k1
  pub second_i : second.i1 ≤ b.i1
  pub second_j : second.j1 ≤ b.j1
  pub second_k : second.k1 ≤ b.k1

-- the cells of two parts of a side
sum_of_sides : (x y z p q : ℕ) → x ≡ y + z → (y * p) * q + (z * p) * q ≡ (x * p) * q
sum_of_sides x y z p q e = rw e (omega arith)

parts_by_altitude : (b : Block) (middle : ℕ) → IsSome b → b.i0 < middle → middle < b.i1 → AreParts b (record b { i1 = middle }) (record b { i0 = middle })
parts_by_altitude b middle some low high = record {
  some_first = record { i = low; j = some.j; k = some.k };
  some_second = record { i = high; j = some.j; k = some.k };
  in_first = λ i j k h. record { from_i = h.from_i; from_j = h.from_j; from_k = h.from_k; before_i = omega (arith, h.before_i, high); before_j = h.before_j; before_k = h.before_k };
  in_second = λ i j k h. record { from_i = omega (arith, h.from_i, low); from_j = h.from_j; from_k = h.from_k; before_i = h.before_i; before_j = h.before_j; before_k = h.before_k };
  either = λ i j k h. elim (cases_lt i middle) [
    | inl below ↦ inl (record { from_i = h.from_i; from_j = h.from_j; from_k = h.from_k; before_i = below; before_j = h.before_j; before_k = h.before_k })
    | inr above ↦ inr (record { from_i = above; from_j = h.from_j; from_k = h.from_k; before_i = h.before_i; before_j = h.before_j; before_k = h.before_k })
  ];
  apart = λ i j k h r. absurd (omega (arith, h.before_i, r.from_i));
  cells = sum_of_sides (b.i1 - b.i0) (middle - b.i0) (b.i1 - middle) (b.j1 - b.j0) (b.k1 - b.k0) (omega (arith, low, high));
  first_smaller = omega (arith, low, high);
  second_smaller = omega (arith, low, high);
  first_i = omega (arith, high);
  first_j = omega arith;
  first_k = omega arith;
  second_i = omega arith;
  second_j = omega arith;
  second_k = omega arith;
}

parts_by_own_rate : (b : Block) (middle : ℕ) → IsSome b → b.j0 < middle → middle < b.j1 → AreParts b (record b { j1 = middle }) (record b { j0 = middle })
parts_by_own_rate b middle some low high = record {
  some_first = record { i = some.i; j = low; k = some.k };
  some_second = record { i = some.i; j = high; k = some.k };
  in_first = λ i j k h. record { from_i = h.from_i; from_j = h.from_j; from_k = h.from_k; before_i = h.before_i; before_j = omega (arith, h.before_j, high); before_k = h.before_k };
  in_second = λ i j k h. record { from_i = h.from_i; from_j = omega (arith, h.from_j, low); from_k = h.from_k; before_i = h.before_i; before_j = h.before_j; before_k = h.before_k };
  either = λ i j k h. elim (cases_lt j middle) [
    | inl below ↦ inl (record { from_i = h.from_i; from_j = h.from_j; from_k = h.from_k; before_i = h.before_i; before_j = below; before_k = h.before_k })
    | inr above ↦ inr (record { from_i = h.from_i; from_j = above; from_k = h.from_k; before_i = h.before_i; before_j = h.before_j; before_k = h.before_k })
  ];
  apart = λ i j k h r. absurd (omega (arith, h.before_j, r.from_j));
  cells = sum_of_middles (b.j1 - b.j0) (middle - b.j0) (b.j1 - middle) (b.i1 - b.i0) (b.k1 - b.k0) (omega (arith, low, high));
  first_smaller = omega (arith, low, high);
  second_smaller = omega (arith, low, high);
  first_i = omega arith;
  first_j = omega (arith, high);
  first_k = omega arith;
  second_i = omega arith;
  second_j = omega arith;
  second_k = omega arith;
}
  where
    sum_of_middles : (x y z p q : ℕ) → x ≡ y + z → (p * y) * q + (p * z) * q ≡ (p * x) * q
    sum_of_middles x y z p q e = rw e (omega arith)

parts_by_intruder_rate : (b : Block) (middle : ℕ) → IsSome b → b.k0 < middle → middle < b.k1 → AreParts b (record b { k1 = middle }) (record b { k0 = middle })
parts_by_intruder_rate b middle some low high = record {
  some_first = record { i = some.i; j = some.j; k = low };
  some_second = record { i = some.i; j = some.j; k = high };
  in_first = λ i j k h. record { from_i = h.from_i; from_j = h.from_j; from_k = h.from_k; before_i = h.before_i; before_j = h.before_j; before_k = omega (arith, h.before_k, high) };
  in_second = λ i j k h. record { from_i = h.from_i; from_j = h.from_j; from_k = omega (arith, h.from_k, low); before_i = h.before_i; before_j = h.before_j; before_k = h.before_k };
  either = λ i j k h. elim (cases_lt k middle) [
    | inl below ↦ inl (record { from_i = h.from_i; from_j = h.from_j; from_k = h.from_k; before_i = h.before_i; before_j = h.before_j; before_k = below })
    | inr above ↦ inr (record { from_i = h.from_i; from_j = h.from_j; from_k = above; before_i = h.before_i; before_j = h.before_j; before_k = h.before_k })
  ];
  apart = λ i j k h r. absurd (omega (arith, h.before_k, r.from_k));
  cells = sum_of_lasts (b.k1 - b.k0) (middle - b.k0) (b.k1 - middle) ((b.i1 - b.i0) * (b.j1 - b.j0)) (omega (arith, low, high));
  first_smaller = omega (arith, low, high);
  second_smaller = omega (arith, low, high);
  first_i = omega arith;
  first_j = omega arith;
  first_k = omega (arith, high);
  second_i = omega arith;
  second_j = omega arith;
  second_k = omega arith;
}
  where
    sum_of_lasts : (x y z p : ℕ) → x ≡ y + z → p * y + p * z ≡ p * x
    sum_of_lasts x y z p e = rw e (omega arith)

-- a block of more than one cell has at least 4 along all axes, as each has 1
more_than_three : (x y z : ℕ) → 0 < x → 0 < y → 0 < z → ((x == 1 && y == 1) && z == 1) ≡ false → 3 < x + y + z
more_than_three x y z some_x some_y some_z more = grind (arith, nat_tests)

-- what the tests of the axes say
highest : (x y z : ℕ) → (nat_le y x && nat_le z x) ≡ true → (y ≤ x) × (z ≤ x)
highest x y z h = (grind (arith, nat_tests), grind (arith, nat_tests))

wider : (x y z : ℕ) → (nat_le y x && nat_le z x) ≡ false → nat_le z y ≡ true → (x ≤ y) × (z ≤ y)
wider x y z h w = (grind (arith, nat_tests), grind (arith, nat_tests))

deepest : (x y z : ℕ) → (nat_le y x && nat_le z x) ≡ false → nat_le z y ≡ false → (x ≤ z) × (y ≤ z)
deepest x y z h w = (grind (arith, nat_tests), grind (arith, nat_tests))

-- the middle of the axis that has the most cells is within
before_middle : (from to y z : ℕ) → 3 < (to - from) + y + z → y ≤ to - from → z ≤ to - from → (from < from + (to - from) / 2) × (from + (to - from) / 2 < to)
before_middle from to y z more h w = (omega (arith, more, h, w), omega (arith, more, h, w))

-- the halves of a block of more than one cell
pub halves_are_parts : (b : Block) → IsSome b → is_one_cell b ≡ false → AreParts b (first_half b) (second_half b)
halves_are_parts b some more = by_test (is_highest b) refl (is_wider b) refl
  where
    many : 3 < altitudes b + own_rates b + intruder_rates b
    many = more_than_three (altitudes b) (own_rates b) (intruder_rates b) (omega (arith, some.i)) (omega (arith, some.j)) (omega (arith, some.k)) more

    by_test : (h : Bool) → is_highest b ≡ h → (w : Bool) → is_wider b ≡ w →
        AreParts b
        (if h then record b { i1 = b.i0 + altitudes b / 2 } else if w then record b { j1 = b.j0 + own_rates b / 2 } else record b { k1 = b.k0 + intruder_rates b / 2 })
        (if h then record b { i0 = b.i0 + altitudes b / 2 } else if w then record b { j0 = b.j0 + own_rates b / 2 } else record b { k0 = b.k0 + intruder_rates b / 2 })
    by_test true e w f =
        let most = highest (altitudes b) (own_rates b) (intruder_rates b) e in
        let within = before_middle b.i0 b.i1 (own_rates b) (intruder_rates b) many most.0 most.1 in
        parts_by_altitude b (b.i0 + altitudes b / 2) some within.0 within.1
    by_test false e true f =
        let most = wider (altitudes b) (own_rates b) (intruder_rates b) e f in
        let within = before_middle b.j0 b.j1 (altitudes b) (intruder_rates b) (omega (arith, many)) most.0 most.1 in
        parts_by_own_rate b (b.j0 + own_rates b / 2) some within.0 within.1
    by_test false e false f =
        let most = deepest (altitudes b) (own_rates b) (intruder_rates b) e f in
        let within = before_middle b.k0 b.k1 (altitudes b) (own_rates b) (omega (arith, many)) most.0 most.1 in
        parts_by_intruder_rate b (b.k0 + intruder_rates b / 2) some within.0 within.1

-- the same of blocks that are the halves
pub parts_of_halves : (b first second : Block) → IsSome b → is_one_cell b ≡ false → first ≡ first_half b → second ≡ second_half b → AreParts b first second
parts_of_halves b first second some more e f = subst (λ (x : Block). AreParts b x second) (sym e) (subst (λ (y : Block). AreParts b (first_half b) y) (sym f) (halves_are_parts b some more))

-- a block with a cell has some
pub some_cells : (b : Block) → IsSome b → 0 < cells_in b
some_cells b some = mul-pos (mul-pos (some_of b.i0 b.i1 some.i) (some_of b.j0 b.j1 some.j)) (some_of b.k0 b.k1 some.k)
  where
    some_of : (from to : ℕ) → from < to → 0 < to - from
    some_of from to h = omega (arith, h)

-- ---- room for the count

pub room_of_first : (limit count next x y z : ℕ) → next ≡ count + 1 → x + y ≡ z → 0 < y → count + 2 * z < limit → next + 2 * x < limit
room_of_first limit count next x y z e f some room = omega (arith, e, f, some, room)

pub room_of_second : (limit count next middle x y z : ℕ) → next ≡ count + 1 → x + y ≡ z → middle + 1 ≤ next + 2 * x → count + 2 * z < limit → middle + 2 * y < limit
room_of_second limit count next middle x y z e f most room = omega (arith, e, f, most, room)

pub most_of_both : (count next middle last x y z : ℕ) → next ≡ count + 1 → x + y ≡ z → middle + 1 ≤ next + 2 * x → last + 1 ≤ middle + 2 * y → last + 1 ≤ count + 2 * z
most_of_both count next middle last x y z e f most more = omega (arith, e, f, most, more)
