-- How large the blends of a column are, and what is formed of them.
use Rattle.std.proofs.Common.{◌≡◌, ℕ, ◌+◌, ◌*◌, ◌^◌, ◌<◌, ◌≤◌, mul-le-mul_right, ap, sym, ◌∙◌, arith}
use Rattle.acas_step.specs.Ends.{weight_of_cell}
use Rattle.acas_step.specs.declared.cell.Cell.{Cell}
use Rattle.acas_step.specs.declared.cell.Ends.{Ends}
use Rattle.acas_step_narrow.specs.Raised.{AreRaisedWithin, HaveRoom, blended, width}
use Rattle.acas_step_narrow.specs.declared.raised.Raised.{Raised}
use Rattle.acas_step_narrow.proofs.RaisedLaws.{blended-le}

-- the ends of a cell on the rates, written in another way
pub rates_same : (t rates : Cell) → t.v0 ≡ rates.v0 → t.v1 ≡ rates.v1 → record { h = t.h; v0 = rates.v0; v1 = rates.v1 } ≡ t
rates_same t rates p q =
    ap (λ (e : Ends). record { h = t.h; v0 = e; v1 = rates.v1 }) (sym p) ∙ ap (λ (e : Ends). record { h = t.h; v0 = t.v0; v1 = e }) (sym q)

-- what a blend of blends is at most, over a whole cell
most_joined : (by a b c : ℕ) → 2 * by * c * b * a ≡ 2 * by * (a * b * c)
most_joined by a b c = omega arith

most_in_column : (t rates : Cell) (by : ℕ) → t.v0 ≡ rates.v0 → t.v1 ≡ rates.v1 → 2 * by * width rates.v1 * width rates.v0 * width t.h ≡ 2 * by * weight_of_cell t
most_in_column t rates by p q =
    most_joined by (width t.h) (width rates.v0) (width rates.v1) ∙ ap (λ (c : Cell). 2 * by * weight_of_cell c) (rates_same t rates p q)

-- it has 64 bits where the whole weight, times a little more than twice the size, has
weight_room : (weight by widest : ℕ) → weight ≤ widest → widest * (2 * by + 1) < 2 ^ 63 → 2 * by * weight + weight < 2 ^ 63
weight_room weight by widest least room = omega (arith, mul-le-mul_right (2 * by + 1) least, room)

pub column-HaveRoom : (t rates : Cell) (by widest : ℕ) (p : Raised) → t.v0 ≡ rates.v0 → t.v1 ≡ rates.v1 → weight_of_cell t ≤ widest → widest * (2 * by + 1) < 2 ^ 63 →
    AreRaisedWithin (2 * by * width rates.v1 * width rates.v0) p → HaveRoom (width t.h) p
column-HaveRoom t rates by widest p same0 same1 least room within =
    let most : ℕ = 2 * by * width rates.v1 * width rates.v0 in
    let whole : most * width t.h < 2 ^ 63 = omega (arith, most_in_column t rates by same0 same1, weight_room (weight_of_cell t) by widest least room) in
    record { upper = omega (arith, mul-le-mul_right (width t.h) within.upper, whole); lower = omega (arith, mul-le-mul_right (width t.h) within.lower, whole) }

pub column_sum-le : (t rates : Cell) (by near far : ℕ) → t.v0 ≡ rates.v0 → t.v1 ≡ rates.v1 → near ≤ 2 * by * width rates.v1 * width rates.v0 → far ≤ 2 * by * width rates.v1 * width rates.v0 →
    blended t.h near far ≤ 2 * by * weight_of_cell t
column_sum-le t rates by near far p q low high =
    omega (arith, blended-le t.h near far (2 * by * width rates.v1 * width rates.v0) low high, most_in_column t rates by p q)

-- and over the weight of the cell it is at most twice the size
pub column_point-le : (t rates : Cell) (by divisor near far sum point : ℕ) → divisor ≡ weight_of_cell t → t.v0 ≡ rates.v0 → t.v1 ≡ rates.v1 →
    near ≤ 2 * by * width rates.v1 * width rates.v0 → far ≤ 2 * by * width rates.v1 * width rates.v0 → sum ≡ blended t.h near far →
    ((most : ℕ) → sum ≤ most * divisor → point ≤ most) → point ≤ 2 * by
column_point-le t rates by divisor near far sum point is p q low high summed quotient =
    quotient (2 * by) (omega (arith, summed, column_sum-le t rates by near far p q low high, ap (λ (k : ℕ). 2 * by * k) is))

pub column_sum-room : (sum weight by widest : ℕ) → sum ≤ 2 * by * weight → weight ≤ widest → widest * (2 * by + 1) < 2 ^ 63 → sum + weight < 2 ^ 63
column_sum-room sum weight by widest most least room = omega (arith, most, weight_room weight by widest least room)
