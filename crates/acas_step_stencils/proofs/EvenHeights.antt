-- Heights with a gap of one size, and where a climb leads among them.
use Rattle.std.proofs.Common.{◌≡◌, ℕ, ◌+◌, ◌-◌, ◌*◌, ◌<◌, ◌≤◌, ℤ, pos, negsuc, ◌+ℤ◌, ◌*ℤ◌, ◌≤ℤ◌, ◌<ℤ◌, to_z, of_z, w32, unsigned_abs, List, length, get_or, mul-le-mul_right, ap, ◌∙◌, arith}
use Rattle.std.proofs.lemmas.Int.{clamps, ints}
use Rattle.acas_spec.specs.Axis.{IsAxis}
use Rattle.acas_frac.proofs.SignedProducts.{mul-add_ℤ, mul-le_ℤ}
use Rattle.acas_process.specs.Axis.{gap}
use Rattle.acas_process.proofs.AxisLaws.{next_above}
use Rattle.acas_step_stencils.specs.Heights.{AreHeights, IsEvenGap, IsInGaps, IsLedTo}
use Rattle.acas_step_stencils.specs.declared.heights.ClimbInGaps.{ClimbInGaps}
use Rattle.acas_step_stencils.proofs.HeightLaws.{height}

-- the gap of the heights is that of the altitudes, in a unit
pub even-gap : (axis : List ℤ) (unit even place : ℕ) (heights : List ℕ) → IsAxis axis → AreHeights axis unit heights → 0 < even → IsEvenGap heights even →
    place + 1 < length axis → unit * even ≡ gap axis place
even-gap axis unit even place heights rising are some same here =
    let below : place < length axis = omega (arith, here) in
    let low = height axis unit heights place rising are below in
    let high = height axis unit heights (place + 1) rising are here in
    let from : unit * get_or heights place 0 ≡ unit * (place * even) = ap (λ (n : ℕ). unit * n) (same.each some place (omega (arith, below, are.count))) in
    let to : unit * get_or heights (place + 1) 0 ≡ unit * ((place + 1) * even) = ap (λ (n : ℕ). unit * n) (same.each some (place + 1) (omega (arith, here, are.count))) in
    omega (arith, ints, low, high, from, to, next_above axis place rising here)

-- a place and so many gaps, as a machine adds them
pub place_summed : (i : ℕ) (gaps : ℤ) → i ≤ 129 → unsigned_abs gaps ≤ 4_000_000 → to_z w32 (of_z w32 (to_z w32 i +ℤ to_z w32 (of_z w32 gaps))) ≡ pos i +ℤ gaps
place_summed i gaps low small = omega (arith, ints, low, small)

-- before it is held between the ends, the height is so many gaps and the rest
even_sum : (heights : List ℕ) (gap i : ℕ) (climb : ℤ) (r : ClimbInGaps) → 0 < gap → IsEvenGap heights gap → i < length heights → IsInGaps gap climb r →
    pos (get_or heights i 0) +ℤ climb ≡ pos gap *ℤ (pos i +ℤ r.gaps) +ℤ pos r.rest
even_sum heights gap i climb r some even here is =
    let from : get_or heights i 0 ≡ i * gap = even.each some i here in
    omega (arith, ints, from, is.value some, mul-add_ℤ (pos gap) (pos i) r.gaps)

-- below the first height it is held there
pub led_below : (heights : List ℕ) (gap i : ℕ) (climb : ℤ) (r : ClimbInGaps) → 0 < gap → IsEvenGap heights gap → 2 ≤ length heights → i < length heights → IsInGaps gap climb r →
    (pos i +ℤ r.gaps) <ℤ pos 0 → IsLedTo heights i climb 0 (record { place = 0; offset = 0 })
led_below heights gap i climb r some even long here is low =
    let sum = even_sum heights gap i climb r some even here is in
    let under : (pos gap *ℤ (pos i +ℤ r.gaps)) ≤ℤ (pos gap *ℤ negsuc 0) = mul-le_ℤ gap (pos i +ℤ r.gaps) (negsuc 0) (omega (arith, ints, low)) in
    let rest = is.rest some in
    let first : get_or heights 0 0 ≡ 0 * gap = even.each some 0 (omega (arith, long)) in
    let second : get_or heights 1 0 ≡ 1 * gap = even.each some 1 (omega (arith, long)) in
    record {
      value = omega (arith, ints, clamps, sum, under, rest);
      cell = record {
        before_last = omega (arith, long);
        lower = omega (arith, first);
        upper = omega arith;
        next = λ _. omega (arith, second, some);
      };
      above = omega (arith, first);
    }

-- from the last height on it is held there
pub led_past : (heights : List ℕ) (gap i : ℕ) (climb : ℤ) (r : ClimbInGaps) → 0 < gap → IsEvenGap heights gap → 2 ≤ length heights → i < length heights → IsInGaps gap climb r →
    pos (length heights - 1) ≤ℤ (pos i +ℤ r.gaps) → IsLedTo heights i climb ((length heights - 1) * gap) (record { place = length heights - 2; offset = gap })
led_past heights gap i climb r some even long here is high =
    let last : ℕ = length heights - 1 in
    let place : ℕ = length heights - 2 in
    let sum = even_sum heights gap i climb r some even here is in
    let over : (pos gap *ℤ pos last) ≤ℤ (pos gap *ℤ (pos i +ℤ r.gaps)) = mul-le_ℤ gap (pos last) (pos i +ℤ r.gaps) high in
    let end : get_or heights last 0 ≡ last * gap = even.each some last (omega (arith, long)) in
    let before : get_or heights place 0 ≡ place * gap = even.each some place (omega (arith, long)) in
    let more : place + 1 ≡ last = omega (arith, long) in
    let most : get_or heights (place + 1) 0 ≡ last * gap = ap (λ (k : ℕ). get_or heights k 0) more ∙ end in
    let whole : (place + 1) * gap ≡ last * gap = ap (λ (k : ℕ). k * gap) more in
    record {
      value = omega (arith, ints, clamps, sum, over, end);
      cell = record {
        before_last = omega (arith, long);
        lower = omega (arith, before, whole);
        upper = omega (arith, most);
        next = λ beyond. absurd (omega (arith, long, beyond));
      };
      above = omega (arith, before, whole);
    }

-- and between them it is as far above a height as the rest
pub led_within : (heights : List ℕ) (gap i : ℕ) (climb : ℤ) (r : ClimbInGaps) (place : ℕ) → 0 < gap → IsEvenGap heights gap → i < length heights → IsInGaps gap climb r →
    pos i +ℤ r.gaps ≡ pos place → place + 1 < length heights → IsLedTo heights i climb (place * gap + r.rest) (record { place = place; offset = r.rest })
led_within heights gap i climb r place some even here is at inside =
    let last : ℕ = length heights - 1 in
    let sum = even_sum heights gap i climb r some even here is in
    let product : pos gap *ℤ (pos i +ℤ r.gaps) ≡ pos gap *ℤ pos place = ap (λ z. pos gap *ℤ z) at in
    let rest = is.rest some in
    let end : get_or heights last 0 ≡ last * gap = even.each some last (omega (arith, inside)) in
    let low : get_or heights place 0 ≡ place * gap = even.each some place (omega (arith, inside)) in
    let high : get_or heights (place + 1) 0 ≡ (place + 1) * gap = even.each some (place + 1) inside in
    let most : (place + 1) * gap ≤ last * gap = mul-le-mul_right gap (omega (arith, inside)) in
    record {
      value = omega (arith, ints, clamps, sum, product, rest, end, most);
      cell = record {
        before_last = inside;
        lower = omega (arith, low);
        upper = omega (arith, high, rest);
        next = λ _. omega (arith, high, rest);
      };
      above = omega (arith, low);
    }
