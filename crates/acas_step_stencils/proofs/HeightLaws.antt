-- The heights of the altitudes above the first one, in a unit, and the altitude after a climb among them.
use Rattle.std.proofs.Common.{◌≡◌, ℕ, ◌+◌, ◌-◌, ◌*◌, ◌<◌, ◌≤◌, ℤ, pos, ◌+ℤ◌, ◌-ℤ◌, ◌*ℤ◌, ◌≤ℤ◌, ◌<ℤ◌, List, length, get_or, mul-le-mul_right, ⊎_elim, ap, ◌∙◌, arith}
use Rattle.std.specs.Int.{int_max, int_min}
use Rattle.std.proofs.lemmas.Bool.{cases_lt}
use Rattle.std.proofs.lemmas.Int.{ints, clamps}
use Rattle.acas_spec.specs.Axis.{IsAxis, place_value}
use Rattle.acas_spec.specs.Limits.{IsGrid}
use Rattle.acas_spec.specs.Model.{GridData}
use Rattle.acas_spec.proofs.Bounds.{unsigned_abs-within}
use Rattle.acas_frac.proofs.IntRing.{mul_zero_ℤ}
use Rattle.acas_frac.proofs.Orders.{cases_lt_ℤ}
use Rattle.acas_frac.proofs.SignedProducts.{mul-add_ℤ, mul-le_ℤ}
use Rattle.acas_grid.specs.Axis.{IsCell, clamp_to}
use Rattle.acas_grid.proofs.Cells.{cell_from, rises}
use Rattle.acas_process.specs.Axis.{distance, gap}
use Rattle.acas_process.proofs.AxisLaws.{distance-add, distance-same}
use Rattle.acas_step_stencils.specs.Units.{IsAbove}
use Rattle.acas_step_stencils.specs.Heights.{AreHeights, IsHeightCell, height_led}

-- ---- the lesser and the larger of two numbers, in another unit

mul-int_min : (n : ℕ) (a b : ℤ) → pos n *ℤ int_min a b ≡ int_min (pos n *ℤ a) (pos n *ℤ b)
mul-int_min n a b =
    ⊎_elim
    (λ (l : a <ℤ b).
    let e : int_min a b ≡ a = omega (arith, ints, clamps) in
    ap (λ z. pos n *ℤ z) e ∙ omega (arith, ints, clamps, mul-le_ℤ n a b (omega (arith, ints, l))))
    (λ (l : b ≤ℤ a).
    let e : int_min a b ≡ b = omega (arith, ints, clamps) in
    ap (λ z. pos n *ℤ z) e ∙ omega (arith, ints, clamps, mul-le_ℤ n b a l))
    (cases_lt_ℤ a b)

mul-int_max : (n : ℕ) (a b : ℤ) → pos n *ℤ int_max a b ≡ int_max (pos n *ℤ a) (pos n *ℤ b)
mul-int_max n a b =
    ⊎_elim
    (λ (l : a <ℤ b).
    let e : int_max a b ≡ b = omega (arith, ints, clamps) in
    ap (λ z. pos n *ℤ z) e ∙ omega (arith, ints, clamps, mul-le_ℤ n a b (omega (arith, ints, l))))
    (λ (l : b ≤ℤ a).
    let e : int_max a b ≡ a = omega (arith, ints, clamps) in
    ap (λ z. pos n *ℤ z) e ∙ omega (arith, ints, clamps, mul-le_ℤ n b a l))
    (cases_lt_ℤ a b)

-- ---- the heights

-- the first height is 0
pub first_height : (axis : List ℤ) (unit : ℕ) (heights : List ℕ) → 0 < unit → 0 < length axis → AreHeights axis unit heights → get_or heights 0 0 ≡ 0
first_height axis unit heights some long are =
    ⊎_elim
    (λ (l : 0 < get_or heights 0 0).
    absurd (omega (arith, some, are.each 0 long, distance-same (place_value axis 0), mul-le-mul_right {m = 1} {n = get_or heights 0 0} unit (omega (arith, l)))))
    (λ (l : get_or heights 0 0 ≤ 0). omega (arith, l))
    (cases_lt 0 (get_or heights 0 0))

-- the next height is a gap above
pub height_more : (axis : List ℤ) (unit below step place : ℕ) → IsAxis axis → place + 1 < length axis → unit * below ≡ distance (place_value axis 0) (place_value axis place) → unit * step ≡ gap axis place →
    unit * (below + step) ≡ distance (place_value axis 0) (place_value axis (place + 1))
height_more axis unit below step place rising here before next =
    omega (
      arith,
      before,
      next,
      distance-add (place_value axis 0) (place_value axis place) (place_value axis (place + 1))
          (rises axis rising.rising 0 place (omega arith) (omega (arith, here))) (rises axis rising.rising place (place + 1) (omega arith) here),
    )

-- no height of a grid is large
pub height_small : (g : GridData) (unit high place : ℕ) → IsGrid g → 0 < unit → place < length g.h → unit * high ≡ distance (place_value g.h 0) (place_value g.h place) → high ≤ 2_400_000
height_small g unit high place valid some here is =
    let low = unsigned_abs-within 1200000 _ _ g.h 0 valid.altitudes_within (omega (arith, here)) (omega arith) (omega arith) in
    let up = unsigned_abs-within 1200000 _ _ g.h place valid.altitudes_within here (omega arith) (omega arith) in
    let most : unit * high ≤ 2_400_000 = omega (arith, ints, is, low, up) in
    let times : 1 * high ≤ unit * high = mul-le-mul_right high some in
    omega (arith, most, times)

-- a height is a difference of altitudes
pub height : (axis : List ℤ) (unit : ℕ) (heights : List ℕ) (k : ℕ) → IsAxis axis → AreHeights axis unit heights → k < length axis → pos (unit * get_or heights k 0) ≡ place_value axis k -ℤ place_value axis 0
height axis unit heights k rising are here = omega (arith, ints, are.each k here, rises axis rising.rising 0 k (omega arith) here)

clamped_to : (n h climb last first x end rise : ℤ) → n *ℤ h ≡ x -ℤ first → n *ℤ last ≡ end -ℤ first → n *ℤ climb ≡ rise →
    int_max (n *ℤ pos 0) (int_min (n *ℤ (h +ℤ climb)) (n *ℤ last)) ≡ int_max first (int_min (x +ℤ rise) end) -ℤ first
clamped_to n h climb last first x end rise e f g =
    let sum : n *ℤ (h +ℤ climb) ≡ x +ℤ rise -ℤ first = mul-add_ℤ n h climb ∙ omega (arith, ints, e, g) in
    let none : n *ℤ pos 0 ≡ pos 0 = mul_zero_ℤ n in
    rw (sum, none, f) (omega (arith, ints, clamps))

-- the height after a climb is that of the altitude after it, between the ends of the axis
pub height_led_to : (axis : List ℤ) (unit : ℕ) (heights : List ℕ) (i x : ℕ) (climb rise : ℤ) → IsAxis axis → AreHeights axis unit heights → i < length axis → pos unit *ℤ climb ≡ rise →
    pos x ≡ height_led heights i climb → pos (unit * x) ≡ clamp_to axis (place_value axis i +ℤ rise) -ℤ place_value axis 0
height_led_to axis unit heights i x climb rise rising are here counted is =
    let from : ℤ = pos (get_or heights i 0) in
    let last : ℤ = pos (get_or heights (length heights - 1) 0) in
    let end : pos unit *ℤ last ≡ place_value axis (length axis - 1) -ℤ place_value axis 0 =
    ap (λ (n : ℕ). pos unit *ℤ pos (get_or heights (n - 1) 0)) are.count ∙ omega (arith, ints, height axis unit heights (length axis - 1) rising are (omega (arith, here))) in
    let start : pos unit *ℤ from ≡ place_value axis i -ℤ place_value axis 0 = omega (arith, ints, height axis unit heights i rising are here) in
    let whole : pos (unit * x) ≡ pos unit *ℤ pos x = omega (arith, ints) in
    whole
    ∙ ap (λ z. pos unit *ℤ z) is
    ∙ mul-int_max unit (pos 0) (int_min (from +ℤ climb) last)
    ∙ ap (λ z. int_max (pos unit *ℤ pos 0) z) (mul-int_min unit (from +ℤ climb) last)
    ∙ clamped_to (pos unit) from climb last (place_value axis 0) (place_value axis i) (place_value axis (length axis - 1)) rise start end counted

-- the cell of a height is that of its altitude
pub height_cell : (axis : List ℤ) (unit : ℕ) (heights : List ℕ) (place x : ℕ) (z : ℤ) → IsAxis axis → 0 < unit → AreHeights axis unit heights → IsHeightCell heights place x →
    pos (unit * x) ≡ z -ℤ place_value axis 0 → IsCell axis place z
height_cell axis unit heights place x z rising some are cell is =
    let before : place + 1 < length axis = omega (arith, cell.before_last, are.count) in
    let low = height axis unit heights place rising are (omega (arith, before)) in
    let high = height axis unit heights (place + 1) rising are before in
    let lower : place_value axis place ≤ℤ z = omega (arith, ints, is, low, mul-le-mul_right unit cell.lower) in
    let upper : z ≤ℤ place_value axis (place + 1) = omega (arith, ints, is, high, mul-le-mul_right unit cell.upper) in
    cell_from axis place z rising.rising before lower upper
    (λ more.
    let next : x + 1 ≤ get_or heights (place + 1) 0 = omega (arith, cell.next (omega (arith, more, are.count))) in
    omega (arith, ints, some, is, high, mul-le-mul_right unit next))

-- and it is as far above its place
pub height_above : (axis : List ℤ) (unit : ℕ) (heights : List ℕ) (place x offset : ℕ) (z : ℤ) → IsAxis axis → 0 < unit → AreHeights axis unit heights → IsHeightCell heights place x →
    offset + get_or heights place 0 ≡ x → pos (unit * x) ≡ z -ℤ place_value axis 0 → IsAbove axis unit z place offset
height_above axis unit heights place x offset z rising some are cell whole is =
    let holds = height_cell axis unit heights place x z rising some are cell is in
    let low = height axis unit heights place rising are (omega (arith, cell.before_last, are.count)) in
    let parts : unit * offset + unit * get_or heights place 0 ≡ unit * x = omega (arith, ap (λ (n : ℕ). unit * n) whole) in
    record { cell = holds; above = omega (arith, ints, is, low, parts, holds.lower) }
