use Rattle.std.proofs.Common.{rules, ◌≡◌, ℕ, ◌*◌, ◌^◌, ◌<◌, ◌≤◌, ℤ, ◌+ℤ◌, ◌*ℤ◌, unsigned_abs, FitsSigned, w64, to_z, of_z, arith}
use Rattle.std.proofs.lemmas.Int.{fits_signed_from_abs, ints, to_z-of_z}
use Rattle.acas_step_narrow.specs.declared.raised.RateWeights.{RateWeights}
use Rattle.acas_step_narrow.proofs.RateSums.{products-small}
use Rattle.acas_step_narrow.proofs.raised.sum_by.Goals as goal

-- a number of less than so much is the same in 64 bits
fits : (most : ℕ) (z : ℤ) → 2 * most < 2 ^ 63 → unsigned_abs z ≤ most → FitsSigned w64 z
fits most z room small = fits_signed_from_abs w64 z (omega (arith, room, small))

same : (most : ℕ) (z : ℤ) → 2 * most < 2 ^ 63 → unsigned_abs z ≤ most → to_z w64 (of_z w64 z) ≡ z
same most z room small = to_z-of_z w64 z (fits most z room small)

-- a product that has 64 bits, as it is formed
stored : (most : ℕ) (w v : ℤ) → 2 * most < 2 ^ 63 → to_z w64 (of_z w64 w) ≡ w → to_z w64 (of_z w64 v) ≡ v → unsigned_abs (w *ℤ v) ≤ most →
    to_z w64 (of_z w64 (to_z w64 (of_z w64 w) *ℤ to_z w64 (of_z w64 v))) ≡ w *ℤ v
stored most w v room a b small = rw (a, b) (same most (w *ℤ v) room small)

pub overflow_mul-result : goal.overflow_mul-result
overflow_mul-result c =
    let w : RateWeights = c.args.weights.now in
    let small = products-small w c.requires.0 c.args.here c.args.next c.args.row c.args.both c.requires.1 in
    let weight : to_z w64 (of_z w64 w.here) ≡ w.here = search rules in
    let value : to_z w64 (of_z w64 c.args.here) ≡ c.args.here = search rules in
    rw (weight, value) (fits w.most (w.here *ℤ c.args.here) c.requires.1.weights.room (omega (arith, small.one)))

pub overflow_mul-result-2 : goal.overflow_mul-result-2
overflow_mul-result-2 c =
    let w : RateWeights = c.args.weights.now in
    let small = products-small w c.requires.0 c.args.here c.args.next c.args.row c.args.both c.requires.1 in
    let weight : to_z w64 (of_z w64 w.next) ≡ w.next = search rules in
    let value : to_z w64 (of_z w64 c.args.next) ≡ c.args.next = search rules in
    rw (weight, value) (fits w.most (w.next *ℤ c.args.next) c.requires.1.weights.room (omega (arith, small.two)))

pub overflow_mul-result-3 : goal.overflow_mul-result-3
overflow_mul-result-3 c =
    let w : RateWeights = c.args.weights.now in
    let small = products-small w c.requires.0 c.args.here c.args.next c.args.row c.args.both c.requires.1 in
    let weight : to_z w64 (of_z w64 w.row) ≡ w.row = search rules in
    let value : to_z w64 (of_z w64 c.args.row) ≡ c.args.row = search rules in
    rw (weight, value) (fits w.most (w.row *ℤ c.args.row) c.requires.1.weights.room (omega (arith, small.three)))

pub overflow_mul-result-4 : goal.overflow_mul-result-4
overflow_mul-result-4 c =
    let w : RateWeights = c.args.weights.now in
    let small = products-small w c.requires.0 c.args.here c.args.next c.args.row c.args.both c.requires.1 in
    let weight : to_z w64 (of_z w64 w.both) ≡ w.both = search rules in
    let value : to_z w64 (of_z w64 c.args.both) ≡ c.args.both = search rules in
    rw (weight, value) (fits w.most (w.both *ℤ c.args.both) c.requires.1.weights.room (omega (arith, small.all)))

pub overflow_add-result : goal.overflow_add-result
overflow_add-result c =
    let w : RateWeights = c.args.weights.now in
    let small = products-small w c.requires.0 c.args.here c.args.next c.args.row c.args.both c.requires.1 in
    let room = c.requires.1.weights.room in
    let here : to_z w64 (of_z w64 (to_z w64 (of_z w64 w.here) *ℤ to_z w64 (of_z w64 c.args.here))) ≡ w.here *ℤ c.args.here =
    stored w.most w.here c.args.here room (search rules) (search rules) (omega (arith, small.one)) in
    let next : to_z w64 (of_z w64 (to_z w64 (of_z w64 w.next) *ℤ to_z w64 (of_z w64 c.args.next))) ≡ w.next *ℤ c.args.next =
    stored w.most w.next c.args.next room (search rules) (search rules) (omega (arith, small.two)) in
    rw (here, next) (fits w.most (w.here *ℤ c.args.here +ℤ w.next *ℤ c.args.next) room (omega (arith, ints, small.two)))

pub overflow_add-result-2 : goal.overflow_add-result-2
overflow_add-result-2 c =
    let w : RateWeights = c.args.weights.now in
    let small = products-small w c.requires.0 c.args.here c.args.next c.args.row c.args.both c.requires.1 in
    let room = c.requires.1.weights.room in
    let here : to_z w64 (of_z w64 (to_z w64 (of_z w64 w.here) *ℤ to_z w64 (of_z w64 c.args.here))) ≡ w.here *ℤ c.args.here =
    stored w.most w.here c.args.here room (search rules) (search rules) (omega (arith, small.one)) in
    let next : to_z w64 (of_z w64 (to_z w64 (of_z w64 w.next) *ℤ to_z w64 (of_z w64 c.args.next))) ≡ w.next *ℤ c.args.next =
    stored w.most w.next c.args.next room (search rules) (search rules) (omega (arith, small.two)) in
    let row : to_z w64 (of_z w64 (to_z w64 (of_z w64 w.row) *ℤ to_z w64 (of_z w64 c.args.row))) ≡ w.row *ℤ c.args.row =
    stored w.most w.row c.args.row room (search rules) (search rules) (omega (arith, small.three)) in
    let first : to_z w64 (of_z w64 (w.here *ℤ c.args.here +ℤ w.next *ℤ c.args.next)) ≡ w.here *ℤ c.args.here +ℤ w.next *ℤ c.args.next = same w.most (w.here *ℤ c.args.here +ℤ w.next *ℤ c.args.next) room (omega (arith, ints, small.two)) in
    rw (here, next, row, first) (fits w.most (w.here *ℤ c.args.here +ℤ w.next *ℤ c.args.next +ℤ w.row *ℤ c.args.row) room (omega (arith, ints, small.three)))

pub overflow_add-result-3 : goal.overflow_add-result-3
overflow_add-result-3 c =
    let w : RateWeights = c.args.weights.now in
    let small = products-small w c.requires.0 c.args.here c.args.next c.args.row c.args.both c.requires.1 in
    let room = c.requires.1.weights.room in
    let here : to_z w64 (of_z w64 (to_z w64 (of_z w64 w.here) *ℤ to_z w64 (of_z w64 c.args.here))) ≡ w.here *ℤ c.args.here =
    stored w.most w.here c.args.here room (search rules) (search rules) (omega (arith, small.one)) in
    let next : to_z w64 (of_z w64 (to_z w64 (of_z w64 w.next) *ℤ to_z w64 (of_z w64 c.args.next))) ≡ w.next *ℤ c.args.next =
    stored w.most w.next c.args.next room (search rules) (search rules) (omega (arith, small.two)) in
    let row : to_z w64 (of_z w64 (to_z w64 (of_z w64 w.row) *ℤ to_z w64 (of_z w64 c.args.row))) ≡ w.row *ℤ c.args.row =
    stored w.most w.row c.args.row room (search rules) (search rules) (omega (arith, small.three)) in
    let both : to_z w64 (of_z w64 (to_z w64 (of_z w64 w.both) *ℤ to_z w64 (of_z w64 c.args.both))) ≡ w.both *ℤ c.args.both =
    stored w.most w.both c.args.both room (search rules) (search rules) (omega (arith, small.all)) in
    let first : to_z w64 (of_z w64 (w.here *ℤ c.args.here +ℤ w.next *ℤ c.args.next)) ≡ w.here *ℤ c.args.here +ℤ w.next *ℤ c.args.next = same w.most (w.here *ℤ c.args.here +ℤ w.next *ℤ c.args.next) room (omega (arith, ints, small.two)) in
    let second : to_z w64 (of_z w64 (w.here *ℤ c.args.here +ℤ w.next *ℤ c.args.next +ℤ w.row *ℤ c.args.row)) ≡ w.here *ℤ c.args.here +ℤ w.next *ℤ c.args.next +ℤ w.row *ℤ c.args.row = same w.most (w.here *ℤ c.args.here +ℤ w.next *ℤ c.args.next +ℤ w.row *ℤ c.args.row) room (omega (arith, ints, small.three)) in
    rw (here, next, row, both, first, second) (fits w.most (w.here *ℤ c.args.here +ℤ w.next *ℤ c.args.next +ℤ w.row *ℤ c.args.row +ℤ w.both *ℤ c.args.both) room (omega (arith, ints, small.all)))

pub returns : goal.returns
returns c =
    let w : RateWeights = c.args.weights.now in
    let small = products-small w c.requires.0 c.args.here c.args.next c.args.row c.args.both c.requires.1 in
    let room = c.requires.1.weights.room in
    let here : to_z w64 (of_z w64 (to_z w64 (of_z w64 w.here) *ℤ to_z w64 (of_z w64 c.args.here))) ≡ w.here *ℤ c.args.here =
    stored w.most w.here c.args.here room (search rules) (search rules) (omega (arith, small.one)) in
    let next : to_z w64 (of_z w64 (to_z w64 (of_z w64 w.next) *ℤ to_z w64 (of_z w64 c.args.next))) ≡ w.next *ℤ c.args.next =
    stored w.most w.next c.args.next room (search rules) (search rules) (omega (arith, small.two)) in
    let row : to_z w64 (of_z w64 (to_z w64 (of_z w64 w.row) *ℤ to_z w64 (of_z w64 c.args.row))) ≡ w.row *ℤ c.args.row =
    stored w.most w.row c.args.row room (search rules) (search rules) (omega (arith, small.three)) in
    let both : to_z w64 (of_z w64 (to_z w64 (of_z w64 w.both) *ℤ to_z w64 (of_z w64 c.args.both))) ≡ w.both *ℤ c.args.both =
    stored w.most w.both c.args.both room (search rules) (search rules) (omega (arith, small.all)) in
    let first : to_z w64 (of_z w64 (w.here *ℤ c.args.here +ℤ w.next *ℤ c.args.next)) ≡ w.here *ℤ c.args.here +ℤ w.next *ℤ c.args.next = same w.most (w.here *ℤ c.args.here +ℤ w.next *ℤ c.args.next) room (omega (arith, ints, small.two)) in
    let second : to_z w64 (of_z w64 (w.here *ℤ c.args.here +ℤ w.next *ℤ c.args.next +ℤ w.row *ℤ c.args.row)) ≡ w.here *ℤ c.args.here +ℤ w.next *ℤ c.args.next +ℤ w.row *ℤ c.args.row = same w.most (w.here *ℤ c.args.here +ℤ w.next *ℤ c.args.next +ℤ w.row *ℤ c.args.row) room (omega (arith, ints, small.three)) in
    rw (here, next, row, both, first, second) (same w.most (w.here *ℤ c.args.here +ℤ w.next *ℤ c.args.next +ℤ w.row *ℤ c.args.row +ℤ w.both *ℤ c.args.both) room (omega (arith, ints, small.all)))
