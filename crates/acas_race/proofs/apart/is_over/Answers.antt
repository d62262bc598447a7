use Rattle.std.proofs.Common.{◌≡◌, ◌∙◌, ap₂, ℕ, ℤ, ◌*ℤ◌, int_lt, [], ◌∷◌, ◌*◌, ◌≤◌, refl, pos, unsigned_abs, to_z, of_z, arith, mul-le-mul}
use Rattle.std.specs.Int.{w128}
use Rattle.std.proofs.lemmas.Grind.{common_steps}
use Rattle.std.proofs.lemmas.Int.{ints}
use Rattle.acas_units.specs.declared.limits.TheConstants.{GREATEST_CLOSING, GREATEST_LIMIT}
use Rattle.acas_frac.proofs.IntRing.{at, ◌⊗◌, ring}
use Rattle.acas_race.proofs.apart.is_over.Goals as goal

band : (h d b a : ℕ) → (pos h *ℤ pos (d * d * b)) *ℤ pos a ≡ pos (h * (d * d * b * a))
band h d b a = ring (pos h ∷ pos d ∷ pos b ∷ pos a ∷ []) ((at 0 ⊗ ((at 1 ⊗ at 1) ⊗ at 2)) ⊗ at 3) (at 0 ⊗ (((at 1 ⊗ at 1) ⊗ at 2) ⊗ at 3)) refl

pub times-band-requires-clause-by : goal.times-band-requires-clause-by
times-band-requires-clause-by c = grind (arith, common_steps)

pub times-requires-clause-number : goal.times-requires-clause-number
times-requires-clause-number c =
    let h : to_z w128 (of_z w128 c.from.result) ≡ pos c.args.half = omega (arith, ints, c.from.ensures, c.requires) in
    let hs : unsigned_abs (to_z w128 (of_z w128 c.from.result)) ≤ 120000 = rw h (omega (arith, ints, c.requires)) in
    let dens : c.args.at.now.den * c.args.at.now.den * c.args.contest.now.chase.pull ≤ GREATEST_CLOSING * GREATEST_CLOSING * GREATEST_LIMIT = mul-le-mul (mul-le-mul c.args.at.now.within.den c.args.at.now.within.den) c.args.contest.now.chase.fits.pull in
    let t = c.times-band.ensures.size 120000 (GREATEST_CLOSING * GREATEST_CLOSING * GREATEST_LIMIT) hs dens in
    let a : to_z w128 (of_z w128 c.times-band.result) ≡ c.times-band.result = omega (arith, ints, t) in
    rw a (omega (arith, t))

pub returns : goal.returns
returns c =
    let h : to_z w128 (of_z w128 c.from.result) ≡ pos c.args.half = omega (arith, ints, c.from.ensures, c.requires) in
    let hs : unsigned_abs (to_z w128 (of_z w128 c.from.result)) ≤ 120000 = rw h (omega (arith, ints, c.requires)) in
    let dens : c.args.at.now.den * c.args.at.now.den * c.args.contest.now.chase.pull ≤ GREATEST_CLOSING * GREATEST_CLOSING * GREATEST_LIMIT = mul-le-mul (mul-le-mul c.args.at.now.within.den c.args.at.now.within.den) c.args.contest.now.chase.fits.pull in
    let t = c.times-band.ensures.size 120000 (GREATEST_CLOSING * GREATEST_CLOSING * GREATEST_LIMIT) hs dens in
    let a : to_z w128 (of_z w128 c.times-band.result) ≡ c.times-band.result = omega (arith, ints, t) in
    let t2 = c.times.ensures.size (120000 * (GREATEST_CLOSING * GREATEST_CLOSING * GREATEST_LIMIT)) GREATEST_LIMIT (rw a t) c.args.contest.now.fits.accel in
    let b : to_z w128 (of_z w128 c.times.result) ≡ c.times.result = omega (arith, ints, t2) in
    let n : to_z w128 (of_z w128 c.number.result) ≡ c.number.result = omega (arith, ints, c.number.ensures.size) in
    let one = rw h at c.times-band.ensures.value in
    let two = rw (a, one) at c.times.ensures.value in
    ap₂ (λ (x y : ℤ). int_lt x y) (b ∙ two ∙ band c.args.half c.args.at.now.den c.args.contest.now.chase.pull c.args.contest.now.accel) (n ∙ c.number.ensures.value)
