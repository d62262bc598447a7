use Rattle.std.proofs.lemmas.Grind.{common_steps}
use Rattle.std.proofs.Common.{◌≡◌, ◌∙◌, refl, ℕ, ◌*◌, ◌<◌, ◌≤◌, ℤ, pos, ◌-ℤ◌, ◌*ℤ◌, ◌≤ℤ◌, unsigned_abs, to_z, of_z, arith}
use Rattle.std.specs.Int.{w128}
use Rattle.std.proofs.lemmas.Int.{ints}
use Rattle.acas_frac.specs.Fraction.{Fraction, ReducesWithinBounds}
use Rattle.acas_flight.specs.Values.{IsAtMost}
use Rattle.acas_witness_plans.proofs.Casts.{whole128}
use Rattle.acas_witness_response.proofs.Assembly.{from_none}
use Rattle.acas_frac.proofs.Lowest.{ReducesWithinBounds-over}
use Rattle.acas_flight_lemmas.proofs.Rising.{scaled_le}
use Rattle.acas_witness_response.proofs.response.difference.Goals as goal

size : (a b : ℤ) (n : ℕ) → b ≤ℤ a → pos 0 ≤ℤ b → a ≤ℤ pos n → unsigned_abs (a -ℤ b) ≤ n
size a b n h k l = omega (arith, ints)

-- the numerator is small
small : (f g : Fraction) → f.den * g.den ≤ 10000000000000 → IsAtMost g f → pos 0 ≤ℤ g.num → f.num ≤ℤ pos (600 * f.den) → unsigned_abs ((f.num *ℤ pos g.den) -ℤ (g.num *ℤ pos f.den)) ≤ 6000000000000000
small f g d o l m =
    let h = scaled_le f.num (pos (600 * f.den)) g.den m in
    let k = scaled_le (pos 0) g.num f.den l in
    size (f.num *ℤ pos g.den) (g.num *ℤ pos f.den) 6000000000000000 o (from_none (g.num *ℤ pos f.den) f.den k) (most (f.num *ℤ pos g.den) f.den g.den d h)
  where
    most : (a : ℤ) (m n : ℕ) → m * n ≤ 10000000000000 → a ≤ℤ (pos (600 * m) *ℤ pos n) → a ≤ℤ pos 6000000000000000
    most a m n h k = let e : (600 * m) * n ≤ 6000000000000000 = omega arith in omega (arith, ints)

reduces : (n : ℤ) (d : ℕ) → 0 < d → d ≤ 10000000000000 → unsigned_abs n ≤ 6000000000000000 → ReducesWithinBounds (unsigned_abs n) (unsigned_abs (pos d))
reduces n d p h k = ReducesWithinBounds-over (unsigned_abs n) d (unsigned_abs n) d p p refl (omega arith) h

pub new-requires-clause-num_small : goal.new-requires-clause-num_small
new-requires-clause-num_small c =
    let f = c.args.time.now in
    let g = c.args.other.now in
    let n = c.difference_parts-num.ensures in
    let up : to_z w128 (of_z w128 c.difference_parts-num.result.0) ≡ (f.num *ℤ pos g.den) -ℤ (g.num *ℤ pos f.den) = whole128 _ (omega (arith, n.size)) ∙ n.num in
    rw up (let s = small f g c.requires.dens c.requires.order c.requires.least c.requires.most in omega (arith, s))

pub new-requires-clause-within : goal.new-requires-clause-within
new-requires-clause-within c =
    let f = c.args.time.now in
    let g = c.args.other.now in
    let n = c.difference_parts-num.ensures in
    let up : to_z w128 (of_z w128 c.difference_parts-num.result.0) ≡ (f.num *ℤ pos g.den) -ℤ (g.num *ℤ pos f.den) = whole128 _ (omega (arith, n.size)) ∙ n.num in
    let down : to_z w128 (of_z w128 c.difference_parts-num.result.1) ≡ pos (f.den * g.den) = whole128 _ (omega (arith, n.den_size)) ∙ n.den in
    rw (up, down)
    (reduces ((f.num *ℤ pos g.den) -ℤ (g.num *ℤ pos f.den)) (f.den * g.den) n.some c.requires.dens (small f g c.requires.dens c.requires.order c.requires.least c.requires.most))

pub returns-clause-difference : goal.returns-clause-difference
returns-clause-difference c = grind (arith, common_steps)
