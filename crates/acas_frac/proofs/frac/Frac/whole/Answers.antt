use Rattle.std.proofs.Common.{ℕ, ◌≡◌, sym, one-mul, arith, unsigned_abs, to_z, of_z}
use Rattle.std.specs.Int.{w128, IsGcd, ◌∣◌}
use Rattle.std.proofs.lemmas.Int.{ints}
use Rattle.acas_frac.proofs.frac.Frac.whole.Goals as goal

over_one : (n : ℕ) → IsGcd n 1 1
over_one n = (every n, every 1, λ k i j. j)
  where
    every : (m : ℕ) → 1 ∣ m
    every m = ∣ (m, sym (one-mul m)) ∣₁

pub invariant_of-result : goal.invariant_of-result
invariant_of-result c =
    let value : to_z w128 (of_z w128 c.from.result) ≡ c.args.value = omega (arith, ints, c.from.ensures) in (
      omega (arith, ints),
      record {
        some = omega arith;
        den_small = omega arith;
        num_small = rw value (omega (arith, ints));
        lowest = over_one (unsigned_abs (to_z w128 (of_z w128 c.from.result)));
      },
    )
