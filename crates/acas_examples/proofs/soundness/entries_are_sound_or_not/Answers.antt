use Rattle.std.proofs.Common.{◌≡◌, ℕ, zero, suc, pos, ◌≤ℤ◌, [], ◌∷◌, Contains, refl, arith, subst}
use Rattle.std.proofs.lemmas.Int.{ints}
use Rattle.acas_policies.specs.Bounds.{lower_value}
use Rattle.acas_process.specs.Compiled.{compiled}
use Rattle.acas_examples.specs.Models.{noisy, switching}
use Rattle.acas_examples.specs.Parts.{minus, vertex}
use Rattle.acas_examples.specs.Tables.{altered}
use Rattle.acas_examples.proofs.soundness.entries_are_sound_or_not.Goals as goal

first_of_one : (n a : ℕ) → Contains {X = ℕ} (n ∷ []) a → n ≡ a
first_of_one n a (zero, h, e) = e
first_of_one n a (suc k, h, e) = absurd (omega (arith, h))

first_is_listed : Contains {X = ℕ} (0 ∷ []) 0
first_is_listed = (0, omega arith, refl)

pub returns-clause-compiled : goal.returns-clause-compiled
returns-clause-compiled c =
    let t = compiled switching in (
      (0, omega arith, refl),
      omega (arith, ints),
      λ a h. subst (λ (b : ℕ). pos 8_000_000 ≤ℤ lower_value switching (t.lower 1) 0 (vertex 0 0 1) b) (first_of_one 1 a h) (omega (arith, ints)),
    )

pub returns-clause-wider : goal.returns-clause-wider
returns-clause-wider c =
    let t = altered noisy 2 (pos 5) (minus 7) 0 in (
      first_is_listed,
      omega (arith, ints),
      λ a h. subst (λ (b : ℕ). pos 524_683 ≤ℤ lower_value noisy (t.lower 1) 0 (vertex 0 0 1) b) (first_of_one 0 a h) (omega (arith, ints)),
    )

pub returns-clause-lower : goal.returns-clause-lower
returns-clause-lower c s = omega (arith, ints, s.2 0 first_is_listed)

pub returns-clause-lower_below : goal.returns-clause-lower_below
returns-clause-lower_below c s = omega (arith, ints, s.2 0 first_is_listed)

pub returns-clause-other_choice : goal.returns-clause-other_choice
returns-clause-other_choice c s = omega (arith, ints, s.2 0 (0, omega arith, refl))
