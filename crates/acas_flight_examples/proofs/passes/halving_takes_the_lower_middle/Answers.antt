use Rattle.std.proofs.Common.{◌≡◌, ℕ, ◌+◌, ◌/◌, nat_lt, refl, arith}
use Rattle.acas_areas.specs.Halving.{HalvesTo, ends, raises, lowers}
use Rattle.acas_flight_examples.proofs.passes.halving_takes_the_lower_middle.Goals as goal

pub returns-clause-third : goal.returns-clause-third
returns-clause-third c = raises 0 3 2 (omega arith) refl (lowers 1 3 2 (omega arith) refl (ends 1 2 (omega arith)))

-- from 1 and 2 it ends at once, from 1 and 3 in a step, and from 0 and 3 in two
at_once : (low high at : ℕ) → low ≡ 1 → high ≡ 2 → HalvesTo (λ i. nat_lt i 2) low high at → at ≡ 2
at_once low high at l h (ends _ _ e) = h
at_once low high at l h (raises _ _ _ e t r) = absurd (omega (arith, e))
at_once low high at l h (lowers _ _ _ e t r) = absurd (omega (arith, e))

in_one : (low high at : ℕ) → low ≡ 1 → high ≡ 3 → HalvesTo (λ i. nat_lt i 2) low high at → at ≡ 2
in_one low high at l h (ends _ _ e) = absurd (omega (arith, e))
in_one low high at l h (raises _ _ _ e t r) = absurd (grind arith)
in_one low high at l h (lowers _ _ _ e t r) = at_once low ((low + high) / 2) at l (omega arith) r

in_two : (low high at : ℕ) → low ≡ 0 → high ≡ 3 → HalvesTo (λ i. nat_lt i 2) low high at → at ≡ 2
in_two low high at l h (ends _ _ e) = absurd (omega (arith, e))
in_two low high at l h (raises _ _ _ e t r) = in_one ((low + high) / 2) high at (omega arith) h r
in_two low high at l h (lowers _ _ _ e t r) = absurd (grind arith)

pub returns-clause-third_alone : goal.returns-clause-third_alone
returns-clause-third_alone c at h = in_two 0 3 at refl refl h

pub returns-clause-second : goal.returns-clause-second
returns-clause-second c = lowers 0 3 1 (omega arith) refl (ends 0 1 (omega arith))
