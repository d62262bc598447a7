-- Spans of an axis.
use Rattle.std.proofs.Common.{◌≡◌, ℕ, zero, suc, ◌+◌, ◌<◌, inl, inr, List, length, ℤ, ◌<ℤ◌, subst, arith}
use Rattle.std.proofs.lemmas.Int.{ints}
use Rattle.std.proofs.lemmas.Bool.{cases_eq}
use Rattle.acas_spec.specs.Axis.{Rises, place_value}

-- the number at a later place of an axis is greater
pub rising_between : (axis : List ℤ) → Rises axis → (first last : ℕ) → first < last → last < length axis → place_value axis first <ℤ place_value axis last
unfolding Rises
rising_between axis rises first zero some within = absurd (omega (arith, some))
rising_between axis rises first (suc last) some within =
    let next : last + 1 ≡ suc last = omega arith in
    let step : place_value axis last <ℤ place_value axis (last + 1) = rises last (omega (arith, within)) in
    subst (λ (p : ℕ). place_value axis first <ℤ place_value axis p) next
    (elim (cases_eq first last) [
      | inl same ↦ subst (λ (p : ℕ). place_value axis p <ℤ place_value axis (last + 1)) (omega (arith, same)) step
      | inr other ↦
          let before = rising_between axis rises first last (omega (arith, some, other)) (omega (arith, within)) in
          omega (arith, ints, before, step)
    ])
