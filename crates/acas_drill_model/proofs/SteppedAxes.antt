-- The axes of a drilled model rise, and are within their limits.
use Rattle.std.proofs.Common.{◌≡◌, ℕ, ◌+◌, ◌*◌, ◌<◌, ◌≤◌, ℤ, pos, ◌+ℤ◌, length, arith}
use Rattle.std.proofs.Math.Nat.{mul-le-mul_left}
use Rattle.std.proofs.lemmas.Int.{ints}
use Rattle.std.proofs.lemmas.List.FromFn.{get_or-map-range_with_len, length-map-range_with_len}
use Rattle.acas_spec.specs.Axis.{IsAxis, IsWithin, Rises, place_value}
use Rattle.acas_drill_model.specs.DrilledModel.{about_zero, minus, stepped}

-- the number at a place
abbrev number_at : ℤ → ℕ → ℕ → ℤ
number_at least step place = least +ℤ pos (step * place)

length-stepped : (least : ℤ) (step count : ℕ) → length (stepped least step count) ≡ count
length-stepped least step count = length-map-range_with_len (number_at least step) 0 count

pub length-about_zero : (step steps : ℕ) → length (about_zero step steps) ≡ 2 * steps + 1
length-about_zero step steps = length-stepped (minus (step * steps)) step (2 * steps + 1)

place_value-stepped : (least : ℤ) (step count place : ℕ) → place < count → place_value (stepped least step count) place ≡ number_at least step place
place_value-stepped least step count place within = get_or-map-range_with_len (number_at least step) 0 count place place (pos 0) within (omega arith)

stepped-rises : (least : ℤ) (step count : ℕ) → 0 < step → Rises (stepped least step count)
unfolding Rises
stepped-rises least step count some place within =
    let inside : place + 1 < count = omega (arith, within, length-stepped least step count) in
    let here = place_value-stepped least step count place (omega arith) in
    let next = place_value-stepped least step count (place + 1) inside in
    omega (arith, ints, here, next)

pub about_zero-axis : (step steps : ℕ) → 0 < step → 0 < steps → steps ≤ 64 → IsAxis (about_zero step steps)
about_zero-axis step steps some_step some_steps few = record {
  at_least = omega (arith, length-about_zero step steps);
  at_most = omega (arith, length-about_zero step steps);
  rising = stepped-rises (minus (step * steps)) step (2 * steps + 1) some_step;
}

pub about_zero-within : (most step steps : ℕ) → step * steps ≤ most → IsWithin (minus most) (pos most) (about_zero step steps)
about_zero-within most step steps small = record {
  bounded = λ place within.
      let inside : place < 2 * steps + 1 = omega (arith, within, length-about_zero step steps) in
      let here = place_value-stepped (minus (step * steps)) step (2 * steps + 1) place inside in
      let below : step * place ≤ step * (2 * steps) = mul-le-mul_left step (omega arith) in
      record { low = omega (arith, ints, here, below); high = omega (arith, ints, here, below) };
}
