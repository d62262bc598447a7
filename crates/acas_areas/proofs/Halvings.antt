-- The bounds of a search by halving, and the flight at which it ends.
use Rattle.std.proofs.Common.{◌≡◌, ℕ, ◌+◌, ◌*◌, ◌<◌, ◌≤◌, ◌-◌, ◌/◌, Bool, true, false, true≢false, sym, ap, ◌∙◌, ⊎_elim, arith, ℤ, pos, ◌+ℤ◌, ◌*ℤ◌, ◌<ℤ◌, ◌≤ℤ◌, neg_ℤ, mul-le-mul_right}
use Rattle.std.proofs.lemmas.Int.{ints}
use Rattle.std.proofs.lemmas.Bool.{cases_lt}
use Rattle.acas_frac.proofs.SignedProducts.{mul-le_ℤ, mul-lt_ℤ, le-from_mul_ℤ, lt-from_mul_ℤ, mul-neg_ℤ}
use Rattle.acas_frac.specs.Fraction.{Fraction, Same}
use Rattle.acas_areas.specs.Value.{is_below, IsWithinHalf, IsLessThanAbove, thinnest}
use Rattle.acas_frac.proofs.Orders.{cases_lt_ℤ}
use Rattle.acas_flight.proofs.Between.{test_lt, test_ge}
use Rattle.acas_areas.specs.Halving.{HalvesTo, ends, raises, lowers}
use lib.IntN.{*ℤ_comm}

-- Between low and high the search goes on as from 0 and last.
pub record Bracket (below : ℕ → Bool) (last low high : ℕ) : Type 0 where
  pub apart : low < high
  pub within : high ≤ last
  pub low_is_below : below low ≡ true
  pub high_is_not : below high ≡ false
  pub search : (end : ℕ) → HalvesTo below low high end → HalvesTo below 0 last end

middle : (low high : ℕ) → low < high → low + (high - low) / 2 ≡ (low + high) / 2
middle low high h = omega arith

pub Bracket-first : (below : ℕ → Bool) (last : ℕ) → below 0 ≡ true → below last ≡ false → Bracket below last 0 last
Bracket-first below last a b = record {
  apart = ⊎_elim (λ (l : 0 < last). l) (λ (l : last ≤ 0). let e : last ≡ 0 = omega arith in absurd (true≢false (sym a ∙ ap below (sym e) ∙ b))) (cases_lt 0 last);
  within = omega arith;
  low_is_below = a;
  high_is_not = b;
  search = λ end s. s;
}

pub Bracket-raise : (below : ℕ → Bool) (last low high : ℕ) → Bracket below last low high → 1 < high - low → below (low + (high - low) / 2) ≡ true → Bracket below last (low + (high - low) / 2) high
Bracket-raise below last low high b h t = record {
  apart = omega arith;
  within = b.within;
  low_is_below = t;
  high_is_not = b.high_is_not;
  search = λ end s. b.search end (raises low high end (omega arith) (rw (middle low high b.apart) at t) (rw (middle low high b.apart) at s));
}

pub Bracket-lower : (below : ℕ → Bool) (last low high : ℕ) → Bracket below last low high → 1 < high - low → below (low + (high - low) / 2) ≡ false → Bracket below last low (low + (high - low) / 2)
Bracket-lower below last low high b h t = record {
  apart = omega arith;
  within = omega (arith, b.within);
  low_is_below = b.low_is_below;
  high_is_not = t;
  search = λ end s. b.search end (lowers low high end (omega arith) (rw (middle low high b.apart) at t) (rw (middle low high b.apart) at s));
}

pub Bracket-done : (below : ℕ → Bool) (last low high : ℕ) → Bracket below last low high → high - low ≤ 1 → HalvesTo below 0 last high
Bracket-done below last low high b h = b.search high (ends low high (omega arith))

-- A flight that is not below, and less than the thinnest puck above one that is, is within the puck.
pub IsWithin-next : (half : ℕ) (f g : Fraction) → thinnest ≤ 2 * half → 0 < f.den → 0 < g.den → is_below half f ≡ true → is_below half g ≡ false → IsLessThanAbove thinnest f g → IsWithinHalf half g
IsWithin-next half f g b p q under over step = record {
  not_below = omega (arith, ints, over);
  not_above = above;
}
  where
    line : (a b : ℤ) (m n : ℕ) → a <ℤ (b +ℤ pos n) → b <ℤ neg_ℤ (pos m) → n ≤ 2 * m → a <ℤ pos m
    line a b m n h k l = omega (arith, ints)

    above : g.num ≤ℤ pos (half * g.den)
    above =
        let below : f.num <ℤ neg_ℤ (pos (half * f.den)) = omega (arith, ints, under) in
        let far = rw (*ℤ_comm (pos g.den) f.num, mul-neg_ℤ (pos g.den) (pos (half * f.den))) at (mul-lt_ℤ g.den f.num (neg_ℤ (pos (half * f.den))) q below) in
        let room : thinnest * (f.den * g.den) ≤ 2 * (g.den * (half * f.den)) = omega (arith, mul-le-mul_right (f.den * g.den) b) in
        let near = line (g.num *ℤ pos f.den) (f.num *ℤ pos g.den) (g.den * (half * f.den)) (thinnest * (f.den * g.den)) step far room in
        let same : g.den * (half * f.den) ≡ f.den * (half * g.den) = omega arith in
        let near' : (pos f.den *ℤ g.num) <ℤ pos (f.den * (half * g.den)) = rw (*ℤ_comm (pos f.den) g.num, ← same) near in
        let less : g.num <ℤ pos (half * g.den) = lt-from_mul_ℤ f.den g.num (pos (half * g.den)) near' in
        omega (arith, ints)

-- ---- the tests see a fraction's value alone

turned : (f g : Fraction) → Same f g → pos f.den *ℤ g.num ≡ pos g.den *ℤ f.num
turned f g e = *ℤ_comm (pos f.den) g.num ∙ sym e ∙ *ℤ_comm f.num (pos g.den)

half_turned : (half m n : ℕ) → pos m *ℤ neg_ℤ (pos (half * n)) ≡ pos n *ℤ neg_ℤ (pos (half * m))
half_turned half m n = mul-neg_ℤ (pos m) (pos (half * n)) ∙ ap (λ k. neg_ℤ (pos k)) (same half m n) ∙ sym (mul-neg_ℤ (pos n) (pos (half * m)))
  where
    same : (half m n : ℕ) → m * (half * n) ≡ n * (half * m)
    same half m n = omega arith

below-Same : (half : ℕ) (f g : Fraction) → 0 < g.den → Same f g → f.num <ℤ neg_ℤ (pos (half * f.den)) → g.num <ℤ neg_ℤ (pos (half * g.den))
below-Same half f g q e h =
    lt-from_mul_ℤ f.den g.num (neg_ℤ (pos (half * g.den)))
    (rw (turned f g e, half_turned half f.den g.den) (mul-lt_ℤ g.den f.num (neg_ℤ (pos (half * f.den))) q h))

not_below-Same : (half : ℕ) (f g : Fraction) → 0 < f.den → Same f g → neg_ℤ (pos (half * f.den)) ≤ℤ f.num → neg_ℤ (pos (half * g.den)) ≤ℤ g.num
not_below-Same half f g p e h =
    le-from_mul_ℤ f.den (neg_ℤ (pos (half * g.den))) g.num p
    (rw (turned f g e, half_turned half f.den g.den) (mul-le_ℤ g.den (neg_ℤ (pos (half * f.den))) f.num h))

not_above-Same : (half : ℕ) (f g : Fraction) → 0 < f.den → Same f g → f.num ≤ℤ pos (half * f.den) → g.num ≤ℤ pos (half * g.den)
not_above-Same half f g p e h =
    le-from_mul_ℤ f.den g.num (pos (half * g.den)) p
    (let n : f.den * (half * g.den) ≡ g.den * (half * f.den) = omega arith in
    rw (turned f g e, n) (mul-le_ℤ g.den f.num (pos (half * f.den)) h))

pub is_below-Same : (half : ℕ) (f g : Fraction) → 0 < f.den → 0 < g.den → Same f g → is_below half f ≡ is_below half g
is_below-Same half f g p q e =
    ⊎_elim
    (λ h. test_lt f.num (neg_ℤ (pos (half * f.den))) h ∙ sym (test_lt g.num (neg_ℤ (pos (half * g.den))) (below-Same half f g q e h)))
    (λ h. test_ge f.num (neg_ℤ (pos (half * f.den))) h ∙ sym (test_ge g.num (neg_ℤ (pos (half * g.den))) (not_below-Same half f g p e h)))
    (cases_lt_ℤ f.num (neg_ℤ (pos (half * f.den))))

pub IsWithin-Same : (half : ℕ) (f g : Fraction) → 0 < f.den → Same f g → IsWithinHalf half f → IsWithinHalf half g
IsWithin-Same half f g p e w = record {
  not_below = not_below-Same half f g p e w.not_below;
  not_above = not_above-Same half f g p e w.not_above;
}
