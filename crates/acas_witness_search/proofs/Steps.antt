-- Numbers within their limits, in 64 bits, and the steps of a rate on the way from one rate to another.
use Rattle.std.proofs.Common.{◌≡◌, ℕ, ◌≤◌, arith, ℤ, pos, ◌*ℤ◌, ◌≤ℤ◌, unsigned_abs, to_z, of_z}
use Rattle.std.specs.Int.{w64}
use Rattle.std.proofs.lemmas.Int.{ints}
use Rattle.acas_areas.specs.Passes.{rising, falling}
use Rattle.acas_witness_plans.proofs.Overs.{rising_size, falling_size}

pub rate64 : (v : ℤ) → unsigned_abs v ≤ 10000 → to_z w64 (of_z w64 v) ≡ v
rate64 v h = omega (arith, ints)

pub altitude64 : (v : ℤ) → unsigned_abs v ≤ 1200000 → to_z w64 (of_z w64 v) ≡ v
altitude64 v h = omega (arith, ints)

pub steps64 : (a v : ℤ) → a ≡ pos 8 *ℤ to_z w64 (of_z w64 v) → unsigned_abs v ≤ 10000 → to_z w64 (of_z w64 a) ≡ pos 8 *ℤ v
steps64 a v e h = omega (arith, ints)

steps_size : (v : ℤ) → unsigned_abs v ≤ 10000 → unsigned_abs (pos 8 *ℤ v) ≤ 80000
steps_size v h = omega (arith, ints)

steps_order : (v w : ℤ) → v ≤ℤ w → (pos 8 *ℤ v) ≤ℤ (pos 8 *ℤ w)
steps_order v w h = omega (arith, ints)

place64 : (r x : ℤ) (m : ℕ) → r ≡ x → unsigned_abs x ≤ m → m ≤ 1200000 → (to_z w64 (of_z w64 r) ≡ x) × (unsigned_abs (to_z w64 (of_z w64 r)) ≤ m)
place64 r x m e h k = (omega (arith, ints), omega (arith, ints))

module _ (v w a b r : ℤ) (i : ℕ) (ea : a ≡ pos 8 *ℤ to_z w64 (of_z w64 v)) (eb : b ≡ pos 8 *ℤ to_z w64 (of_z w64 w)) (h : unsigned_abs v ≤ 10000) (k : unsigned_abs w ≤ 10000) where
  pub rising64 : v ≤ℤ w → r ≡ rising (to_z w64 (of_z w64 a)) (to_z w64 (of_z w64 b)) i → (to_z w64 (of_z w64 r) ≡ rising (pos 8 *ℤ v) (pos 8 *ℤ w) i) × (unsigned_abs (to_z w64 (of_z w64 r)) ≤ 80000)
  rising64 o e =
      place64 r _ 80000 (rw (steps64 a v ea h, steps64 b w eb k) at e) (rising_size _ _ i 80000 (steps_order v w o) (steps_size v h) (steps_size w k)) (omega arith)

  pub falling64 : w ≤ℤ v → r ≡ falling (to_z w64 (of_z w64 a)) (to_z w64 (of_z w64 b)) i → (to_z w64 (of_z w64 r) ≡ falling (pos 8 *ℤ v) (pos 8 *ℤ w) i) × (unsigned_abs (to_z w64 (of_z w64 r)) ≤ 80000)
  falling64 o e =
      place64 r _ 80000 (rw (steps64 a v ea h, steps64 b w eb k) at e) (falling_size _ _ i 80000 (steps_order w v o) (steps_size v h) (steps_size w k)) (omega arith)

pub falling_altitude64 : (g l r : ℤ) (i : ℕ) → unsigned_abs g ≤ 1200000 → unsigned_abs l ≤ 1200000 → l ≤ℤ g → r ≡ falling (to_z w64 (of_z w64 g)) (to_z w64 (of_z w64 l)) i → (to_z w64 (of_z w64 r) ≡ falling g l i) × (unsigned_abs (to_z w64 (of_z w64 r)) ≤ 1200000)
falling_altitude64 g l r i h k o e = place64 r _ 1200000 (rw (altitude64 g h, altitude64 l k) at e) (falling_size g l i 1200000 o h k) (omega arith)
