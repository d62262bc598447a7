-- The rates that are reached, as they are computed in 64 bits.
use Rattle.std.proofs.Common.{◌≡◌, ◌∙◌, ℕ, ◌≤◌, ⊎_elim, arith, cond, int_lt, ℤ, pos, ◌+ℤ◌, ◌-ℤ◌, ◌≤ℤ◌, of_z, to_z, unsigned_abs}
use Rattle.std.specs.Int.{int_max, int_min, w64}
use Rattle.std.proofs.lemmas.Int.{ints, clamps}
use Rattle.acas_units.specs.declared.limits.TheConstants.{GREATEST_LIMIT, GREATEST_RATE}
use Rattle.acas_frac.proofs.Orders.{cases_lt_ℤ}
use Rattle.acas_flight.proofs.Between.{test_lt, test_ge}
use Rattle.acas_flight.specs.Response.{Demand}
use Rattle.acas_flight.specs.State.{Interval}
use Rattle.acas_areas.specs.Chases.{IsAsked}
use Rattle.acas_safeable.specs.Reached.{greatest_rate, least_rate}

-- a rate at or above lo falls by the limit at most, and no further than to lo
from_lo_on : (lo s : ℤ) (limit : ℕ) → int_min s (int_max lo (s -ℤ pos limit)) ≡ cond (int_lt s lo) s (int_max lo (s -ℤ pos limit))
from_lo_on lo s limit = ⊎_elim
    (λ h. rw (test_lt s lo h) (omega (arith, ints, clamps)))
    (λ h. rw (test_ge s lo h) (omega (arith, ints, clamps)))
    (cases_lt_ℤ s lo)

-- one at or below hi rises by the limit at most, and no further than to hi
up_to_hi : (hi s : ℤ) (limit : ℕ) → int_max s (int_min hi (s +ℤ pos limit)) ≡ cond (int_lt hi s) s (int_min hi (s +ℤ pos limit))
up_to_hi hi s limit = ⊎_elim
    (λ h. rw (test_lt hi s h) (omega (arith, ints, clamps)))
    (λ h. rw (test_ge hi s h) (omega (arith, ints, clamps)))
    (cases_lt_ℤ hi s)

-- the same in 64 bits
pub least : (r m lo s : ℤ) (limit : ℕ) → unsigned_abs lo ≤ unsigned_abs GREATEST_RATE → unsigned_abs s ≤ unsigned_abs GREATEST_RATE → limit ≤ GREATEST_LIMIT →
    m ≡ int_max (to_z w64 (of_z w64 lo)) (to_z w64 (of_z w64 (to_z w64 (of_z w64 s) -ℤ to_z w64 limit))) → r ≡ int_min (to_z w64 (of_z w64 s)) (to_z w64 (of_z w64 m)) →
    to_z w64 (of_z w64 r) ≡ int_min s (int_max lo (s -ℤ pos limit))
least r m lo s limit h k l em er = omega (arith, ints, clamps)

pub greatest : (r m hi s : ℤ) (limit : ℕ) → unsigned_abs hi ≤ unsigned_abs GREATEST_RATE → unsigned_abs s ≤ unsigned_abs GREATEST_RATE → limit ≤ GREATEST_LIMIT →
    m ≡ int_min (to_z w64 (of_z w64 hi)) (to_z w64 (of_z w64 (to_z w64 (of_z w64 s) +ℤ to_z w64 limit))) → r ≡ int_max (to_z w64 (of_z w64 s)) (to_z w64 (of_z w64 m)) →
    to_z w64 (of_z w64 r) ≡ int_max s (int_min hi (s +ℤ pos limit))
greatest r m hi s limit h k l em er = omega (arith, ints, clamps)

-- the ends are in order, and no larger than the numbers that they are of
pub ends_in_order : (x y s t k m : ℤ) → x ≡ int_min s k → y ≡ int_max t m → s ≤ℤ t → x ≤ℤ y
ends_in_order x y s t k m e f h = omega (arith, ints, clamps)

pub least_size : (x lo s : ℤ) (limit n : ℕ) → x ≡ int_min s (int_max lo (s -ℤ pos limit)) → unsigned_abs lo ≤ n → unsigned_abs s ≤ n → unsigned_abs x ≤ n
least_size x lo s limit n e h k = omega (arith, ints, clamps)

pub greatest_size : (x hi s : ℤ) (limit n : ℕ) → x ≡ int_max s (int_min hi (s +ℤ pos limit)) → unsigned_abs hi ≤ n → unsigned_abs s ≤ n → unsigned_abs x ≤ n
greatest_size x hi s limit n e h k = omega (arith, ints, clamps)

module _ (a : Demand) (v : Interval) (asked : IsAsked a) (r m : ℤ) where
  pub least_reached : unsigned_abs v.least ≤ unsigned_abs GREATEST_RATE →
      m ≡ int_max (to_z w64 (of_z w64 a.lo)) (to_z w64 (of_z w64 (to_z w64 (of_z w64 v.least) -ℤ to_z w64 a.limit))) → r ≡ int_min (to_z w64 (of_z w64 v.least)) (to_z w64 (of_z w64 m)) →
      to_z w64 (of_z w64 r) ≡ least_rate a v
  least_reached size em er = least r m a.lo v.least a.limit asked.lo size asked.limit em er ∙ from_lo_on a.lo v.least a.limit

  pub greatest_reached : unsigned_abs v.greatest ≤ unsigned_abs GREATEST_RATE →
      m ≡ int_min (to_z w64 (of_z w64 a.hi)) (to_z w64 (of_z w64 (to_z w64 (of_z w64 v.greatest) +ℤ to_z w64 a.limit))) → r ≡ int_max (to_z w64 (of_z w64 v.greatest)) (to_z w64 (of_z w64 m)) →
      to_z w64 (of_z w64 r) ≡ greatest_rate a v
  greatest_reached size em er = greatest r m a.hi v.greatest a.limit asked.hi size asked.limit em er ∙ up_to_hi a.hi v.greatest a.limit
