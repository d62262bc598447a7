-- To hold the rate for longer makes a curve that rises no higher, and one that falls no lower.
use Rattle.std.proofs.Common.{◌≡◌, ℕ, ◌+◌, ◌-◌, ◌≤◌, arith, ℤ, ◌+ℤ◌, ◌≤ℤ◌, neg_ℤ, min}
use Rattle.std.proofs.lemmas.Int.{ints}
use Rattle.acas_frac.proofs.Orders.{turned_le}
use Rattle.acas_flight.proofs.Curves.{steady}
use Rattle.acas_flight.proofs.Steps.{steady-add}
use Rattle.acas_flight.proofs.Holding.{hold_lowers}
use Rattle.acas_flight_lemmas.proofs.Mirror.{turned_held}
use Rattle.acas_flight.specs.Curves.{approach, held}

pub held_longer-rising : (v k : ℤ) (b g longer t : ℕ) → v ≤ℤ k → g ≤ longer → held v k b longer t ≤ℤ held v k b g t
held_longer-rising v k b g longer t h l = by (min t longer - min t g) (t - longer) (omega arith) (omega arith)
  where
    line : (sg sp y y' : ℤ) → (sp +ℤ y) ≤ℤ y' → ((sp +ℤ sg) +ℤ y) ≤ℤ (sg +ℤ y')
    line sg sp y y' m = omega (arith, ints)

    by : (p s : ℕ) → min t longer ≡ min t g + p → t - g ≡ p + (t - longer) → held v k b longer t ≤ℤ held v k b g t
    by p s e f =
        rw (e, f, steady-add v (min t g) p b)
        (line (steady v (min t g) b) (steady v p b) (approach v k b (t - longer)) (approach v k b (p + (t - longer))) (hold_lowers v k b p (t - longer) h))

pub held_longer-falling : (v k : ℤ) (b g longer t : ℕ) → k ≤ℤ v → g ≤ longer → held v k b g t ≤ℤ held v k b longer t
held_longer-falling v k b g longer t h l =
    turned_le (turned_held v k b longer t) (turned_held v k b g t) (held_longer-rising (neg_ℤ v) (neg_ℤ k) b g longer t (omega (arith, ints)) l)
