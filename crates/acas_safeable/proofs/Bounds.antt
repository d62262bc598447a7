-- A curve at one second, over any denominator.
use Rattle.std.proofs.Common.{◌≡◌, ℕ, ◌*◌, ◌<◌, ap₂, ◌∙◌, arith, ℤ, pos, ◌*ℤ◌}
use Rattle.acas_flight_lemmas.proofs.Gaps.{high_hold-over, high_pull-over, low_hold-over, low_pull-over}
use Rattle.acas_flight_lemmas.proofs.Held.{held-scaled}
use Rattle.acas_flight.specs.Curves.{held, high_hold, high_pull, highest, low_hold, low_pull, lowest}
use Rattle.acas_flight.specs.Response.{Demand, scaled}

module _ (a : Demand) (v : ℤ) (q : ℕ) (p : 0 < q) where
  second : (k : ℤ) (b g : ℕ) → held (v *ℤ pos (q * q)) (k *ℤ pos (q * q)) (b * q) (g * q) q ≡ held v k b g 1 *ℤ pos ((q * q) * (q * q))
  second k b g =
      let one : 1 * q ≡ q = omega arith in
      rw one at (held-scaled v k b g 1 q q)

  pub lowest-over : lowest (scaled q a) (v *ℤ pos (q * q)) q ≡ lowest a v 1 *ℤ pos ((q * q) * (q * q))
  lowest-over = ap₂ (λ b g. held (v *ℤ pos (q * q)) (a.lo *ℤ pos (q * q)) b g q) (low_pull-over a v q p) (low_hold-over a v q p) ∙ second a.lo (low_pull a v) (low_hold a v)

  pub highest-over : highest (scaled q a) (v *ℤ pos (q * q)) q ≡ highest a v 1 *ℤ pos ((q * q) * (q * q))
  highest-over = ap₂ (λ b g. held (v *ℤ pos (q * q)) (a.hi *ℤ pos (q * q)) b g q) (high_pull-over a v q p) (high_hold-over a v q p) ∙ second a.hi (high_pull a v) (high_hold a v)
