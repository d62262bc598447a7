-- The changes of a curve from its aim up: those from below, turned upside down.
use Rattle.std.proofs.Common.{◌≡◌, ℕ, ◌+◌, ◌-◌, ◌*◌, ◌∙◌, ap, arith, ℤ, pos, neg_ℤ, ◌+ℤ◌, ◌-ℤ◌, ◌*ℤ◌, ◌≤ℤ◌}
use Rattle.std.proofs.lemmas.Int.{ints}
use Rattle.acas_frac.proofs.SignedProducts.{mul-neg_ℤ}
use Rattle.acas_flight.proofs.Curves.{steady}
use Rattle.acas_flight_lemmas.proofs.Mirror.{steady_turned}
use Rattle.acas_flight_lemmas.proofs.Held.{down, turned}
use Rattle.acas_pass_lemmas.proofs.Changes.{longer_below, longer_below_least, start_below, hold_below, pull_below}
use Rattle.acas_flight.specs.Curves.{held}

-- in the time d more at most as at the start rate, and at least as at the aim's
pub longer_above : (k : ℤ) (u b g t d : ℕ) → held (k +ℤ pos u) k b g (t + d) ≤ℤ (held (k +ℤ pos u) k b g t +ℤ steady (k +ℤ pos u) d b)
longer_above k u b g t d =
    line (held (k +ℤ pos u) k b g t) (held (k +ℤ pos u) k b g (t + d)) (steady (k +ℤ pos u) d b) _ _ _
    (turned k u b g t) (turned k u b g (t + d)) (ap (λ v. steady v d b) (down k u) ∙ steady_turned (k +ℤ pos u) d b) (longer_below_least (neg_ℤ k) u b g t d)
  where
    line : (h l s h' l' s' : ℤ) → h' ≡ neg_ℤ h → l' ≡ neg_ℤ l → s' ≡ neg_ℤ s → (h' +ℤ s') ≤ℤ l' → l ≤ℤ (h +ℤ s)
    line h l s h' l' s' e f g i = omega (arith, ints)

pub longer_above_least : (k : ℤ) (u b g t d : ℕ) → (held (k +ℤ pos u) k b g t +ℤ steady k d b) ≤ℤ held (k +ℤ pos u) k b g (t + d)
longer_above_least k u b g t d =
    line (held (k +ℤ pos u) k b g t) (held (k +ℤ pos u) k b g (t + d)) (steady k d b) _ _ _
    (turned k u b g t) (turned k u b g (t + d)) (steady_turned k d b) (longer_below (neg_ℤ k) u b g t d)
  where
    line : (h l s h' l' s' : ℤ) → h' ≡ neg_ℤ h → l' ≡ neg_ℤ l → s' ≡ neg_ℤ s → l' ≤ℤ (h' +ℤ s') → (h +ℤ s) ≤ℤ l
    line h l s h' l' s' e f g i = omega (arith, ints)

rises : (h l h' l' : ℤ) (n : ℕ) → h' ≡ neg_ℤ h → l' ≡ neg_ℤ l → h' ≤ℤ (l' +ℤ pos n) → l ≤ℤ (h +ℤ pos n)
rises h l h' l' n e f i = omega (arith, ints)

-- the start rate d higher
pub start_above : (k : ℤ) (u b g t d : ℕ) → held (k +ℤ pos (u + d)) k b g t ≤ℤ (held (k +ℤ pos u) k b g t +ℤ pos ((d + d) * (b * t)))
start_above k u b g t d =
    rises (held (k +ℤ pos u) k b g t) (held (k +ℤ pos (u + d)) k b g t) (held (neg_ℤ k -ℤ pos u) (neg_ℤ k) b g t) (held (neg_ℤ k -ℤ pos (u + d)) (neg_ℤ k) b g t) ((d + d) * (b * t))
    (turned k u b g t) (turned k (u + d) b g t) (start_below (neg_ℤ k) u b g t d)

-- the hold d longer
pub hold_above : (k : ℤ) (u b g t d : ℕ) → held (k +ℤ pos u) k b (g + d) t ≤ℤ (held (k +ℤ pos u) k b g t +ℤ pos ((u + u) * (b * d)))
hold_above k u b g t d =
    rises (held (k +ℤ pos u) k b g t) (held (k +ℤ pos u) k b (g + d) t) (held (neg_ℤ k -ℤ pos u) (neg_ℤ k) b g t) (held (neg_ℤ k -ℤ pos u) (neg_ℤ k) b (g + d) t) ((u + u) * (b * d))
    (turned k u b g t) (turned k u b (g + d) t) (hold_below (neg_ℤ k) u b g t d)

-- the pull, from b + e to b
pub pull_above : (k : ℤ) (u b e g t : ℕ) → (pos (b + e) *ℤ held (k +ℤ pos u) k b g t) ≤ℤ ((pos b *ℤ held (k +ℤ pos u) k (b + e) g t) +ℤ pos ((b * (b + e)) * (((t - g) * (t - g)) * e)))
pull_above k u b e g t =
    rises (pos b *ℤ held (k +ℤ pos u) k (b + e) g t) (pos (b + e) *ℤ held (k +ℤ pos u) k b g t)
    (pos b *ℤ held (neg_ℤ k -ℤ pos u) (neg_ℤ k) (b + e) g t) (pos (b + e) *ℤ held (neg_ℤ k -ℤ pos u) (neg_ℤ k) b g t) ((b * (b + e)) * (((t - g) * (t - g)) * e))
    (ap (λ z. pos b *ℤ z) (turned k u (b + e) g t) ∙ mul-neg_ℤ (pos b) (held (k +ℤ pos u) k (b + e) g t))
    (ap (λ z. pos (b + e) *ℤ z) (turned k u b g t) ∙ mul-neg_ℤ (pos (b + e)) (held (k +ℤ pos u) k b g t))
    (pull_below (neg_ℤ k) u b e g t)
