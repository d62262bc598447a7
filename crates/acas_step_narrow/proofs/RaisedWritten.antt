-- The numbers of a column after those at a place are written.
use Rattle.std.proofs.Common.{◌≢◌, ◌≡◌, ℕ, ◌+◌, ◌<◌, List, length, get_or, set, refl, sym, subst, arith}
use Rattle.std.proofs.lemmas.List.{get_or-set_other, get_or-set_same}
use borrow.Author.Count.{below_more}
use Rattle.acas_step_narrow.specs.Raised.{raised_in}
use Rattle.acas_step_narrow.specs.declared.raised.Raised.{Raised}

raised_same : (u l u' l' : ℕ) → u ≡ u' → l ≡ l' → ◌≡◌ {A = Raised} (record { upper = u; lower = l }) (record { upper = u'; lower = l' })
raised_same u l u' l' p q = rw (p, q) refl

-- those at another place stay as they are
pub other_written : (us ls : List ℕ) (i k u l : ℕ) → k ≢ i → raised_in (set us i u) (set ls i l) k ≡ raised_in us ls k
other_written us ls i k u l apart = raised_same (get_or (set us i u) k 0) (get_or (set ls i l) k 0) (get_or us k 0) (get_or ls k 0) (get_or-set_other us i k u 0 apart) (get_or-set_other ls i k l 0 apart)

-- of the places below one that is written, and of that one
pub both_written : (P : ℕ → Raised → Type 0) (us ls : List ℕ) (i u l : ℕ) → i < length us → i < length ls → ((k : ℕ) → k < i → P k (raised_in us ls k)) → P i (record { upper = u; lower = l })
    → (k : ℕ) → k < i + 1 → P k (raised_in (set us i u) (set ls i l) k)
both_written P us ls i u l inside inside' before here =
    below_more (λ (k : ℕ). P k (raised_in (set us i u) (set ls i l) k)) i
    (λ k h. let apart : k ≢ i = λ e. absurd (omega arith) in subst (λ (p : Raised). P k p) (sym (other_written us ls i k u l apart)) (before k h))
    (subst (λ (p : Raised). P i p) (sym (raised_same (get_or (set us i u) i 0) (get_or (set ls i l) i 0) u l (get_or-set_same us i u 0 inside) (get_or-set_same ls i l 0 inside'))) here)
