-- What holds of the places of a list after one is written.
use Rattle.std.proofs.Common.{◌≢◌, ℕ, ◌+◌, ◌<◌, List, length, get_or, set, sym, subst, arith}
use Rattle.std.proofs.lemmas.List.{get_or-set_other, get_or-set_same}
use borrow.Author.Count.{below_more}

-- of the places below one that is written, and of that one
pub each_written : {A : Type 0} (P : ℕ → A → Type 0) (xs : List A) (i : ℕ) (y d : A) → i < length xs → ((k : ℕ) → k < i → P k (get_or xs k d)) → P i y → (k : ℕ) → k < i + 1 → P k (get_or (set xs i y) k d)
each_written {A} P xs i y d inside before here =
    below_more (λ (k : ℕ). P k (get_or (set xs i y) k d)) i
    (λ k h. let apart : k ≢ i = λ e. absurd (omega arith) in subst (λ (z : A). P k z) (sym (get_or-set_other xs i k y d apart)) (before k h))
    (subst (λ (z : A). P i z) (sym (get_or-set_same xs i y d inside)) here)
