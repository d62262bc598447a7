-- What holds of the entries of lists after one is written.
use Rattle.std.proofs.Common.{◌≡◌, ◌≢◌, ℕ, ◌+◌, ◌<◌, List, length, set, refl, sym, subst, arith}
use Rattle.std.proofs.lemmas.List.{get_or-set_other, get_or-set_same}
use borrow.Author.Count.{below_more}
use Rattle.acas_units.specs.declared.pair.Entry.{Entry}
use Rattle.acas_units.specs.declared.pair.Pair.{Pair}
use Rattle.acas_means.specs.Layer.{no_pair}
use Rattle.acas_sweep.specs.Entries.{listed_entry}

pub listed_entry-written : (pairs : List Pair) (advice : List ℕ) (i : ℕ) (e : Entry) → i < length pairs → i < length advice → listed_entry (set pairs i e.pair) (set advice i e.advice) i ≡ e
listed_entry-written pairs advice i e h k = rw (get_or-set_same pairs i e.pair no_pair h, get_or-set_same advice i e.advice 0 k) refl

pub listed_entry-other : (pairs : List Pair) (advice : List ℕ) (i j : ℕ) (e : Entry) → j ≢ i → listed_entry (set pairs i e.pair) (set advice i e.advice) j ≡ listed_entry pairs advice j
listed_entry-other pairs advice i j e apart = rw (get_or-set_other pairs i j e.pair no_pair apart, get_or-set_other advice i j e.advice 0 apart) refl

-- of the entries of places below one that is written, and of that one
pub entries_written : (P : ℕ → Entry → Type 0) (pairs : List Pair) (advice : List ℕ) (i : ℕ) (e : Entry) → i < length pairs → i < length advice
    → ((k : ℕ) → k < i → P k (listed_entry pairs advice k)) → P i e → (k : ℕ) → k < i + 1 → P k (listed_entry (set pairs i e.pair) (set advice i e.advice) k)
entries_written P pairs advice i e h g before here =
    below_more (λ (k : ℕ). P k (listed_entry (set pairs i e.pair) (set advice i e.advice) k)) i
    (λ k l. let apart : k ≢ i = λ q. absurd (omega arith) in subst (λ (x : Entry). P k x) (sym (listed_entry-other pairs advice i k e apart)) (before k l))
    (subst (λ (x : Entry). P i x) (sym (listed_entry-written pairs advice i e h g)) here)
