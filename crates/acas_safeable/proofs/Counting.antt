-- The counts of one cell more.
use Rattle.std.proofs.Common.{◌≡◌, ℕ, ◌+◌, ◌<◌, ◌&&◌, true, false, Bool, List, [], ◌∷◌, ◌++◌, refl, sym, ap, ap₂, ◌∙◌, add-zero, nat_eq, arith, cond, count_by}
use Rattle.std.proofs.lemmas.Bool.Decides.{nat_tests}
use Rattle.std.proofs.lemmas.List.Sums.{sum_by-append, sum_by-cons}
use Rattle.acas_spec.specs.Model.{ModelData}
use Rattle.acas_base.specs.Advices.{AdvicesData}
use Rattle.acas_cells.specs.Cells.{Cell}
use Rattle.acas_cells.specs.Corners.{is_clear_cell}
use Rattle.acas_safeable.specs.Outlooks.{is_looked_at}
use Rattle.acas_safeable.specs.SafeableText.{is_near, is_open, is_safeable}
use Rattle.acas_safeable.specs.Walk.{counted_outlook, counts_in}
use Rattle.acas_safeable.specs.declared.counts.SafeCounts.{SafeCounts}
use Rattle.acas_safeable.specs.declared.outlook.Outlook.{Outlook}
use Rattle.acas_safeable.proofs.SomeOutlooks.{looked_later}

-- one more is counted where it passes
count_one : {X : Type 0} (p : X → Bool) (xs : List X) (x : X) → count_by p (xs ++ x ∷ []) ≡ count_by p xs + cond (p x) 1 0
count_one p xs x =
    sum_by-append (λ y. cond (p y) 1 0) xs (x ∷ [])
    ∙ ap (λ (n : ℕ). count_by p xs + n) (sum_by-cons (λ y. cond (p y) 1 0) x [] ∙ add-zero (cond (p x) 1 0))

-- one is, where it passes both tests of which the first is passed
counted_both : {X : Type 0} (p q : X → Bool) (xs : List X) (x : X) → p x ≡ true → count_by (λ y. p y && q y) (xs ++ x ∷ []) ≡ count_by (λ y. p y && q y) xs + cond (q x) 1 0
counted_both p q xs x passes =
    count_one (λ y. p y && q y) xs x ∙ ap (λ (b : Bool). count_by (λ y. p y && q y) xs + cond (b && q x) 1 0) passes

counted_not : {X : Type 0} (p : X → Bool) (xs : List X) (x : X) → p x ≡ false → count_by p (xs ++ x ∷ []) ≡ count_by p xs
counted_not p xs x fails = count_one p xs x ∙ ap (λ (b : Bool). count_by p xs + cond b 1 0) fails ∙ add-zero (count_by p xs)

not_both : (x : Bool) (n : ℕ) → 0 < n → (x && nat_eq n 0) ≡ false
not_both true n later = grind (arith, nat_tests)
not_both false n later = refl

same_counts : (s u n s' u' n' : ℕ) → s ≡ s' → u ≡ u' → n ≡ n' → ◌≡◌ {A = SafeCounts} (record { safeable = s; unshown = u; near = n }) (record { safeable = s'; unshown = u'; near = n' })
same_counts s u n s' u' n' p q r = rw (p, q, r) refl

-- a cell that is looked at is counted by what is found of it
pub counted_looked : (m : ModelData) (a : AdvicesData) (found : Cell → Outlook) (before : List Cell) (c : Cell) (old : SafeCounts) (outlook : Outlook) → is_looked_at m a c ≡ true → outlook ≡ found c → old ≡ counts_in m a found before →
    counted_outlook old outlook ≡ counts_in m a found (before ++ c ∷ [])
counted_looked m a found before c old outlook looked same counted =
    same_counts _ _ _ _ _ _
    (ap₂ (λ (k : SafeCounts) (o : Outlook). k.safeable + cond (is_safeable o) 1 0) counted same ∙ sym (counted_both (is_looked_at m a) (λ d. is_safeable (found d)) before c looked))
    (ap₂ (λ (k : SafeCounts) (o : Outlook). k.unshown + cond (is_open o) 1 0) counted same ∙ sym (counted_both (is_looked_at m a) (λ d. is_open (found d)) before c looked))
    (ap (λ (k : SafeCounts). k.near) counted ∙ sym (counted_not (is_near m a) before c (not_both (is_clear_cell m a c) c.n (looked_later m a c looked))))
