-- Files that are looked up where one was inserted.
use Rattle.std.proofs.Common.{None, IsSome, ◌≡◌, Bool, true, false, ℕ, cond, List, Option, Some, refl, sym, ◌∙◌, ap}
use Rattle.std.specs.Ordering.{nat_cmp, eq_by_cmp, is_eq}
use Rattle.std.specs.Cmp.{eq_by_cmp_equiv}
use Rattle.std.specs.Cmp.Lexicographic.{slice_cmp, nat_list_cmp_total}
use Rattle.std.specs.FinMap.{get, insert, get-insert, same_map, slice_cmp-IsAntisymmetric, nat_cmp-IsAntisymmetric}
use Rattle.std.specs.declared.cmp.Ordering.{Ordering}
use Rattle.std.specs.declared.cmp.Ordering.TheVariants.{Less, Equal, Greater}
use Rattle.acas_outside.specs.Files.{Files}

tied : (r : Ordering) → is_eq r ≡ true → r ≡ Equal
tied Less e = absurd (cc e)
tied Equal e = refl
tied Greater e = absurd (cc e)

-- what a name holds stands there, where it is inserted
put_again : (m : Files) (k v q : List ℕ) (b : Bool) → eq_by_cmp (slice_cmp nat_cmp) q k ≡ b → get m k ≡ Some v → cond b (Some v) (get m q) ≡ get m q
put_again m k v q true same there =
    sym there ∙ ap (get m) (sym (slice_cmp-IsAntisymmetric nat_cmp-IsAntisymmetric q k (tied (slice_cmp nat_cmp q k) same)))
put_again m k v q false other there = refl

-- to insert what is there changes nothing
pub insert-same : (m : Files) (k v : List ℕ) → get m k ≡ Some v → insert m k v ≡ m
insert-same m k v there =
    same_map nat_list_cmp_total (slice_cmp-IsAntisymmetric nat_cmp-IsAntisymmetric) _ _ (λ q.
    get-insert nat_list_cmp_total m k v q ∙ put_again m k v q (eq_by_cmp (slice_cmp nat_cmp) q k) refl there)

put_twice : (b : Bool) (v w : List ℕ) (o : Option (List ℕ)) → cond b (Some w) (cond b (Some v) o) ≡ cond b (Some w) o
put_twice true v w o = refl
put_twice false v w o = refl

-- the last of two inserts at a name is what stands
pub insert-insert : (m : Files) (k v w : List ℕ) → insert (insert m k v) k w ≡ insert m k w
insert-insert m k v w =
    same_map nat_list_cmp_total (slice_cmp-IsAntisymmetric nat_cmp-IsAntisymmetric) _ _ (λ q.
    get-insert nat_list_cmp_total (insert m k v) k w q
    ∙ ap (cond (eq_by_cmp (slice_cmp nat_cmp) q k) (Some w)) (get-insert nat_list_cmp_total m k v q)
    ∙ put_twice (eq_by_cmp (slice_cmp nat_cmp) q k) v w (get m q)
    ∙ sym (get-insert nat_list_cmp_total m k w q))

pub get-insert_same : (m : Files) (k v : List ℕ) → get (insert m k v) k ≡ Some v
get-insert_same m k v =
    get-insert nat_list_cmp_total m k v k ∙ ap (λ b. cond b (Some v) (get m k)) ((eq_by_cmp_equiv nat_list_cmp_total).refl k)

pub not_held : (o : Option (List ℕ)) → o ≡ None → IsSome o → ⊥
not_held None e held = absurd (cc held)
not_held (Some x) e held = absurd (cc e)

not_put : (m : Files) (k v q : List ℕ) (b : Bool) → (q ≡ k → ⊥) → eq_by_cmp (slice_cmp nat_cmp) q k ≡ b → cond b (Some v) (get m q) ≡ get m q
not_put m k v q true apart same = absurd (apart (slice_cmp-IsAntisymmetric nat_cmp-IsAntisymmetric q k (tied (slice_cmp nat_cmp q k) same)))
not_put m k v q false apart other = refl

-- another name holds what it held
pub get-insert_other : (m : Files) (k v q : List ℕ) → (q ≡ k → ⊥) → get (insert m k v) q ≡ get m q
get-insert_other m k v q apart = get-insert nat_list_cmp_total m k v q ∙ not_put m k v q (eq_by_cmp (slice_cmp nat_cmp) q k) apart refl
