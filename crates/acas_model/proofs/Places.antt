-- Lists that are read item by item, place by place.
use Rattle.std.proofs.Common.{◌≡◌, ℕ, zero, suc, ◌<◌, Bool, false, List, [], ◌∷◌, ◌++◌, length, take, get_or, Result, Ok, refl, sym, subst, ap, ◌∙◌, inl, inr, arith}
use Rattle.std.specs.List.{list_any}
use Rattle.std.proofs.lemmas.Bool.{cases_Bool, false≢true}
use Rattle.std.proofs.lemmas.List.{append_assoc, append-nil}
use Rattle.acas_spec.specs.Steps.{each}
use Rattle.acas_spec.proofs.Each.{bind_ok, same_ok}

-- the item at each place was read, knowing what was read of the items before it
pub record ReadAt {A B E : Type 0} (read : List B → A → Result B E) (before : List B) (xs : List A) (rest : List B) (d : A) (e : B) : Type 0 where
  pub long : length rest ≡ length xs
  pub at : (k : ℕ) → k < length xs → read (before ++ take k rest) (get_or xs k d) ≡ Ok (get_or rest k e)

each_rest : {A B E : Type 0} (read : List B → A → Result B E) (before ys : List B) (xs : List A) (d : A) (e : B) → each read before xs ≡ Ok ys
    → (rest : List B) × (ys ≡ before ++ rest) × ReadAt read before xs rest d e
unfolding each
each_rest {A} {B} {E} read before ys [] d e is = ([], sym (same_ok before ys is) ∙ sym (append-nil before), record { long = refl; at = λ k within. absurd (omega (arith, within)) })
each_rest {A} {B} {E} read before ys (x ∷ xs) d e is =
    let b = bind_ok (read before x) (λ y. each read (before ++ y ∷ []) xs) ys is in
    let y = b.0 in
    let more = each_rest read (before ++ y ∷ []) ys xs d e b.2 in
    let rest = more.0 in (
      y ∷ rest,
      more.1 ∙ append_assoc before (y ∷ []) rest,
      record {
        long = ap suc more.2.long;
        at = at_place y rest b.1 more.2.at;
      },
    )
  where
    at_place : (y : B) (rest : List B) → read before x ≡ Ok y → ((k : ℕ) → k < length xs → read ((before ++ y ∷ []) ++ take k rest) (get_or xs k d) ≡ Ok (get_or rest k e))
        → (k : ℕ) → k < length (x ∷ xs) → read (before ++ take k (y ∷ rest)) (get_or (x ∷ xs) k d) ≡ Ok (get_or (y ∷ rest) k e)
    at_place y rest first later zero within = rw (append-nil before) first
    at_place y rest first later (suc k) within = rw (← append_assoc before (y ∷ []) (take k rest)) (later k (omega (arith, within)))

pub each_places : {A B E : Type 0} (read : List B → A → Result B E) (ys : List B) (xs : List A) (d : A) (e : B) → each read [] xs ≡ Ok ys → ReadAt read [] xs ys d e
each_places read ys xs d e is =
    let r = each_rest read [] ys xs d e is in
    subst (λ zs. ReadAt read [] xs zs d e) (sym r.1) r.2

pub each_from : {A B E : Type 0} (read : List B → A → Result B E) (before rest : List B) (xs : List A) (d : A) (e : B) → ReadAt read before xs rest d e → each read before xs ≡ Ok (before ++ rest)
unfolding each
each_from {A} {B} {E} read before [] [] d e r = rw (append-nil before) refl
each_from {A} {B} {E} read before (y ∷ rest) [] d e r = absurd (omega (arith, r.long))
each_from {A} {B} {E} read before [] (x ∷ xs) d e r = absurd (omega (arith, r.long))
each_from {A} {B} {E} read before (y ∷ rest) (x ∷ xs) d e r =
    let first : read before x ≡ Ok y = rw (append-nil before) at (r.at 0 (omega arith)) in
    let later : ReadAt read (before ++ y ∷ []) xs rest d e = record {
      long = omega (arith, r.long);
      at = λ k within. rw (append_assoc before (y ∷ []) (take k rest)) (r.at (suc k) (omega (arith, within)));
    } in
    rw (first, ← append_assoc before (y ∷ []) rest) (each_from read (before ++ y ∷ []) rest xs d e later)

-- no item passes a test that finds none
pub none_at : {A : Type 0} (p : A → Bool) (xs : List A) (k : ℕ) (d : A) → list_any p xs ≡ false → k < length xs → p (get_or xs k d) ≡ false
none_at p [] k d is within = absurd (omega (arith, within))
none_at p (x ∷ xs) zero d is within =
    elim (cases_Bool (p x)) [
      | inl yes_x ↦ absurd (false≢true (sym is ∙ rw yes_x refl))
      | inr no_x ↦ no_x
    ]
none_at p (x ∷ xs) (suc k) d is within =
    elim (cases_Bool (p x)) [
      | inl yes_x ↦ absurd (false≢true (sym is ∙ rw yes_x refl))
      | inr no_x ↦ none_at p xs k d (rw no_x at is) (omega (arith, within))
    ]

pub none_from : {A : Type 0} (p : A → Bool) (xs : List A) (d : A) → ((k : ℕ) → k < length xs → p (get_or xs k d) ≡ false) → list_any p xs ≡ false
none_from p [] d h = refl
none_from p (x ∷ xs) d h = rw (h 0 (omega arith)) (none_from p xs d (λ k within. h (suc k) (omega (arith, within))))

-- two lists that agree at each place are one
pub same_lists : {A : Type 0} (xs ys : List A) (d : A) → length xs ≡ length ys → ((k : ℕ) → k < length xs → get_or xs k d ≡ get_or ys k d) → xs ≡ ys
same_lists [] [] d long at = refl
same_lists [] (y ∷ ys) d long at = absurd (omega (arith, long))
same_lists (x ∷ xs) [] d long at = absurd (omega (arith, long))
same_lists (x ∷ xs) (y ∷ ys) d long at =
    let first = at 0 (omega arith) in
    let more = same_lists xs ys d (omega (arith, long)) (λ k within. at (suc k) (omega (arith, within))) in
    λ i. first i ∷ more i
