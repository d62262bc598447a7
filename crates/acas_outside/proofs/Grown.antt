-- Files that are stored, and files that grow piece by piece.
use Rattle.std.proofs.Common.{◌≡◌, ℕ, ◌+◌, ◌-◌, List, [], ◌++◌, length, take, drop, Option, None, Some, IsSome, unwrap_or, is_some, refl, sym, ◌∙◌, ap, subst, arith, append_assoc, length-append}
use Rattle.std.proofs.Math.Seq.{take-add}
use Rattle.std.proofs.lemmas.List.{append-nil}
use Rattle.std.specs.Option.{option_map}
use Rattle.std.specs.FinMap.{get, insert}
use Rattle.acas_outside.specs.Files.{Files, Given, Grows, GrowsPart, Stores, StoresPart}
use Rattle.acas_outside.proofs.Appended.{slice_rest, take-append}
use Rattle.acas_outside.proofs.Inserted.{insert-same, insert-insert, get-insert_same}

held_whole : (o : Option (List ℕ)) → IsSome o → o ≡ Some (unwrap_or o [] ++ [])
held_whole None held = absurd (cc held)
held_whole (Some x) held = ap Some (sym (append-nil x))

-- a file that is held has grown by nothing
pub grows_none : (old : Option Files) (name : List ℕ) → Given old name (λ file. IsSome file) → Grows old old name []
grows_none None name held = refl
grows_none (Some files) name held = ap Some (sym (insert-same files name _ (held_whole (get files name) held)))

-- a file that is stored and then grows is stored with both
pub stores_then : (old mid new : Option Files) (name a b : List ℕ) → Stores old mid name a → Grows mid new name b → Stores old new name (a ++ b)
stores_then None mid new name a b first then =
    then ∙ ap (option_map (λ files. insert files name (unwrap_or (get files name) [] ++ b))) first
stores_then (Some files) mid new name a b first then =
    then
    ∙ ap (option_map (λ m. insert m name (unwrap_or (get m name) [] ++ b))) first
    ∙ ap (λ o. Some (insert (insert files name a) name (unwrap_or o [] ++ b))) (get-insert_same files name a)
    ∙ ap Some (insert-insert files name a (a ++ b))

-- it grows by one piece and then by another
pub grows_twice : (old mid new : Option Files) (name a b : List ℕ) → Grows old mid name a → Grows mid new name b → Grows old new name (a ++ b)
grows_twice None mid new name a b first then =
    then ∙ ap (option_map (λ files. insert files name (unwrap_or (get files name) [] ++ b))) first
grows_twice (Some files) mid new name a b first then =
    subst (λ (l : List ℕ). new ≡ Some (insert files name l)) (append_assoc (unwrap_or (get files name) []) a b)
    (stores_then (Some files) mid new name (unwrap_or (get files name) [] ++ a) b first then)

-- it grows by the first bytes and then by the first of the rest
pub grows_more : (old mid new : Option Files) (name bytes : List ℕ) (at n : ℕ) → Grows old mid name (take at bytes) → Grows mid new name (take n (take (length bytes - at) (drop at bytes))) → Grows old new name (take (at + n) bytes)
grows_more old mid new name bytes at n first then =
    subst (λ (l : List ℕ). Grows old new name l)
    (ap (λ (l : List ℕ). take at bytes ++ take n l) (slice_rest bytes at) ∙ sym (take-add at n bytes))
    (grows_twice old mid new name (take at bytes) (take n (take (length bytes - at) (drop at bytes))) first then)

-- it grows by a whole piece and then by a part of the next one
pub grows_part_behind : (old mid new : Option Files) (name first piece rest : List ℕ) → Grows old mid name first → GrowsPart mid new name piece → GrowsPart old new name (first ++ piece ++ rest)
grows_part_behind old mid new name first piece rest whole part = record {
  count = length first + part.count;
  proper = omega (arith, length-append first piece, length-append (first ++ piece) rest, part.proper);
  grown =
      subst (λ (l : List ℕ). Grows old new name l) (sym (take-append first piece rest part.count (omega (arith, part.proper))))
      (grows_twice old mid new name first (take part.count piece) whole part.grown);
}

-- it is stored and then grows by a part of the next piece
pub stores_part_behind : (old mid new : Option Files) (name first piece rest : List ℕ) → Stores old mid name first → GrowsPart mid new name piece → StoresPart old new name (first ++ piece ++ rest)
stores_part_behind old mid new name first piece rest whole part = record {
  count = length first + part.count;
  proper = omega (arith, length-append first piece, length-append (first ++ piece) rest, part.proper);
  stored =
      subst (λ (l : List ℕ). Stores old new name l) (sym (take-append first piece rest part.count (omega (arith, part.proper))))
      (stores_then old mid new name first (take part.count piece) whole part.grown);
}

-- an empty file that grows by a part of these bytes stores that part
pub stores_part : (old mid new : Option Files) (name bytes : List ℕ) → Stores old mid name [] → GrowsPart mid new name bytes → StoresPart old new name bytes
stores_part old mid new name bytes made part = record {
  count = part.count;
  proper = part.proper;
  stored = stores_then old mid new name [] (take part.count bytes) made part.grown;
}

-- a name that holds what was stored is held
pub held_stored : (old new : Option Files) (name bytes : List ℕ) → Stores old new name bytes → Given new name (λ file. IsSome file)
held_stored None new name bytes stored = subst (λ h. Given h name (λ file. IsSome file)) (sym stored) tt
held_stored (Some files) new name bytes stored =
    subst (λ h. Given h name (λ file. IsSome file)) (sym stored) (ap is_some (get-insert_same files name bytes))

-- a file that grew is held
pub held_grown : (old new : Option Files) (name bytes : List ℕ) → Grows old new name bytes → Given new name (λ file. IsSome file)
held_grown None new name bytes grown = subst (λ h. Given h name (λ file. IsSome file)) (sym grown) tt
held_grown (Some files) new name bytes grown =
    held_stored (Some files) new name (unwrap_or (get files name) [] ++ bytes) grown
