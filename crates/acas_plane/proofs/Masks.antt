-- Laws of places behind marks, and of the number of places that were not written.
use Rattle.std.proofs.Common.{◌≡◌, ℕ, zero, suc, ◌+◌, ◌<◌, ◌≤◌, ◌⊎◌, ⊎_elim, Bool, true, false, List, [], ◌∷◌, map, length, take, drop, set, replicate, refl, ap, sym, ◌∙◌, arith}
use Rattle.std.specs.Prelude.{Option, Some, None, is_some, slice_get, if◌then◌else◌}
use Rattle.std.specs.Bool.{OnFalse, OnTrue}
use Rattle.std.proofs.lemmas.List.{drop-set-lt, take-set-le}
use Rattle.circular_buffer.specs.Places.{somes}
use Rattle.acas_plane.specs.Fields.{masked}
use Rattle.acas_plane.specs.Plane.{IsFree, IsWritten, missing_in}

-- ---- where nothing was written

pub map-is_some-none : (X : Type 0) (n : ℕ) → let none : Option X = None in map is_some (replicate n none) ≡ replicate n false
map-is_some-none X zero = refl
map-is_some-none X (suc n) = ap (λ l. false ∷ l) (map-is_some-none X n)

pub missing_in-none : (X : Type 0) (n : ℕ) → let none : Option X = None in missing_in (replicate n none) ≡ n
missing_in-none X zero = refl
missing_in-none X (suc n) = omega (arith, missing_in-none X n)

module _ {X : Type 0} where
  pub masked-none : (n : ℕ) (places : List (Option X)) → masked (replicate n false) places ≡ replicate n None
  masked-none zero places = refl
  masked-none (suc n) [] = ap (λ l. None ∷ l) (masked-none n [])
  masked-none (suc n) (c ∷ cs) = ap (λ l. None ∷ l) (masked-none n cs)

  -- ---- where one more place is written

  pub masked-set : (marks : List Bool) (places : List (Option X)) (i : ℕ) (x : X) → i < length places
      → masked (set marks i true) (set places i (Some x)) ≡ set (masked marks places) i (Some x)
  masked-set marks [] i x h = absurd (omega arith)
  masked-set [] (c ∷ cs) i x h = refl
  masked-set (m ∷ ms) (c ∷ cs) zero x h = refl
  masked-set (m ∷ ms) (c ∷ cs) (suc i) x h = ap (λ l. (if m then c else None) ∷ l) (masked-set ms cs i x (omega arith))

  pub missing_in-set : (places : List (Option X)) (i : ℕ) (x : X) → IsFree places i → missing_in places ≡ missing_in (set places i (Some x)) + 1
  missing_in-set [] i x h = cc
  missing_in-set (None ∷ cs) zero x h = refl
  missing_in-set (Some y ∷ cs) zero x h = cc
  missing_in-set (None ∷ cs) (suc i) x h = ap (λ n. n + 1) (missing_in-set cs i x h)
  missing_in-set (Some y ∷ cs) (suc i) x h = missing_in-set cs i x h

  -- ---- where all places were written

  pub some_all : (places : List (Option X)) → missing_in places ≡ 0 → places ≡ map Some (somes places)
  some_all [] h = refl
  some_all (None ∷ cs) h = absurd (omega arith)
  some_all (Some x ∷ cs) h = ap (λ l. Some x ∷ l) (some_all cs h)

  pub masked-whole : (marks : List Bool) (places : List (Option X)) → missing_in (masked marks places) ≡ 0 → take (length marks) places ≡ masked marks places
  masked-whole [] places h = refl
  masked-whole (m ∷ ms) [] h = absurd (omega arith)
  masked-whole (true ∷ ms) (None ∷ cs) h = absurd (omega arith)
  masked-whole (true ∷ ms) (Some x ∷ cs) h = ap (λ l. Some x ∷ l) (masked-whole ms cs h)
  masked-whole (false ∷ ms) (c ∷ cs) h = absurd (omega arith)

  -- ---- what a mark says of its place

  pub told : (places : List (Option X)) (i : ℕ) (mark : Bool) → slice_get (map is_some places) i ≡ Some mark → OnTrue mark (IsWritten places i) × OnFalse mark (IsFree places i)
  told [] i mark h = cc
  told (c ∷ cs) (suc i) mark h = told cs i mark h
  told (None ∷ cs) zero true h = cc
  told (None ∷ cs) zero false h = (tt, refl)
  told (Some x ∷ cs) zero true h = ((x, refl), tt)
  told (Some x ∷ cs) zero false h = cc

  -- ---- the two planes of a row

  -- where a place of one plane is written, the other stays
  pub take-drop-set_other : (places : List X) (count from to n i : ℕ) (x : X) → count ≤ n → i < n → ((to ≡ 0) × (from ≡ n)) ⊎ ((to ≡ n) × (from ≡ 0))
      → take count (drop from (set places (to + i) x)) ≡ take count (drop from places)
  take-drop-set_other places count from to n i x few inside halves = ⊎_elim
      (λ (h : (to ≡ 0) × (from ≡ n)). let before : to + i < from = omega (arith, h.0, h.1) in ap (take count) (drop-set-lt from places (to + i) x before))
      (λ (h : (to ≡ n) × (from ≡ 0)). let past : count ≤ to + i = omega (arith, h.0) in
      let all = λ (l : List X). ap (λ k. take count (drop k l)) h.1 in
      all (set places (to + i) x) ∙ take-set-le count places (to + i) x past ∙ sym (all places))
      halves
