-- What stands for each turn, one turn after another.
use Rattle.std.proofs.Common.{◌≡◌, ℕ, zero, suc, ◌*◌, ◌≤◌, List, [], ◌∷◌, ◌++◌, length, length-append, refl, ◌∙◌, ap, arith}
use Rattle.std.proofs.lemmas.List.{append-nil}
use Rattle.std.proofs.lemmas.Grind.{flat_map-append}
use Rattle.std.specs.List.{flat_map}
use Rattle.acas_cells.specs.Cells.{below}

-- where each turn has at most b
pub length_below : {X : Type 0} (n b : ℕ) (f : ℕ → List X) → ((i : ℕ) → length (f i) ≤ b) → length (below n f) ≤ n * b
length_below zero b f each = omega arith
length_below (suc n) b f each = grind (arith, length-append (below n f) (f n), length_below n b f each, each n)

-- the same by the turns alone
pub names_eq : {N : Type 0} (n : ℕ) (g h : ℕ → List N) → ((a : ℕ) → g a ≡ h a) → flat_map g (below n (λ a. a ∷ [])) ≡ below n h
names_eq zero g h same = refl
names_eq (suc n) g h same =
    flat_map-append g (below n (λ a. a ∷ [])) (n ∷ [])
    ∙ ap (λ l. l ++ (g n ++ [])) (names_eq n g h same)
    ∙ ap (λ l. below n h ++ l) (append-nil (g n) ∙ same n)
