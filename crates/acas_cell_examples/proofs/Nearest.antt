-- Which of the twelve vertices of the model's grid is nearest to a point.
use Rattle.std.proofs.Common.{◌≡◌, ℕ, zero, suc, ◌<◌, ◌≤◌, Bool, true, false, true≢false, ◌&&◌, ◌||◌, nat_le, nat_lt, List, [], ◌∷◌, refl, sym, arith}
use Rattle.std.proofs.lemmas.Bool.Decides.{nat_tests}
use Rattle.std.specs.List.{AllByRecursion, list_all}
use Rattle.acas_spec.specs.declared.place.Point.{Point}
use Rattle.acas_spec.specs.declared.place.Vertex.{Vertex}
use Rattle.acas_grid.specs.Grid.{IsVertex, vertex_number}
use Rattle.acas_process.specs.Step.{share}
use Rattle.acas_replay.specs.Issue.{IsNearestVertex}
use Rattle.acas_cell_examples.specs.Tabled.{stacked, vertex}

abbrev pub twelve : List Vertex
twelve =
    vertex 0 0 0 ∷ vertex 0 0 1 ∷ vertex 0 1 0 ∷ vertex 0 1 1
    ∷ vertex 1 0 0 ∷ vertex 1 0 1 ∷ vertex 1 1 0 ∷ vertex 1 1 1
    ∷ vertex 2 0 0 ∷ vertex 2 0 1 ∷ vertex 2 1 0 ∷ vertex 2 1 1 ∷ []

-- a fact of each of them is one of each vertex of the grid
at_vertex : (P : Vertex → Type 0) → AllByRecursion P twelve → (i j k : ℕ) → i < 3 → j < 2 → k < 2 → P (vertex i j k)
at_vertex P h zero zero zero a b c = h.0
at_vertex P h zero zero (suc zero) a b c = h.1.0
at_vertex P h zero (suc zero) zero a b c = h.1.1.0
at_vertex P h zero (suc zero) (suc zero) a b c = h.1.1.1.0
at_vertex P h (suc zero) zero zero a b c = h.1.1.1.1.0
at_vertex P h (suc zero) zero (suc zero) a b c = h.1.1.1.1.1.0
at_vertex P h (suc zero) (suc zero) zero a b c = h.1.1.1.1.1.1.0
at_vertex P h (suc zero) (suc zero) (suc zero) a b c = h.1.1.1.1.1.1.1.0
at_vertex P h (suc (suc zero)) zero zero a b c = h.1.1.1.1.1.1.1.1.0
at_vertex P h (suc (suc zero)) zero (suc zero) a b c = h.1.1.1.1.1.1.1.1.1.0
at_vertex P h (suc (suc zero)) (suc zero) zero a b c = h.1.1.1.1.1.1.1.1.1.1.0
at_vertex P h (suc (suc zero)) (suc zero) (suc zero) a b c = h.1.1.1.1.1.1.1.1.1.1.1.0
at_vertex P h (suc (suc (suc i))) j k a b c = absurd (omega (arith, a))
at_vertex P h i (suc (suc j)) k a b c = absurd (omega (arith, b))
at_vertex P h i j (suc (suc k)) a b c = absurd (omega (arith, c))

both : (a b : Bool) → a && b ≡ true → (a ≡ true) × (b ≡ true)
both true b e = (refl, e)
both false b e = absurd (true≢false (sym e))

each_of : (f : Vertex → Bool) (xs : List Vertex) → list_all f xs ≡ true → AllByRecursion (λ z. f z ≡ true) xs
each_of f [] e = tt
each_of f (x ∷ xs) e = let p = both (f x) (list_all f xs) e in (p.0, each_of f xs p.1)

-- the vertex y is at least as near as z, and if they are as near as each other, its number is not greater
abbrev pub is_no_farther : Point → Vertex → Vertex → Bool
is_no_farther s y z =
    nat_le (share stacked.grid s z) (share stacked.grid s y)
    && (nat_lt (share stacked.grid s z) (share stacked.grid s y) || nat_le (vertex_number stacked.grid y) (vertex_number stacked.grid z))

meant : (a b m n : ℕ) → nat_le a b && (nat_lt a b || nat_le m n) ≡ true → (a ≤ b) × (a ≡ b → m ≤ n)
meant a b m n e = (grind (arith, nat_tests), λ same. grind (arith, nat_tests))

pub nearest_of : (s : Point) (y : Vertex) → IsVertex stacked.grid y → list_all (is_no_farther s y) twelve ≡ true → IsNearestVertex stacked.grid s y
nearest_of s y v e =
    let fact : (z : Vertex) → IsVertex stacked.grid z → is_no_farther s y z ≡ true = λ z w. at_vertex (λ z. is_no_farther s y z ≡ true) (each_of (is_no_farther s y) twelve e) z.i z.j z.k w.i w.j w.k in
    record {
      vertex = v;
      greatest = λ z w. (meant (share stacked.grid s z) (share stacked.grid s y) (vertex_number stacked.grid y) (vertex_number stacked.grid z) (fact z w)).0;
      least = λ z w. (meant (share stacked.grid s z) (share stacked.grid s y) (vertex_number stacked.grid y) (vertex_number stacked.grid z) (fact z w)).1;
    }
