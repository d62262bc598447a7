-- Vertices by their numbers.
use Rattle.std.proofs.Common.{◌≡◌, ℕ, ◌+◌, ◌*◌, ◌/◌, ◌%◌, ◌<◌, length, ap, refl, ◌∙◌, arith}
use Rattle.std.proofs.lemmas.Nat.{div_below, mod_below, same_from_place, mul-add-lt, div-add-mod'}
use Rattle.acas_spec.specs.Model.{GridData, vertices}
use Rattle.acas_grid.specs.Grid.{IsVertex, vertex_number, AreVerticesOneToOne, AreStatesOneToOne}
use Rattle.acas_spec.specs.declared.place.Vertex.{Vertex}

-- a place of a row, of rows of one width
pub row_below : (rows width row place : ℕ) → row < rows → place < width → row * width + place < rows * width
row_below rows width row place p q = omega (arith, mul-add-lt row width place rows p q)

-- a number from its row and its place there, and the row from its own
pub from_parts : (height width n : ℕ) → (n / width / height * height + n / width % height) * width + n % width ≡ n
from_parts height width n = ap (λ (row : ℕ). row * width + n % width) (div-add-mod' (n / width) height) ∙ div-add-mod' n width

-- a number below the count of the places of all rows has a width above 0
pub some_width : (rows width n : ℕ) → n < rows * width → 0 < width
some_width rows width n h = grind arith

same_vertex : (i j k i' j' k' : ℕ) → i ≡ i' → j ≡ j' → k ≡ k' → ◌≡◌ {A = Vertex} (record { i = i; j = j; k = k }) (record { i = i'; j = j'; k = k' })
same_vertex i j k i' j' k' p q r = rw (p, q, r) refl

-- what the numbers of vertices and states are
pub vertices-one_to_one : (g : GridData) → AreVerticesOneToOne g
vertices-one_to_one g = record {
  below = λ y v. row_below (length g.h * length g.v0) (length g.v1) (y.i * length g.v0 + y.j) y.k (row_below (length g.h) (length g.v0) y.i y.j v.i v.j) v.k;
  apart = λ y z v w e.
      let outer = same_from_place (y.i * length g.v0 + y.j) y.k (z.i * length g.v0 + z.j) z.k (length g.v1) v.k w.k e in
      let rows = same_from_place y.i y.j z.i z.j (length g.v0) v.j w.j outer.0 in
      same_vertex y.i y.j y.k z.i z.j z.k rows.0 rows.1 outer.1;
  all = λ n h. all n h;
}
  where
    all : (n : ℕ) → n < vertices g → (y : Vertex) × IsVertex g y × (vertex_number g y ≡ n)
    all n h =
        let width = some_width (length g.h * length g.v0) (length g.v1) n h in
        let row = div_below n (length g.v1) (length g.h * length g.v0) width h in
        let rows = some_width (length g.h) (length g.v0) (n / length g.v1) row in (
          record { i = n / length g.v1 / length g.v0; j = n / length g.v1 % length g.v0; k = n % length g.v1 },
          record { i = div_below (n / length g.v1) (length g.v0) (length g.h) rows row; j = mod_below (n / length g.v1) (length g.v0) rows; k = mod_below n (length g.v1) width },
          from_parts (length g.v0) (length g.v1) n,
        )

pub states-one_to_one : (g : GridData) → AreStatesOneToOne g
states-one_to_one g = record {
  below = λ p x q v. row_below g.advisories (vertices g) p x q v;
  apart = λ p q x y v w e. same_from_place p x q y (vertices g) v w e;
  all = λ n h.
      let width = some_width g.advisories (vertices g) n h in
      (n / vertices g, n % vertices g, div_below n (vertices g) g.advisories width h, mod_below n (vertices g) width, div-add-mod' n (vertices g));
}
