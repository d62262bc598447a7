-- Which cells under an advice are advisory cells, and which cells are clear.
use Rattle.std.proofs.Common.{◌≡◌, ℕ, zero, suc, ◌∷◌, ◌+◌, ◌-◌, ◌<◌, ◌≤◌, inl, inr, ◌==◌, ◌&&◌, not, true, false, Bool, [], ◌++◌, cond, length, refl, sym, ◌∙◌, ap, subst, arith}
use Rattle.std.specs.List.{AllByRecursion, Contains}
use Rattle.std.proofs.lemmas.Bool.{cases_lt, false_from_ne_true}
use Rattle.std.proofs.lemmas.Bool.Decides.{nat_tests}
use Rattle.std.proofs.lemmas.Nat.{mul-add-lt}
use Rattle.acas_spec.specs.Model.{ModelData, vertices}
use Rattle.acas_spec.specs.declared.place.Vertex.{Vertex}
use Rattle.acas_grid.specs.Grid.{IsVertex, state_number, vertex_number}
use Rattle.acas_base.specs.Advices.{AdvicesData, AreAdvices, AreAdvicesOf, advice_place}
use Rattle.acas_cells.specs.Cells.{Cell, IsCellOf, below, cells_of}
use Rattle.acas_cells.specs.Corners.{advice_at_vertex, advisory_cells, corners, is_advised, is_at_corner, is_clear_cell, names_at, under, vertex_at}
use Rattle.acas_cells.specs.Order.{IsAdvisoryCell, IsCorner, IsPlaceOrNext, IsTabledAt, cell_of}
use Rattle.acas_cells.specs.Sets.{has_no_advisory, holds}
use Rattle.acas_cells.specs.declared.name.CellName.{CellName}
use Rattle.acas_cells.specs.declared.set.AdviceSet.{AdviceSet}
use Rattle.acas_grid.proofs.Vertices.{vertices-one_to_one, states-one_to_one}
use Rattle.acas_cells.proofs.Lists.{all_of, all_or_one, all_pass, any_from, in_flat_map, of_flat_map, one_of_any}
use Rattle.acas_cells.proofs.Members.{no_advisory_from, none_from_no_advisory}
use Rattle.acas_cells.proofs.Order.{in_cells, in_names, of_cells, of_names}

-- ---- tests

same_number : (x y : ℕ) → (x == y) ≡ true → x ≡ y
same_number x y h = grind (arith, nat_tests)

number_same : (x y : ℕ) → x ≡ y → (x == y) ≡ true
number_same x y h = grind (arith, nat_tests)

other_number : (x : ℕ) → (x == 0) ≡ false → 0 < x
other_number x h = grind (arith, nat_tests)

not_zero : (x : ℕ) → 0 < x → (x == 0) ≡ false
not_zero x h = grind (arith, nat_tests)

both_true : (x y : Bool) → x ≡ false → y ≡ true → (not x && y) ≡ true
both_true false true h r = refl
both_true false false h r = r
both_true true y h r = absurd (cc)

parts_of : (x y : Bool) → (not x && y) ≡ true → (x ≡ false) × (y ≡ true)
parts_of false y h = (refl, h)
parts_of true y h = absurd (cc)

-- ---- the eight corners

of_corners : (c : Cell) (y : Vertex) → Contains (corners c.i c.j c.k) y → IsCorner c y
of_corners c y there =
    let all : AllByRecursion (IsCorner c) (corners c.i c.j c.k) = (
      record { i = inl refl; j = inl refl; k = inl refl },
      (
        record { i = inl refl; j = inl refl; k = inr refl },
        (
          record { i = inl refl; j = inr refl; k = inl refl },
          (
            record { i = inl refl; j = inr refl; k = inr refl },
            (
              record { i = inr refl; j = inl refl; k = inl refl },
              (
                record { i = inr refl; j = inl refl; k = inr refl },
                (
                  record { i = inr refl; j = inr refl; k = inl refl },
                  (record { i = inr refl; j = inr refl; k = inr refl }, tt),
                ),
              ),
            ),
          ),
        ),
      ),
    ) in
    all_of (IsCorner c) (corners c.i c.j c.k) y all there

same_vertex : (i j k : ℕ) (y : Vertex) → y.i ≡ i → y.j ≡ j → y.k ≡ k → vertex_at i j k ≡ y
same_vertex i j k y ei ej ek =
    sym (ap (λ (i : ℕ). vertex_at i y.j y.k) ei ∙ ap (λ (j : ℕ). vertex_at i j y.k) ej ∙ ap (λ (k : ℕ). vertex_at i j k) ek)

in_corners : (c : Cell) (y : Vertex) → IsPlaceOrNext c.i y.i → IsPlaceOrNext c.j y.j → IsPlaceOrNext c.k y.k → Contains (corners c.i c.j c.k) y
in_corners c y (inl a) (inl b) (inl d) = (0, omega arith, same_vertex c.i c.j c.k y a b d)
in_corners c y (inl a) (inl b) (inr d) = (1, omega arith, same_vertex c.i c.j (c.k + 1) y a b d)
in_corners c y (inl a) (inr b) (inl d) = (2, omega arith, same_vertex c.i (c.j + 1) c.k y a b d)
in_corners c y (inl a) (inr b) (inr d) = (3, omega arith, same_vertex c.i (c.j + 1) (c.k + 1) y a b d)
in_corners c y (inr a) (inl b) (inl d) = (4, omega arith, same_vertex (c.i + 1) c.j c.k y a b d)
in_corners c y (inr a) (inl b) (inr d) = (5, omega arith, same_vertex (c.i + 1) c.j (c.k + 1) y a b d)
in_corners c y (inr a) (inr b) (inl d) = (6, omega arith, same_vertex (c.i + 1) (c.j + 1) c.k y a b d)
in_corners c y (inr a) (inr b) (inr d) = (7, omega arith, same_vertex (c.i + 1) (c.j + 1) (c.k + 1) y a b d)

place_within : (length place p : ℕ) → place + 1 < length → IsPlaceOrNext place p → p < length
place_within length place p within (inl e) = omega (arith, within, e)
place_within length place p within (inr e) = omega (arith, within, e)

-- a corner of a cell is a vertex of the grid
pub corner_is_vertex : (m : ModelData) (c : Cell) (y : Vertex) → IsCellOf m c → IsCorner c y → IsVertex m.grid y
corner_is_vertex m c y cell corner = record {
  i = place_within (length m.grid.h) c.i y.i cell.i corner.i;
  j = place_within (length m.grid.v0) c.j y.j cell.j corner.j;
  k = place_within (length m.grid.v1) c.k y.k cell.k corner.k;
}

-- ---- what is tabled at them

-- an advice at a corner is the number of an advisory
known_advice : (m : ModelData) (a : AdvicesData) (c : Cell) (y : Vertex) → AreAdvices a → AreAdvicesOf m a → IsCellOf m c → IsCorner c y →
    advice_at_vertex m a c.n c.present y < m.grid.advisories
known_advice m a c y are of cell corner =
    let number = vertex_number m.grid y in
    let inside : number < vertices m.grid = (vertices-one_to_one m.grid).below y (corner_is_vertex m c y cell corner) in
    let state : state_number m.grid c.present number < a.states = rw of.states ((states-one_to_one m.grid).below c.present number cell.present inside) in
    let n : c.n + 1 - 1 < a.horizon = omega (arith, cell.n, of.horizon) in
    let within = mul-add-lt (c.n + 1 - 1) a.states (state_number m.grid c.present number) a.horizon n state in
    let known = are.known (advice_place a (c.n + 1) (state_number m.grid c.present number)) (rw of.count (omega (arith, within))) in
    omega (arith, known, of.advisories)

pub tabled_from : (m : ModelData) (a : AdvicesData) (c : Cell) (advice : ℕ) → is_at_corner m a c advice ≡ true → IsTabledAt m a c advice
tabled_from m a c advice at =
    let r = one_of_any (λ y. advice == advice_at_vertex m a c.n c.present y) (corners c.i c.j c.k) at in
    record { corner = r.0; is_corner = of_corners c r.0 r.1; tabled = sym (same_number advice (advice_at_vertex m a c.n c.present r.0) r.2) }

pub at_from : (m : ModelData) (a : AdvicesData) (c : Cell) (advice : ℕ) → IsTabledAt m a c advice → is_at_corner m a c advice ≡ true
at_from m a c advice is =
    any_from (λ y. advice == advice_at_vertex m a c.n c.present y) (corners c.i c.j c.k) is.corner
    (in_corners c is.corner is.is_corner.i is.is_corner.j is.is_corner.k)
    (number_same advice (advice_at_vertex m a c.n c.present is.corner) (sym is.tabled))

-- the same in numbers
place_from : (place p : ℕ) → IsPlaceOrNext place p → (place ≤ p) × (p ≤ place + 1)
place_from place p (inl e) = (omega (arith, e), omega (arith, e))
place_from place p (inr e) = (omega (arith, e), omega (arith, e))

place_to : (place p : ℕ) → place ≤ p → p ≤ place + 1 → IsPlaceOrNext place p
place_to place p low high = elim (cases_lt place p) [ inl above ↦ inr (omega (arith, above, high)) | inr same ↦ inl (omega (arith, same, low)) ]

pub corner_places : (c : Cell) (y : Vertex) → IsCorner c y → (c.i ≤ y.i) × (y.i ≤ c.i + 1) × (c.j ≤ y.j) × (y.j ≤ c.j + 1) × (c.k ≤ y.k) × (y.k ≤ c.k + 1)
corner_places c y is =
    let i = place_from c.i y.i is.i in
    let j = place_from c.j y.j is.j in
    let k = place_from c.k y.k is.k in
    (i.0, i.1, j.0, j.1, k.0, k.1)

pub corner_of_places : (c : Cell) (y : Vertex) → c.i ≤ y.i → y.i ≤ c.i + 1 → c.j ≤ y.j → y.j ≤ c.j + 1 → c.k ≤ y.k → y.k ≤ c.k + 1 → IsCorner c y
corner_of_places c y li hi lj hj lk hk = record { i = place_to c.i y.i li hi; j = place_to c.j y.j lj hj; k = place_to c.k y.k lk hk }

advised_from : (m : ModelData) (a : AdvicesData) (c : Cell) (advice : ℕ) → 0 < advice → is_at_corner m a c advice ≡ true → is_advised m a c advice ≡ true
advised_from m a c advice some at = both_true (advice == 0) (is_at_corner m a c advice) (not_zero advice some) at

-- ---- advisory cells

pub of_advisory_cells : (m : ModelData) (a : AdvicesData) (name : CellName) → Contains (advisory_cells m a) name → IsAdvisoryCell m a name
of_advisory_cells m a name there =
    let r = of_flat_map (names_at m a) (cells_of m) name there in
    let is = of_names m a r.0 name r.2 in
    let cell = of_cells m r.0 r.1 in
    let parts = parts_of (name.advice == 0) (is_at_corner m a r.0 name.advice) is.advised in
    subst (λ (c : Cell). IsCellOf m c → (is_at_corner m a c name.advice ≡ true) → IsAdvisoryCell m a name) is.cell_is
    (λ within at. record { cell = within; not_clear = other_number name.advice parts.0; tabled = tabled_from m a (cell_of name) name.advice at })
    cell parts.1

pub in_advisory_cells : (m : ModelData) (a : AdvicesData) (name : CellName) → AreAdvices a → AreAdvicesOf m a → IsAdvisoryCell m a name → Contains (advisory_cells m a) name
in_advisory_cells m a name are of is =
    let tabled = is.tabled in
    let known = known_advice m a (cell_of name) tabled.corner are of is.cell tabled.is_corner in
    in_flat_map (names_at m a) (cells_of m) (cell_of name) name (in_cells m (cell_of name) is.cell)
    (in_names m a (cell_of name) name (record {
      cell_is = refl;
      known = rw (sym tabled.tabled) known;
      advised = advised_from m a (cell_of name) name.advice is.not_clear (at_from m a (cell_of name) name.advice tabled);
    }))

-- ---- clear cells

pub clear_has_none : (m : ModelData) (a : AdvicesData) (c : Cell) → is_clear_cell m a c ≡ true → (advice : ℕ) → IsAdvisoryCell m a (under c advice) → ⊥
clear_has_none m a c clear advice is =
    let tabled = is.tabled in
    let corner = tabled.is_corner in
    let zero_there = all_pass (λ y. advice_at_vertex m a c.n c.present y == 0) (corners c.i c.j c.k) tabled.corner clear (in_corners c tabled.corner corner.i corner.j corner.k) in
    let none = same_number (advice_at_vertex m a c.n c.present tabled.corner) 0 zero_there in
    omega (arith, none, tabled.tabled, is.not_clear)

pub clear_from_none : (m : ModelData) (a : AdvicesData) (c : Cell) → IsCellOf m c → ((advice : ℕ) → IsAdvisoryCell m a (under c advice) → ⊥) → is_clear_cell m a c ≡ true
clear_from_none m a c cell none =
    elim (all_or_one (λ y. advice_at_vertex m a c.n c.present y == 0) (corners c.i c.j c.k)) [
      | inl all ↦ all
      | inr one ↦ absurd (none (advice_at_vertex m a c.n c.present one.0) (record {
        cell = cell;
        not_clear = other_number (advice_at_vertex m a c.n c.present one.0) one.2;
        tabled = record { corner = one.0; is_corner = of_corners c one.0 one.1; tabled = refl };
      }))
    ]

-- no advisory is tabled at the corners of a clear cell
clear_advised : (m : ModelData) (a : AdvicesData) (c : Cell) → is_clear_cell m a c ≡ true → (advice : ℕ) → is_advised m a c advice ≡ false
clear_advised m a c clear advice =
    false_from_ne_true (is_advised m a c advice) (λ is.
    let parts = parts_of (advice == 0) (is_at_corner m a c advice) is in
    let tabled = tabled_from m a c advice parts.1 in
    let corner = tabled.is_corner in
    let zero_there = all_pass (λ y. advice_at_vertex m a c.n c.present y == 0) (corners c.i c.j c.k) tabled.corner clear (in_corners c tabled.corner corner.i corner.j corner.k) in
    let none = same_number (advice_at_vertex m a c.n c.present tabled.corner) 0 zero_there in
    omega (arith, none, tabled.tabled, other_number advice parts.0))

-- a cell at whose corners no advisory is tabled is clear
clear_from_advised : (m : ModelData) (a : AdvicesData) (c : Cell) → ((advice : ℕ) → 0 < advice → is_advised m a c advice ≡ false) → is_clear_cell m a c ≡ true
clear_from_advised m a c none =
    elim (all_or_one (λ y. advice_at_vertex m a c.n c.present y == 0) (corners c.i c.j c.k)) [
      | inl all ↦ all
      | inr one ↦
          let advice = advice_at_vertex m a c.n c.present one.0 in
          let some = other_number advice one.2 in
          let at = at_from m a c advice (record { corner = one.0; is_corner = of_corners c one.0 one.1; tabled = refl }) in
          absurd (differ (is_advised m a c advice) (advised_from m a c advice some at) (none advice some))
    ]
  where
    differ : (x : Bool) → x ≡ true → x ≡ false → ⊥
    differ x e f = cc

same_answers : (x y : Bool) → (x ≡ true → y ≡ true) → (y ≡ true → x ≡ true) → x ≡ y
same_answers true y there back = sym (there refl)
same_answers false true there back = back refl
same_answers false false there back = refl

-- a set of the advisories at the corners of a cell has none where the cell is clear
pub clear_by_set : (m : ModelData) (a : AdvicesData) (c : Cell) (s : AdviceSet) → ((advice : ℕ) → holds s advice ≡ is_advised m a c advice) →
    has_no_advisory s ≡ is_clear_cell m a c
clear_by_set m a c s exact =
    same_answers (has_no_advisory s) (is_clear_cell m a c)
    (λ none. clear_from_advised m a c (λ advice some. sym (exact advice) ∙ none_from_no_advisory s none advice some))
    (λ clear. no_advisory_from s (λ advice some. exact advice ∙ clear_advised m a c clear advice))

-- a clear cell has no name under an advice
pub clear_names : (m : ModelData) (a : AdvicesData) (c : Cell) → is_clear_cell m a c ≡ true → names_at m a c ≡ []
clear_names m a c clear = none_below m.grid.advisories
  where
    none_below : (count : ℕ) → below count (λ advice. cond (is_advised m a c advice) (under c advice ∷ []) []) ≡ []
    none_below zero = refl
    none_below (suc count) =
        ap (λ l. l ++ cond (is_advised m a c count) (under c count ∷ []) []) (none_below count)
        ∙ ap (λ b. cond b (under c count ∷ []) []) (clear_advised m a c clear count)
