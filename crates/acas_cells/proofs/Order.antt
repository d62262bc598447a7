-- Cells and advisory cells are in the order of their numbers.
use Rattle.std.proofs.Common.{◌≡◌, ℕ, ◌+◌, ◌-◌, ◌<◌, List, [], ◌∷◌, ◌++◌, length, refl, sym, ◌∙◌, ap, subst, arith, if◌then◌else◌, true, false, Bool}
use Rattle.std.specs.List.{Contains}
use Rattle.std.specs.List.Sorted.{IsStrictlySortedBy}
use Rattle.std.specs.Ordering.{nat_cmp, ordering_then}
use Rattle.std.specs.Cmp.{nat_cmp_is}
use Rattle.std.specs.Cmp.Lexicographic.{slice_cmp}
use Rattle.std.specs.declared.cmp.Ordering.{Ordering}
use Rattle.std.specs.declared.cmp.Ordering.TheVariants.{Less, Equal, Greater}
use Rattle.acas_spec.specs.Model.{ModelData}
use Rattle.acas_base.specs.Advices.{AdvicesData}
use Rattle.acas_cells.specs.Cells.{Cell, IsCellOf, cell_at, row_cells, plane_cells, block_cells, layer_cells, cells_of}
use Rattle.acas_cells.specs.Corners.{is_advised, names_at, under, advisory_cells}
use Rattle.acas_cells.specs.Order.{by_numbers, by_places, cell_of, places}
use Rattle.acas_cells.specs.declared.name.CellName.{CellName}
use Rattle.acas_cells.proofs.Lists.{not_in_none, of_below, in_below, of_one, in_one, sorted_below, sorted_flat_map}

-- ---- lists of numbers

less_here : (x y : ℕ) (xs ys : List ℕ) → x < y → slice_cmp nat_cmp (x ∷ xs) (y ∷ ys) ≡ Less
less_here x y xs ys less = rw (← nat_cmp_is x y Less less) refl

same_then : (x y : ℕ) (xs ys : List ℕ) → x ≡ y → slice_cmp nat_cmp xs ys ≡ Less → slice_cmp nat_cmp (x ∷ xs) (y ∷ ys) ≡ Less
same_then x y xs ys e rest = rw (← nat_cmp_is x y Equal e) rest

-- ---- the order of two cells

before_by_n : (x y : Cell) → x.n < y.n → by_places x y ≡ Less
before_by_n x y less =
    less_here x.n y.n (x.present ∷ x.i ∷ x.j ∷ x.k ∷ []) (y.present ∷ y.i ∷ y.j ∷ y.k ∷ []) less

before_by_present : (x y : Cell) → x.n ≡ y.n → x.present < y.present → by_places x y ≡ Less
before_by_present x y e0 less =
    same_then x.n y.n (x.present ∷ x.i ∷ x.j ∷ x.k ∷ []) (y.present ∷ y.i ∷ y.j ∷ y.k ∷ []) e0
    (less_here x.present y.present (x.i ∷ x.j ∷ x.k ∷ []) (y.i ∷ y.j ∷ y.k ∷ []) less)

before_by_i : (x y : Cell) → x.n ≡ y.n → x.present ≡ y.present → x.i < y.i → by_places x y ≡ Less
before_by_i x y e0 e1 less =
    same_then x.n y.n (x.present ∷ x.i ∷ x.j ∷ x.k ∷ []) (y.present ∷ y.i ∷ y.j ∷ y.k ∷ []) e0
    (same_then x.present y.present (x.i ∷ x.j ∷ x.k ∷ []) (y.i ∷ y.j ∷ y.k ∷ []) e1
    (less_here x.i y.i (x.j ∷ x.k ∷ []) (y.j ∷ y.k ∷ []) less))

before_by_j : (x y : Cell) → x.n ≡ y.n → x.present ≡ y.present → x.i ≡ y.i → x.j < y.j → by_places x y ≡ Less
before_by_j x y e0 e1 e2 less =
    same_then x.n y.n (x.present ∷ x.i ∷ x.j ∷ x.k ∷ []) (y.present ∷ y.i ∷ y.j ∷ y.k ∷ []) e0
    (same_then x.present y.present (x.i ∷ x.j ∷ x.k ∷ []) (y.i ∷ y.j ∷ y.k ∷ []) e1
    (same_then x.i y.i (x.j ∷ x.k ∷ []) (y.j ∷ y.k ∷ []) e2
    (less_here x.j y.j (x.k ∷ []) (y.k ∷ []) less)))

before_by_k : (x y : Cell) → x.n ≡ y.n → x.present ≡ y.present → x.i ≡ y.i → x.j ≡ y.j → x.k < y.k → by_places x y ≡ Less
before_by_k x y e0 e1 e2 e3 less =
    same_then x.n y.n (x.present ∷ x.i ∷ x.j ∷ x.k ∷ []) (y.present ∷ y.i ∷ y.j ∷ y.k ∷ []) e0
    (same_then x.present y.present (x.i ∷ x.j ∷ x.k ∷ []) (y.i ∷ y.j ∷ y.k ∷ []) e1
    (same_then x.i y.i (x.j ∷ x.k ∷ []) (y.j ∷ y.k ∷ []) e2
    (same_then x.j y.j (x.k ∷ []) (y.k ∷ []) e3
    (less_here x.k y.k [] [] less))))

-- ---- cells

-- a cell of a row
pub record IsInRow (m : ModelData) (n present i j : ℕ) (c : Cell) : Type 0 where
  pub n_is : c.n ≡ n
  pub present_is : c.present ≡ present
  pub i_is : c.i ≡ i
  pub j_is : c.j ≡ j
  pub k : c.k + 1 < length m.grid.v1

of_row : (m : ModelData) (n present i j : ℕ) (c : Cell) → Contains (row_cells m n present i j) c → IsInRow m n present i j c
of_row m n present i j c there =
    let r = of_below (length m.grid.v1 - 1) (λ k. cell_at n present i j k ∷ []) c there in
    let e = of_one (cell_at n present i j r.0) c r.2 in
    subst (λ c. IsInRow m n present i j c) e (record { n_is = refl; present_is = refl; i_is = refl; j_is = refl; k = (let less : r.0 < length m.grid.v1 - 1 = r.1 in omega (arith, less)) })

-- a cell of a plane
pub record IsInPlane (m : ModelData) (n present i : ℕ) (c : Cell) : Type 0 where
  pub n_is : c.n ≡ n
  pub present_is : c.present ≡ present
  pub i_is : c.i ≡ i
  pub j : c.j + 1 < length m.grid.v0
  pub k : c.k + 1 < length m.grid.v1

of_plane : (m : ModelData) (n present i : ℕ) (c : Cell) → Contains (plane_cells m n present i) c → IsInPlane m n present i c
of_plane m n present i c there =
    let r = of_below (length m.grid.v0 - 1) (row_cells m n present i) c there in
    let row = of_row m n present i r.0 c r.2 in
    let less : r.0 < length m.grid.v0 - 1 = r.1 in
    record { n_is = row.n_is; present_is = row.present_is; i_is = row.i_is; j = omega (arith, less, row.j_is); k = row.k }

-- a cell of a block
pub record IsInBlock (m : ModelData) (n present : ℕ) (c : Cell) : Type 0 where
  pub n_is : c.n ≡ n
  pub present_is : c.present ≡ present
  pub i : c.i + 1 < length m.grid.h
  pub j : c.j + 1 < length m.grid.v0
  pub k : c.k + 1 < length m.grid.v1

of_block : (m : ModelData) (n present : ℕ) (c : Cell) → Contains (block_cells m n present) c → IsInBlock m n present c
of_block m n present c there =
    let r = of_below (length m.grid.h - 1) (plane_cells m n present) c there in
    let plane = of_plane m n present r.0 c r.2 in
    let less : r.0 < length m.grid.h - 1 = r.1 in
    record { n_is = plane.n_is; present_is = plane.present_is; i = omega (arith, less, plane.i_is); j = plane.j; k = plane.k }

-- a cell of a layer
pub record IsInLayer (m : ModelData) (n : ℕ) (c : Cell) : Type 0 where
  pub n_is : c.n ≡ n
  pub present : c.present < m.grid.advisories
  pub i : c.i + 1 < length m.grid.h
  pub j : c.j + 1 < length m.grid.v0
  pub k : c.k + 1 < length m.grid.v1

of_layer : (m : ModelData) (n : ℕ) (c : Cell) → Contains (layer_cells m n) c → IsInLayer m n c
of_layer m n c there =
    let r = of_below m.grid.advisories (block_cells m n) c there in
    let block = of_block m n r.0 c r.2 in
    let less : r.0 < m.grid.advisories = r.1 in
    record { n_is = block.n_is; present = omega (arith, less, block.present_is); i = block.i; j = block.j; k = block.k }

pub of_cells : (m : ModelData) (c : Cell) → Contains (cells_of m) c → IsCellOf m c
of_cells m c there =
    let r = of_below m.grid.horizon (layer_cells m) c there in
    let layer = of_layer m r.0 c r.2 in
    let less : r.0 < m.grid.horizon = r.1 in
    record { n = omega (arith, less, layer.n_is); present = layer.present; i = layer.i; j = layer.j; k = layer.k }

pub in_cells : (m : ModelData) (c : Cell) → IsCellOf m c → Contains (cells_of m) c
in_cells m c is =
    in_below m.grid.horizon (layer_cells m) c.n c is.n
    (in_below m.grid.advisories (block_cells m c.n) c.present c is.present
    (in_below (length m.grid.h - 1) (plane_cells m c.n c.present) c.i c (omega (arith, is.i))
    (in_below (length m.grid.v0 - 1) (row_cells m c.n c.present c.i) c.j c (omega (arith, is.j))
    (in_below (length m.grid.v1 - 1) (λ k. cell_at c.n c.present c.i c.j k ∷ []) c.k c (omega (arith, is.k))
    (in_one c c refl)))))

-- ---- their order

sorted_row : (m : ModelData) (n present i j : ℕ) → IsStrictlySortedBy by_places (row_cells m n present i j)
unfolding IsStrictlySortedBy
sorted_row m n present i j =
    sorted_below by_places (length m.grid.v1 - 1) (λ k. cell_at n present i j k ∷ [])
    (λ k within. (tt, tt))
    (λ k l less. record {
      each = λ x y of there.
          let e = of_one (cell_at n present i j k) x of in
          let f = of_one (cell_at n present i j l) y there in
          subst (λ x. by_places x y ≡ Less) e (subst (λ y. by_places (cell_at n present i j k) y ≡ Less) f
          (before_by_k (cell_at n present i j k) (cell_at n present i j l) refl refl refl refl less));
    })

sorted_plane : (m : ModelData) (n present i : ℕ) → IsStrictlySortedBy by_places (plane_cells m n present i)
sorted_plane m n present i =
    sorted_below by_places (length m.grid.v0 - 1) (row_cells m n present i)
    (λ j within. sorted_row m n present i j)
    (λ j l less. record {
      each = λ x y of there.
          let a = of_row m n present i j x of in
          let b = of_row m n present i l y there in
          before_by_j x y (a.n_is ∙ sym b.n_is) (a.present_is ∙ sym b.present_is) (a.i_is ∙ sym b.i_is) (omega (arith, a.j_is, b.j_is, less));
    })

sorted_block : (m : ModelData) (n present : ℕ) → IsStrictlySortedBy by_places (block_cells m n present)
sorted_block m n present =
    sorted_below by_places (length m.grid.h - 1) (plane_cells m n present)
    (λ i within. sorted_plane m n present i)
    (λ i l less. record {
      each = λ x y of there.
          let a = of_plane m n present i x of in
          let b = of_plane m n present l y there in
          before_by_i x y (a.n_is ∙ sym b.n_is) (a.present_is ∙ sym b.present_is) (omega (arith, a.i_is, b.i_is, less));
    })

sorted_layer : (m : ModelData) (n : ℕ) → IsStrictlySortedBy by_places (layer_cells m n)
sorted_layer m n =
    sorted_below by_places m.grid.advisories (block_cells m n)
    (λ present within. sorted_block m n present)
    (λ p l less. record {
      each = λ x y of there.
          let a = of_block m n p x of in
          let b = of_block m n l y there in
          before_by_present x y (a.n_is ∙ sym b.n_is) (omega (arith, a.present_is, b.present_is, less));
    })

pub sorted_cells : (m : ModelData) → IsStrictlySortedBy by_places (cells_of m)
sorted_cells m =
    sorted_below by_places m.grid.horizon (layer_cells m)
    (λ n within. sorted_layer m n)
    (λ n l less. record {
      each = λ x y of there.
          let a = of_layer m n x of in
          let b = of_layer m l y there in
          before_by_n x y (omega (arith, a.n_is, b.n_is, less));
    })

-- ---- names

step_after : (o r s : Ordering) → (r ≡ Less → s ≡ Less) → ordering_then o r ≡ Less → ordering_then o s ≡ Less
step_after Less r s h e = refl
step_after Equal r s h e = h e
step_after Greater r s h e = e

-- numbers that come after do not change an order
more_after : (xs ys zs ws : List ℕ) → length xs ≡ length ys → slice_cmp nat_cmp xs ys ≡ Less → slice_cmp nat_cmp (xs ++ zs) (ys ++ ws) ≡ Less
more_after [] [] zs ws long less = absurd (cc)
more_after [] (y ∷ ys) zs ws long less = absurd (omega (arith, long))
more_after (x ∷ xs) [] zs ws long less = absurd (omega (arith, long))
more_after (x ∷ xs) (y ∷ ys) zs ws long less =
    step_after (nat_cmp x y) (slice_cmp nat_cmp xs ys) (slice_cmp nat_cmp (xs ++ zs) (ys ++ ws)) (more_after xs ys zs ws (omega (arith, long))) less

-- an advisory cell of a cell
pub record IsNameAt (m : ModelData) (a : AdvicesData) (c : Cell) (name : CellName) : Type 0 where
  pub cell_is : cell_of name ≡ c
  pub known : name.advice < m.grid.advisories
  pub advised : is_advised m a c name.advice ≡ true

-- the name of a cell under an advice, if it is advised
of_chosen : (c : Cell) (advice : ℕ) (b : Bool) (name : CellName) → Contains (if b then under c advice ∷ [] else []) name → (b ≡ true) × (under c advice ≡ name)
of_chosen c advice true name there = (refl, of_one (under c advice) name there)
of_chosen c advice false name there = absurd (not_in_none name there)

in_chosen : (c : Cell) (advice : ℕ) (b : Bool) (name : CellName) → b ≡ true → under c advice ≡ name → Contains (if b then under c advice ∷ [] else []) name
in_chosen c advice true name e is = in_one (under c advice) name is
in_chosen c advice false name e is = absurd (cc)

pub of_names : (m : ModelData) (a : AdvicesData) (c : Cell) (name : CellName) → Contains (names_at m a c) name → IsNameAt m a c name
of_names m a c name there =
    let r = of_below m.grid.advisories (λ b. if is_advised m a c b then under c b ∷ [] else []) name there in
    let s = of_chosen c r.0 (is_advised m a c r.0) name r.2 in
    subst (λ name. IsNameAt m a c name) s.1 (record { cell_is = refl; known = r.1; advised = s.0 })

pub in_names : (m : ModelData) (a : AdvicesData) (c : Cell) (name : CellName) → IsNameAt m a c name → Contains (names_at m a c) name
in_names m a c name is =
    in_below m.grid.advisories (λ b. if is_advised m a c b then under c b ∷ [] else []) name.advice name is.known
    (in_chosen c name.advice (is_advised m a c name.advice) name is.advised (ap (λ (d : Cell). under d name.advice) (sym is.cell_is)))

sorted_chosen : (c : Cell) (advice : ℕ) (b : Bool) → IsStrictlySortedBy by_numbers (if b then under c advice ∷ [] else [])
unfolding IsStrictlySortedBy
sorted_chosen c advice true = (tt, tt)
sorted_chosen c advice false = tt

-- names of one cell are in the order of their advices
before_by_advice : (x y : CellName) → cell_of x ≡ cell_of y → x.advice < y.advice → by_numbers x y ≡ Less
before_by_advice x y e less = same_start (places (cell_of x)) (places (cell_of y)) (ap places e)
  where
    same_start : (xs ys : List ℕ) → xs ≡ ys → slice_cmp nat_cmp (xs ++ x.advice ∷ []) (ys ++ y.advice ∷ []) ≡ Less
    same_start xs ys same = subst (λ ys. slice_cmp nat_cmp (xs ++ x.advice ∷ []) (ys ++ y.advice ∷ []) ≡ Less) same (start xs)
      where
        start : (xs : List ℕ) → slice_cmp nat_cmp (xs ++ x.advice ∷ []) (xs ++ y.advice ∷ []) ≡ Less
        start [] = less_here x.advice y.advice [] [] less
        start (z ∷ zs) = same_then z z (zs ++ x.advice ∷ []) (zs ++ y.advice ∷ []) refl (start zs)

sorted_names : (m : ModelData) (a : AdvicesData) (c : Cell) → IsStrictlySortedBy by_numbers (names_at m a c)
sorted_names m a c =
    sorted_below by_numbers m.grid.advisories (λ b. if is_advised m a c b then under c b ∷ [] else [])
    (λ b within. sorted_chosen c b (is_advised m a c b))
    (λ b d less. record {
      each = λ x y of there.
          let s = of_chosen c b (is_advised m a c b) x of in
          let t = of_chosen c d (is_advised m a c d) y there in
          subst (λ x. by_numbers x y ≡ Less) s.1 (subst (λ y. by_numbers (under c b) y ≡ Less) t.1
          (before_by_advice (under c b) (under c d) refl less));
    })

pub sorted_advisory_cells : (m : ModelData) (a : AdvicesData) → IsStrictlySortedBy by_numbers (advisory_cells m a)
sorted_advisory_cells m a =
    sorted_flat_map by_places by_numbers (names_at m a) (cells_of m) (sorted_cells m) (sorted_names m a)
    (λ c d less. record {
      each = λ x y of there.
          let e = (of_names m a c x of).cell_is in
          let f = (of_names m a d y there).cell_is in
          more_after (places (cell_of x)) (places (cell_of y)) (x.advice ∷ []) (y.advice ∷ []) refl
          (subst (λ (z : Cell). by_places z (cell_of y) ≡ Less) (sym e) (subst (λ (z : Cell). by_places c z ≡ Less) (sym f) less));
    })
