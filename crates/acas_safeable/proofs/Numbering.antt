-- The cells of a model by their numbers.
use Rattle.std.proofs.Common.{◌≡◌, ℕ, zero, suc, ◌+◌, ◌-◌, ◌*◌, ◌/◌, ◌%◌, ◌<◌, ◌≤◌, List, [], ◌∷◌, ◌++◌, length, refl, sym, ap, ap₂, ◌∙◌, append_assoc, arith}
use Rattle.std.proofs.lemmas.List.{append-nil}
use Rattle.std.proofs.lemmas.Nat.{div-mul-add, div_below, mod-mul-add, mod_below, mul-le}
use Rattle.acas_spec.specs.Limits.{IsModel}
use Rattle.acas_spec.specs.Model.{ModelData}
use Rattle.acas_cells.specs.Cells.{Cell, IsCellOf, below, block_cells, cell_at, cells_of, row_cells}
use Rattle.acas_safeable.specs.Walk.{block_of, cell_count, cells_below, numbered_cell, plane_of, row_of}

-- ---- items by a row and a place in it

below_same : {A : Type 0} (n : ℕ) (f g : ℕ → List A) → ((k : ℕ) → k < n → f k ≡ g k) → below n f ≡ below n g
below_same zero f g same = refl
below_same (suc n) f g same = ap₂ ◌++◌ (below_same n f g (λ k h. same k (omega arith))) (same n (omega arith))

below_add : {A : Type 0} (x y : ℕ) (f : ℕ → List A) → below (x + y) f ≡ below x f ++ below y (λ k. f (x + k))
below_add x zero f = let e : x + zero ≡ x = omega arith in rw e (sym (append-nil (below x f)))
below_add x (suc y) f =
    let e : x + suc y ≡ suc (x + y) = omega arith in
    rw e (ap (λ l. l ++ f (x + y)) (below_add x y f) ∙ append_assoc (below x f) (below y (λ k. f (x + k))) (f (x + y)))

-- so many rows of one width
below_rows : {A : Type 0} (rows width : ℕ) (f : ℕ → ℕ → List A) → below (rows * width) (λ n. f (n / width) (n % width)) ≡ below rows (λ row. below width (f row))
below_rows zero width f = let e : zero * width ≡ zero = omega arith in rw e refl
below_rows (suc rows) width f =
    let e : suc rows * width ≡ rows * width + width = omega arith in
    rw e (
    below_add (rows * width) width (λ n. f (n / width) (n % width))
    ∙ ap₂ ◌++◌ (below_rows rows width f)
    (below_same width (λ k. f ((rows * width + k) / width) ((rows * width + k) % width)) (f rows) (λ k h. ap₂ f (div-mul-add rows width k h) (mod-mul-add rows width k h)))
    )

-- ---- the cells

pub cells_numbered : (m : ModelData) → cells_below m (cell_count m) ≡ cells_of m
cells_numbered m =
    let n = m.grid.horizon in
    let a = m.grid.advisories in
    let h = length m.grid.h - 1 in
    let v = length m.grid.v0 - 1 in
    let w = length m.grid.v1 - 1 in
    below_rows (n * a * h * v) w (λ row k. cell_at (row / v / h / a) (row / v / h % a) (row / v % h) (row % v) k ∷ [])
    ∙ below_rows (n * a * h) v (λ plane j. row_cells m (plane / h / a) (plane / h % a) (plane % h) j)
    ∙ below_rows (n * a) h (λ block i. below v (λ j. row_cells m (block / a) (block % a) i j))
    ∙ below_rows n a (λ n present. block_cells m n present)

pub next_cells : (m : ModelData) (number : ℕ) (c : Cell) → c ≡ numbered_cell m number → cells_below m number ++ c ∷ [] ≡ cells_below m (number + 1)
next_cells m number c same = let e : number + 1 ≡ suc number = omega arith in rw e (ap (λ (d : Cell). cells_below m number ++ d ∷ []) same)

-- each is one of the model's
pub numbered_inside : (m : ModelData) (number : ℕ) → IsModel m → number < cell_count m → IsCellOf m (numbered_cell m number)
numbered_inside m number is within =
    let h : 0 < length m.grid.h - 1 = omega (arith, is.grid.altitudes.at_least) in
    let v : 0 < length m.grid.v0 - 1 = omega (arith, is.grid.own_rates.at_least) in
    let w : 0 < length m.grid.v1 - 1 = omega (arith, is.grid.intruder_rates.at_least) in
    let a : 0 < m.grid.advisories = omega (arith, is.grid.some_advisories) in
    let row = div_below number (length m.grid.v1 - 1) (m.grid.horizon * m.grid.advisories * (length m.grid.h - 1) * (length m.grid.v0 - 1)) w within in
    let plane = div_below (row_of m number) (length m.grid.v0 - 1) (m.grid.horizon * m.grid.advisories * (length m.grid.h - 1)) v row in
    let block = div_below (plane_of m number) (length m.grid.h - 1) (m.grid.horizon * m.grid.advisories) h plane in
    record {
      n = div_below (block_of m number) m.grid.advisories m.grid.horizon a block;
      present = mod_below (block_of m number) m.grid.advisories a;
      i = omega (arith, mod_below (plane_of m number) (length m.grid.h - 1) h);
      j = omega (arith, mod_below (row_of m number) (length m.grid.v0 - 1) v);
      k = omega (arith, mod_below number (length m.grid.v1 - 1) w);
    }

-- ---- how many there are

-- at most 120 * 16 * 128 * 128 rows
pub rows_few : (m : ModelData) → IsModel m → m.grid.horizon * m.grid.advisories * (length m.grid.h - 1) * (length m.grid.v0 - 1) ≤ 31457280
rows_few m is =
    let h : length m.grid.h - 1 ≤ 128 = omega (arith, is.grid.altitudes.at_most) in
    let v : length m.grid.v0 - 1 ≤ 128 = omega (arith, is.grid.own_rates.at_most) in
    mul-le _ _ 245760 128 (mul-le _ _ 1920 128 (mul-le _ _ 120 16 is.grid.horizon is.grid.few_advisories) h) v

pub cells_few : (m : ModelData) → IsModel m → cell_count m ≤ 4026531840
cells_few m is =
    let w : length m.grid.v1 - 1 ≤ 128 = omega (arith, is.grid.intruder_rates.at_most) in
    mul-le _ _ 31457280 128 (rows_few m is) w
