-- How many cells and advisory cells a model has.
use Rattle.std.proofs.Common.{◌≡◌, ℕ, ◌-◌, ◌*◌, ◌≤◌, Bool, true, false, List, [], ◌∷◌, length, length-append, arith, cond}
use Rattle.std.proofs.lemmas.List.Sums.{count_by-le-length}
use Rattle.std.specs.List.{flat_map}
use Rattle.acas_spec.specs.Model.{ModelData}
use Rattle.acas_spec.specs.Limits.{IsModel}
use Rattle.acas_base.specs.Advices.{AdvicesData}
use Rattle.acas_cells.specs.Cells.{Cell, cell_at, cells_of, row_cells, plane_cells, block_cells, layer_cells}
use Rattle.acas_cells.specs.Corners.{names_at, is_advised, under, advisory_cells, is_clear_cell}
use Rattle.acas_report_lines.specs.Plan.{Room, names_in, clear_in}
use Rattle.acas_report_lines.specs.declared.counts.Counts.{Counts}
use Rattle.acas_report_lines.specs.declared.counts.Which.{Which}
use Rattle.acas_report_lines.proofs.Below.{length_below}
use Rattle.acas_report_lines.specs.Plans.{cell_plan}

length_flat : {X Y : Type 0} (b : ℕ) (f : X → List Y) (xs : List X) → ((x : X) → length (f x) ≤ b) → length (flat_map f xs) ≤ length xs * b
length_flat b f [] each = omega arith
length_flat b f (x ∷ xs) each = grind (arith, length-append (f x) (flat_map f xs), length_flat b f xs each, each x)

length_if : {X : Type 0} (b : Bool) (x : X) → length (cond b (x ∷ []) []) ≤ 1
length_if true x = omega arith
length_if false x = omega arith

-- at most 120 * 16 * 128 * 128 * 128
cells_few : (m : ModelData) → IsModel m → length (cells_of m) ≤ 4026531840
cells_few m is =
    let row : (n p i j : ℕ) → length (row_cells m n p i j) ≤ 128 = λ n p i j.
    let h : length (row_cells m n p i j) ≤ (length m.grid.v1 - 1) * 1 = length_below (length m.grid.v1 - 1) 1 (λ k. cell_at n p i j k ∷ []) (λ k. omega arith) in
    omega (arith, h, is.grid.intruder_rates.at_most) in
    let plane : (n p i : ℕ) → length (plane_cells m n p i) ≤ 16384 = λ n p i.
    let h : length (plane_cells m n p i) ≤ (length m.grid.v0 - 1) * 128 = length_below (length m.grid.v0 - 1) 128 (λ j. row_cells m n p i j) (λ j. row n p i j) in
    omega (arith, h, is.grid.own_rates.at_most) in
    let block : (n p : ℕ) → length (block_cells m n p) ≤ 2097152 = λ n p.
    let h : length (block_cells m n p) ≤ (length m.grid.h - 1) * 16384 = length_below (length m.grid.h - 1) 16384 (λ i. plane_cells m n p i) (λ i. plane n p i) in
    omega (arith, h, is.grid.altitudes.at_most) in
    let layer : (n : ℕ) → length (layer_cells m n) ≤ 33554432 = λ n.
    let h : length (layer_cells m n) ≤ m.grid.advisories * 2097152 = length_below m.grid.advisories 2097152 (λ p. block_cells m n p) (λ p. block n p) in
    omega (arith, h, is.grid.few_advisories) in
    let all : length (cells_of m) ≤ m.grid.horizon * 33554432 = length_below m.grid.horizon 33554432 (λ n. layer_cells m n) layer in
    omega (arith, all, is.grid.horizon)

names_few : (m : ModelData) (a : AdvicesData) → IsModel m → (c : Cell) → length (names_at m a c) ≤ 16
names_few m a is c =
    let h : length (names_at m a c) ≤ m.grid.advisories * 1 = length_below m.grid.advisories 1 (λ b. cond (is_advised m a c b) (under c b ∷ []) []) (λ b. length_if (is_advised m a c b) (under c b)) in
    omega (arith, h, is.grid.few_advisories)

-- all cells of a model can be counted
pub room_whole : (m : ModelData) (a : AdvicesData) (which : Which) (counts : Counts) → IsModel m → counts.certified ≡ 0 → counts.reported ≡ 0 → counts.clear ≡ 0 → Room (cell_plan m a which) counts (cells_of m)
unfolding names_in clear_in
room_whole m a which counts is cert rep clr =
    let names : length (advisory_cells m a) ≤ length (cells_of m) * 16 = length_flat 16 (names_at m a) (cells_of m) (λ c. names_few m a is c) in
    record { fits = omega (arith, cert, rep, clr, names, cells_few m is, count_by-le-length (is_clear_cell m a) (cells_of m)) }
