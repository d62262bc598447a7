-- Sums over the vertices of a grid and over the sigma points.
use Rattle.std.proofs.Common.{◌≡◌, ℕ, zero, suc, ◌*◌, ℤ, pos, ◌+ℤ◌, ◌*ℤ◌, ◌≤ℤ◌, List, [], ◌∷◌, length, get_or, sum_by, refl, ap, sym, ◌∙◌, arith}
use Rattle.std.proofs.lemmas.List.Sums.{sum_by-cons}
use Rattle.acas_spec.specs.Limits.{IsGrid}
use Rattle.acas_spec.specs.Model.{GridData, ModelData, total_weight, weight_of}
use Rattle.acas_spec.specs.declared.parts.SigmaPoint.{SigmaPoint}
use Rattle.acas_grid.specs.Grid.{IsInside, IsVertex, clamp_point}
use Rattle.acas_spec.specs.declared.place.Vertex.{Vertex}
use Rattle.acas_spec.specs.declared.place.Point.{Point}
use Rattle.acas_process.specs.Sums.{sum_below}
use Rattle.acas_process.specs.Axis.{gap_product, tent}
use Rattle.acas_process.specs.Step.{grid_product, moved, over_sigmas, over_vertices, sigma_weight, share}
use Rattle.acas_process.proofs.SumLaws.{sum_below-same, sum_below-le, sum_below-mul, sum_below-add, sum_below-zero, sum_below-first}
use Rattle.acas_process.proofs.AxisLaws.{axis_tents_sum, clamped_between}

-- ---- sums over vertices

pub over_vertices-le : (grid : GridData) (f g : Vertex → ℤ) → ((y : Vertex) → IsVertex grid y → f y ≤ℤ g y) → over_vertices grid f ≤ℤ over_vertices grid g
over_vertices-le grid f g h =
    sum_below-le (length grid.h) _ _ (λ i p. sum_below-le (length grid.v0) _ _ (λ j q. sum_below-le (length grid.v1) _ _ (λ k r. h (record { i = i; j = j; k = k }) (record { i = p; j = q; k = r }))))

pub over_vertices-same : (grid : GridData) (f g : Vertex → ℤ) → ((y : Vertex) → IsVertex grid y → f y ≡ g y) → over_vertices grid f ≡ over_vertices grid g
over_vertices-same grid f g h =
    sum_below-same (length grid.h) _ _ (λ i p. sum_below-same (length grid.v0) _ _ (λ j q. sum_below-same (length grid.v1) _ _ (λ k r. h (record { i = i; j = j; k = k }) (record { i = p; j = q; k = r }))))

pub over_vertices-mul : (grid : GridData) (c : ℤ) (f : Vertex → ℤ) → over_vertices grid (λ y. c *ℤ f y) ≡ c *ℤ over_vertices grid f
over_vertices-mul grid c f =
    sum_below-same (length grid.h) _ _ (λ i p.
    sum_below-same (length grid.v0) _ _ (λ j q. sum_below-mul (length grid.v1) c (λ k. f (record { i = i; j = j; k = k })))
    ∙ sum_below-mul (length grid.v0) c (λ j. sum_below (length grid.v1) (λ k. f (record { i = i; j = j; k = k }))))
    ∙ sum_below-mul (length grid.h) c (λ i. sum_below (length grid.v0) (λ j. sum_below (length grid.v1) (λ k. f (record { i = i; j = j; k = k }))))

pub over_vertices-add : (grid : GridData) (f g : Vertex → ℤ) → over_vertices grid (λ y. f y +ℤ g y) ≡ over_vertices grid f +ℤ over_vertices grid g
over_vertices-add grid f g =
    sum_below-same (length grid.h) _ _ (λ i p.
    sum_below-same (length grid.v0) _ _ (λ j q. sum_below-add (length grid.v1) (λ k. f (record { i = i; j = j; k = k })) (λ k. g (record { i = i; j = j; k = k })))
    ∙ sum_below-add (length grid.v0) (λ j. sum_below (length grid.v1) (λ k. f (record { i = i; j = j; k = k }))) (λ j. sum_below (length grid.v1) (λ k. g (record { i = i; j = j; k = k }))))
    ∙ sum_below-add (length grid.h) (λ i. sum_below (length grid.v0) (λ j. sum_below (length grid.v1) (λ k. f (record { i = i; j = j; k = k })))) (λ i. sum_below (length grid.v0) (λ j. sum_below (length grid.v1) (λ k. g (record { i = i; j = j; k = k }))))

pub over_vertices-zero : (grid : GridData) → over_vertices grid (λ y. pos 0) ≡ pos 0
over_vertices-zero grid =
    sum_below-same (length grid.h) _ _ (λ i p.
    sum_below-same (length grid.v0) _ _ (λ j q. sum_below-zero (length grid.v1)) ∙ sum_below-zero (length grid.v0))
    ∙ sum_below-zero (length grid.h)

-- the order of a sum over vertices and another sum is free
pub over_vertices-swap : (grid : GridData) (n : ℕ) (f : ℕ → Vertex → ℤ) → over_vertices grid (λ y. sum_below n (λ q. f q y)) ≡ sum_below n (λ q. over_vertices grid (f q))
over_vertices-swap grid zero f = over_vertices-zero grid
over_vertices-swap grid (suc n) f =
    over_vertices-add grid (λ y. sum_below n (λ q. f q y)) (f n) ∙ ap (λ z. z +ℤ over_vertices grid (f n)) (over_vertices-swap grid n f)

-- ---- the weights

-- a sum of products is the product of the sums
pub product_sum : (l m n : ℕ) (f g h : ℕ → ℕ) (a b c : ℕ) → sum_below l (λ i. pos (f i)) ≡ pos a → sum_below m (λ j. pos (g j)) ≡ pos b → sum_below n (λ k. pos (h k)) ≡ pos c →
    sum_below l (λ i. sum_below m (λ j. sum_below n (λ k. pos (f i * g j * h k)))) ≡ pos (a * b * c)
product_sum l m n f g h a b c p q r =
    sum_below-same l _ _ (λ i _.
    sum_below-same m _ _ (λ j _. sum_below-mul n (pos (f i * g j)) (λ k. pos (h k)) ∙ ap (λ z. pos (f i * g j) *ℤ z) r ∙ ap pos (omega arith))
    ∙ sum_below-mul m (pos (f i * c)) (λ j. pos (g j)) ∙ ap (λ z. pos (f i * c) *ℤ z) q ∙ ap pos (omega arith))
    ∙ sum_below-mul l (pos (b * c)) (λ i. pos (f i)) ∙ ap (λ z. pos (b * c) *ℤ z) p ∙ ap pos (omega arith)

-- the shares of a point inside the grid
pub shares_sum : (grid : GridData) (s : Point) → IsGrid grid → IsInside grid s → over_vertices grid (λ y. pos (share grid s y)) ≡ pos (grid_product grid)
shares_sum grid s v inside =
    product_sum (length grid.h) (length grid.v0) (length grid.v1)
    (λ i. tent grid.h i s.h) (λ j. tent grid.v0 j s.v0) (λ k. tent grid.v1 k s.v1)
    (gap_product grid.h) (gap_product grid.v0) (gap_product grid.v1)
    (axis_tents_sum grid.h s.h v.altitudes inside.h) (axis_tents_sum grid.v0 s.v0 v.own_rates inside.v0) (axis_tents_sum grid.v1 s.v1 v.intruder_rates inside.v1)

pub clamped_inside : (grid : GridData) (s : Point) → IsGrid grid → IsInside grid (clamp_point grid s)
clamped_inside grid s v = record { h = clamped_between grid.h s.h v.altitudes; v0 = clamped_between grid.v0 s.v0 v.own_rates; v1 = clamped_between grid.v1 s.v1 v.intruder_rates }

pub moved_inside : (m : ModelData) (x : Vertex) (a q : ℕ) → IsGrid m.grid → IsInside m.grid (moved m x a q)
moved_inside m x a q v = clamped_inside m.grid _ v

pub moved_shares_sum : (m : ModelData) (x : Vertex) (a q : ℕ) → IsGrid m.grid → over_vertices m.grid (λ y. pos (share m.grid (moved m x a q) y)) ≡ pos (grid_product m.grid)
moved_shares_sum m x a q v = shares_sum m.grid (moved m x a q) v (moved_inside m x a q v)

-- the total weight as a sum over the points' numbers
weights_sum_from : (sigmas : List SigmaPoint) (d : SigmaPoint) → sum_below (length sigmas) (λ q. pos (weight_of (get_or sigmas q d))) ≡ pos (sum_by weight_of sigmas)
weights_sum_from [] d = refl
weights_sum_from (p ∷ sigmas) d =
    sum_below-first (length sigmas) (λ q. pos (weight_of (get_or (p ∷ sigmas) q d))) ∙ ap (λ z. pos (weight_of p) +ℤ z) (weights_sum_from sigmas d) ∙ ap pos (sym (sum_by-cons weight_of p sigmas))

pub weights_sum : (m : ModelData) → over_sigmas m (λ q. pos (sigma_weight m q)) ≡ pos (total_weight m)
weights_sum m = weights_sum_from m.sigmas _
