-- The rounded mean of values, against the exact one.
use Rattle.std.proofs.Common.{◌≡◌, ℕ, zero, suc, ◌+◌, ◌*◌, ◌^◌, ◌<◌, ℤ, pos, ◌+ℤ◌, ◌*ℤ◌, ◌≤ℤ◌, length, ap, sym, subst, ◌∙◌, arith}
use Rattle.std.proofs.lemmas.Int.{ints}
use Rattle.std.proofs.Math.Nat.{mul-pos, pow-suc, pow-zero}
use Rattle.acas_spec.specs.Limits.{IsModel, IsGrid}
use Rattle.acas_spec.specs.Model.{GridData, ModelData, total_weight}
use Rattle.acas_grid.specs.Grid.{IsVertex}
use Rattle.acas_spec.specs.declared.place.Vertex.{Vertex}
use Rattle.acas_spec.specs.declared.place.Point.{Point}
use Rattle.acas_frac.specs.Rounding.{down, up}
use Rattle.acas_frac.proofs.SignedProducts.{mul-add_ℤ, mul_assoc_ℤ, mul_comm_ℤ, mul-le_ℤ}
use Rattle.acas_frac.proofs.RoundingLaws.{down_is_floor, up_is_ceiling, up-le-down}
use Rattle.acas_process.specs.Sums.{sum_below}
use Rattle.acas_process.specs.Step.{grid_product, moved, share, over_vertices, over_sigmas, sigma_weight}
use Rattle.acas_process.specs.Cost.{transition_weight, transition_total}
use Rattle.acas_spec.specs.Table.{Values}
use Rattle.acas_process.specs.Values.{mean_value}
use Rattle.acas_process.proofs.SumLaws.{sum_below-same, sum_below-le, sum_below-mul, sum_below-add, sum_below-pos}
use Rattle.acas_process.proofs.VertexLaws.{over_vertices-le, over_vertices-same, over_vertices-mul, over_vertices-add, over_vertices-swap, moved_shares_sum, weights_sum}
use Rattle.acas_process.proofs.AxisLaws.{gap_product_pos}
use Rattle.acas_process.proofs.ModelLaws.{total_weight_pos}

-- ---- a mean that is rounded twice, over plain numbers

swap_factors : (a c z : ℤ) → a *ℤ (c *ℤ z) ≡ c *ℤ (a *ℤ z)
swap_factors a c z = sym (mul_assoc_ℤ a c z) ∙ ap (λ w. w *ℤ z) (mul_comm_ℤ a c) ∙ mul_assoc_ℤ c a z

pub weighted-mul : (n : ℕ) (w : ℕ → ℕ) (c : ℤ) (f : ℕ → ℤ) → sum_below n (λ q. pos (w q) *ℤ (c *ℤ f q)) ≡ c *ℤ sum_below n (λ q. pos (w q) *ℤ f q)
weighted-mul n w c f = sum_below-same n _ _ (λ q _. swap_factors (pos (w q)) c (f q)) ∙ sum_below-mul n c (λ q. pos (w q) *ℤ f q)

pub weighted-le : (n : ℕ) (w : ℕ → ℕ) (f g : ℕ → ℤ) → ((q : ℕ) → q < n → f q ≤ℤ g q) → sum_below n (λ q. pos (w q) *ℤ f q) ≤ℤ sum_below n (λ q. pos (w q) *ℤ g q)
weighted-le n w f g h = sum_below-le n _ _ (λ q k. mul-le_ℤ (w q) (f q) (g q) (h q k))

factors_joined : (c t : ℕ) (z : ℤ) → pos c *ℤ (pos t *ℤ z) ≡ pos (t * c) *ℤ z
factors_joined c t z = sym (mul_assoc_ℤ (pos c) (pos t) z) ∙ ap (λ n. pos n *ℤ z) (omega arith)

-- the mean of quotients that are rounded up is at least the exact mean
pub weighted_up : (n : ℕ) (w : ℕ → ℕ) (s : ℕ → ℤ) (c t : ℕ) → 0 < c → 0 < t → sum_below n (λ q. pos (w q) *ℤ s q) ≤ℤ (pos (t * c) *ℤ up (sum_below n (λ q. pos (w q) *ℤ up (s q) (pos c))) (pos t))
weighted_up n w s c t p r =
    let total : ℤ = sum_below n (λ q. pos (w q) *ℤ up (s q) (pos c)) in
    let terms : sum_below n (λ q. pos (w q) *ℤ s q) ≤ℤ sum_below n (λ q. pos (w q) *ℤ (pos c *ℤ up (s q) (pos c))) = weighted-le n w s (λ q. pos c *ℤ up (s q) (pos c)) (λ q _. (up_is_ceiling (s q) c p).0) in
    let whole : (pos c *ℤ total) ≤ℤ (pos c *ℤ (pos t *ℤ up total (pos t))) = mul-le_ℤ c total (pos t *ℤ up total (pos t)) (up_is_ceiling total t r).0 in
    omega (arith, ints, weighted-mul n w (pos c) (λ q. up (s q) (pos c)), factors_joined c t (up total (pos t)))

pub weighted_down : (n : ℕ) (w : ℕ → ℕ) (s : ℕ → ℤ) (c t : ℕ) → 0 < c → 0 < t → (pos (t * c) *ℤ down (sum_below n (λ q. pos (w q) *ℤ down (s q) (pos c))) (pos t)) ≤ℤ sum_below n (λ q. pos (w q) *ℤ s q)
weighted_down n w s c t p r =
    let total : ℤ = sum_below n (λ q. pos (w q) *ℤ down (s q) (pos c)) in
    let terms : sum_below n (λ q. pos (w q) *ℤ (pos c *ℤ down (s q) (pos c))) ≤ℤ sum_below n (λ q. pos (w q) *ℤ s q) = weighted-le n w (λ q. pos c *ℤ down (s q) (pos c)) s (λ q _. (down_is_floor (s q) c p).0) in
    let whole : (pos c *ℤ (pos t *ℤ down total (pos t))) ≤ℤ (pos c *ℤ total) = mul-le_ℤ c (pos t *ℤ down total (pos t)) total (down_is_floor total t r).0 in
    omega (arith, ints, weighted-mul n w (pos c) (λ q. down (s q) (pos c)), factors_joined c t (down total (pos t)))

-- each of the two roundings adds at most 1 to the distance
pub weighted_gap : (n : ℕ) (w : ℕ → ℕ) (s r : ℕ → ℤ) (c t d : ℕ) → 0 < c → 0 < t → sum_below n (λ q. pos (w q)) ≡ pos t → ((q : ℕ) → q < n → s q ≤ℤ (r q +ℤ pos c *ℤ pos d)) →
    up (sum_below n (λ q. pos (w q) *ℤ up (s q) (pos c))) (pos t) ≤ℤ (down (sum_below n (λ q. pos (w q) *ℤ down (r q) (pos c))) (pos t) +ℤ pos (d + 2))
weighted_gap n w s r c t d p q whole h =
    let low : ℕ → ℤ = λ q. down (r q) (pos c) in
    let terms = weighted-le n w (λ q. up (s q) (pos c)) (λ q. low q +ℤ pos (d + 1)) (λ q k. let e = up-le-down (s q) (r q) (pos d) c p (h q k) in omega (arith, ints)) in
    let parts : sum_below n (λ q. pos (w q) *ℤ (low q +ℤ pos (d + 1))) ≡ sum_below n (λ q. pos (w q) *ℤ low q) +ℤ pos t *ℤ pos (d + 1) =
    sum_below-same n _ _ (λ q _. mul-add_ℤ (pos (w q)) (low q) (pos (d + 1)))
    ∙ sum_below-add n (λ q. pos (w q) *ℤ low q) (λ q. pos (w q) *ℤ pos (d + 1))
    ∙ ap (λ z. sum_below n (λ q. pos (w q) *ℤ low q) +ℤ z) (sum_below-same n _ _ (λ q _. mul_comm_ℤ (pos (w q)) (pos (d + 1))) ∙ sum_below-mul n (pos (d + 1)) (λ q. pos (w q)) ∙ ap (λ z. pos (d + 1) *ℤ z) whole ∙ mul_comm_ℤ (pos (d + 1)) (pos t)) in
    let e = up-le-down (sum_below n (λ q. pos (w q) *ℤ up (s q) (pos c))) (sum_below n (λ q. pos (w q) *ℤ low q)) (pos (d + 1)) t q (subst (λ z. sum_below n (λ q. pos (w q) *ℤ up (s q) (pos c)) ≤ℤ z) parts terms) in
    omega (arith, ints)

-- ---- the same over a grid

-- the sum of the values at a point, by the vertices' shares
abbrev pub shared : GridData → Point → (Vertex → ℤ) → ℤ
shared grid s f = over_vertices grid (λ y. pos (share grid s y) *ℤ f y)

-- the sum over the sigma points of that
abbrev pub spread : ModelData → Vertex → ℕ → (Vertex → ℤ) → ℤ
spread m x a f = over_sigmas m (λ q. pos (sigma_weight m q) *ℤ shared m.grid (moved m x a q) f)

pub shared-le : (grid : GridData) (s : Point) (f g : Vertex → ℤ) → ((y : Vertex) → IsVertex grid y → f y ≤ℤ g y) → shared grid s f ≤ℤ shared grid s g
shared-le grid s f g h = over_vertices-le grid (λ y. pos (share grid s y) *ℤ f y) (λ y. pos (share grid s y) *ℤ g y) (λ y v. mul-le_ℤ (share grid s y) (f y) (g y) (h y v))

pub spread-le : (m : ModelData) (x : Vertex) (a : ℕ) (f g : Vertex → ℤ) → ((y : Vertex) → IsVertex m.grid y → f y ≤ℤ g y) → spread m x a f ≤ℤ spread m x a g
spread-le m x a f g h = weighted-le (length m.sigmas) (λ q. sigma_weight m q) _ _ (λ q _. shared-le m.grid (moved m x a q) f g h)

pub shared-mul : (grid : GridData) (s : Point) (c : ℤ) (f : Vertex → ℤ) → shared grid s (λ y. c *ℤ f y) ≡ c *ℤ shared grid s f
shared-mul grid s c f =
    over_vertices-same grid (λ y. pos (share grid s y) *ℤ (c *ℤ f y)) (λ y. c *ℤ (pos (share grid s y) *ℤ f y)) (λ y v. swap_factors (pos (share grid s y)) c (f y))
    ∙ over_vertices-mul grid c (λ y. pos (share grid s y) *ℤ f y)

pub spread-mul : (m : ModelData) (x : Vertex) (a : ℕ) (c : ℤ) (f : Vertex → ℤ) → spread m x a (λ y. c *ℤ f y) ≡ c *ℤ spread m x a f
spread-mul m x a c f =
    sum_below-same (length m.sigmas) _ _ (λ q _. ap (λ z. pos (sigma_weight m q) *ℤ z) (shared-mul m.grid (moved m x a q) c f))
    ∙ weighted-mul (length m.sigmas) (λ q. sigma_weight m q) c (λ q. shared m.grid (moved m x a q) f)

sum_below-mul_right : (n : ℕ) (f : ℕ → ℤ) (z : ℤ) → sum_below n f *ℤ z ≡ sum_below n (λ q. f q *ℤ z)
sum_below-mul_right n f z = mul_comm_ℤ (sum_below n f) z ∙ sym (sum_below-mul n z f) ∙ sum_below-same n _ _ (λ q _. mul_comm_ℤ z (f q))

-- the sum over vertices by their transition weights is the same
pub transitions_spread : (m : ModelData) (x : Vertex) (a : ℕ) (f : Vertex → ℤ) → over_vertices m.grid (λ y. transition_weight m x a y *ℤ f y) ≡ spread m x a f
transitions_spread m x a f =
    let weight : ℕ → ℕ = λ q. sigma_weight m q in
    over_vertices-same m.grid _ _ (λ y _. sum_below-mul_right (length m.sigmas) (λ q. pos (weight q * share m.grid (moved m x a q) y)) (f y))
    ∙ over_vertices-swap m.grid (length m.sigmas) (λ q y. pos (weight q * share m.grid (moved m x a q) y) *ℤ f y)
    ∙ sum_below-same (length m.sigmas) _ _ (λ q _.
    over_vertices-same m.grid _ _ (λ y _. mul_assoc_ℤ (pos (weight q)) (pos (share m.grid (moved m x a q) y)) (f y))
    ∙ over_vertices-mul m.grid (pos (weight q)) (λ y. pos (share m.grid (moved m x a q) y) *ℤ f y))

pub grid_product_pos : (grid : GridData) → IsGrid grid → 0 < grid_product grid
grid_product_pos grid v = mul-pos (mul-pos (gap_product_pos grid.h v.altitudes) (gap_product_pos grid.v0 v.own_rates)) (gap_product_pos grid.v1 v.intruder_rates)

-- the mean that is rounded up is at least the exact one
pub spread-le-mean : (m : ModelData) (u : Values) (x : Vertex) (a : ℕ) → IsModel m → spread m x a (u a) ≤ℤ (pos (transition_total m) *ℤ mean_value up m u x a)
spread-le-mean m u x a v = weighted_up (length m.sigmas) (λ q. sigma_weight m q) (λ q. shared m.grid (moved m x a q) (u a)) (grid_product m.grid) (total_weight m) (grid_product_pos m.grid v.grid) (total_weight_pos m v)

pub mean-le-spread : (m : ModelData) (l : Values) (x : Vertex) (a : ℕ) → IsModel m → (pos (transition_total m) *ℤ mean_value down m l x a) ≤ℤ spread m x a (l a)
mean-le-spread m l x a v = weighted_down (length m.sigmas) (λ q. sigma_weight m q) (λ q. shared m.grid (moved m x a q) (l a)) (grid_product m.grid) (total_weight m) (grid_product_pos m.grid v.grid) (total_weight_pos m v)

shared_gap : (grid : GridData) (s : Point) (f g : Vertex → ℤ) (d : ℕ) → over_vertices grid (λ y. pos (share grid s y)) ≡ pos (grid_product grid) → ((y : Vertex) → IsVertex grid y → f y ≤ℤ (g y +ℤ pos d)) →
    shared grid s f ≤ℤ (shared grid s g +ℤ pos (grid_product grid) *ℤ pos d)
shared_gap grid s f g d whole h =
    let terms = shared-le grid s f (λ y. g y +ℤ pos d) h in
    let parts : shared grid s (λ y. g y +ℤ pos d) ≡ shared grid s g +ℤ pos (grid_product grid) *ℤ pos d =
    over_vertices-same grid _ _ (λ y _. mul-add_ℤ (pos (share grid s y)) (g y) (pos d))
    ∙ over_vertices-add grid (λ y. pos (share grid s y) *ℤ g y) (λ y. pos (share grid s y) *ℤ pos d)
    ∙ ap (λ z. shared grid s g +ℤ z) (over_vertices-same grid _ _ (λ y _. mul_comm_ℤ (pos (share grid s y)) (pos d)) ∙ over_vertices-mul grid (pos d) (λ y. pos (share grid s y)) ∙ ap (λ z. pos d *ℤ z) whole ∙ mul_comm_ℤ (pos d) (pos (grid_product grid))) in
    subst (λ z. shared grid s f ≤ℤ z) parts terms

-- two roundings add at most 2 to the distance
pub mean-le-mean : (m : ModelData) (u l : Values) (x : Vertex) (a d : ℕ) → IsModel m → ((y : Vertex) → IsVertex m.grid y → u a y ≤ℤ (l a y +ℤ pos d)) →
    mean_value up m u x a ≤ℤ (mean_value down m l x a +ℤ pos (d + 2))
mean-le-mean m u l x a d v h =
    weighted_gap (length m.sigmas) (λ q. sigma_weight m q) (λ q. shared m.grid (moved m x a q) (u a)) (λ q. shared m.grid (moved m x a q) (l a)) (grid_product m.grid) (total_weight m) d
    (grid_product_pos m.grid v.grid) (total_weight_pos m v) (weights_sum m) (λ q _. shared_gap m.grid (moved m x a q) (u a) (l a) d (moved_shares_sum m x a q v.grid) h)

-- a transition weight is at least 0
pub transition_weight-pos : (m : ModelData) (x y : Vertex) (a : ℕ) → pos 0 ≤ℤ transition_weight m x a y
transition_weight-pos m x y a = sum_below-pos (length m.sigmas) _ (λ q _. omega (arith, ints))

-- all transition weights from one vertex sum to one number
pub transitions_sum : (m : ModelData) (x : Vertex) (a : ℕ) → IsModel m → over_vertices m.grid (transition_weight m x a) ≡ pos (transition_total m)
transitions_sum m x a v =
    let weight : ℕ → ℕ = λ q. sigma_weight m q in
    over_vertices-swap m.grid (length m.sigmas) (λ q y. pos (weight q * share m.grid (moved m x a q) y))
    ∙ sum_below-same (length m.sigmas) _ _ (λ q _. over_vertices-mul m.grid (pos (weight q)) (λ y. pos (share m.grid (moved m x a q) y)) ∙ ap (λ z. pos (weight q) *ℤ z) (moved_shares_sum m x a q v.grid) ∙ mul_comm_ℤ (pos (weight q)) (pos (grid_product m.grid)))
    ∙ sum_below-mul (length m.sigmas) (pos (grid_product m.grid)) (λ q. pos (weight q))
    ∙ ap (λ z. pos (grid_product m.grid) *ℤ z) (weights_sum m)
    ∙ mul_comm_ℤ (pos (grid_product m.grid)) (pos (total_weight m))

power_pos : (t n : ℕ) → 0 < t → 0 < t ^ n
power_pos t zero h = omega (arith, pow-zero t)
power_pos t (suc n) h = let k = mul-pos (power_pos t n h) h in omega (arith, pow-suc t n)

pub total_power_pos : (m : ModelData) (n : ℕ) → IsModel m → 0 < transition_total m ^ n
total_power_pos m n v = power_pos (transition_total m) n (mul-pos (total_weight_pos m v) (grid_product_pos m.grid v.grid))
