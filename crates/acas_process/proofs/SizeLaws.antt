-- How large the values of a compiled table are.
use Rattle.std.proofs.Common.{◌≡◌, ℕ, zero, suc, ◌+◌, ◌*◌, ◌<◌, ◌≤◌, ℤ, pos, neg_ℤ, ◌*ℤ◌, ◌≤ℤ◌, List, [], ◌∷◌, length, get_or, unsigned_abs, Bool, true, false, cond, nat_eq, ap, subst, ◌∙◌, arith}
use Rattle.std.proofs.lemmas.Int.{ints}
use Rattle.acas_units.specs.declared.limits.TheConstants.{LEAST_COST, GREATEST_COST}
use Rattle.acas_spec.specs.Axis.{IsBetween}
use Rattle.acas_spec.specs.Limits.{IsModel}
use Rattle.acas_spec.specs.Model.{GridData, ModelData, choices_at, total_weight}
use Rattle.acas_grid.specs.Grid.{IsVertex}
use Rattle.acas_spec.proofs.Bounds.{unsigned_abs-between}
use Rattle.acas_spec.specs.declared.parts.Choice.{Choice}
use Rattle.acas_spec.specs.declared.place.Point.{Point}
use Rattle.acas_spec.specs.declared.place.Vertex.{Vertex}
use Rattle.acas_frac.specs.Rounding.{IsRounding, down, up}
use Rattle.acas_frac.proofs.RoundingLaws.{down_greatest, down_is_floor, either, up_is_ceiling, up_least}
use Rattle.acas_frac.proofs.SignedProducts.{le-from_mul_ℤ, le-trans_ℤ, mul_comm_ℤ}
use Rattle.acas_process.specs.Sums.{sum_below}
use Rattle.acas_process.specs.Step.{grid_product, moved, share, over_vertices, over_sigmas, sigma_weight}
use Rattle.acas_process.specs.Cost.{cost_among, cost_of, terminal_cost}
use Rattle.acas_spec.specs.Table.{Values}
use Rattle.acas_process.specs.Values.{interpolated, mean_value, choice_value}
use Rattle.acas_process.specs.Compiled.{least, first_least, compiled_values}
use Rattle.acas_process.proofs.SumLaws.{sum_below-same, sum_below-mul}
use Rattle.acas_process.proofs.VertexLaws.{over_vertices-same, over_vertices-mul, moved_shares_sum, weights_sum}
use Rattle.acas_process.proofs.MeanLaws.{shared, shared-le, weighted-le, grid_product_pos}
use Rattle.acas_process.proofs.ModelLaws.{is_chosen, total_weight_pos}
use Rattle.acas_process.proofs.Least.{first_least_is}

shared_const : (grid : GridData) (s : Point) (z : ℤ) → over_vertices grid (λ y. pos (share grid s y)) ≡ pos (grid_product grid) → shared grid s (λ y. z) ≡ pos (grid_product grid) *ℤ z
shared_const grid s z whole =
    over_vertices-same grid _ _ (λ y _. mul_comm_ℤ (pos (share grid s y)) z) ∙ over_vertices-mul grid z (λ y. pos (share grid s y)) ∙ ap (λ w. z *ℤ w) whole ∙ mul_comm_ℤ z (pos (grid_product grid))

shared_between : (grid : GridData) (s : Point) (f : Vertex → ℤ) (low high : ℤ) → over_vertices grid (λ y. pos (share grid s y)) ≡ pos (grid_product grid) → ((y : Vertex) → IsVertex grid y → IsBetween low high (f y)) →
    IsBetween (pos (grid_product grid) *ℤ low) (pos (grid_product grid) *ℤ high) (shared grid s f)
shared_between grid s f low high whole h = record {
  low = subst (λ z. z ≤ℤ shared grid s f) (shared_const grid s low whole) (shared-le grid s (λ y. low) f (λ y k. (h y k).low));
  high = subst (λ z. shared grid s f ≤ℤ z) (shared_const grid s high whole) (shared-le grid s f (λ y. high) (λ y k. (h y k).high));
}

weighted_const : (n : ℕ) (w : ℕ → ℕ) (t : ℕ) (z : ℤ) → sum_below n (λ q. pos (w q)) ≡ pos t → sum_below n (λ q. pos (w q) *ℤ z) ≡ pos t *ℤ z
weighted_const n w t z whole = sum_below-same n _ _ (λ q _. mul_comm_ℤ (pos (w q)) z) ∙ sum_below-mul n z (λ q. pos (w q)) ∙ ap (λ y. z *ℤ y) whole ∙ mul_comm_ℤ z (pos t)

weighted_between : (n : ℕ) (w : ℕ → ℕ) (f : ℕ → ℤ) (t : ℕ) (low high : ℤ) → sum_below n (λ q. pos (w q)) ≡ pos t → ((q : ℕ) → q < n → IsBetween low high (f q)) →
    IsBetween (pos t *ℤ low) (pos t *ℤ high) (sum_below n (λ q. pos (w q) *ℤ f q))
weighted_between n w f t low high whole h = record {
  low = subst (λ z. z ≤ℤ sum_below n (λ q. pos (w q) *ℤ f q)) (weighted_const n w t low whole) (weighted-le n w (λ q. low) f (λ q k. (h q k).low));
  high = subst (λ z. sum_below n (λ q. pos (w q) *ℤ f q) ≤ℤ z) (weighted_const n w t high whole) (weighted-le n w f (λ q. high) (λ q k. (h q k).high));
}

-- a quotient of a number between two multiples of the denominator is between their quotients
abbrev KeepsBetween : (ℤ → ℤ → ℤ) → Type 0
KeepsBetween round = (a : ℤ) (c : ℕ) (low high : ℤ) → 0 < c → IsBetween (pos c *ℤ low) (pos c *ℤ high) a → IsBetween low high (round a (pos c))

down_between : KeepsBetween down
down_between a c low high p h = record {
  low = down_greatest a c low p h.low;
  high = le-from_mul_ℤ c (down a (pos c)) high p (le-trans_ℤ (pos c *ℤ down a (pos c)) a (pos c *ℤ high) (down_is_floor a c p).0 h.high);
}

up_between : KeepsBetween up
up_between a c low high p h = record {
  low = le-from_mul_ℤ c low (up a (pos c)) p (le-trans_ℤ (pos c *ℤ low) a (pos c *ℤ up a (pos c)) h.low (up_is_ceiling a c p).0);
  high = up_least a c high p h.high;
}

round_between : (round : ℤ → ℤ → ℤ) → IsRounding round → KeepsBetween round
round_between = either KeepsBetween down_between up_between

-- a mean of values is between two numbers where each of them is
pub mean_between : (round : ℤ → ℤ → ℤ) → IsRounding round → (m : ModelData) (below : Values) (x : Vertex) (a : ℕ) (low high : ℤ) → IsModel m → ((y : Vertex) → IsVertex m.grid y → IsBetween low high (below a y)) →
    IsBetween low high (mean_value round m below x a)
mean_between round way m below x a low high v h =
    round_between round way (over_sigmas m (λ q. pos (sigma_weight m q) *ℤ interpolated round m below a (moved m x a q))) (total_weight m) low high (total_weight_pos m v)
    (weighted_between (length m.sigmas) (λ q. sigma_weight m q) (λ q. interpolated round m below a (moved m x a q)) (total_weight m) low high (weights_sum m)
    (λ q _. round_between round way (shared m.grid (moved m x a q) (below a)) (grid_product m.grid) low high (grid_product_pos m.grid v.grid) (shared_between m.grid (moved m x a q) (below a) low high (moved_shares_sum m x a q v.grid) h)))

-- so it is no larger than the largest of them
pub mean_bounded : (round : ℤ → ℤ → ℤ) → IsRounding round → (m : ModelData) (below : Values) (x : Vertex) (a b : ℕ) → IsModel m → ((y : Vertex) → IsVertex m.grid y → unsigned_abs (below a y) ≤ b) →
    unsigned_abs (mean_value round m below x a) ≤ b
mean_bounded round way m below x a b v h =
    unsigned_abs-between b (neg_ℤ (pos b)) (pos b) (mean_value round m below x a)
    (mean_between round way m below x a (neg_ℤ (pos b)) (pos b) v (λ y k. let size = h y k in record { low = omega (arith, ints, size); high = omega (arith, ints, size) })) (omega (arith, ints)) (omega (arith, ints))

unsigned_abs-cond : (b : Bool) (most : ℕ) (y z : ℤ) → unsigned_abs y ≤ most → unsigned_abs z ≤ most → unsigned_abs (cond b y z) ≤ most
unsigned_abs-cond true most y z h k = h
unsigned_abs-cond false most y z h k = k

pub terminal_size : (m : ModelData) (x : Vertex) → IsModel m → unsigned_abs (terminal_cost m x) ≤ 1_000_000_000
terminal_size m x v = unsigned_abs-cond _ 1_000_000_000 m.contact (pos 0) (unsigned_abs-between 1_000_000_000 LEAST_COST GREATEST_COST m.contact v.contact (omega arith) (omega arith)) (omega arith)

cost_among_size : (cs : List Choice) (a most : ℕ) (d : Choice) → ((k : ℕ) → k < length cs → unsigned_abs (get_or cs k d).cost ≤ most) → unsigned_abs (cost_among cs a) ≤ most
cost_among_size [] a most d h = omega arith
cost_among_size (c ∷ rest) a most d h = unsigned_abs-cond (nat_eq c.advisory a) most c.cost (cost_among rest a) (h 0 (omega arith)) (cost_among_size rest a most d (λ k w. h (suc k) (omega (arith, w))))

-- what a second costs, also under an advisory that may not be chosen
cost_size : (m : ModelData) (p a : ℕ) → IsModel m → p < m.grid.advisories → unsigned_abs (cost_of m p a) ≤ 1_000_000_000
cost_size m p a v known =
    cost_among_size (choices_at m p) a 1_000_000_000 _ (λ k w. unsigned_abs-between 1_000_000_000 LEAST_COST GREATEST_COST _ ((v.choices p known).each k w).cost (omega arith) (omega arith))

-- the value of a choice is at most 10 ^ 15 larger in size than the values below
pub choice_size : (round : ℤ → ℤ → ℤ) → IsRounding round → (m : ModelData) → IsModel m → (below : Values) (p : ℕ) (x : Vertex) (a b : ℕ) → p < m.grid.advisories → ((y : Vertex) → IsVertex m.grid y → unsigned_abs (below a y) ≤ b) →
    unsigned_abs (choice_value round m below p x a) ≤ b + 1_000_000_000_000_000
choice_size round way m v below p x a b known h = let mean = mean_bounded round way m below x a b v h in let cost = cost_size m p a v known in omega (arith, ints, mean, cost)

-- so is the least over the choices
least_size : (round : ℤ → ℤ → ℤ) → IsRounding round → (m : ModelData) → IsModel m → (below : Values) (p : ℕ) (x : Vertex) (b : ℕ) → p < m.grid.advisories →
    ((a : ℕ) (y : Vertex) → a < m.grid.advisories → IsVertex m.grid y → unsigned_abs (below a y) ≤ b) →
    unsigned_abs (least (choice_value round m below p x) (choices_at m p)) ≤ b + 1_000_000_000_000_000
least_size round way m v below p x b known h =
    let best = first_least_is (choice_value round m below p x) (choices_at m p) ((v.choices p known).some) in
    let a : ℕ = first_least (choice_value round m below p x) (choices_at m p) in
    subst (λ z. unsigned_abs z ≤ b + 1_000_000_000_000_000) best.least
    (choice_size round way m v below p x a b known (λ y k. h a y ((is_chosen m p a v known best.listed).inside) k))

-- a layer's values are at most (n + 1) * 10 ^ 15 in size
pub compiled_size : (round : ℤ → ℤ → ℤ) → IsRounding round → (m : ModelData) → IsModel m → (n p : ℕ) (x : Vertex) → p < m.grid.advisories →
    unsigned_abs (compiled_values round m n p x) ≤ (n + 1) * 1_000_000_000_000_000
compiled_size round way m v zero p x known = omega (arith, ints, terminal_size m x v)
compiled_size round way m v (suc n) p x known =
    omega (arith, least_size round way m v (compiled_values round m n) p x ((n + 1) * 1_000_000_000_000_000) known (λ a y k i. compiled_size round way m v n a y k))
