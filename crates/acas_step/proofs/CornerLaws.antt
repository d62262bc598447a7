-- The eight corners of a cell carry the shares of its point.
use Rattle.std.proofs.Common.{◌≡◌, ℕ, zero, suc, ◌+◌, ◌*◌, ◌<◌, ◌≤◌, ℤ, pos, unsigned_abs, ◌+ℤ◌, ◌*ℤ◌, List, [], ◌∷◌, length, get_or, refl, ap, sym, ◌∙◌, ⊎_elim, arith}
use Rattle.std.proofs.lemmas.Int.{ints}
use Rattle.std.proofs.lemmas.Bool.{cases_lt}
use Rattle.acas_spec.specs.Limits.{IsGrid}
use Rattle.acas_spec.specs.Axis.{IsAxis, IsWithin, place_value}
use Rattle.acas_spec.specs.Model.{GridData, vertices}
use Rattle.acas_spec.proofs.Bounds.{unsigned_abs-within}
use Rattle.acas_grid.specs.Grid.{vertex_number}
use Rattle.acas_spec.specs.declared.place.Point.{Point}
use Rattle.acas_frac.proofs.SignedProducts.{mul_assoc_ℤ}
use Rattle.acas_process.specs.Axis.{distance, gap, gap_product, tent}
use Rattle.acas_process.specs.Step.{grid_product, over_vertices, share}
use Rattle.acas_process.specs.Sums.{sum_below}
use Rattle.acas_process.proofs.AxisLaws.{distance-add, has_cell, others}
use Rattle.acas_process.proofs.CellLaws.{Place, at_ends, axis_sum, cell_holds, grid_sum, two_scaled}
use Rattle.acas_process.proofs.MeanLaws.{grid_product_pos}
use Rattle.acas_step.specs.Corners.{IsInterpolation, IsLight, IsWeighting, cell_product, corner_sum}
use Rattle.acas_step.specs.Ends.{over_ends, FitsAxis, FitsGrid, IsCorner, IsEnds, IsRound, vertex_on, weight_of_cell}
use Rattle.acas_step.specs.Sizes.{greatest_weight}
use Rattle.acas_step.specs.declared.cell.Cell.{Cell}
use Rattle.acas_step.specs.declared.cell.Corner.{Corner}
use Rattle.acas_step.specs.declared.cell.Ends.{Ends}
use Rattle.acas_step.specs.declared.cell.End.{End}
use Rattle.acas_step.specs.declared.cell.End.TheVariants.{Lower, Upper}

-- a corner's term, with its places written in another way
term_is : (g : GridData) (i j k i' j' k' w : ℕ) (c : Corner) (v : ℕ → ℤ) → c.vertex ≡ vertex_number g (record { i = i'; j = j'; k = k' }) → c.weight ≡ pos w → i' ≡ i → j' ≡ j → k' ≡ k →
    c.weight *ℤ v c.vertex ≡ pos w *ℤ v (vertex_number g (record { i = i; j = j; k = k }))
term_is g i j k i' j' k' w c v number weight p q r =
    ap (λ z. z *ℤ v c.vertex) weight
    ∙ ap (λ n. pos w *ℤ v n) (number ∙ ap (λ (n : ℕ). vertex_number g (record { i = n; j = j'; k = k' })) p ∙ ap (λ (n : ℕ). vertex_number g (record { i = i; j = n; k = k' })) q ∙ ap (λ (n : ℕ). vertex_number g (record { i = i; j = j; k = n })) r)

-- two terms with a common factor
both : (a l u : ℕ) (y z : ℤ) → pos (a * l) *ℤ y +ℤ pos (a * u) *ℤ z ≡ pos a *ℤ (pos l *ℤ y +ℤ pos u *ℤ z)
both a l u y z = two_scaled a l u (a * l) (a * u) y z refl refl

-- the corners of a cell, lower before upper
pub record AreEight (g : GridData) (t : Cell) (a b c d e f h i : Corner) : Type 0 where
  pub at_a : IsCorner g t Lower Lower Lower a
  pub at_b : IsCorner g t Lower Lower Upper b
  pub at_c : IsCorner g t Lower Upper Lower c
  pub at_d : IsCorner g t Lower Upper Upper d
  pub at_e : IsCorner g t Upper Lower Lower e
  pub at_f : IsCorner g t Upper Lower Upper f
  pub at_h : IsCorner g t Upper Upper Lower h
  pub at_i : IsCorner g t Upper Upper Upper i

one_more : (n : ℕ) → n + 1 ≡ suc n
one_more n = omega arith

eight : (g : GridData) (t : Cell) (a b c d e f h i : Corner) (z : ℕ → ℤ) → AreEight g t a b c d e f h i →
    corner_sum (a ∷ b ∷ c ∷ d ∷ e ∷ f ∷ h ∷ i ∷ []) z ≡ over_ends t (λ i j k. z (vertex_number g (record { i = i; j = j; k = k })))
eight g t a b c d e f h i z are =
    let n : ℕ → ℕ → ℕ → ℤ = λ i j k. z (vertex_number g (record { i = i; j = j; k = k })) in
    let row : ℕ → ℕ → ℤ = λ i j. at_ends t.v1.lower t.v1.upper t.v1.cell (n i j) in
    let p : ℕ = t.h.cell in
    let q : ℕ = t.v0.cell in
    let r : ℕ = t.v1.cell in
    let x : ℕ = suc p in
    let y : ℕ = suc q in
    omega (
      arith,
      ints,
      term_is g p q r p q r (t.h.lower * t.v0.lower * t.v1.lower) a z are.at_a.vertex are.at_a.weight refl refl refl,
      term_is g p q (suc r) p q (r + 1) (t.h.lower * t.v0.lower * t.v1.upper) b z are.at_b.vertex are.at_b.weight refl refl (one_more r),
      term_is g p y r p (q + 1) r (t.h.lower * t.v0.upper * t.v1.lower) c z are.at_c.vertex are.at_c.weight refl (one_more q) refl,
      term_is g p y (suc r) p (q + 1) (r + 1) (t.h.lower * t.v0.upper * t.v1.upper) d z are.at_d.vertex are.at_d.weight refl (one_more q) (one_more r),
      term_is g x q r (p + 1) q r (t.h.upper * t.v0.lower * t.v1.lower) e z are.at_e.vertex are.at_e.weight (one_more p) refl refl,
      term_is g x q (suc r) (p + 1) q (r + 1) (t.h.upper * t.v0.lower * t.v1.upper) f z are.at_f.vertex are.at_f.weight (one_more p) refl (one_more r),
      term_is g x y r (p + 1) (q + 1) r (t.h.upper * t.v0.upper * t.v1.lower) h z are.at_h.vertex are.at_h.weight (one_more p) (one_more q) refl,
      term_is g x y (suc r) (p + 1) (q + 1) (r + 1) (t.h.upper * t.v0.upper * t.v1.upper) i z are.at_i.vertex are.at_i.weight (one_more p) (one_more q) (one_more r),
      both (t.h.lower * t.v0.lower) t.v1.lower t.v1.upper (n p q r) (n p q (suc r)),
      both (t.h.lower * t.v0.upper) t.v1.lower t.v1.upper (n p y r) (n p y (suc r)),
      both (t.h.upper * t.v0.lower) t.v1.lower t.v1.upper (n x q r) (n x q (suc r)),
      both (t.h.upper * t.v0.upper) t.v1.lower t.v1.upper (n x y r) (n x y (suc r)),
      both t.h.lower t.v0.lower t.v0.upper (row p q) (row p y),
      both t.h.upper t.v0.lower t.v0.upper (row x q) (row x y),
    )

abbrev place_of : Ends → ℕ → Place
place_of e other = record { cell = e.cell; lower = e.lower; upper = e.upper; other = other }

-- a number's place, with the axis's gaps
pub record Placed (axis : List ℤ) (x : ℤ) (e : Ends) (o : ℕ) : Type 0 where
  pub sum : (g : ℕ → ℤ) → sum_below (length axis) (λ i. pos (tent axis i x) *ℤ g i) ≡ pos o *ℤ at_ends e.lower e.upper e.cell g
  pub width : e.lower + e.upper ≡ gap axis e.cell
  pub product : o * (e.lower + e.upper) ≡ gap_product axis

pub placed : (axis : List ℤ) (x : ℤ) (e : Ends) → IsAxis axis → IsEnds axis x e → Placed axis x e (others axis e.cell)
placed axis x e rising is =
    let cell = has_cell axis e.cell x rising (cell_holds axis e.cell x is.cell) in
    let low : ℤ = place_value axis e.cell in
    let high : ℤ = place_value axis (e.cell + 1) in
    let whole : e.lower + e.upper ≡ distance low high = omega (arith, is.lower, is.upper, distance-add low x high is.cell.lower is.cell.upper) in
    record {
      sum = λ g. axis_sum axis e.cell x (others axis e.cell) g is.cell.before_last cell
          ∙ ap (λ (n : ℕ). pos (others axis e.cell) *ℤ at_ends n (distance low x) e.cell g) (sym is.lower)
          ∙ ap (λ (n : ℕ). pos (others axis e.cell) *ℤ at_ends e.lower n e.cell g) (sym is.upper);
      width = whole;
      product = ap (λ (n : ℕ). others axis e.cell * n) whole ∙ cell.product;
    }

gaps_joined : (a b c x y z : ℕ) → (a * x) * (b * y) * (c * z) ≡ (x * y * z) * (a * b * c)
gaps_joined a b c x y z = omega arith

products_joined : (a b c x y z p q r : ℕ) → a * x ≡ p → b * y ≡ q → c * z ≡ r → p * q * r ≡ (x * y * z) * (a * b * c)
products_joined a b c x y z p q r e f g =
    sym (ap (λ (n : ℕ). n * (b * y) * (c * z)) e ∙ ap (λ (n : ℕ). p * n * (c * z)) f ∙ ap (λ (n : ℕ). p * q * n) g) ∙ gaps_joined a b c x y z

-- the product of all gaps but those of a cell
abbrev pub others_of : GridData → Cell → ℕ
others_of g t = others g.h t.h.cell * others g.v0 t.v0.cell * others g.v1 t.v1.cell

pub product_of_gaps : (g : GridData) (s : Point) (t : Cell) → IsGrid g → IsRound g s t → grid_product g ≡ weight_of_cell t * others_of g t
product_of_gaps g s t valid is =
    products_joined (others g.h t.h.cell) (others g.v0 t.v0.cell) (others g.v1 t.v1.cell) (t.h.lower + t.h.upper) (t.v0.lower + t.v0.upper) (t.v1.lower + t.v1.upper)
    (gap_product g.h) (gap_product g.v0) (gap_product g.v1)
    (placed g.h s.h t.h valid.altitudes is.h).product (placed g.v0 s.v0 t.v0 valid.own_rates is.v0).product (placed g.v1 s.v1 t.v1 valid.intruder_rates is.v1).product

-- the weights of a cell sum to the product of its gaps
pub weight_of_cell-gaps : (g : GridData) (s : Point) (t : Cell) → IsGrid g → IsRound g s t → weight_of_cell t ≡ cell_product g (vertex_on t Lower Lower Lower)
weight_of_cell-gaps g s t valid is =
    let p = (placed g.h s.h t.h valid.altitudes is.h).width in
    let q = (placed g.v0 s.v0 t.v0 valid.own_rates is.v0).width in
    let r = (placed g.v1 s.v1 t.v1 valid.intruder_rates is.v1).width in
    ap (λ (n : ℕ). n * (t.v0.lower + t.v0.upper) * (t.v1.lower + t.v1.upper)) p
    ∙ ap (λ (n : ℕ). gap g.h t.h.cell * n * (t.v1.lower + t.v1.upper)) q
    ∙ ap (λ (n : ℕ). gap g.h t.h.cell * gap g.v0 t.v0.cell * n) r

-- the gap of a cell, whose ends are not far from 0
fits_axis : (axis : List ℤ) (x least greatest : ℤ) (most : ℕ) (e : Ends) → IsAxis axis → IsWithin least greatest axis → unsigned_abs least ≤ most → unsigned_abs greatest ≤ most → IsEnds axis x e
    → FitsAxis axis (2 * most) e
fits_axis axis x least greatest most e rising near bottom top is =
    let low = unsigned_abs-within most least greatest axis e.cell near (omega (arith, is.cell.before_last)) bottom top in
    let high = unsigned_abs-within most least greatest axis (e.cell + 1) near is.cell.before_last bottom top in
    let width : e.lower + e.upper ≡ distance (place_value axis e.cell) (place_value axis (e.cell + 1)) = (placed axis x e rising is).width in
    record { place = is.cell.before_last; short = rising.at_most; narrow = omega (arith, ints, width, low, high) }

pub fits_grid : (g : GridData) (s : Point) (t : Cell) → IsGrid g → IsRound g s t → FitsGrid g t
fits_grid g s t valid is = record {
  h = fits_axis g.h s.h _ _ 1200000 t.h valid.altitudes valid.altitudes_within (omega arith) (omega arith) is.h;
  v0 = fits_axis g.v0 s.v0 _ _ 10000 t.v0 valid.own_rates valid.own_within (omega arith) (omega arith) is.v0;
  v1 = fits_axis g.v1 s.v1 _ _ 10000 t.v1 valid.intruder_rates valid.intruder_within (omega arith) (omega arith) is.v1;
}

-- a factor of a number above 0 is above 0
pub factor_pos : (n t o : ℕ) → 0 < n → n ≡ t * o → 0 < t
factor_pos n t o p e = ⊎_elim (λ (h : 0 < t). h) (λ (h : t ≤ 0). let none : t ≡ 0 = omega arith in absurd (omega (arith, ap (λ (k : ℕ). k * o) none))) (cases_lt 0 t)

-- a sum over the corners of a cell over its weight is that over all vertices by their shares over the product of all gaps
pub ends_interpolate : (g : GridData) (s : Point) (t : Cell) (z : ℕ → ℤ) → IsGrid g → IsRound g s t →
    pos (grid_product g) *ℤ over_ends t (λ i j k. z (vertex_number g (record { i = i; j = j; k = k })))
    ≡ pos (weight_of_cell t) *ℤ over_vertices g (λ y. pos (share g s y) *ℤ z (vertex_number g y))
ends_interpolate g s t z valid round =
    let n : ℕ → ℕ → ℕ → ℤ = λ i j k. z (vertex_number g (record { i = i; j = j; k = k })) in
    let all =
    grid_sum g s (place_of t.h (others g.h t.h.cell)) (place_of t.v0 (others g.v0 t.v0.cell)) (place_of t.v1 (others g.v1 t.v1.cell)) (λ y. z (vertex_number g y))
    (placed g.h s.h t.h valid.altitudes round.h).sum (placed g.v0 s.v0 t.v0 valid.own_rates round.v0).sum (placed g.v1 s.v1 t.v1 valid.intruder_rates round.v1).sum in
    ap (λ (k : ℕ). pos k *ℤ over_ends t n) (product_of_gaps g s t valid round)
    ∙ mul_assoc_ℤ (pos (weight_of_cell t)) (pos (others_of g t)) (over_ends t n)
    ∙ ap (λ y. pos (weight_of_cell t) *ℤ y) (sym all)

pub interpolates : (g : GridData) (s : Point) (t : Cell) (a b c d e f h i : Corner) (total : ℤ) → IsGrid g → IsRound g s t → AreEight g t a b c d e f h i →
    total ≡ pos (weight_of_cell t) → IsInterpolation g s (a ∷ b ∷ c ∷ d ∷ e ∷ f ∷ h ∷ i ∷ []) total
interpolates g s t a b c d e f h i total valid round are is = record {
  sums = λ z.
      ap (λ y. pos (grid_product g) *ℤ y) (eight g t a b c d e f h i z are)
      ∙ ends_interpolate g s t z valid round
      ∙ ap (λ y. y *ℤ over_vertices g (λ y. pos (share g s y) *ℤ z (vertex_number g y))) (sym is);
}

-- the weights of a cell are above 0 in all
pub weight_of_cell-pos : (g : GridData) (s : Point) (t : Cell) → IsGrid g → IsRound g s t → 0 < weight_of_cell t
weight_of_cell-pos g s t valid round = factor_pos (grid_product g) (weight_of_cell t) (others_of g t) (grid_product_pos g valid) (product_of_gaps g s t valid round)

-- what holds of each of eight corners
pub each_of_eight : (P : Corner → Type 0) (a b c d e f g i : Corner) → P a → P b → P c → P d → P e → P f → P g → P i → (n : ℕ) (o : Corner) → n < 8 → P (get_or (a ∷ b ∷ c ∷ d ∷ e ∷ f ∷ g ∷ i ∷ []) n o)
each_of_eight P a b c d e f g i pa pb pc pd pe pf pg pi zero o h = pa
each_of_eight P a b c d e f g i pa pb pc pd pe pf pg pi (suc zero) o h = pb
each_of_eight P a b c d e f g i pa pb pc pd pe pf pg pi (suc (suc zero)) o h = pc
each_of_eight P a b c d e f g i pa pb pc pd pe pf pg pi (suc (suc (suc zero))) o h = pd
each_of_eight P a b c d e f g i pa pb pc pd pe pf pg pi (suc (suc (suc (suc zero)))) o h = pe
each_of_eight P a b c d e f g i pa pb pc pd pe pf pg pi (suc (suc (suc (suc (suc zero))))) o h = pf
each_of_eight P a b c d e f g i pa pb pc pd pe pf pg pi (suc (suc (suc (suc (suc (suc zero)))))) o h = pg
each_of_eight P a b c d e f g i pa pb pc pd pe pf pg pi (suc (suc (suc (suc (suc (suc (suc zero))))))) o h = pi
each_of_eight P a b c d e f g i pa pb pc pd pe pf pg pi (suc (suc (suc (suc (suc (suc (suc (suc n)))))))) o h = absurd (omega arith)

abbrev IsIn : GridData → Corner → Type 0
IsIn g c = c.vertex < vertices g

light : (g : GridData) (t : Cell) (h v0 v1 : End) (c : Corner) → IsCorner g t h v0 v1 c → IsLight c
light g t h v0 v1 c is = record { some = omega (arith, ints, is.weight); light = omega (arith, ints, is.weight, is.light) }

pub weighs : (g : GridData) (s : Point) (t : Cell) (a b c d e f h i : Corner) (total : ℤ) → IsGrid g → IsRound g s t → AreEight g t a b c d e f h i →
    total ≡ pos (weight_of_cell t) → weight_of_cell t ≤ greatest_weight → IsWeighting g (a ∷ b ∷ c ∷ d ∷ e ∷ f ∷ h ∷ i ∷ []) total
weighs g s t a b c d e f h i total valid round are is small = record {
  vertices = each_of_eight (IsIn g) a b c d e f h i are.at_a.below are.at_b.below are.at_c.below are.at_d.below are.at_e.below are.at_f.below are.at_h.below are.at_i.below;
  weights = each_of_eight IsLight a b c d e f h i (light g t _ _ _ a are.at_a) (light g t _ _ _ b are.at_b) (light g t _ _ _ c are.at_c) (light g t _ _ _ d are.at_d) (light g t _ _ _ e are.at_e) (light g t _ _ _ f are.at_f) (light g t _ _ _ h are.at_h) (light g t _ _ _ i are.at_i);
  sum = eight g t a b c d e f h i (λ n. pos 1) are ∙ ap pos (omega arith) ∙ sym is;
  positive = omega (arith, ints, is, weight_of_cell-pos g s t valid round);
  light = omega (arith, ints, is, small);
}
