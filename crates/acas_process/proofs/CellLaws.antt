-- A sum by the shares of a point has eight terms: those at the corners of its cell.
use Rattle.std.proofs.Common.{◌≡◌, ℕ, suc, ◌+◌, ◌*◌, ◌<◌, ℤ, pos, ◌+ℤ◌, ◌*ℤ◌, List, length, get_or, ap, sym, ◌∙◌, arith}
use Rattle.std.proofs.lemmas.Int.{ints}
use Rattle.acas_spec.specs.Model.{GridData}
use Rattle.acas_grid.specs.Axis.{IsCell}
use Rattle.acas_spec.specs.declared.place.Vertex.{Vertex}
use Rattle.acas_spec.specs.declared.place.Point.{Point}
use Rattle.acas_frac.proofs.SignedProducts.{mul-add_ℤ, mul_assoc_ℤ, mul_comm_ℤ}
use Rattle.acas_process.specs.Sums.{sum_below}
use Rattle.acas_process.specs.Axis.{distance, tent}
use Rattle.acas_process.specs.Step.{share, over_vertices}
use Rattle.acas_process.proofs.SumLaws.{sum_below-same, sum_below-mul, sum_of_two}
use Rattle.acas_process.proofs.AxisLaws.{IsBetween, HasCell}

-- the two ends of a cell, with their weights
abbrev pub at_ends : ℕ → ℕ → ℕ → (ℕ → ℤ) → ℤ
at_ends lower upper k g = pos lower *ℤ g k +ℤ pos upper *ℤ g (suc k)

-- the cell of a number, which begins at the greatest place at or below it, is one of those that hold the number
pub cell_holds : (axis : List ℤ) (k : ℕ) (x : ℤ) → IsCell axis k x → IsBetween axis k x
cell_holds axis k x c = record { place = c.before_last; low = c.lower; high = c.upper }

pub two_scaled : (o l u a b : ℕ) (y z : ℤ) → a ≡ o * l → b ≡ o * u → pos a *ℤ y +ℤ pos b *ℤ z ≡ pos o *ℤ (pos l *ℤ y +ℤ pos u *ℤ z)
two_scaled o l u a b y z e k =
    omega (
      arith,
      ints,
      mul-add_ℤ (pos o) (pos l *ℤ y) (pos u *ℤ z),
      ap (λ n. pos n *ℤ y) e,
      ap (λ n. pos n *ℤ z) k,
      mul_assoc_ℤ (pos o) (pos l) y,
      mul_assoc_ℤ (pos o) (pos u) z,
    )

-- the sum over an axis, at a point of the cell k
pub axis_sum : (axis : List ℤ) (k : ℕ) (x : ℤ) (other : ℕ) (g : ℕ → ℤ) → k + 1 < length axis → HasCell axis k x other →
    sum_below (length axis) (λ i. pos (tent axis i x) *ℤ g i) ≡ pos other *ℤ at_ends (distance x (get_or axis (k + 1) (pos 0))) (distance (get_or axis k (pos 0)) x) k g
axis_sum axis k x other g place c =
    sum_of_two (length axis) k (λ i. pos (tent axis i x) *ℤ g i) (omega arith)
    (λ i h. ap (λ n. pos n *ℤ g i) (c.before i h) ∙ omega (arith, ints)) (λ i h. ap (λ n. pos n *ℤ g i) (c.after i h) ∙ omega (arith, ints))
    ∙ two_scaled other (distance x (get_or axis (k + 1) (pos 0))) (distance (get_or axis k (pos 0)) x) (tent axis k x) (tent axis (suc k) x) (g k) (g (suc k)) c.lower c.upper

at_ends-mul : (l u k : ℕ) (c : ℤ) (g : ℕ → ℤ) → at_ends l u k (λ i. c *ℤ g i) ≡ c *ℤ at_ends l u k g
at_ends-mul l u k c g =
    let turn : (n : ℕ) (z : ℤ) → pos n *ℤ (c *ℤ z) ≡ c *ℤ (pos n *ℤ z) = λ n z. sym (mul_assoc_ℤ (pos n) c z) ∙ ap (λ w. w *ℤ z) (mul_comm_ℤ (pos n) c) ∙ mul_assoc_ℤ c (pos n) z in
    omega (arith, ints, mul-add_ℤ c (pos l *ℤ g k) (pos u *ℤ g (suc k)), turn l (g k), turn u (g (suc k)))

-- the weights of three axes in a product come out of the inner sums
nested : (l m n : ℕ) (f g h : ℕ → ℕ) (v : ℕ → ℕ → ℕ → ℤ) →
    sum_below l (λ i. sum_below m (λ j. sum_below n (λ k. pos (f i * g j * h k) *ℤ v i j k)))
    ≡ sum_below l (λ i. pos (f i) *ℤ sum_below m (λ j. pos (g j) *ℤ sum_below n (λ k. pos (h k) *ℤ v i j k)))
nested l m n f g h v =
    sum_below-same l _ _ (λ i _.
    sum_below-same m _ _ (λ j _.
    sum_below-same n _ _ (λ k _. mul_assoc_ℤ (pos (f i * g j)) (pos (h k)) (v i j k))
    ∙ sum_below-mul n (pos (f i * g j)) (λ k. pos (h k) *ℤ v i j k)
    ∙ mul_assoc_ℤ (pos (f i)) (pos (g j)) (sum_below n (λ k. pos (h k) *ℤ v i j k)))
    ∙ sum_below-mul m (pos (f i)) (λ j. pos (g j) *ℤ sum_below n (λ k. pos (h k) *ℤ v i j k)))

-- x's place on an axis: the cell, the weights of its two ends, and the product of the other gaps
pub record Place : Type 0 where
  pub cell : ℕ
  pub lower : ℕ
  pub upper : ℕ
  pub other : ℕ

abbrev pub ends_of : Place → (ℕ → ℤ) → ℤ
ends_of p g = at_ends p.lower p.upper p.cell g

-- the sum over the axis is that over the two ends
abbrev pub IsPlace : List ℤ → ℤ → Place → Type 0
IsPlace axis x p = (g : ℕ → ℤ) → sum_below (length axis) (λ i. pos (tent axis i x) *ℤ g i) ≡ pos p.other *ℤ ends_of p g

-- a sum over all vertices by their shares is a sum over the corners of a cell
pub grid_sum : (grid : GridData) (s : Point) (p q r : Place) (f : Vertex → ℤ) → IsPlace grid.h s.h p → IsPlace grid.v0 s.v0 q → IsPlace grid.v1 s.v1 r →
    over_vertices grid (λ y. pos (share grid s y) *ℤ f y)
    ≡ pos (p.other * q.other * r.other) *ℤ ends_of p (λ i. ends_of q (λ j. ends_of r (λ k. f (record { i = i; j = j; k = k }))))
grid_sum grid s p q r f hp hq hr =
    let v : ℕ → ℕ → ℕ → ℤ = λ i j k. f (record { i = i; j = j; k = k }) in
    let inner : ℕ → ℕ → ℤ = λ i j. ends_of r (v i j) in
    let middle : ℕ → ℤ = λ i. ends_of q (inner i) in
    nested (length grid.h) (length grid.v0) (length grid.v1) (λ i. tent grid.h i s.h) (λ j. tent grid.v0 j s.v0) (λ k. tent grid.v1 k s.v1) v
    ∙ sum_below-same (length grid.h) _ _ (λ i _. ap (λ z. pos (tent grid.h i s.h) *ℤ z)
    (sum_below-same (length grid.v0) _ _ (λ j _. ap (λ z. pos (tent grid.v0 j s.v0) *ℤ z) (hr (v i j)))
    ∙ hq (λ j. pos r.other *ℤ inner i j)
    ∙ ap (λ z. pos q.other *ℤ z) (at_ends-mul q.lower q.upper q.cell (pos r.other) (inner i))
    ∙ sym (mul_assoc_ℤ (pos q.other) (pos r.other) (middle i))))
    ∙ hp (λ i. pos (q.other * r.other) *ℤ middle i)
    ∙ ap (λ z. pos p.other *ℤ z) (at_ends-mul p.lower p.upper p.cell (pos (q.other * r.other)) middle)
    ∙ sym (mul_assoc_ℤ (pos p.other) (pos (q.other * r.other)) (ends_of p middle))
    ∙ ap (λ n. pos n *ℤ ends_of p middle) (omega arith)
