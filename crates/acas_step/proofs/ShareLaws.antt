-- The eight corners of a cell have the shares of their vertices, and every other vertex has none.
use Rattle.std.proofs.Common.{◌≡◌, ◌≢◌, ℕ, zero, suc, ◌+◌, ◌*◌, ◌<◌, ◌≤◌, ◌⊎◌, ℤ, pos, ◌*ℤ◌, List, [], ◌∷◌, length, get_or, refl, ap, sym, subst, inl, inr, ◌∙◌, ⊎_elim, arith}
use Rattle.std.proofs.lemmas.Bool.{cases_lt}
use Rattle.acas_spec.specs.Limits.{IsGrid}
use Rattle.acas_spec.specs.Axis.{IsAxis}
use Rattle.acas_spec.specs.Model.{GridData}
use Rattle.acas_spec.specs.declared.place.Point.{Point}
use Rattle.acas_spec.specs.declared.place.Vertex.{Vertex}
use Rattle.acas_process.specs.Axis.{tent}
use Rattle.acas_process.specs.Step.{grid_product, share}
use Rattle.acas_process.proofs.AxisLaws.{has_cell, others}
use Rattle.acas_process.proofs.CellLaws.{cell_holds}
use Rattle.acas_step.specs.Corners.{AreCorners, HasShare, corners_from}
use Rattle.acas_step.specs.Ends.{IsCorner, IsEnds, IsRound, place_on, vertex_on, weight_of_cell, weight_on}
use Rattle.acas_step.specs.declared.cell.Cell.{Cell}
use Rattle.acas_step.specs.declared.cell.Corner.{Corner}
use Rattle.acas_step.specs.declared.cell.Ends.{Ends}
use Rattle.acas_step.specs.declared.cell.End.{End}
use Rattle.acas_step.specs.declared.cell.End.TheVariants.{Lower, Upper}
use Rattle.acas_step.proofs.CornerLaws.{AreEight, others_of, product_of_gaps, weight_of_cell-gaps}

same_vertex : (i j k i' j' k' : ℕ) → i ≡ i' → j ≡ j' → k ≡ k' → ◌≡◌ {A = Vertex} (record { i = i; j = j; k = k }) (record { i = i'; j = j'; k = k' })
same_vertex i j k i' j' k' p q r = rw (p, q, r) refl

-- the tents of a number at the two ends of its cell, and at the other places of the axis
pub record HasTents (axis : List ℤ) (x : ℤ) (e : Ends) (o : ℕ) : Type 0 where
  pub place : e.cell + 1 < length axis
  pub lower : tent axis e.cell x ≡ o * e.lower
  pub upper : tent axis (e.cell + 1) x ≡ o * e.upper
  pub other : (i : ℕ) → (tent axis i x ≡ 0) ⊎ ((i ≡ e.cell) ⊎ (i ≡ e.cell + 1))

has_tents : (axis : List ℤ) (x : ℤ) (e : Ends) → IsAxis axis → IsEnds axis x e → HasTents axis x e (others axis e.cell)
has_tents axis x e rising is =
    let cell = has_cell axis e.cell x rising (cell_holds axis e.cell x is.cell) in
    let one : suc e.cell ≡ e.cell + 1 = omega arith in
    record {
      place = is.cell.before_last;
      lower = cell.lower ∙ ap (λ (n : ℕ). others axis e.cell * n) (sym is.lower);
      upper = subst (λ (k : ℕ). tent axis k x ≡ others axis e.cell * e.upper) one (cell.upper ∙ ap (λ (n : ℕ). others axis e.cell * n) (sym is.upper));
      other = λ i.
          ⊎_elim (λ (h : i < e.cell). inl (cell.before i h))
          (λ (h : e.cell ≤ i).
          ⊎_elim (λ (k : suc e.cell < i). inl (cell.after i k))
          (λ (k : i ≤ suc e.cell).
          ⊎_elim (λ (l : i < e.cell + 1). inr (inl (omega arith))) (λ (l : e.cell + 1 ≤ i). inr (inr (omega arith))) (cases_lt i (e.cell + 1)))
          (cases_lt (suc e.cell) i))
          (cases_lt i e.cell);
    }

-- the same at either end
record IsOn (axis : List ℤ) (x : ℤ) (e : Ends) (o : ℕ) (end : End) : Type 0 where
  place : place_on e end < length axis
  is : tent axis (place_on e end) x ≡ o * weight_on e end

on : (axis : List ℤ) (x : ℤ) (e : Ends) (o : ℕ) (end : End) → HasTents axis x e o → IsOn axis x e o end
on axis x e o Lower has = record { place = omega (arith, has.place); is = has.lower }
on axis x e o Upper has = record { place = has.place; is = has.upper }

-- the tents of a point on the three axes
pub record HasAll (g : GridData) (s : Point) (t : Cell) : Type 0 where
  pub h : HasTents g.h s.h t.h (others g.h t.h.cell)
  pub v0 : HasTents g.v0 s.v0 t.v0 (others g.v0 t.v0.cell)
  pub v1 : HasTents g.v1 s.v1 t.v1 (others g.v1 t.v1.cell)

has_all : (g : GridData) (s : Point) (t : Cell) → IsGrid g → IsRound g s t → HasAll g s t
has_all g s t valid is = record {
  h = has_tents g.h s.h t.h valid.altitudes is.h;
  v0 = has_tents g.v0 s.v0 t.v0 valid.own_rates is.v0;
  v1 = has_tents g.v1 s.v1 t.v1 valid.intruder_rates is.v1;
}

-- a vertex's weight and share
weights_joined : (a b c o p q t n : ℕ) → n ≡ t * (o * p * q) → (a * b * c) * n ≡ ((o * a) * (p * b) * (q * c)) * t
weights_joined a b c o p q t n e = ap (λ (k : ℕ). (a * b * c) * k) e ∙ omega arith

corner_share : (g : GridData) (s : Point) (t : Cell) (total : ℤ) (h v0 v1 : End) (c : Corner) → HasAll g s t → grid_product g ≡ weight_of_cell t * others_of g t → total ≡ pos (weight_of_cell t) →
    IsCorner g t h v0 v1 c → HasShare g s total c (vertex_on t h v0 v1)
corner_share g s t total h v0 v1 c has product total_is is =
    let x = on g.h s.h t.h (others g.h t.h.cell) h has.h in
    let y = on g.v0 s.v0 t.v0 (others g.v0 t.v0.cell) v0 has.v0 in
    let z = on g.v1 s.v1 t.v1 (others g.v1 t.v1.cell) v1 has.v1 in
    let o : ℕ = others g.h t.h.cell in
    let p : ℕ = others g.v0 t.v0.cell in
    let q : ℕ = others g.v1 t.v1.cell in
    let a : ℕ = weight_on t.h h in
    let b : ℕ = weight_on t.v0 v0 in
    let d : ℕ = weight_on t.v1 v1 in
    record {
      vertex = record { i = x.place; j = y.place; k = z.place };
      number = is.vertex;
      weight =
          let shared : share g s (vertex_on t h v0 v1) ≡ (o * a) * (p * b) * (q * d) =
          ap (λ (n : ℕ). n * tent g.v0 (place_on t.v0 v0) s.v0 * tent g.v1 (place_on t.v1 v1) s.v1) x.is ∙ ap (λ (n : ℕ). o * a * n * tent g.v1 (place_on t.v1 v1) s.v1) y.is ∙ ap (λ (n : ℕ). o * a * (p * b) * n) z.is in
          ap (λ w. w *ℤ pos (grid_product g)) is.weight
          ∙ ap pos (weights_joined a b d o p q (weight_of_cell t) (grid_product g) product)
          ∙ ap (λ (n : ℕ). pos (n * weight_of_cell t)) (sym shared)
          ∙ ap (λ w. pos (share g s (vertex_on t h v0 v1)) *ℤ w) (sym total_is);
    }

none_of_three : (a b c : ℕ) → (a ≡ 0) ⊎ ((b ≡ 0) ⊎ (c ≡ 0)) → a * b * c ≡ 0
none_of_three a b c h =
    ⊎_elim (λ (e : a ≡ 0). omega (arith, ap (λ (n : ℕ). n * b * c) e))
    (λ (k : (b ≡ 0) ⊎ (c ≡ 0)). ⊎_elim (λ (e : b ≡ 0). omega (arith, ap (λ (n : ℕ). a * n * c) e)) (λ (e : c ≡ 0). omega (arith, ap (λ (n : ℕ). a * b * n) e)) k) h

-- a vertex that is none of the corners is off the cell on some axis
share_of_others : (g : GridData) (s : Point) (t : Cell) → HasAll g s t → (y : Vertex) → ((n : ℕ) (z : Vertex) → n < 8 → get_or (corners_from (vertex_on t Lower Lower Lower)) n z ≢ y) → share g s y ≡ 0
share_of_others g s t has y apart =
    let p : ℕ = t.h.cell in
    let q : ℕ = t.v0.cell in
    let r : ℕ = t.v1.cell in
    let a : ℕ = tent g.h y.i s.h in
    let b : ℕ = tent g.v0 y.j s.v0 in
    let c : ℕ = tent g.v1 y.k s.v1 in
    none_of_three a b c
    (⊎_elim (λ (e : a ≡ 0). inl e)
    (λ (hi : (y.i ≡ p) ⊎ (y.i ≡ p + 1)).
    ⊎_elim (λ (e : b ≡ 0). inr (inl e))
    (λ (vi : (y.j ≡ q) ⊎ (y.j ≡ q + 1)).
    ⊎_elim (λ (e : c ≡ 0). inr (inr e))
    (λ (wi : (y.k ≡ r) ⊎ (y.k ≡ r + 1)).
    ⊎_elim
    (λ (i : y.i ≡ p).
    ⊎_elim
    (λ (j : y.j ≡ q). ⊎_elim (λ (k : y.k ≡ r). absurd (apart 0 y (omega arith) (same_vertex p q r y.i y.j y.k (sym i) (sym j) (sym k)))) (λ (k : y.k ≡ r + 1). absurd (apart 1 y (omega arith) (same_vertex p q (r + 1) y.i y.j y.k (sym i) (sym j) (sym k)))) wi)
    (λ (j : y.j ≡ q + 1). ⊎_elim (λ (k : y.k ≡ r). absurd (apart 2 y (omega arith) (same_vertex p (q + 1) r y.i y.j y.k (sym i) (sym j) (sym k)))) (λ (k : y.k ≡ r + 1). absurd (apart 3 y (omega arith) (same_vertex p (q + 1) (r + 1) y.i y.j y.k (sym i) (sym j) (sym k)))) wi)
    vi)
    (λ (i : y.i ≡ p + 1).
    ⊎_elim
    (λ (j : y.j ≡ q). ⊎_elim (λ (k : y.k ≡ r). absurd (apart 4 y (omega arith) (same_vertex (p + 1) q r y.i y.j y.k (sym i) (sym j) (sym k)))) (λ (k : y.k ≡ r + 1). absurd (apart 5 y (omega arith) (same_vertex (p + 1) q (r + 1) y.i y.j y.k (sym i) (sym j) (sym k)))) wi)
    (λ (j : y.j ≡ q + 1). ⊎_elim (λ (k : y.k ≡ r). absurd (apart 6 y (omega arith) (same_vertex (p + 1) (q + 1) r y.i y.j y.k (sym i) (sym j) (sym k)))) (λ (k : y.k ≡ r + 1). absurd (apart 7 y (omega arith) (same_vertex (p + 1) (q + 1) (r + 1) y.i y.j y.k (sym i) (sym j) (sym k)))) wi)
    vi)
    hi)
    (has.v1.other y.k))
    (has.v0.other y.j))
    (has.h.other y.i))

-- what holds of each of eight corners and of the vertex that stands at its place
pairs_of_eight : (P : Corner → Vertex → Type 0) (a b c d e f g i : Corner) (p q r s t u v w : Vertex) → P a p → P b q → P c r → P d s → P e t → P f u → P g v → P i w →
    (n : ℕ) (o : Corner) (y : Vertex) → n < 8 → P (get_or (a ∷ b ∷ c ∷ d ∷ e ∷ f ∷ g ∷ i ∷ []) n o) (get_or (p ∷ q ∷ r ∷ s ∷ t ∷ u ∷ v ∷ w ∷ []) n y)
pairs_of_eight P a b c d e f g i p q r s t u v w pa pb pc pd pe pf pg pi zero o y h = pa
pairs_of_eight P a b c d e f g i p q r s t u v w pa pb pc pd pe pf pg pi (suc zero) o y h = pb
pairs_of_eight P a b c d e f g i p q r s t u v w pa pb pc pd pe pf pg pi (suc (suc zero)) o y h = pc
pairs_of_eight P a b c d e f g i p q r s t u v w pa pb pc pd pe pf pg pi (suc (suc (suc zero))) o y h = pd
pairs_of_eight P a b c d e f g i p q r s t u v w pa pb pc pd pe pf pg pi (suc (suc (suc (suc zero)))) o y h = pe
pairs_of_eight P a b c d e f g i p q r s t u v w pa pb pc pd pe pf pg pi (suc (suc (suc (suc (suc zero))))) o y h = pf
pairs_of_eight P a b c d e f g i p q r s t u v w pa pb pc pd pe pf pg pi (suc (suc (suc (suc (suc (suc zero)))))) o y h = pg
pairs_of_eight P a b c d e f g i p q r s t u v w pa pb pc pd pe pf pg pi (suc (suc (suc (suc (suc (suc (suc zero))))))) o y h = pi
pairs_of_eight P a b c d e f g i p q r s t u v w pa pb pc pd pe pf pg pi (suc (suc (suc (suc (suc (suc (suc (suc n)))))))) o y h = absurd (omega arith)

pub are_corners : (g : GridData) (s : Point) (t : Cell) (a b c d e f h i : Corner) (total : ℤ) → IsGrid g → IsRound g s t → AreEight g t a b c d e f h i →
    total ≡ pos (weight_of_cell t) → AreCorners g s (a ∷ b ∷ c ∷ d ∷ e ∷ f ∷ h ∷ i ∷ []) total
are_corners g s t a b c d e f h i total valid round are is =
    let has = has_all g s t valid round in
    let product = product_of_gaps g s t valid round in
    record {
      lower = vertex_on t Lower Lower Lower;
      holds = record { h = round.h.cell; v0 = round.v0.cell; v1 = round.v1.cell };
      product = is ∙ ap pos (weight_of_cell-gaps g s t valid round);
      each = pairs_of_eight (HasShare g s total) a b c d e f h i
          (vertex_on t Lower Lower Lower) (vertex_on t Lower Lower Upper) (vertex_on t Lower Upper Lower) (vertex_on t Lower Upper Upper)
          (vertex_on t Upper Lower Lower) (vertex_on t Upper Lower Upper) (vertex_on t Upper Upper Lower) (vertex_on t Upper Upper Upper)
          (corner_share g s t total Lower Lower Lower a has product is are.at_a)
          (corner_share g s t total Lower Lower Upper b has product is are.at_b)
          (corner_share g s t total Lower Upper Lower c has product is are.at_c)
          (corner_share g s t total Lower Upper Upper d has product is are.at_d)
          (corner_share g s t total Upper Lower Lower e has product is are.at_e)
          (corner_share g s t total Upper Lower Upper f has product is are.at_f)
          (corner_share g s t total Upper Upper Lower h has product is are.at_h)
          (corner_share g s t total Upper Upper Upper i has product is are.at_i);
      others = λ y inside apart. share_of_others g s t has y apart;
    }
