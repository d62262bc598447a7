-- The corners of a point are one list, and their total is one number.
use Rattle.std.proofs.Common.{◌≡◌, ℕ, ◌<◌, ◌≤ℤ◌, ℤ, pos, ◌*ℤ◌, List, length, get_or, ap, sym, subst, ◌∙◌, arith}
use Rattle.std.proofs.lemmas.Int.{ints}
use Rattle.std.proofs.lemmas.List.{ext_get_or}
use Rattle.acas_spec.specs.Limits.{IsGrid}
use Rattle.acas_spec.specs.Model.{GridData}
use Rattle.acas_spec.specs.declared.place.Point.{Point}
use Rattle.acas_spec.specs.declared.place.Vertex.{Vertex}
use Rattle.acas_frac.proofs.SignedProducts.{le-from_mul_ℤ, mul_comm_ℤ}
use Rattle.acas_grid.specs.Axis.{IsCell}
use Rattle.acas_grid.specs.Grid.{IsLowerCorner}
use Rattle.acas_process.specs.Step.{grid_product}
use Rattle.acas_process.proofs.MeanLaws.{grid_product_pos}
use Rattle.acas_step.specs.Corners.{AreCorners, HasShare, cell_product, corners_from}
use Rattle.acas_step.specs.declared.cell.Corner.{Corner}
use Rattle.acas_step.specs.declared.cell.CornerSet.{CornerSet}

same_place : (axis : List ℤ) (x : ℤ) (k l : ℕ) → IsCell axis k x → IsCell axis l x → k ≡ l
same_place axis x k l a b = omega (arith, b.greatest k a.before_last a.lower, a.greatest l b.before_last b.lower)

same_vertex : (y z : Vertex) → y.i ≡ z.i → y.j ≡ z.j → y.k ≡ z.k → y ≡ z
same_vertex y z p q r =
    ap (λ (n : ℕ). let v : Vertex = record { i = n; j = y.j; k = y.k } in v) p
    ∙ ap (λ (n : ℕ). let v : Vertex = record { i = z.i; j = n; k = y.k } in v) q
    ∙ ap (λ (n : ℕ). let v : Vertex = record { i = z.i; j = z.j; k = n } in v) r

same_lower : (g : GridData) (s : Point) (y z : Vertex) → IsLowerCorner g y s → IsLowerCorner g z s → y ≡ z
same_lower g s y z a b = same_vertex y z (same_place g.h s.h y.i z.i a.h b.h) (same_place g.v0 s.v0 y.j z.j a.v0 b.v0) (same_place g.v1 s.v1 y.k z.k a.v1 b.v1)

same_factor : (n : ℕ) (a b : ℤ) → 0 < n → a *ℤ pos n ≡ b *ℤ pos n → a ≡ b
same_factor n a b some h =
    let e : pos n *ℤ a ≡ pos n *ℤ b = mul_comm_ℤ (pos n) a ∙ h ∙ mul_comm_ℤ b (pos n) in
    let l : a ≤ℤ b = le-from_mul_ℤ n a b some (subst (λ z. (pos n *ℤ a) ≤ℤ z) e (omega (arith, ints))) in
    let r : b ≤ℤ a = le-from_mul_ℤ n b a some (subst (λ z. (pos n *ℤ b) ≤ℤ z) (sym e) (omega (arith, ints))) in
    omega (arith, ints, l, r)

same_parts : (c d : Corner) → c.vertex ≡ d.vertex → c.weight ≡ d.weight → c ≡ d
same_parts c d p q =
    ap (λ (n : ℕ). let k : Corner = record { vertex = n; weight = c.weight } in k) p ∙ ap (λ (w : ℤ). let k : Corner = record { vertex = d.vertex; weight = w } in k) q

same_corner : (g : GridData) (s : Point) (total : ℤ) (c d : Corner) (y : Vertex) → IsGrid g → HasShare g s total c y → HasShare g s total d y → c ≡ d
same_corner g s total c d y valid a b =
    same_parts c d (a.number ∙ sym b.number) (same_factor (grid_product g) c.weight d.weight (grid_product_pos g valid) (a.weight ∙ sym b.weight))

pub one_corner_set : (g : GridData) (s : Point) (set other : CornerSet) → IsGrid g → length set.corners ≡ 8 → length other.corners ≡ 8
    → AreCorners g s set.corners set.total → AreCorners g s other.corners other.total → set ≡ other
one_corner_set g s set other valid eight eight' are are' =
    ap (λ (cs : List Corner). let t : CornerSet = record { corners = cs; total = set.total } in t) corners
    ∙ ap (λ (z : ℤ). let t : CornerSet = record { corners = other.corners; total = z } in t) total
  where
    lower : are.lower ≡ are'.lower
    lower = same_lower g s are.lower are'.lower are.holds are'.holds

    total : set.total ≡ other.total
    total = are.product ∙ ap (λ (y : Vertex). pos (cell_product g y)) lower ∙ sym are'.product

    no_corner : Corner
    no_corner = record { vertex = 0; weight = pos 0 }

    here : (n : ℕ) → n < 8 → HasShare g s set.total (get_or other.corners n no_corner) (get_or (corners_from are.lower) n are.lower)
    here n h = subst (λ (z : ℤ). HasShare g s z (get_or other.corners n no_corner) (get_or (corners_from are.lower) n are.lower)) (sym total)
        (subst (λ (y : Vertex). HasShare g s other.total (get_or other.corners n no_corner) (get_or (corners_from y) n are.lower)) (sym lower) (are'.each n no_corner are.lower h))

    corners : set.corners ≡ other.corners
    corners = ext_get_or no_corner set.corners other.corners (eight ∙ sym eight')
        (λ n h. same_corner g s set.total (get_or set.corners n no_corner) (get_or other.corners n no_corner) (get_or (corners_from are.lower) n are.lower) valid (are.each n no_corner are.lower (omega (arith, h, eight))) (here n (omega (arith, h, eight))))
