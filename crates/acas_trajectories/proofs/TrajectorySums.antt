-- Sums over trajectories: equal, scaled and added terms, how many terms there are, and a sum with one term.
use Rattle.std.proofs.Common.{◌≡◌, ◌≢◌, ℕ, zero, suc, ◌^◌, ◌<◌, ◌≤◌, ℤ, pos, ◌+ℤ◌, ◌*ℤ◌, [], ◌∷◌, length, get_or, drop, All, refl, ap, sym, subst, ◌∙◌, ⊎_elim, arith}
use Rattle.std.proofs.lemmas.Bool.{cases_lt}
use Rattle.std.proofs.lemmas.Int.{ints}
use Rattle.std.proofs.lemmas.List.Elements.{All-nil, All-cons, All-head, All-tail}
use Rattle.std.proofs.Math.Nat.{pow-suc, pow-zero}
use Rattle.acas_spec.specs.Model.{GridData, vertices}
use Rattle.acas_spec.specs.declared.place.Vertex.{Vertex}
use Rattle.acas_grid.specs.Grid.{IsVertex}
use Rattle.acas_process.specs.Sums.{sum_below}
use Rattle.acas_process.specs.Step.{over_vertices}
use Rattle.acas_process.proofs.SumLaws.{sum_below-same, sum_below-zero}
use Rattle.acas_process.proofs.VertexLaws.{over_vertices-same, over_vertices-mul, over_vertices-add, over_vertices-zero, product_sum}
use Rattle.acas_trajectories.specs.Trajectories.{Trajectory, over_trajectories}

-- ---- equal, scaled and added terms

pub over_trajectories-same : (g : GridData) (n : ℕ) (f h : Trajectory → ℤ) → ((path : Trajectory) → length path ≡ n → All (IsVertex g) path → f path ≡ h path) → over_trajectories g n f ≡ over_trajectories g n h
over_trajectories-same g zero f h e = e [] refl (All-nil (IsVertex g))
over_trajectories-same g (suc n) f h e =
    over_vertices-same g _ _ (λ y v. over_trajectories-same g n (λ rest. f (y ∷ rest)) (λ rest. h (y ∷ rest)) (λ rest l all. e (y ∷ rest) (ap suc l) (All-cons (IsVertex g) y rest v all)))

pub over_trajectories-mul : (g : GridData) (n : ℕ) (c : ℤ) (f : Trajectory → ℤ) → over_trajectories g n (λ path. c *ℤ f path) ≡ c *ℤ over_trajectories g n f
over_trajectories-mul g zero c f = refl
over_trajectories-mul g (suc n) c f =
    over_vertices-same g _ _ (λ y v. over_trajectories-mul g n c (λ rest. f (y ∷ rest))) ∙ over_vertices-mul g c (λ y. over_trajectories g n (λ rest. f (y ∷ rest)))

pub over_trajectories-add : (g : GridData) (n : ℕ) (f h : Trajectory → ℤ) → over_trajectories g n (λ path. f path +ℤ h path) ≡ over_trajectories g n f +ℤ over_trajectories g n h
over_trajectories-add g zero f h = refl
over_trajectories-add g (suc n) f h =
    over_vertices-same g _ _ (λ y v. over_trajectories-add g n (λ rest. f (y ∷ rest)) (λ rest. h (y ∷ rest)))
    ∙ over_vertices-add g (λ y. over_trajectories g n (λ rest. f (y ∷ rest))) (λ y. over_trajectories g n (λ rest. h (y ∷ rest)))

pub over_trajectories-zero : (g : GridData) (n : ℕ) → over_trajectories g n (λ path. pos 0) ≡ pos 0
over_trajectories-zero g zero = refl
over_trajectories-zero g (suc n) = over_vertices-same g _ _ (λ y v. over_trajectories-zero g n) ∙ over_vertices-zero g

-- a sum whose terms are all 0
pub over_trajectories-none : (g : GridData) (n : ℕ) (f : Trajectory → ℤ) → ((path : Trajectory) → length path ≡ n → All (IsVertex g) path → f path ≡ pos 0) → over_trajectories g n f ≡ pos 0
over_trajectories-none g n f h = over_trajectories-same g n f (λ path. pos 0) h ∙ over_trajectories-zero g n

-- ---- how many terms there are

sum_below-ones : (n : ℕ) → sum_below n (λ i. pos 1) ≡ pos n
sum_below-ones zero = refl
sum_below-ones (suc n) = omega (arith, ints, sum_below-ones n)

over_vertices-ones : (g : GridData) → over_vertices g (λ y. pos 1) ≡ pos (vertices g)
over_vertices-ones g =
    product_sum (length g.h) (length g.v0) (length g.v1) (λ i. 1) (λ j. 1) (λ k. 1) (length g.h) (length g.v0) (length g.v1)
    (sum_below-ones (length g.h)) (sum_below-ones (length g.v0)) (sum_below-ones (length g.v1))

pub over_trajectories-ones : (g : GridData) (n : ℕ) → over_trajectories g n (λ path. pos 1) ≡ pos (vertices g ^ n)
over_trajectories-ones g zero = ap pos (sym (pow-zero (vertices g)))
over_trajectories-ones g (suc n) =
    let count : ℕ = vertices g ^ n in
    let same : pos count ≡ pos count *ℤ pos 1 = omega (arith, ints) in
    over_vertices-same g _ _ (λ y v. over_trajectories-ones g n ∙ same)
    ∙ over_vertices-mul g (pos count) (λ y. pos 1)
    ∙ ap (λ z. pos count *ℤ z) (over_vertices-ones g)
    ∙ ap pos (sym (pow-suc (vertices g) n))

-- ---- a sum with one term

sum_below-none : (n : ℕ) (f : ℕ → ℤ) → ((i : ℕ) → i < n → f i ≡ pos 0) → sum_below n f ≡ pos 0
sum_below-none n f h = sum_below-same n f (λ i. pos 0) h ∙ sum_below-zero n

sum_below-one : (n k : ℕ) (f : ℕ → ℤ) → k < n → ((i : ℕ) → i < n → i ≢ k → f i ≡ pos 0) → sum_below n f ≡ f k
sum_below-one zero k f within others = absurd (omega arith)
sum_below-one (suc n) k f within others =
    ⊎_elim
    (λ (before : k < n). omega (arith, ints, sum_below-one n k f before (λ i h d. others i (omega arith) d), others n (omega arith) (λ e. omega (arith, e))))
    (λ (last : n ≤ k).
    let e : n ≡ k = omega arith in
    let none : sum_below n f ≡ pos 0 = sum_below-none n f (λ i h. others i (omega arith) (λ d. omega (arith, d))) in
    subst (λ (i : ℕ). sum_below n f +ℤ f n ≡ f i) e (omega (arith, ints, none)))
    (cases_lt k n)

over_vertices-one : (g : GridData) (f : Vertex → ℤ) (y : Vertex) → IsVertex g y → ((z : Vertex) → IsVertex g z → z ≢ y → f z ≡ pos 0) → over_vertices g f ≡ f y
over_vertices-one g f y v others =
    sum_below-one (length g.h) y.i _ v.i (λ i p d.
    sum_below-none (length g.v0) _ (λ j q. sum_below-none (length g.v1) _ (λ k r. others (record { i = i; j = j; k = k }) (record { i = p; j = q; k = r }) (λ e. d (ap (λ (z : Vertex). z.i) e)))))
    ∙ sum_below-one (length g.v0) y.j _ v.j (λ j q d. sum_below-none (length g.v1) _ (λ k r. others (record { i = y.i; j = j; k = k }) (record { i = v.i; j = q; k = r }) (λ e. d (ap (λ (z : Vertex). z.j) e))))
    ∙ sum_below-one (length g.v1) y.k _ v.k (λ k r d. others (record { i = y.i; j = y.j; k = k }) (record { i = v.i; j = v.j; k = r }) (λ e. d (ap (λ (z : Vertex). z.k) e)))

pub over_trajectories-one : (g : GridData) (f : Trajectory → ℤ) (path : Trajectory) → All (IsVertex g) path →
    ((other : Trajectory) → length other ≡ length path → All (IsVertex g) other → other ≢ path → f other ≡ pos 0) → over_trajectories g (length path) f ≡ f path
over_trajectories-one g f [] v others = refl
over_trajectories-one g f (y ∷ rest) v others =
    over_vertices-one g (λ z. over_trajectories g (length rest) (λ path. f (z ∷ path))) y (All-head (IsVertex g) y rest v) (λ z w d.
    over_trajectories-none g (length rest) (λ path. f (z ∷ path)) (λ path l all. others (z ∷ path) (ap suc l) (All-cons (IsVertex g) z path w all) (λ e. d (ap (λ (zs : Trajectory). get_or zs 0 y) e))))
    ∙ over_trajectories-one g (λ path. f (y ∷ path)) rest (All-tail (IsVertex g) y rest v) (λ path l all d.
    others (y ∷ path) (ap suc l) (All-cons (IsVertex g) y path (All-head (IsVertex g) y rest v) all) (λ e. d (ap (λ (zs : Trajectory). drop 1 zs) e)))
