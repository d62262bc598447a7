-- Squares of differences of natural numbers, where a difference stops at 0.
use Rattle.std.proofs.Common.{◌≡◌, ℕ, ◌+◌, ◌-◌, ◌*◌, ◌<◌, ◌≤◌, ◌⊎◌, inl, inr, ⊎_elim, ap, arith, mul-le-mul, mul-le-mul_right, mul-le-mul_left, le_of_lt}
use Rattle.std.proofs.lemmas.Bool.{cases_lt}

abbrev pub sq : ℕ → ℕ
sq n = n * n

pub sq_le : (m n : ℕ) → m ≤ n → sq m ≤ sq n
sq_le m n h = mul-le-mul h h

below_squares : (x y p e m g : ℕ) → x ≡ y + p + e → m ≤ g + e → g ≤ y → m * m + (x + y) * p + y * y ≤ x * x + g * g
below_squares x y p e m g h hm hg = rw h (omega (arith, mul-le-mul hm hm, mul-le-mul_right e hg))

-- one more piece of an approach from below that stays below
pub below_step : (x y p e s : ℕ) → x ≡ y + p + e → sq (x - (s + p)) + (x + y) * p + y * y ≤ x * x + sq (y - s)
below_step x y p e s h = below_squares x y p e (x - (s + p)) (y - s) h (omega arith) (omega arith)

crossing_squares : (x u p m c : ℕ) → x ≡ m + p + c → m * m + x * p ≤ x * x + u * p
crossing_squares x u p m c h = rw h (omega arith)

far_crossing : (x u p : ℕ) → p ≤ x + u → x * p ≤ x * x + u * p
far_crossing x u p h = ⊎_elim (λ l. omega (arith, mul-le-mul_right p (le_of_lt l))) (λ l. far (x - u) (omega arith)) (cases_lt x u)
  where
    far : (c : ℕ) → x ≡ u + c → x * p ≤ x * x + u * p
    far c e = let k = mul-le-mul_left c h in let k' : c * p ≤ c * ((u + c) + u) = rw e at k in rw e (omega (arith, k'))

-- and one that reaches u above the aim
pub crossing_step : (x u p s : ℕ) → p ≤ x + u → sq (x - (s + p)) + x * p ≤ x * x + u * p
crossing_step x u p s h =
    ⊎_elim
    (λ (l : x < s + p). let e : x - (s + p) ≡ 0 = omega arith in rw e (omega (arith, far_crossing x u p h)))
    (λ (l : s + p ≤ x). crossing_squares x u p (x - (s + p)) s (omega arith))
    (cases_lt x (s + p))

near_above : (u w p d g s : ℕ) → u ≡ g + s + p → w ≡ g + s + d → u * u + (g + d) * (g + d) ≤ (u + w) * p + w * w + g * g
near_above u w p d g s h k = rw (h, k) (omega arith)

far_above : (u w p d m : ℕ) → w + p ≡ u + d → m ≤ d → m ≤ w → u * u + m * m ≤ (u + w) * p + w * w
far_above u w p d m h hd hw = omega (arith, ap (λ z. (u + w) * z) h, mul-le-mul hw hd)

-- one more piece of an approach from above
pub above_step : (u w p d s : ℕ) → w + p ≡ u + d → u * u + sq (w - s) ≤ (u + w) * p + w * w + sq (u - (s + p))
above_step u w p d s h =
    ⊎_elim
    (λ l. let e : u - (s + p) ≡ 0 = omega arith in rw e (omega (arith, far_above u w p d (w - s) h (omega arith) (omega arith))))
    (λ l. let e : w - s ≡ (u - (s + p)) + d = omega arith in rw e (near_above u w p d (u - (s + p)) s (omega arith) (omega arith)))
    (cases_lt u (s + p))

long_hold : (g m x p c : ℕ) → g ≡ c + p → c ≤ m → g ≤ x → g * g ≤ m * m + (x + x) * p
long_hold g m x p c e h k =
    let narrow : (c + p) * p ≤ x * p = rw e at (mul-le-mul_right p k) in
    rw e (omega (arith, mul-le-mul h h, narrow))

held_squares : (g m x p : ℕ) → g ≤ m + p → g ≤ x → g * g ≤ m * m + (x + x) * p
held_squares g m x p h k =
    ⊎_elim
    (λ l. omega (arith, mul-le-mul k (le_of_lt l)))
    (λ l. long_hold g m x p (g - p) (omega arith) (omega arith) k)
    (cases_lt g p)

-- to hold the rate for p longer, below the aim, leaves less climb
pub hold_step : (x s p : ℕ) → sq (x - s) ≤ sq (x - (s + p)) + (x + x) * p
hold_step x s p = held_squares (x - s) (x - (s + p)) x p (omega arith) (omega arith)

-- a curve from nearer its aim
pub nearer_start : (x y s : ℕ) → y ≤ x → sq (x - s) + sq y ≤ sq (y - s) + sq x
nearer_start x y s h = nearer (x - s) (y - s) (x - y) (omega arith) (omega arith) (omega arith)
  where
    nearer : (g m e : ℕ) → g ≤ m + e → m ≤ y → x ≡ y + e → g * g + y * y ≤ m * m + x * x
    nearer g m e k l n = rw n (omega (arith, mul-le-mul k k, mul-le-mul_right e l))

-- The square of a deficit against its tangent: y is the deficit after s, m that after t. The hold is s1 of s1 + s and t1 of t1 + t.
pub tangent : (x s t : ℕ) → sq (x - s) + ((x - s) + (x - s)) * s ≤ sq (x - t) + ((x - s) + (x - s)) * t
tangent x s t = ⊎_elim (λ (l : x < s). over l) (λ (l : s ≤ x). under (x - s) (x - t) (omega arith) (omega arith)) (cases_lt x s)
  where
    over : x < s → sq (x - s) + ((x - s) + (x - s)) * s ≤ sq (x - t) + ((x - s) + (x - s)) * t
    over l = let e : x - s ≡ 0 = omega arith in rw e (omega arith)

    under : (y m : ℕ) → x ≡ y + s → x ≤ m + t → y * y + (y + y) * s ≤ m * m + (y + y) * t
    under y m e l = ⊎_elim (λ (k : m < y). near (y - m) (omega arith)) (λ (k : y ≤ m). far (m - y) (omega arith)) (cases_lt m y)
      where
        near : (c : ℕ) → y ≡ m + c → y * y + (y + y) * s ≤ m * m + (y + y) * t
        near c f =
            let n : c + s ≤ t = omega arith in
            let p = mul-le-mul_left (y + y) n in
            let q : ((m + c) + (m + c)) * (c + s) ≤ ((m + c) + (m + c)) * t = rw f at p in
            rw f (omega (arith, q))

        far : (c : ℕ) → m ≡ y + c → y * y + (y + y) * s ≤ m * m + (y + y) * t
        far c f =
            let n : s ≤ t + c = omega arith in
            rw f (omega (arith, mul-le-mul_left (y + y) n))

pub swap_hold : (x y i j : ℕ) → (y ≡ x) ⊎ ((y ≤ x) × (j ≤ i)) → (x + x) * j + (y + y) * i ≤ (x + x) * i + (y + y) * j
swap_hold x y i j h = ⊎_elim (λ e. rw e (omega arith)) (λ p. ordered (x - y) (i - j) (omega arith) (omega arith)) h
  where
    ordered : (c d : ℕ) → x ≡ y + c → i ≡ j + d → (x + x) * j + (y + y) * i ≤ (x + x) * i + (y + y) * j
    ordered c d e f = rw (e, f) (omega arith)

-- the same with a hold before: s is the time i held and then s, t the time j held and then t
pub held_tangent : (x i s j t : ℕ) → (s ≡ 0) ⊎ (j ≤ i) →
    (x + x) * j + sq (x - s) + ((x - s) + (x - s)) * (i + s) ≤ (x + x) * i + sq (x - t) + ((x - s) + (x - s)) * (j + t)
held_tangent x i s j t h =
    let turn : ((x - s) ≡ x) ⊎ (((x - s) ≤ x) × (j ≤ i)) = ⊎_elim (λ e. inl (omega arith)) (λ l. inr (omega arith, l)) h in
    omega (arith, tangent x s t, swap_hold x (x - s) i j turn)

-- before the bend the tangent touches the square at its own place alone
pub tangent_strict : (x s t : ℕ) → s ≤ x → t < s → sq (x - s) + ((x - s) + (x - s)) * s < sq (x - t) + ((x - s) + (x - s)) * t
tangent_strict x s t l h = strict (x - s) (s - t) t (omega arith) (omega arith) (omega arith)
  where
    strict : (y e t : ℕ) → x - t ≡ y + e → s ≡ t + e → 0 < e → y * y + (y + y) * s < sq (x - t) + (y + y) * t
    strict y e t m n p = rw (m, n) (omega (arith, mul-le-mul p p))

swap_hold_strict : (x y i j : ℕ) → y < x → j < i → (x + x) * j + (y + y) * i < (x + x) * i + (y + y) * j
swap_hold_strict x y i j h k = ordered (x - y) (i - j) (omega arith) (omega arith) (omega arith) (omega arith)
  where
    ordered : (c d : ℕ) → x ≡ y + c → i ≡ j + d → 0 < c → 0 < d → (x + x) * j + (y + y) * i < (x + x) * i + (y + y) * j
    ordered c d e f p q = rw (e, f) (omega (arith, mul-le-mul p q))

pub held_tangent_strict : (x i s j t : ℕ) → s ≤ x → 0 < s → j ≤ i → (t < s) ⊎ (j < i) →
    (x + x) * j + sq (x - s) + ((x - s) + (x - s)) * (i + s) < (x + x) * i + sq (x - t) + ((x - s) + (x - s)) * (j + t)
held_tangent_strict x i s j t l p o h =
    ⊎_elim
    (λ (k : t < s). omega (arith, tangent_strict x s t l k, swap_hold x (x - s) i j (inr (omega arith, o))))
    (λ (k : j < i). omega (arith, tangent x s t, swap_hold_strict x (x - s) i j (omega arith) k))
    h
