-- Where the rate of a curve comes up to that of an intruder. Times are in parts of which each bend is a whole number.
use Rattle.std.proofs.Common.{◌≡◌, ℕ, ◌+◌, ◌-◌, ◌*◌, ◌<◌, ◌≤◌, ◌⊎◌, inl, inr, ⊎_elim, arith, ℤ, pos, ◌+ℤ◌, ◌-ℤ◌, ◌*ℤ◌, ◌≤ℤ◌, ◌<ℤ◌, mul-le-mul_left, mul-le-mul_right}
use Rattle.std.proofs.lemmas.Int.{ints}
use Rattle.std.proofs.lemmas.Bool.{cases_lt}
use Rattle.acas_frac.proofs.SignedProducts.{lt-from_mul_ℤ, mul-lt_ℤ}
use Rattle.acas_frac.proofs.IntRing.{mul_zero_ℤ}
use Rattle.acas_frac.proofs.Orders.{cases_lt_ℤ}
use Rattle.acas_manoeuvre_lemmas.proofs.Valleys.{FallsOn}
use Rattle.acas_manoeuvre_lemmas.proofs.Paces.{left}

-- the rates differ by r: where r comes up from below 0 in one part, it stays below, or is 0 or less at the turn
abbrev pub Meets0 : (ℕ → ℤ) → ℕ → Type 0
Meets0 r turn = (i : ℕ) → r i <ℤ pos 0 → r i <ℤ r (i + 1) → (r (i + 1) <ℤ pos 0) ⊎ ((i + 1 ≡ turn) × (r (i + 1) ≤ℤ pos 0))

module _ (f r : ℕ → ℤ) (m turn : ℕ) (some : 0 < m) (step : (i : ℕ) → f (i + 1) ≡ f i +ℤ (pos m *ℤ (r i +ℤ r (i + 1)))) (meets : Meets0 r turn) where
  sinks : (i : ℕ) → f (i + 1) <ℤ f i → (r i +ℤ r (i + 1)) <ℤ pos 0
  sinks i h = lt-from_mul_ℤ m (r i +ℤ r (i + 1)) (pos 0) (rw mul_zero_ℤ (line _ _ _ (step i) h))
    where
      line : (a b d : ℤ) → a ≡ b +ℤ d → a <ℤ b → d <ℤ pos 0
      line a b d e h = omega (arith, ints)

  sunk : (i : ℕ) → (r i +ℤ r (i + 1)) <ℤ pos 0 → f (i + 1) <ℤ f i
  sunk i h = line _ _ _ (step i) (rw mul_zero_ℤ at (mul-lt_ℤ m (r i +ℤ r (i + 1)) (pos 0) some h))
    where
      line : (a b d : ℤ) → a ≡ b +ℤ d → d <ℤ pos 0 → a <ℤ b
      line a b d e h = omega (arith, ints)

  still : (i : ℕ) → (i + 1 ≡ turn → ⊥) → (r i +ℤ r (i + 1)) <ℤ pos 0 → r (i + 1) <ℤ pos 0
  still i n h = ⊎_elim
      (λ (l : r i <ℤ r (i + 1)). ⊎_elim (λ k. k) (λ k. absurd (n k.0)) (meets i (omega (arith, ints, h, l)) l))
      (λ (l : r (i + 1) ≤ℤ r i). omega (arith, ints, h, l))
      (cases_lt_ℤ (r i) (r (i + 1)))

  next : (i : ℕ) → r i <ℤ pos 0 → r (i + 1) ≤ℤ pos 0
  next i h = ⊎_elim
      (λ (l : r i <ℤ r (i + 1)). ⊎_elim (λ k. omega (arith, ints, k)) (λ k. k.1) (meets i h l))
      (λ (l : r (i + 1) ≤ℤ r i). omega (arith, ints, h, l))
      (cases_lt_ℤ (r i) (r (i + 1)))

  pub falls_on : (from to : ℕ) → FallsOn f from to turn
  falls_on from to i a b n h =
      let s = still i n (sinks i h) in
      let two : i + 2 ≡ (i + 1) + 1 = omega arith in
      rw two (sunk (i + 1) (let k = next (i + 1) s in omega (arith, ints, s, k)))

-- ---- a rising curve of n steps of b after a hold of g, and an intruder that rises in m steps of a

abbrev pub rates : ℤ → ℤ → ℕ → ℕ → ℕ → ℕ → ℕ → ℕ → ℤ
rates k c b n g a m i = (k -ℤ pos (left b n g i)) -ℤ (c -ℤ pos (left a m 0 i))

-- Where the two rates are the same: while the intruder is at its goal, or before; or nowhere.
pub data IsTurn (k c : ℤ) (b n g a m turn : ℕ) : Type 0 where
  late : ((k -ℤ pos (b * n)) +ℤ pos (b * m)) <ℤ (c +ℤ pos (b * g)) → (k -ℤ pos (b * n)) +ℤ pos (b * turn) ≡ c +ℤ pos (b * g) → IsTurn k c b n g a m turn
  early : (c +ℤ pos (b * g)) ≤ℤ ((k -ℤ pos (b * n)) +ℤ pos (b * m)) → a < b → (k -ℤ pos (b * n)) +ℤ pos (b * turn) ≡ ((c -ℤ pos (a * m)) +ℤ pos (a * turn)) +ℤ pos (b * g) → IsTurn k c b n g a m turn
  slow : (c +ℤ pos (b * g)) ≤ℤ ((k -ℤ pos (b * n)) +ℤ pos (b * m)) → b ≤ a → IsTurn k c b n g a m turn
  ahead : (c +ℤ pos (b * g)) ≤ℤ ((k -ℤ pos (b * n)) +ℤ pos (b * m)) → a < b → ((c -ℤ pos (a * m)) +ℤ pos (b * g)) <ℤ (k -ℤ pos (b * n)) → IsTurn k c b n g a m turn

-- below 0 at i, a rate that gains d in each part and is 0 at the turn is still below it, or there
comes : (d i turn : ℕ) (r r' : ℤ) → r ≡ pos (d * i) -ℤ pos (d * turn) → r' ≡ pos (d * (i + 1)) -ℤ pos (d * turn) → 0 < d → r <ℤ pos 0 → (r' <ℤ pos 0) ⊎ ((i + 1 ≡ turn) × (r' ≤ℤ pos 0))
comes d i turn r r' e e' p h = ⊎_elim
    (λ (l : i < turn). ⊎_elim
    (λ (l' : i + 1 < turn). let k : d * (i + 1 + 1) ≤ d * turn = mul-le-mul_left d (omega (arith, l')) in let k' : d * (i + 1 + 1) ≡ d * (i + 1) + d = omega arith in inl (omega (arith, ints, k, k')))
    (λ (l' : turn ≤ i + 1). let s : i + 1 ≡ turn = omega (arith, l, l') in inr (s, rw (e', s) (omega (arith, ints))))
    (cases_lt (i + 1) turn))
    (λ (l : turn ≤ i). let k : d * turn ≤ d * i = mul-le-mul_left d l in absurd (omega (arith, ints, k, e, h)))
    (cases_lt i turn)

-- at the time g + j, of a way of j + l + 1 steps, while p + 1 steps of the intruder are left
module _ (k c : ℤ) (b g a j l p turn : ℕ) (less : a < b) where
  before_late : ((k -ℤ pos (b * (j + (l + 1)))) +ℤ pos (b * ((g + j) + (p + 1)))) <ℤ (c +ℤ pos (b * g)) → ((k -ℤ pos (b * l)) -ℤ (c -ℤ pos (a * p))) <ℤ pos 0
  before_late h = let s : a * p ≤ b * p = mul-le-mul_right p (omega (arith, less)) in omega (arith, ints, h, s)

  before_ahead : ((c -ℤ pos (a * ((g + j) + (p + 1)))) +ℤ pos (b * g)) <ℤ (k -ℤ pos (b * (j + (l + 1)))) → ((k -ℤ pos (b * (l + 1))) -ℤ (c -ℤ pos (a * (p + 1)))) <ℤ pos 0 → ⊥
  before_ahead h n = let s : a * (g + j) ≤ b * (g + j) = mul-le-mul_right (g + j) (omega (arith, less)) in omega (arith, ints, h, s, n)

  before_early : (d : ℕ) → b ≡ a + d → (k -ℤ pos (b * (j + (l + 1)))) +ℤ pos (b * turn) ≡ ((c -ℤ pos (a * ((g + j) + (p + 1)))) +ℤ pos (a * turn)) +ℤ pos (b * g) → ((k -ℤ pos (b * (l + 1))) -ℤ (c -ℤ pos (a * (p + 1)))) <ℤ pos 0 →
      (((k -ℤ pos (b * l)) -ℤ (c -ℤ pos (a * p))) <ℤ pos 0) ⊎ (((g + j) + 1 ≡ turn) × (((k -ℤ pos (b * l)) -ℤ (c -ℤ pos (a * p))) ≤ℤ pos 0))
  before_early d f e n =
      let e' = rw f at e in
      comes d (g + j) turn ((k -ℤ pos (b * (l + 1))) -ℤ (c -ℤ pos (a * (p + 1)))) ((k -ℤ pos (b * l)) -ℤ (c -ℤ pos (a * p)))
      (rw f (omega (arith, ints, e'))) (rw f (omega (arith, ints, e'))) (omega (arith, f, less)) n

-- while the intruder is at its goal
module _ (k c : ℤ) (b g j l turn m : ℕ) (sb : 0 < b) where
  after_late : (k -ℤ pos (b * (j + (l + 1)))) +ℤ pos (b * turn) ≡ c +ℤ pos (b * g) → ((k -ℤ pos (b * (l + 1))) -ℤ (c -ℤ pos 0)) <ℤ pos 0 →
      (((k -ℤ pos (b * l)) -ℤ (c -ℤ pos 0)) <ℤ pos 0) ⊎ (((g + j) + 1 ≡ turn) × (((k -ℤ pos (b * l)) -ℤ (c -ℤ pos 0)) ≤ℤ pos 0))
  after_late e n = comes b (g + j) turn ((k -ℤ pos (b * (l + 1))) -ℤ (c -ℤ pos 0)) ((k -ℤ pos (b * l)) -ℤ (c -ℤ pos 0)) (omega (arith, ints, e)) (omega (arith, ints, e)) sb n

  after_else : m ≤ g + j → (c +ℤ pos (b * g)) ≤ℤ ((k -ℤ pos (b * (j + (l + 1)))) +ℤ pos (b * m)) → ((k -ℤ pos (b * (l + 1))) -ℤ (c -ℤ pos 0)) <ℤ pos 0 → ⊥
  after_else q h n = let s : b * m ≤ b * (g + j) = mul-le-mul_left b q in omega (arith, ints, h, s, n)

module _ (k c : ℤ) (b n g a m turn : ℕ) (sb : 0 < b) where
  abbrev Goal : ℕ → Type 0
  Goal i = (rates k c b n g a m (i + 1) <ℤ pos 0) ⊎ ((i + 1 ≡ turn) × (rates k c b n g a m (i + 1) ≤ℤ pos 0))

  -- at i the curve has risen j of its n steps
  rising : (i j l : ℕ) → i ≡ g + j → n ≡ j + (l + 1) → IsTurn k c b n g a m turn → rates k c b n g a m i <ℤ pos 0 → rates k c b n g a m i <ℤ rates k c b n g a m (i + 1) → Goal i
  rising i j l e f t h u = ⊎_elim
      (λ (q : i < m). before q (m - i - 1) (omega (arith, q)) t)
      (λ (q : m ≤ i). after q t)
      (cases_lt i m)
    where
      x : n - (i - g) ≡ l + 1
      x = omega (arith, e, f)

      y : n - ((i + 1) - g) ≡ l
      y = omega (arith, e, f)

      before : i < m → (p : ℕ) → m ≡ i + (p + 1) → IsTurn k c b n g a m turn → Goal i
      before q p z t' =
          let w : m - (i - 0) ≡ p + 1 = omega (arith, z) in
          let w' : m - ((i + 1) - 0) ≡ p = omega (arith, z) in
          let h' = rw (x, w) at h in
          let u' = rw (x, w, y, w') at u in
          let less : a < b = omega (arith, ints, u') in
          rw (y, w') (by less h' t')
        where
          by : a < b → ((k -ℤ pos (b * (l + 1))) -ℤ (c -ℤ pos (a * (p + 1)))) <ℤ pos 0 → IsTurn k c b n g a m turn →
              (((k -ℤ pos (b * l)) -ℤ (c -ℤ pos (a * p))) <ℤ pos 0) ⊎ ((i + 1 ≡ turn) × (((k -ℤ pos (b * l)) -ℤ (c -ℤ pos (a * p))) ≤ℤ pos 0))
          by less h' (late o v) = inl (before_late k c b g a j l p turn less (rw (z, e, f) at o))
          by less h' (early o s v) = rw e (before_early k c b g a j l p turn less (b - a) (omega (arith, less)) (rw (z, e, f) at v) h')
          by less h' (slow o s) = absurd (omega (arith, less, s))
          by less h' (ahead o s v) = absurd (before_ahead k c b g a j l p turn less (rw (z, e, f) at v) h')

      after : m ≤ i → IsTurn k c b n g a m turn → Goal i
      after q t' =
          let w : a * (m - (i - 0)) ≡ 0 = none (m - (i - 0)) (omega (arith, q)) in
          let w' : a * (m - ((i + 1) - 0)) ≡ 0 = none (m - ((i + 1) - 0)) (omega (arith, q)) in
          let h' = rw (x, w) at h in
          rw (y, w') (by h' t')
        where
          none : (r : ℕ) → r ≡ 0 → a * r ≡ 0
          none r o = rw o (omega arith)

          by : ((k -ℤ pos (b * (l + 1))) -ℤ (c -ℤ pos 0)) <ℤ pos 0 → IsTurn k c b n g a m turn →
              (((k -ℤ pos (b * l)) -ℤ (c -ℤ pos 0)) <ℤ pos 0) ⊎ ((i + 1 ≡ turn) × (((k -ℤ pos (b * l)) -ℤ (c -ℤ pos 0)) ≤ℤ pos 0))
          by h' (late o v) = rw e (after_late k c b g j l turn m sb (rw f at v) h')
          by h' (early o s v) = absurd (after_else k c b g j l turn m sb (omega (arith, e, q)) (rw f at o) h')
          by h' (slow o s) = absurd (after_else k c b g j l turn m sb (omega (arith, e, q)) (rw f at o) h')
          by h' (ahead o s v) = absurd (after_else k c b g j l turn m sb (omega (arith, e, q)) (rw f at o) h')

  pub meets0 : IsTurn k c b n g a m turn → Meets0 (rates k c b n g a m) turn
  meets0 t i h u = ⊎_elim
      (λ (p : i < g). absurd (hold p))
      (λ (p : g ≤ i). ⊎_elim
      (λ (q : i - g < n). rising i (i - g) (n - (i - g) - 1) (omega arith) (omega arith) t h u)
      (λ (q : n ≤ i - g). absurd (done q))
      (cases_lt (i - g) n))
      (cases_lt i g)
    where
      lower : a * (m - ((i + 1) - 0)) ≤ a * (m - (i - 0))
      lower = mul-le-mul_left a (omega arith)

      hold : i < g → ⊥
      hold p =
          let x : i - g ≡ 0 = omega arith in
          let y : (i + 1) - g ≡ 0 = omega arith in
          let u' = rw (x, y) at u in
          let s = lower in omega (arith, ints, s, u')

      done : n ≤ i - g → ⊥
      done q =
          let x : n - (i - g) ≡ 0 = omega arith in
          let y : n - ((i + 1) - g) ≡ 0 = omega arith in
          let u' = rw (x, y) at u in
          let s = lower in omega (arith, ints, s, u')

-- ---- a curve that falls, or stays

abbrev pub rates_falling : ℤ → ℤ → ℕ → ℕ → ℕ → ℕ → ℕ → ℕ → ℤ
rates_falling k c b n g a m i = (k +ℤ pos (left b n g i)) -ℤ (c -ℤ pos (left a m 0 i))

pub meets0_falling : (k c : ℤ) (b n g a m turn : ℕ) → Meets0 (rates_falling k c b n g a m) turn
meets0_falling k c b n g a m turn i h u =
    let x : b * (n - ((i + 1) - g)) ≤ b * (n - (i - g)) = mul-le-mul_left b (omega arith) in
    let y : a * (m - ((i + 1) - 0)) ≤ a * (m - (i - 0)) = mul-le-mul_left a (omega arith) in
    absurd (omega (arith, ints, u, x, y))
