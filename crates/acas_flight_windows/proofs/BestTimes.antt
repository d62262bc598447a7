-- The time at which a rising curve is nearest the intruder.
use Rattle.std.proofs.Common.{◌≡◌, ℕ, ◌+◌, ◌-◌, ◌*◌, ◌<◌, ◌≤◌, ⊎_elim, refl, ◌∙◌, arith, [], ◌∷◌, ℤ, pos, ◌+ℤ◌, ◌-ℤ◌, ◌*ℤ◌, ◌≤ℤ◌, ◌<ℤ◌, mul-pos, mul-le-mul_left, mul-le-mul_right, le_of_lt}
use Rattle.std.proofs.lemmas.Int.{ints}
use Rattle.std.specs.Int.Signed.{≤ℤ_refl}
use Rattle.std.proofs.lemmas.Bool.{cases_lt}
use lib.IntN.{*ℤ_comm}
use Rattle.acas_frac.proofs.SignedProducts.{mul-le_ℤ, mul-lt_ℤ, le-from_mul_ℤ}
use Rattle.acas_frac.proofs.IntRing.{at, ◌⊖◌, ◌⊗◌, ring}
use Rattle.acas_frac.proofs.Orders.{by_below, le_of_lt_ℤ}
use Rattle.acas_flight_lemmas.proofs.Rising.{scaled_le}
use Rattle.acas_flight_windows.proofs.Borders.{lift_le, lift_lt, later_by, sooner_by, sooner_at}
use Rattle.acas_flight.specs.Window.{Times, IsDuring}
use Rattle.acas_flight.specs.Border.{border_of, border_gap, IsGapAt, IsLeastGap, turn, IsLate, IsSoon, IsNearestTime}
use Rattle.acas_frac.specs.Fraction.{Fraction}

late_nat : (b g c q s : ℕ) → (g * b + c) * q ≤ b * s → c * (q * q) ≤ (b * q) * (s - g * q)
late_nat b g c q s h =
    let k : s ≤ (s - g * q) + g * q = omega arith in
    let one = mul-le-mul_right q h in
    let two = mul-le-mul_left (b * q) k in
    omega (arith, one, two)

soon_nat : (b g c q s : ℕ) → b * s ≤ (g * b + c) * q → (b * q) * (s - g * q) ≤ c * (q * q)
soon_nat b g c q s h =
    ⊎_elim
    (λ (l : s < g * q). let z : s - g * q ≡ 0 = omega arith in rw z (omega arith))
    (λ (l : g * q ≤ s). by (s - g * q) (omega arith))
    (cases_lt s (g * q))
  where
    by : (u : ℕ) → s ≡ u + g * q → (b * q) * (s - g * q) ≤ c * (q * q)
    by u e =
        let rest : s - g * q ≡ u = omega arith in
        let h' = rw e at h in
        rw rest (omega (arith, mul-le-mul_right q h'))

after_hold : (b g c q s : ℕ) → 0 < c → 0 < q → (b * q) * (s - g * q) ≡ c * (q * q) → g * q < s
after_hold b g c q s p r e =
    ⊎_elim
    (λ (l : g * q < s). l)
    (λ (l : s ≤ g * q). let z : s - g * q ≡ 0 = omega arith in let e' = rw z at e in let some = mul-pos p (mul-pos r r) in absurd (omega (arith, e', some)))
    (cases_lt (g * q) s)

-- the numbers of the turn over another denominator
scaled_turn : (a b d n q : ℕ) → a * d ≤ b * n → a * (q * (d * 1)) ≤ b * (n * q * 1)
scaled_turn a b d n q h = omega (arith, mul-le-mul_right q h)

scaled_turn' : (a b d n q : ℕ) → b * n ≤ a * d → b * (n * q * 1) ≤ a * (q * (d * 1))
scaled_turn' a b d n q h = omega (arith, mul-le-mul_right q h)

apart : (x y m : ℕ) → y ≤ x → x * m ≡ y * m + (x - y) * m
apart x y m l = by (x - y) (omega arith)
  where
    by : (c : ℕ) → x ≡ y + c → x * m ≡ y * m + (x - y) * m
    by c e = let z : x - y ≡ c = omega arith in rw (z, e) (omega arith)

turn_nat : (k : ℤ) (x y b g : ℕ) → y ≤ x → pos (g * b) +ℤ ((k -ℤ pos y) -ℤ (k -ℤ pos x)) ≡ pos (g * b + (x - y))
turn_nat k x y b g h = omega (arith, ints)

module _ (k : ℤ) (b g : ℕ) (h : ℤ) (sb : 0 < b) (d n : ℕ) (sd : 0 < d) where
  rate_line : (x : ℕ) (q : ℕ) → (k -ℤ pos x) *ℤ pos (q * q) ≡ (k *ℤ pos (q * q)) -ℤ pos (x * (q * q))
  rate_line x q = ring (k ∷ pos x ∷ pos q ∷ []) ((at 0 ⊖ at 1) ⊗ (at 2 ⊗ at 2)) ((at 0 ⊗ (at 2 ⊗ at 2)) ⊖ (at 1 ⊗ (at 2 ⊗ at 2))) refl

  slow : (x : ℕ) (w : ℤ) (q u : ℕ) → w ≤ℤ (k -ℤ pos x) → (w *ℤ pos (q * q)) ≤ℤ ((k *ℤ pos (q * q)) -ℤ pos (x * (q * q) - u))
  slow x w q u i = line (w *ℤ pos (q * q)) (k *ℤ pos (q * q)) (x * (q * q)) u (rw (← rate_line x q) (scaled_le w (k -ℤ pos x) (q * q) i))
    where
      line : (w k : ℤ) (x u : ℕ) → w ≤ℤ (k -ℤ pos x) → w ≤ℤ (k -ℤ pos (x - u))
      line w k x u h = omega (arith, ints)

  module _ (q t : ℕ) (p : 0 < q) where
    some : 0 < q * (d * 1)
    some = mul-pos p (omega arith)

    later_turned : (x y : ℕ) → y < x → (g * b + (x - y)) * d ≤ b * n → n * q * 1 ≤ t →
        border_gap (border_of (k -ℤ pos x) k b g h (k -ℤ pos y)) (q * (d * 1)) (n * q * 1) ≤ℤ border_gap (border_of (k -ℤ pos x) k b g h (k -ℤ pos y)) (q * (d * 1)) t
    later_turned x y l i o =
        later_by k x b g h (k -ℤ pos y) (q * (d * 1)) some sb (n * q * 1) t
        (rw (rate_line y (q * (d * 1)))
        (line (k *ℤ pos ((q * (d * 1)) * (q * (d * 1)))) (x * ((q * (d * 1)) * (q * (d * 1)))) (y * ((q * (d * 1)) * (q * (d * 1)))) ((x - y) * ((q * (d * 1)) * (q * (d * 1)))) ((b * (q * (d * 1))) * (n * q * 1 - g * (q * (d * 1))))
        (apart x y ((q * (d * 1)) * (q * (d * 1))) (le_of_lt l))
        (late_nat b g (x - y) (q * (d * 1)) (n * q * 1) (scaled_turn (g * b + (x - y)) b d n q i))))
        o
      where
        line : (k : ℤ) (x y c u : ℕ) → x ≡ y + c → c ≤ u → (k -ℤ pos y) ≤ℤ (k -ℤ pos (x - u))
        line k x y c u e h = omega (arith, ints)

    sooner_turned : (x y : ℕ) → y < x → b * n ≤ (g * b + (x - y)) * d → t < n * q * 1 →
        border_gap (border_of (k -ℤ pos x) k b g h (k -ℤ pos y)) (q * (d * 1)) (n * q * 1) <ℤ border_gap (border_of (k -ℤ pos x) k b g h (k -ℤ pos y)) (q * (d * 1)) t
    sooner_turned x y l i o =
        ⊎_elim
        (λ (j : (b * (q * (d * 1))) * (n * q * 1 - g * (q * (d * 1))) < (x - y) * ((q * (d * 1)) * (q * (d * 1)))).
        sooner_by k x b g h (k -ℤ pos y) (q * (d * 1)) some sb (n * q * 1) t
        (rw (rate_line y (q * (d * 1)))
        (line (k *ℤ pos ((q * (d * 1)) * (q * (d * 1)))) (x * ((q * (d * 1)) * (q * (d * 1)))) (y * ((q * (d * 1)) * (q * (d * 1)))) ((x - y) * ((q * (d * 1)) * (q * (d * 1)))) ((b * (q * (d * 1))) * (n * q * 1 - g * (q * (d * 1)))) (apart x y ((q * (d * 1)) * (q * (d * 1))) (le_of_lt l)) j))
        o)
        (λ (j : (x - y) * ((q * (d * 1)) * (q * (d * 1))) ≤ (b * (q * (d * 1))) * (n * q * 1 - g * (q * (d * 1)))).
        let same : (b * (q * (d * 1))) * (n * q * 1 - g * (q * (d * 1))) ≡ (x - y) * ((q * (d * 1)) * (q * (d * 1))) = both _ _ (soon_nat b g (x - y) (q * (d * 1)) (n * q * 1) (scaled_turn' (g * b + (x - y)) b d n q i)) j in
        sooner_at k x b g h (k -ℤ pos y) (q * (d * 1)) some sb (n * q * 1) t
        (rate_line y (q * (d * 1)) ∙ level (k *ℤ pos ((q * (d * 1)) * (q * (d * 1)))) (x * ((q * (d * 1)) * (q * (d * 1)))) (y * ((q * (d * 1)) * (q * (d * 1)))) ((x - y) * ((q * (d * 1)) * (q * (d * 1)))) ((b * (q * (d * 1))) * (n * q * 1 - g * (q * (d * 1)))) (apart x y ((q * (d * 1)) * (q * (d * 1))) (le_of_lt l)) same)
        (after_hold b g (x - y) (q * (d * 1)) (n * q * 1) (omega arith) some same)
        (within (x * ((q * (d * 1)) * (q * (d * 1)))) (y * ((q * (d * 1)) * (q * (d * 1)))) ((x - y) * ((q * (d * 1)) * (q * (d * 1)))) ((b * (q * (d * 1))) * (n * q * 1 - g * (q * (d * 1)))) (apart x y ((q * (d * 1)) * (q * (d * 1))) (le_of_lt l)) same)
        o)
        (cases_lt ((b * (q * (d * 1))) * (n * q * 1 - g * (q * (d * 1)))) ((x - y) * ((q * (d * 1)) * (q * (d * 1)))))
      where
        line : (k : ℤ) (x y c u : ℕ) → x ≡ y + c → u < c → (k -ℤ pos (x - u)) <ℤ (k -ℤ pos y)
        line k x y c u e h = omega (arith, ints)

        level : (k : ℤ) (x y c u : ℕ) → x ≡ y + c → u ≡ c → (k -ℤ pos y) ≡ (k -ℤ pos (x - u))
        level k x y c u e h = omega (arith, ints)

        within : (x y c u : ℕ) → x ≡ y + c → u ≡ c → u ≤ x
        within x y c u e h = omega arith

        both : (m n : ℕ) → m ≤ n → n ≤ m → m ≡ n
        both m n h k = omega arith

-- the test of the turn in natural numbers
products_le : (a b d n : ℕ) → (pos a *ℤ pos d) ≤ℤ (pos b *ℤ pos n) → a * d ≤ b * n
products_le a b d n h = omega (arith, ints)

module _ (k : ℤ) (b g : ℕ) (h : ℤ) (sb : 0 < b) (time : Fraction) (n : ℕ) (en : time.num ≡ pos n) (sd : 0 < time.den) where
  pub later : (x : ℕ) (w : ℤ) → IsLate (border_of (k -ℤ pos x) k b g h w) time → (q t : ℕ) → 0 < q → n * q * 1 ≤ t →
      border_gap (border_of (k -ℤ pos x) k b g h w) (q * (time.den * 1)) (n * q * 1) ≤ℤ border_gap (border_of (k -ℤ pos x) k b g h w) (q * (time.den * 1)) t
  later x w late q t p o =
      ⊎_elim
      (λ i. later_by k x b g h w (q * (time.den * 1)) (mul-pos p (omega arith)) sb (n * q * 1) t (slow k b g h sb time.den n sd x w (q * (time.den * 1)) ((b * (q * (time.den * 1))) * (n * q * 1 - g * (q * (time.den * 1)))) i) o)
      (λ i. by_below k w i.0.within (λ y e. turned y e i.0.over i.1))
      late
    where
      turned : (y : ℕ) → w ≡ k -ℤ pos y → (k -ℤ pos x) <ℤ w → (turn (border_of (k -ℤ pos x) k b g h w) *ℤ pos time.den) ≤ℤ (pos b *ℤ time.num) →
          border_gap (border_of (k -ℤ pos x) k b g h w) (q * (time.den * 1)) (n * q * 1) ≤ℤ border_gap (border_of (k -ℤ pos x) k b g h w) (q * (time.den * 1)) t
      turned y e over i =
          let less : y < x = omega (arith, ints) in
          let i' = rw (e, en, turn_nat k x y b g (le_of_lt less)) at i in
          rw e (later_turned k b g h sb time.den n sd q t p x y less (products_le (g * b + (x - y)) b time.den n i') o)

  pub sooner : (x : ℕ) (w : ℤ) → IsSoon (border_of (k -ℤ pos x) k b g h w) time → (q t : ℕ) → 0 < q → t < n * q * 1 →
      border_gap (border_of (k -ℤ pos x) k b g h w) (q * (time.den * 1)) (n * q * 1) <ℤ border_gap (border_of (k -ℤ pos x) k b g h w) (q * (time.den * 1)) t
  sooner x w soon q t p o =
      ⊎_elim
      (λ i. sooner_by k x b g h w (q * (time.den * 1)) (mul-pos p (omega arith)) sb (n * q * 1) t (fast (q * (time.den * 1)) (x * ((q * (time.den * 1)) * (q * (time.den * 1))) - (b * (q * (time.den * 1))) * (n * q * 1 - g * (q * (time.den * 1)))) (mul-pos p (omega arith)) i) o)
      (λ i. by_below k w i.0.within (λ y e. turned y e i.0.over i.1))
      soon
    where
      fast : (r u : ℕ) → 0 < r → k <ℤ w → ((k *ℤ pos (r * r)) -ℤ pos u) <ℤ (w *ℤ pos (r * r))
      fast r u s i = line (k *ℤ pos (r * r)) (w *ℤ pos (r * r)) u (strictly k w (r * r) (mul-pos s s) i)
        where
          line : (a b : ℤ) (u : ℕ) → a <ℤ b → (a -ℤ pos u) <ℤ b
          line a b u h = omega (arith, ints)

          strictly : (a b : ℤ) (m : ℕ) → 0 < m → a <ℤ b → (a *ℤ pos m) <ℤ (b *ℤ pos m)
          strictly a b m s h = let l = mul-lt_ℤ m a b s h in rw (*ℤ_comm a (pos m), *ℤ_comm b (pos m)) l

      turned : (y : ℕ) → w ≡ k -ℤ pos y → (k -ℤ pos x) <ℤ w → (pos b *ℤ time.num) ≤ℤ (turn (border_of (k -ℤ pos x) k b g h w) *ℤ pos time.den) →
          border_gap (border_of (k -ℤ pos x) k b g h w) (q * (time.den * 1)) (n * q * 1) <ℤ border_gap (border_of (k -ℤ pos x) k b g h w) (q * (time.den * 1)) t
      turned y e over i =
          let less : y < x = omega (arith, ints) in
          let i' = rw (e, en, turn_nat k x y b g (le_of_lt less)) at i in
          rw e (sooner_turned k b g h sb time.den n sd q t p x y less (products_le b (g * b + (x - y)) n time.den i') o)

-- ---- times of the window

chain : (m n o p r s : ℤ) → m ≡ n → n ≤ℤ o → o ≡ p → p ≤ℤ r → r ≡ s → m ≤ℤ s
chain m n o p r s e h f k g = omega (arith, ints)

pub upto : (a c : ℤ) (d e q t : ℕ) → 0 < e → pos (t * e) ≤ℤ (a *ℤ pos q) → (a *ℤ pos d) ≤ℤ (c *ℤ pos e) → pos (t * d) ≤ℤ (c *ℤ pos q)
upto a c d e q t s h k =
    le-from_mul_ℤ e (pos (t * d)) (c *ℤ pos q) s
    (chain _ _ _ _ _ _
    (ring (pos e ∷ pos t ∷ pos d ∷ []) (at 0 ⊗ (at 1 ⊗ at 2)) (at 2 ⊗ (at 1 ⊗ at 0)) refl)
    (mul-le_ℤ d (pos (t * e)) (a *ℤ pos q) h)
    (ring (a ∷ pos d ∷ pos q ∷ []) (at 1 ⊗ (at 0 ⊗ at 2)) (at 2 ⊗ (at 0 ⊗ at 1)) refl)
    (mul-le_ℤ q (a *ℤ pos d) (c *ℤ pos e) k)
    (ring (c ∷ pos e ∷ pos q ∷ []) (at 2 ⊗ (at 0 ⊗ at 1)) (at 1 ⊗ (at 0 ⊗ at 2)) refl))

pub since : (a c : ℤ) (d e q t : ℕ) → 0 < e → (a *ℤ pos q) ≤ℤ pos (t * e) → (c *ℤ pos e) ≤ℤ (a *ℤ pos d) → (c *ℤ pos q) ≤ℤ pos (t * d)
since a c d e q t s h k =
    le-from_mul_ℤ e (c *ℤ pos q) (pos (t * d)) s
    (chain _ _ _ _ _ _
    (ring (c ∷ pos e ∷ pos q ∷ []) (at 1 ⊗ (at 0 ⊗ at 2)) (at 2 ⊗ (at 0 ⊗ at 1)) refl)
    (mul-le_ℤ q (c *ℤ pos e) (a *ℤ pos d) k)
    (ring (a ∷ pos d ∷ pos q ∷ []) (at 2 ⊗ (at 0 ⊗ at 1)) (at 1 ⊗ (at 0 ⊗ at 2)) refl)
    (mul-le_ℤ d (a *ℤ pos q) (pos (t * e)) h)
    (ring (pos e ∷ pos t ∷ pos d ∷ []) (at 2 ⊗ (at 1 ⊗ at 0)) (at 0 ⊗ (at 1 ⊗ at 2)) refl))

-- The best time's gap is the least, and the time is the earliest.
pub best_least : (v k : ℤ) (b g : ℕ) (h w : ℤ) (win : Times) (time y : Fraction) (n : ℕ) → v ≤ℤ k → 0 < b → time.num ≡ pos n → 0 < time.den → 0 < win.from.den → 0 < win.to.den → 0 < y.den →
    IsGapAt (border_of v k b g h w) time y → IsNearestTime (border_of v k b g h w) win time → IsLeastGap (border_of v k b g h w) win time y
best_least v k b g h w win time y n o sb en sd sf st sy val best = by_below k v o (λ x e. rw e (from x (rw e at val) (rw e at best)))
  where
    from : (x : ℕ) → IsGapAt (border_of (k -ℤ pos x) k b g h w) time y → IsNearestTime (border_of (k -ℤ pos x) k b g h w) win time → IsLeastGap (border_of (k -ℤ pos x) k b g h w) win time y
    from x val best = record {
      after = best.after;
      before = best.before;
      value = val;
      least = λ q t p i. lift_le (border_of (k -ℤ pos x) k b g h w) time y val n en q t 1 p (omega arith)
          (⊎_elim (λ (l : t * (time.den * 1) < n * q * 1). le_of_lt_ℤ _ _ (sooner_in q t p i l)) (λ (l : n * q * 1 ≤ t * (time.den * 1)). later_in q t p i l) (cases_lt (t * (time.den * 1)) (n * q * 1)));
      earliest = λ q t p i l. lift_lt (border_of (k -ℤ pos x) k b g h w) time y val n en q t 1 p (omega arith) sy (sooner_in q t p i (early q t l));
    }
      where
        early : (q t : ℕ) → pos (t * time.den) <ℤ (time.num *ℤ pos q) → t * (time.den * 1) < n * q * 1
        early q t l = let l' = rw en at l in omega (arith, ints)

        sooner_in : (q t : ℕ) → 0 < q → IsDuring q win t → t * (time.den * 1) < n * q * 1 →
            border_gap (border_of (k -ℤ pos x) k b g h w) (q * (time.den * 1)) (n * q * 1) <ℤ border_gap (border_of (k -ℤ pos x) k b g h w) (q * (time.den * 1)) (t * (time.den * 1))
        sooner_in q t p i l =
            ⊎_elim
            (λ s. sooner k b g h sb time n en sd x w s q (t * (time.den * 1)) p l)
            (λ (a : (time.num *ℤ pos win.from.den) ≤ℤ (win.from.num *ℤ pos time.den)). let c = rw en at (since win.from.num time.num time.den win.from.den q t sf i.0 a) in absurd (let m : n * q ≤ t * time.den = omega (arith, ints) in omega arith))
            best.soon

        later_in : (q t : ℕ) → 0 < q → IsDuring q win t → n * q * 1 ≤ t * (time.den * 1) →
            border_gap (border_of (k -ℤ pos x) k b g h w) (q * (time.den * 1)) (n * q * 1) ≤ℤ border_gap (border_of (k -ℤ pos x) k b g h w) (q * (time.den * 1)) (t * (time.den * 1))
        later_in q t p i l =
            ⊎_elim
            (λ s. later k b g h sb time n en sd x w s q (t * (time.den * 1)) p l)
            (λ (a : (win.to.num *ℤ pos time.den) ≤ℤ (time.num *ℤ pos win.to.den)).
            let c = rw en at (upto win.to.num time.num time.den win.to.den q t st i.1 a) in
            let same : n * q * 1 ≡ t * (time.den * 1) = (let m : t * time.den ≤ n * q = omega (arith, ints) in omega arith) in
            rw same (≤ℤ_refl (border_gap (border_of (k -ℤ pos x) k b g h w) (q * (time.den * 1)) (t * (time.den * 1)))))
            best.late
