-- Passes along which the value of a flight never falls: over the altitude, the intruder's rate and the aim.
use Rattle.std.proofs.Common.{◌≡◌, ℕ, zero, suc, ◌+◌, ◌-◌, ◌*◌, ◌/◌, ◌<◌, ◌≤◌, ⊎_elim, refl, sym, subst, ◌∙◌, arith, Bool, true, false, true≢false, ℤ, pos, neg_ℤ, ◌+ℤ◌, ◌-ℤ◌, ◌*ℤ◌, ◌≤ℤ◌, ◌<ℤ◌}
use Rattle.std.proofs.lemmas.Int.{ints}
use Rattle.std.proofs.lemmas.Bool.{cases_lt}
use Rattle.acas_frac.proofs.SignedProducts.{mul-le_ℤ}
use Rattle.acas_frac.proofs.Squares.{sq}
use Rattle.acas_frac.proofs.Orders.{by_above, by_below, cases_lt_ℤ}
use Rattle.acas_flight.proofs.Between.{test_lt}
use Rattle.acas_flight.proofs.Curves.{steady, approach_below, approach_above}
use Rattle.acas_flight_lemmas.proofs.Rising.{scaled_le}
use Rattle.acas_flight_lemmas.proofs.Tangents.{faster}
use Rattle.acas_pass_lemmas.proofs.Deficits.{start_change}
use Rattle.acas_pass_lemmas.proofs.Neighbours.{next, rising_next, falling_next}
use Rattle.acas_flight.specs.Curves.{approach, held}
use Rattle.acas_areas.specs.Halving.{HalvesTo, ends, raises, lowers}
use Rattle.acas_areas.specs.Value.{is_below}
use Rattle.acas_areas.specs.Flights.{Flight, flight, value}
use Rattle.acas_areas.specs.Passes.{Pass, rising, falling}
use Rattle.acas_areas.specs.Search.{Search, unit, over_square, rate_step, high_time, pull_at_low, hold_at_low, altitude_pass, intruder_pass, aim_pass}
use Rattle.acas_witness_search.specs.declared.quantity.Quantity.{Quantity}
use Rattle.acas_witness_search.specs.declared.quantity.Quantity.TheVariants.{Time, Altitude, Intruder, Aim, Pull, Hold, Own}
use Rattle.acas_witness_search.specs.declared.survey.Survey.{Survey}
use Rattle.acas_witness_search.specs.Order.{rises}
use Rattle.acas_witness_search.specs.Surveys.{search_of, below_in}

-- ---- the halving of a pass whose values never fall ends at the first point that is not below

HalvesTo-first : (below : ℕ → Bool) (k room low high : ℕ) → ((i : ℕ) → i < k → below i ≡ true) → ((i : ℕ) → k ≤ i → below i ≡ false) → high ≤ low + room → low < k → k ≤ high → HalvesTo below low high k
HalvesTo-first below k zero low high t f r l h = absurd (omega arith)
HalvesTo-first below k (suc n) low high t f r l h =
    let middle = (low + high) / 2 in
    ⊎_elim
    (λ (far : low + 1 < high).
    ⊎_elim
    (λ (m : middle < k). raises low high k far (t middle m) (HalvesTo-first below k n middle high t f (omega arith) m h))
    (λ (m : k ≤ middle). lowers low high k far (f middle m) (HalvesTo-first below k n low middle t f (omega arith) l m))
    (cases_lt middle k))
    (λ (near : high ≤ low + 1). let e : high ≡ k = omega arith in subst (λ z. HalvesTo below low high z) e (ends low high near))
    (cases_lt (low + 1) high)

below_before : (below : ℕ → Bool) → ((i : ℕ) → below (i + 1) ≡ true → below i ≡ true) → (i d : ℕ) → below (i + d) ≡ true → below i ≡ true
below_before below s i zero h = let e : i + 0 ≡ i = omega arith in subst (λ n. below n ≡ true) e h
below_before below s i (suc d) h = let e : i + suc d ≡ (i + d) + 1 = omega arith in below_before below s i d (s (i + d) (subst (λ n. below n ≡ true) e h))

not_true : (b : Bool) → (b ≡ true → ⊥) → b ≡ false
not_true true h = absurd (h refl)
not_true false h = refl

pub first_not_below : (below : ℕ → Bool) (last low high : ℕ) → ((i : ℕ) → below (i + 1) ≡ true → below i ≡ true) → low < high → high ≤ low + 1 → high ≤ last → below low ≡ true → below high ≡ false → HalvesTo below 0 last high
first_not_below below last low high s l n h t f =
    HalvesTo-first below high last 0 last
    (λ i m. let e : low ≡ i + (low - i) = omega arith in below_before below s i (low - i) (subst (λ z. below z ≡ true) e t))
    (λ i m. not_true (below i) (λ e. let g : i ≡ high + (i - high) = omega arith in true≢false (sym (below_before below s high (i - high) (subst (λ z. below z ≡ true) g e)) ∙ f)))
    (omega arith) (omega arith) h

-- ---- a climb rises with its aim

aim_below : (k : ℤ) (x b t d : ℕ) → approach (k -ℤ pos x) k b t ≤ℤ approach ((k +ℤ pos d) -ℤ pos (x + d)) (k +ℤ pos d) b t
aim_below k x b t d =
    rw (approach_below k x b t, approach_below (k +ℤ pos d) (x + d) b t, faster k d t b)
    (line (steady k t b) ((d + d) * (b * t)) (x * x) ((x + d) * (x + d)) (sq (x - b * t)) (sq (x + d - b * t)) (start_change x d (b * t)))
  where
    line : (s : ℤ) (n xx yy i j : ℕ) → yy + i ≤ xx + j + n → ((s -ℤ pos xx) +ℤ pos i) ≤ℤ (((s +ℤ pos n) -ℤ pos yy) +ℤ pos j)
    line s n xx yy i j h = omega (arith, ints)

aim_above : (k : ℤ) (u b t d : ℕ) → approach (k +ℤ pos (u + d)) k b t ≤ℤ approach ((k +ℤ pos d) +ℤ pos u) (k +ℤ pos d) b t
aim_above k u b t d =
    rw (approach_above k (u + d) b t, approach_above (k +ℤ pos d) u b t, faster k d t b)
    (line (steady k t b) ((d + d) * (b * t)) (u * u) ((u + d) * (u + d)) (sq (u - b * t)) (sq (u + d - b * t)) (start_change u d (b * t)))
  where
    line : (s : ℤ) (n xx yy i j : ℕ) → yy + i ≤ xx + j + n → ((s +ℤ pos yy) -ℤ pos j) ≤ℤ (((s +ℤ pos n) +ℤ pos xx) -ℤ pos i)
    line s n xx yy i j h = omega (arith, ints)

le_trans : (a b c : ℤ) → a ≤ℤ b → b ≤ℤ c → a ≤ℤ c
le_trans a b c h k = omega (arith, ints)

approach-aim : (v k : ℤ) (b t d : ℕ) → approach v k b t ≤ℤ approach v (k +ℤ pos d) b t
approach-aim v k b t d = ⊎_elim
    (λ h. by_below k v (omega (arith, ints)) under)
    (λ h. by_above k v h over)
    (cases_lt_ℤ v k)
  where
    under : (x : ℕ) → v ≡ k -ℤ pos x → approach v k b t ≤ℤ approach v (k +ℤ pos d) b t
    under x e =
        let f : k -ℤ pos x ≡ (k +ℤ pos d) -ℤ pos (x + d) = omega (arith, ints) in
        rw e (subst (λ z. approach (k -ℤ pos x) k b t ≤ℤ approach z (k +ℤ pos d) b t) (sym f) (aim_below k x b t d))

    over : (x : ℕ) → v ≡ k +ℤ pos x → approach v k b t ≤ℤ approach v (k +ℤ pos d) b t
    over x e = ⊎_elim
        (λ (l : x < d). across x (d - x) e (omega arith))
        (λ (l : d ≤ x). above (x - d) (let f : v ≡ k +ℤ pos ((x - d) + d) = omega (arith, ints) in f))
        (cases_lt x d)
      where
        above : (u : ℕ) → v ≡ k +ℤ pos (u + d) → approach v k b t ≤ℤ approach v (k +ℤ pos d) b t
        above u e =
            let f : k +ℤ pos (u + d) ≡ (k +ℤ pos d) +ℤ pos u = omega (arith, ints) in
            rw e (subst (λ z. approach (k +ℤ pos (u + d)) k b t ≤ℤ approach z (k +ℤ pos d) b t) (sym f) (aim_above k u b t d))

        -- through the aim at the start rate
        across : (u x : ℕ) → v ≡ k +ℤ pos u → d ≡ u + x → approach v k b t ≤ℤ approach v (k +ℤ pos d) b t
        across u x e f = le_trans _ (approach v v b t) _ first second
          where
            first : approach v k b t ≤ℤ approach v v b t
            first =
                let g : v ≡ k +ℤ pos (0 + u) = omega (arith, ints) in
                let h : v ≡ (k +ℤ pos u) +ℤ pos 0 = omega (arith, ints) in
                subst (λ z. approach v k b t ≤ℤ approach v z b t) (sym e)
                (subst (λ z. approach v k b t ≤ℤ approach z (k +ℤ pos u) b t) (sym h)
                (subst (λ z. approach z k b t ≤ℤ approach ((k +ℤ pos u) +ℤ pos 0) (k +ℤ pos u) b t) (sym g) (aim_above k 0 b t u)))

            second : approach v v b t ≤ℤ approach v (k +ℤ pos d) b t
            second =
                let g : v ≡ v -ℤ pos 0 = omega (arith, ints) in
                let h : v ≡ (v +ℤ pos x) -ℤ pos (0 + x) = omega (arith, ints) in
                let a : k +ℤ pos d ≡ v +ℤ pos x = omega (arith, ints) in
                subst (λ z. approach v v b t ≤ℤ approach v z b t) (sym a)
                (subst (λ z. approach v v b t ≤ℤ approach z (v +ℤ pos x) b t) (sym h)
                (subst (λ z. approach z v b t ≤ℤ approach ((v +ℤ pos x) -ℤ pos (0 + x)) (v +ℤ pos x) b t) (sym g) (aim_below v 0 b t x)))

-- ---- the values of flights

same_den : (half D : ℕ) (n m : ℤ) → n ≤ℤ m → is_below half (record { num = m; den = D }) ≡ true → is_below half (record { num = n; den = D }) ≡ true
same_den half D n m l h =
    let below : m <ℤ neg_ℤ (pos (half * D)) = omega (arith, ints, h) in
    test_lt n (neg_ℤ (pos (half * D))) (omega (arith, ints))

less_taken : (c x y : ℤ) → y ≤ℤ x → (c -ℤ x) ≤ℤ (c -ℤ y)
less_taken c x y h = omega (arith, ints)

more_first : (a b c : ℤ) → a ≤ℤ b → (a +ℤ c) ≤ℤ (b +ℤ c)
more_first a b c h = omega (arith, ints)

more_second : (a b c : ℤ) → a ≤ℤ b → (c +ℤ a) ≤ℤ (c +ℤ b)
more_second a b c h = omega (arith, ints)

more_before : (a b c : ℤ) → a ≤ℤ b → (a -ℤ c) ≤ℤ (b -ℤ c)
more_before a b c h = omega (arith, ints)

lower : (half q : ℕ) (h h' v w k : ℤ) (b g t : ℕ) → h' ≤ℤ h → is_below half (value q (flight t h' v w k b g)) ≡ true → is_below half (value q (flight t h v w k b g)) ≡ true
lower half q h h' v w k b g t l =
    same_den half (q * q * q * b) _ _
    (less_taken (held v k b g t) _ _ (mul-le_ℤ b _ _ (more_first _ _ ((pos 2 *ℤ w) *ℤ pos t) (scaled_le h' h (q * q * q) l))))

slower : (half q : ℕ) (h v w w' k : ℤ) (b g t : ℕ) → w' ≤ℤ w → is_below half (value q (flight t h v w' k b g)) ≡ true → is_below half (value q (flight t h v w k b g)) ≡ true
slower half q h v w w' k b g t l =
    same_den half (q * q * q * b) _ _
    (less_taken (held v k b g t) _ _ (mul-le_ℤ b _ _ (more_second _ _ (h *ℤ pos (q * q * q)) (scaled_le (pos 2 *ℤ w') (pos 2 *ℤ w) t (mul-le_ℤ 2 w' w l)))))

higher : (half q : ℕ) (h v w k : ℤ) (b g t d : ℕ) → is_below half (value q (flight t h v w (k +ℤ pos d) b g)) ≡ true → is_below half (value q (flight t h v w k b g)) ≡ true
higher half q h v w k b g t d =
    same_den half (q * q * q * b) _ _
    (more_before (held v k b g t) (held v (k +ℤ pos d) b g t) (pos b *ℤ ((h *ℤ pos (q * q * q)) +ℤ ((pos 2 *ℤ w) *ℤ pos t)))
    (more_second _ _ _ (approach-aim v k b (t - g) d)))

-- ---- the passes

-- the flight before one that is below is below
abbrev NeverFalls : ℕ → Search → Pass Flight → Type 0
NeverFalls half s p = (i : ℕ) → is_below half (value (unit s) (p.point (i + 1))) ≡ true → is_below half (value (unit s) (p.point i)) ≡ true

module _ (half : ℕ) (s : Search) where
  altitude : NeverFalls half s (altitude_pass s)
  altitude i = rw (next i 1) (falling_next s.area.altitude.greatest s.area.altitude.least (i * 1) 1 (λ d h e. rw e
      (lower half (unit s) (falling s.area.altitude.greatest s.area.altitude.least (i * 1)) (falling s.area.altitude.greatest s.area.altitude.least (i * 1) -ℤ pos d)
      (over_square s s.area.own.least) (over_square s s.area.intruder.greatest) (over_square s s.demand.lo) (pull_at_low s) (hold_at_low s) (high_time s) (omega (arith, ints)))))

  intruder : NeverFalls half s (intruder_pass s)
  intruder i = rw (next i (rate_step s)) (falling_next (over_square s s.area.intruder.greatest) (over_square s s.area.intruder.least) (i * rate_step s) (rate_step s) (λ d h e. rw e
      (slower half (unit s) s.area.altitude.least (over_square s s.area.own.least)
      (falling (over_square s s.area.intruder.greatest) (over_square s s.area.intruder.least) (i * rate_step s)) (falling (over_square s s.area.intruder.greatest) (over_square s s.area.intruder.least) (i * rate_step s) -ℤ pos d)
      (over_square s s.demand.lo) (pull_at_low s) (hold_at_low s) (high_time s) (omega (arith, ints)))))

  aim : NeverFalls half s (aim_pass s)
  aim i = rw (next i (rate_step s)) (rising_next (over_square s s.demand.lo) (over_square s s.demand.hi) (i * rate_step s) (rate_step s) (λ d h e. rw e
      (higher half (unit s) s.area.altitude.least (over_square s s.area.own.least) (over_square s s.area.intruder.least) (rising (over_square s s.demand.lo) (over_square s s.demand.hi) (i * rate_step s))
      (pull_at_low s) (hold_at_low s) (high_time s) d)))

pub below_in_before : (s : Survey) (q : Quantity) → rises q ≡ true → (i : ℕ) → below_in s q (i + 1) ≡ true → below_in s q i ≡ true
below_in_before s Time e = absurd cc
below_in_before s Altitude e = altitude s.half (search_of s)
below_in_before s Intruder e = intruder s.half (search_of s)
below_in_before s Aim e = aim s.half (search_of s)
below_in_before s Pull e = absurd cc
below_in_before s Hold e = absurd cc
below_in_before s Own e = absurd cc
