-- Each end of the area that is reached from a cell is reached by some flight of a second, the altitudes up to their rounding.
use Rattle.std.proofs.Common.{◌≡◌, ℕ, zero, suc, ◌-◌, ◌*◌, ◌<◌, ◌≤◌, ◌⊎◌, inl, inr, ⊎_elim, refl, sym, ap, ◌∙◌, arith, List, [], ◌∷◌, ◌++◌, ℤ, pos, neg_ℤ, ◌+ℤ◌, ◌-ℤ◌, ◌*ℤ◌, ◌≤ℤ◌, ◌<ℤ◌, mul-pos, mul-le-mul_right}
use Rattle.std.specs.Int.{int_max, int_min}
use Rattle.std.proofs.lemmas.Bool.{cases_lt}
use Rattle.std.proofs.lemmas.Int.{ints, clamps}
use Rattle.acas_frac.proofs.IntRing.{at, num, ◌⊕◌, ◌⊖◌, ◌⊗◌, ring}
use Rattle.acas_frac.proofs.Orders.{by_above, by_below, cases_lt_ℤ}
use Rattle.acas_frac.proofs.SignedProducts.{lt-from_mul_ℤ, mul-lt_ℤ}
use Rattle.acas_flight.proofs.Between.{test_ge, test_lt}
use Rattle.acas_flight.specs.Clear.{Area}
use Rattle.acas_flight.specs.Contact.{vertical_separation}
use Rattle.acas_flight.specs.Curves.{held}
use Rattle.acas_flight.specs.Parts.{CanBeMet}
use Rattle.acas_flight.specs.Response.{Demand, Meets, Segment, climb, lasting, rate_after, scaled}
use Rattle.acas_flight.specs.State.{Interval}
use Rattle.acas_flight.specs.Window.{Times}
use Rattle.acas_flight_lemmas.proofs.Rising.{scaled_le}
use Rattle.acas_areas.specs.Flights.{Flight, flight}
use Rattle.acas_areas.specs.Responses.{IsApproachFor, IsFlightFrom, IsToward, at_aim, at_once, before, down, not_held, past, segment, up}
use Rattle.acas_pass_lemmas.proofs.Flown.{approach-follows, approach-lasting, response-meets}
use Rattle.acas_pass_lemmas.proofs.Founds.{response}
use Rattle.acas_pass_lemmas.proofs.Touching.{climb-response, lasts, meets}
use Rattle.acas_safeable.specs.Reached.{greatest_rate, least_rate}
use Rattle.acas_safeable.specs.Safe.{rate_left}

-- ---- a second of the curve from the rate v to the aim k with the pull b after the hold g, over b

pub record HasCurve (a : Demand) (v k : ℤ) (b g : ℕ) : Type 0 where
  pub flown : List Segment
  pub meets : Meets (scaled b a) ((v *ℤ pos b) *ℤ pos b) flown
  pub lasts : lasting flown ≡ b
  pub climbs : climb ((v *ℤ pos b) *ℤ pos b) flown *ℤ pos b ≡ held v k b g 1 *ℤ pos (b * b * b)

abbrev alone : ℤ → Interval
alone v = record { least = v; greatest = v }

-- the second from 1 on, and the area of one state
abbrev at_one : Times
at_one = record { from = record { num = pos 1; den = 1 }; to = record { num = pos 1; den = 1 } }

abbrev at_rate : ℤ → Area
at_rate v = record { altitude = alone (pos 0); own = alone v; intruder = alone (pos 0) }

module _ (a : Demand) (v k : ℤ) (b g : ℕ) (some : 0 < b) (low : a.lo ≤ℤ k) (high : k ≤ℤ a.hi) (least : a.pull ≤ b) (most : b ≤ a.limit) (short : g ≤ a.delay) where
  abbrev course : Flight
  course = flight 1 (pos 0) v (pos 0) k b g

  from : IsFlightFrom a (at_rate v) at_one 1 course
  from = record {
    time = (omega (arith, ints), omega (arith, ints));
    not_under = omega (arith, ints);
    not_over = omega (arith, ints);
    own = (omega (arith, ints), omega (arith, ints));
    intruder = (omega (arith, ints), omega (arith, ints));
    aim_least = omega (arith, ints);
    aim_greatest = omega (arith, ints);
    pull_least = omega arith;
    pull_most = omega arith;
    hold = omega arith;
  }

  pub curve : HasCurve a v k b g
  curve =
      let r = response 1 course in
      let whole : 1 * (1 * b) ≡ b = omega arith in
      let part : 1 * b ≡ b = omega arith in
      record {
        flown = r.0 ++ r.1;
        meets = rw whole at (meets 0 a (at_rate v) at_one 1 course (omega arith) some from r.0 r.1 r.2);
        lasts = lasts 1 course r.0 r.1 r.2 ∙ omega arith;
        climbs = rw (whole, part) at (climb-response 1 course r.0 r.1 (omega arith) some r.2);
      }

-- ---- altitudes: from h and the intruder's rate w, over p, with a climb of z over p^3

module _ (p : ℕ) (some : 0 < p) (h w z H G : ℤ) (climbs : z *ℤ pos p ≡ H *ℤ pos (p * p * p)) where
  abbrev reached : ℤ
  reached = vertical_separation p (h *ℤ pos p) (w *ℤ pos p) p z

  exact : pos p *ℤ reached ≡ pos (p * p * p) *ℤ (((h +ℤ pos 2 *ℤ w) *ℤ pos p) -ℤ H)
  exact = spread ∙ ap (λ x. (((h +ℤ pos 2 *ℤ w) *ℤ pos p) *ℤ pos (p * p * p)) -ℤ x) climbs ∙ gather
    where
      spread : pos p *ℤ reached ≡ (((h +ℤ pos 2 *ℤ w) *ℤ pos p) *ℤ pos (p * p * p)) -ℤ (z *ℤ pos p)
      spread = ring (pos p ∷ h ∷ w ∷ z ∷ [])
          (at 0 ⊗ ((((at 1 ⊗ at 0) ⊗ (at 0 ⊗ at 0)) ⊕ (((num (pos 2) ⊗ (at 2 ⊗ at 0)) ⊗ at 0) ⊗ at 0)) ⊖ at 3))
          ((((at 1 ⊕ (num (pos 2) ⊗ at 2)) ⊗ at 0) ⊗ ((at 0 ⊗ at 0) ⊗ at 0)) ⊖ (at 3 ⊗ at 0))
          refl

      gather : (((h +ℤ pos 2 *ℤ w) *ℤ pos p) *ℤ pos (p * p * p)) -ℤ (H *ℤ pos (p * p * p)) ≡ pos (p * p * p) *ℤ (((h +ℤ pos 2 *ℤ w) *ℤ pos p) -ℤ H)
      gather = ring (pos p ∷ h ∷ w ∷ H ∷ [])
          ((((at 1 ⊕ (num (pos 2) ⊗ at 2)) ⊗ at 0) ⊗ ((at 0 ⊗ at 0) ⊗ at 0)) ⊖ (at 3 ⊗ ((at 0 ⊗ at 0) ⊗ at 0)))
          (((at 0 ⊗ at 0) ⊗ at 0) ⊗ (((at 1 ⊕ (num (pos 2) ⊗ at 2)) ⊗ at 0) ⊖ at 3))
          refl

  cube : 0 < p * p * p
  cube = mul-pos (mul-pos some some) some

  pub under_next : (((h +ℤ pos 2 *ℤ w) *ℤ pos p) -ℤ H) <ℤ (pos p *ℤ G +ℤ pos p) → reached <ℤ ((G +ℤ pos 1) *ℤ pos (p * p * p))
  under_next l = lt-from_mul_ℤ p reached ((G +ℤ pos 1) *ℤ pos (p * p * p)) (rw (exact, ahead) (mul-lt_ℤ (p * p * p) _ _ cube l))
    where
      ahead : pos p *ℤ ((G +ℤ pos 1) *ℤ pos (p * p * p)) ≡ pos (p * p * p) *ℤ (pos p *ℤ G +ℤ pos p)
      ahead = ring (pos p ∷ G ∷ []) (at 0 ⊗ ((at 1 ⊕ num (pos 1)) ⊗ ((at 0 ⊗ at 0) ⊗ at 0))) (((at 0 ⊗ at 0) ⊗ at 0) ⊗ ((at 0 ⊗ at 1) ⊕ at 0)) refl

  pub over_last : (pos p *ℤ G) <ℤ ((((h +ℤ pos 2 *ℤ w) *ℤ pos p) -ℤ H) +ℤ pos p) → ((G -ℤ pos 1) *ℤ pos (p * p * p)) <ℤ reached
  over_last l = lt-from_mul_ℤ p ((G -ℤ pos 1) *ℤ pos (p * p * p)) reached (rw (exact, behind) (mul-lt_ℤ (p * p * p) _ _ cube (less _ _ _ l)))
    where
      behind : pos p *ℤ ((G -ℤ pos 1) *ℤ pos (p * p * p)) ≡ pos (p * p * p) *ℤ (pos p *ℤ G -ℤ pos p)
      behind = ring (pos p ∷ G ∷ []) (at 0 ⊗ ((at 1 ⊖ num (pos 1)) ⊗ ((at 0 ⊗ at 0) ⊗ at 0))) (((at 0 ⊗ at 0) ⊗ at 0) ⊗ ((at 0 ⊗ at 1) ⊖ at 0)) refl

      less : (x y : ℤ) (n : ℕ) → x <ℤ (y +ℤ pos n) → (x -ℤ pos n) <ℤ y
      less x y n l = omega (arith, ints)

-- ---- rates: an approach that begins at once

approach_for : (bend : ℕ) (c : ℤ) (t : ℕ) → (r : List Segment) × IsApproachFor bend c t r
approach_for bend c zero = ([], at_once)
approach_for zero c (suc t) = (segment (suc t) (pos 0) ∷ [], at_aim (suc t) (omega arith) refl)
approach_for (suc bend) c (suc t) = elim (cases_lt (suc bend) (suc t)) [
  | inl after ↦ (segment (suc bend) c ∷ segment (suc t - suc bend) (pos 0) ∷ [], past (suc t) (omega arith) after)
  | inr within ↦ (segment (suc t) c ∷ [], before (suc t) (omega arith) (omega arith) within)
]

level : (v : ℤ) (t : ℕ) → rate_after v (segment t (pos 0)) ≡ v
level v t = ring (v ∷ pos t ∷ []) (at 0 ⊕ (num (pos 0) ⊗ at 1)) (at 0) refl

arrives : (v k : ℤ) (b bend : ℕ) (c : ℤ) → IsToward v k b bend c → rate_after v (segment bend c) ≡ k
arrives v k b bend _ (up e) = rw e (ring (k ∷ pos b ∷ pos bend ∷ []) ((at 0 ⊖ (at 1 ⊗ at 2)) ⊕ (at 1 ⊗ at 2)) (at 0) refl)
arrives v k b bend _ (down e) = rw (e, turned) (ring (k ∷ pos b ∷ pos bend ∷ []) ((at 0 ⊕ (at 1 ⊗ at 2)) ⊕ ((num (pos 0) ⊖ at 1) ⊗ at 2)) (at 0) refl)
  where
    turned : neg_ℤ (pos b) ≡ pos 0 -ℤ pos b
    turned = omega (arith, ints)

-- it leaves the aim where that is reached in time, and else the rate at which it then is
pub record LeavesRate (v k : ℤ) (bend : ℕ) (c : ℤ) (t : ℕ) (w : ℤ) : Type 0 where
  pub arrived : bend ≤ t → w ≡ k
  pub on_the_way : t ≤ bend → w ≡ v +ℤ c *ℤ pos t

approach-left : (v k : ℤ) (b bend : ℕ) (c : ℤ) (t : ℕ) (r : List Segment) → IsToward v k b bend c → IsApproachFor bend c t r → LeavesRate v k bend c t (rate_left v r)
approach-left v k b bend c t r toward flown = record { arrived = in_time t r flown; on_the_way = too_late t r flown }
  where
    here : (n : ℕ) → n ≡ bend → rate_after v (segment n c) ≡ k
    here n e = rw e (arrives v k b bend c toward)

    none : v +ℤ c *ℤ pos 0 ≡ v
    none = ring (v ∷ c ∷ []) (at 0 ⊕ (at 1 ⊗ num (pos 0))) (at 0) refl

    in_time : (t : ℕ) (r : List Segment) → IsApproachFor bend c t r → bend ≤ t → rate_left v r ≡ k
    in_time _ _ at_once l = sym none ∙ here 0 (omega arith)
    in_time _ _ (at_aim t p e) l = level v t ∙ sym none ∙ here 0 (sym e)
    in_time _ _ (before t p s h) l = here t (omega arith)
    in_time _ _ (past t s h) l = ap (λ x. rate_after x (segment (t - bend) (pos 0))) (here bend refl) ∙ level k (t - bend)

    too_late : (t : ℕ) (r : List Segment) → IsApproachFor bend c t r → t ≤ bend → rate_left v r ≡ v +ℤ c *ℤ pos t
    too_late _ _ at_once l = sym none
    too_late _ _ (at_aim t p e) l = absurd (omega arith)
    too_late _ _ (before t p s h) l = refl
    too_late _ _ (past t s h) l = absurd (omega arith)

-- a response of a second, over q, from the rate v that leaves the rate w
pub record Leaves (a : Demand) (v : ℤ) (q : ℕ) (w : ℤ) : Type 0 where
  pub some : 0 < q
  pub flown : List Segment
  pub meets : Meets (scaled q a) ((v *ℤ pos q) *ℤ pos q) flown
  pub lasts : lasting flown ≡ q
  pub left : rate_left ((v *ℤ pos q) *ℤ pos q) flown ≡ w *ℤ pos (q * q)

-- the rate is held
holding : (a : Demand) (v : ℤ) → 0 < a.delay → Leaves a v 1 v
holding a v some = record {
  some = omega arith;
  flown = segment 1 (pos 0) ∷ [];
  meets = inr (record { lasts = omega arith; level = refl; in_time = omega arith }, tt);
  lasts = refl;
  left = ring (v ∷ []) (((at 0 ⊗ num (pos 1)) ⊗ num (pos 1)) ⊕ (num (pos 0) ⊗ num (pos 1))) (at 0 ⊗ num (pos 1)) refl;
}

module _ (a : Demand) (can : CanBeMet a) where
  abbrev n : ℕ
  n = a.limit

  limit_some : 0 < n
  limit_some = omega (arith, can.some_pull, can.pull_within)

  pull_least : a.pull * n ≤ n * n
  pull_least = mul-le-mul_right n can.pull_within

  -- with the limit toward a rate of the advisory
  toward : (v k w : ℤ) (x : ℕ) (c : ℤ) → a.lo ≤ℤ k → k ≤ℤ a.hi → IsToward ((v *ℤ pos n) *ℤ pos n) (k *ℤ pos (n * n)) (n * n) x c →
      ((u : ℤ) → LeavesRate ((v *ℤ pos n) *ℤ pos n) (k *ℤ pos (n * n)) x c n u → u ≡ w *ℤ pos (n * n)) → Leaves a v n w
  toward v k w x c low high way by =
      let r = approach_for x c n in
      record {
        some = limit_some;
        flown = r.0;
        meets = response-meets (scaled n a) ((v *ℤ pos n) *ℤ pos n) 0 [] r.0 (omega arith) not_held
            (approach-follows (scaled n a) (k *ℤ pos (n * n)) (n * n) (scaled_le a.lo k (n * n) low) (scaled_le k a.hi (n * n) high) pull_least (omega arith) ((v *ℤ pos n) *ℤ pos n) x c n r.0 way r.1);
        lasts = approach-lasting x c n r.0 r.1;
        left = by (rate_left ((v *ℤ pos n) *ℤ pos n) r.0) (approach-left ((v *ℤ pos n) *ℤ pos n) (k *ℤ pos (n * n)) (n * n) x c n r.0 way r.1);
      }

  slowed : (v : ℤ) → a.lo ≤ℤ v → Leaves a v n (int_max a.lo (v -ℤ pos n))
  slowed v over = by_above a.lo v over from_over
    where
      start : (x : ℕ) → ((a.lo +ℤ pos x) *ℤ pos n) *ℤ pos n ≡ (a.lo *ℤ pos (n * n)) +ℤ pos ((n * n) * x)
      start x = ring (a.lo ∷ pos x ∷ pos n ∷ []) (((at 0 ⊕ at 1) ⊗ at 2) ⊗ at 2) ((at 0 ⊗ (at 2 ⊗ at 2)) ⊕ ((at 2 ⊗ at 2) ⊗ at 1)) refl

      slower : (v : ℤ) → ((v *ℤ pos n) *ℤ pos n) +ℤ (neg_ℤ (pos (n * n)) *ℤ pos n) ≡ (v -ℤ pos n) *ℤ pos (n * n)
      slower v = rw turned (ring (v ∷ pos n ∷ []) (((at 0 ⊗ at 1) ⊗ at 1) ⊕ ((num (pos 0) ⊖ (at 1 ⊗ at 1)) ⊗ at 1)) ((at 0 ⊖ at 1) ⊗ (at 1 ⊗ at 1)) refl)
        where
          turned : neg_ℤ (pos (n * n)) ≡ pos 0 -ℤ pos (n * n)
          turned = omega (arith, ints)

      at_lo : (x : ℕ) → x ≤ n → a.lo ≡ int_max a.lo ((a.lo +ℤ pos x) -ℤ pos n)
      at_lo x l = omega (arith, ints, clamps)

      above_lo : (x : ℕ) → n ≤ x → (a.lo +ℤ pos x) -ℤ pos n ≡ int_max a.lo ((a.lo +ℤ pos x) -ℤ pos n)
      above_lo x l = omega (arith, ints, clamps)

      end : (x : ℕ) (u : ℤ) → LeavesRate (((a.lo +ℤ pos x) *ℤ pos n) *ℤ pos n) (a.lo *ℤ pos (n * n)) x (neg_ℤ (pos (n * n))) n u → u ≡ int_max a.lo ((a.lo +ℤ pos x) -ℤ pos n) *ℤ pos (n * n)
      end x u leaves =
          ⊎_elim
          (λ l. leaves.on_the_way (omega arith) ∙ slower (a.lo +ℤ pos x) ∙ ap (λ z. z *ℤ pos (n * n)) (above_lo x (omega arith)))
          (λ l. leaves.arrived l ∙ ap (λ z. z *ℤ pos (n * n)) (at_lo x l))
          (cases_lt n x)

      from_over : (x : ℕ) → v ≡ a.lo +ℤ pos x → Leaves a v n (int_max a.lo (v -ℤ pos n))
      from_over x e = rw e (toward (a.lo +ℤ pos x) a.lo (int_max a.lo ((a.lo +ℤ pos x) -ℤ pos n)) x (neg_ℤ (pos (n * n))) (omega (arith, ints)) can.ordered (down (start x)) (end x))

  sped : (v : ℤ) → v ≤ℤ a.hi → Leaves a v n (int_min a.hi (v +ℤ pos n))
  sped v under = by_below a.hi v under from_under
    where
      start : (x : ℕ) → ((a.hi -ℤ pos x) *ℤ pos n) *ℤ pos n ≡ (a.hi *ℤ pos (n * n)) -ℤ pos ((n * n) * x)
      start x = ring (a.hi ∷ pos x ∷ pos n ∷ []) (((at 0 ⊖ at 1) ⊗ at 2) ⊗ at 2) ((at 0 ⊗ (at 2 ⊗ at 2)) ⊖ ((at 2 ⊗ at 2) ⊗ at 1)) refl

      faster : (v : ℤ) → ((v *ℤ pos n) *ℤ pos n) +ℤ (pos (n * n) *ℤ pos n) ≡ (v +ℤ pos n) *ℤ pos (n * n)
      faster v = ring (v ∷ pos n ∷ []) (((at 0 ⊗ at 1) ⊗ at 1) ⊕ ((at 1 ⊗ at 1) ⊗ at 1)) ((at 0 ⊕ at 1) ⊗ (at 1 ⊗ at 1)) refl

      at_hi : (x : ℕ) → x ≤ n → a.hi ≡ int_min a.hi ((a.hi -ℤ pos x) +ℤ pos n)
      at_hi x l = omega (arith, ints, clamps)

      below_hi : (x : ℕ) → n ≤ x → (a.hi -ℤ pos x) +ℤ pos n ≡ int_min a.hi ((a.hi -ℤ pos x) +ℤ pos n)
      below_hi x l = omega (arith, ints, clamps)

      end : (x : ℕ) (u : ℤ) → LeavesRate (((a.hi -ℤ pos x) *ℤ pos n) *ℤ pos n) (a.hi *ℤ pos (n * n)) x (pos (n * n)) n u → u ≡ int_min a.hi ((a.hi -ℤ pos x) +ℤ pos n) *ℤ pos (n * n)
      end x u leaves =
          ⊎_elim
          (λ l. leaves.on_the_way (omega arith) ∙ faster (a.hi -ℤ pos x) ∙ ap (λ z. z *ℤ pos (n * n)) (below_hi x (omega arith)))
          (λ l. leaves.arrived l ∙ ap (λ z. z *ℤ pos (n * n)) (at_hi x l))
          (cases_lt n x)

      from_under : (x : ℕ) → v ≡ a.hi -ℤ pos x → Leaves a v n (int_min a.hi (v +ℤ pos n))
      from_under x e = rw e (toward (a.hi -ℤ pos x) a.hi (int_min a.hi ((a.hi -ℤ pos x) +ℤ pos n)) x (pos (n * n)) can.ordered (omega (arith, ints)) (up (start x)) (end x))

  -- the least rate that is reached, and the greatest
  pub slow_end : (v : Interval) → (a.lo ≤ℤ v.least) ⊎ (0 < a.delay) → (q : ℕ) × Leaves a v.least q (least_rate a v)
  slow_end v held =
      ⊎_elim
      (λ l. rw (test_lt v.least a.lo l) (1, holding a v.least (⊎_elim (λ h. absurd (omega (arith, ints, h, l))) (λ h. h) held)))
      (λ h. rw (test_ge v.least a.lo h) (n, slowed v.least h))
      (cases_lt_ℤ v.least a.lo)

  pub fast_end : (v : Interval) → (v.greatest ≤ℤ a.hi) ⊎ (0 < a.delay) → (q : ℕ) × Leaves a v.greatest q (greatest_rate a v)
  fast_end v held =
      ⊎_elim
      (λ l. rw (test_lt a.hi v.greatest l) (1, holding a v.greatest (⊎_elim (λ h. absurd (omega (arith, ints, h, l))) (λ h. h) held)))
      (λ h. rw (test_ge a.hi v.greatest h) (n, sped v.greatest h))
      (cases_lt_ℤ a.hi v.greatest)
