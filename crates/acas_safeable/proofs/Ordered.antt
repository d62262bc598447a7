-- The ends of what is reached are in order: some response lasts for the second, and what it leads to is between them.
use Rattle.std.proofs.Common.{◌≡◌, ℕ, ◌*◌, ◌<◌, ◌≤◌, ⊎_elim, inl, refl, sym, subst, ap, arith, List, [], ◌∷◌, ℤ, pos, neg_ℤ, ◌+ℤ◌, ◌-ℤ◌, ◌*ℤ◌, ◌≤ℤ◌, ◌<ℤ◌, mul-le-mul_right, mul-pos}
use Rattle.std.proofs.lemmas.Int.{ints}
use lib.IntN.{*ℤ_comm}
use Rattle.acas_frac.proofs.IntRing.{at, num, ◌⊕◌, ◌⊖◌, ◌⊗◌, ring}
use Rattle.acas_frac.proofs.Orders.{by_above, by_below, cases_lt_ℤ}
use Rattle.acas_frac.proofs.SignedProducts.{le-from_mul_ℤ}
use Rattle.acas_flight.proofs.Holding.{level_rate}
use Rattle.acas_flight_lemmas.proofs.Models.{scaled_can_be_met}
use Rattle.acas_flight_lemmas.proofs.Rising.{scaled_le}
use Rattle.acas_flight_lemmas.proofs.Cuts.{cuts_meet}
use Rattle.acas_flight.specs.Parts.{CanBeMet, until}
use Rattle.acas_flight.specs.Response.{Demand, Follows, Meets, Segment, lasting, scaled}
use Rattle.acas_flight.specs.State.{Interval}
use Rattle.acas_safeable.specs.Reached.{greatest_altitude, least_altitude}
use Rattle.acas_safeable.proofs.Altitudes.{greatest_altitude-holds, least_altitude-holds}

abbrev segment : ℕ → ℤ → Segment
segment d c = record { duration = d; acceleration = c }

-- ---- segments that follow

follows_level : (a : Demand) (v : ℤ) (d : ℕ) → 0 < d → a.lo ≤ℤ v → v ≤ℤ a.hi → Follows a v (segment d (pos 0))
follows_level a v d some low high = record {
  lasts = some;
  at_least = omega (arith, ints);
  at_most = omega (arith, ints);
  from_below = λ h. absurd (omega (arith, ints, h, low));
  from_above = λ h. absurd (omega (arith, ints, h, high));
  from_within = λ h k. rw (level_rate v (segment d (pos 0)) refl) (low, high);
}

follows_up : (a : Demand) (v : ℤ) (d c : ℕ) → a.lo ≤ℤ a.hi → 0 < d → v <ℤ a.lo → a.pull ≤ c → c ≤ a.limit → v +ℤ (pos c *ℤ pos d) ≡ a.lo → Follows a v (segment d (pos c))
follows_up a v d c order some under few most e = record {
  lasts = some;
  at_least = omega (arith, ints);
  at_most = omega (arith, ints);
  from_below = λ h. (omega (arith, ints), rw e order);
  from_above = λ h. absurd (omega (arith, ints, h, under, order));
  from_within = λ h k. absurd (omega (arith, ints, h, under));
}

follows_down : (a : Demand) (v : ℤ) (d c : ℕ) → a.lo ≤ℤ a.hi → 0 < d → a.hi <ℤ v → a.pull ≤ c → c ≤ a.limit → v +ℤ (neg_ℤ (pos c) *ℤ pos d) ≡ a.hi → Follows a v (segment d (neg_ℤ (pos c)))
follows_down a v d c order some above few most e = record {
  lasts = some;
  at_least = omega (arith, ints);
  at_most = omega (arith, ints);
  from_below = λ h. absurd (omega (arith, ints, h, above, order));
  from_above = λ h. (omega (arith, ints), rw e order);
  from_within = λ h k. absurd (omega (arith, ints, k, above));
}

-- ---- a response from each rate that lasts for a second

record HasResponse (a : Demand) (v : ℤ) : Type 0 where
  over : ℕ
  some : 0 < over
  response : List Segment
  meets : Meets (scaled over a) ((v *ℤ pos over) *ℤ pos over) response
  lasts : over ≤ lasting response

module _ (a : Demand) (fine : CanBeMet a) where
  abbrev p : ℕ
  p = a.pull

  steep : p * p ≤ a.limit * p
  steep = mul-le-mul_right p fine.pull_within

  twice : (z : ℤ) → (z *ℤ pos p) *ℤ pos p ≡ z *ℤ pos (p * p)
  twice z = ring (z ∷ pos p ∷ []) ((at 0 ⊗ at 1) ⊗ at 1) (at 0 ⊗ (at 1 ⊗ at 1)) refl

  square : 0 < p * p
  square = mul-pos fine.some_pull fine.some_pull

  from_below : (x : ℕ) → 0 < x → HasResponse a (a.lo -ℤ pos x)
  from_below x some = record {
    over = p;
    some = fine.some_pull;
    response = segment x (pos (p * p)) ∷ segment p (pos 0) ∷ [];
    meets = inl (
      follows_up (scaled p a) (((a.lo -ℤ pos x) *ℤ pos p) *ℤ pos p) x (p * p) (scaled_le a.lo a.hi (p * p) fine.ordered) some
          (rw start (under (a.lo *ℤ pos (p * p)) (x * (p * p)) (mul-pos some square))) (omega arith) steep end,
      (subst (λ (z : ℤ). Follows (scaled p a) z (segment p (pos 0))) (sym end) (follows_level (scaled p a) (a.lo *ℤ pos (p * p)) p fine.some_pull (omega (arith, ints)) (scaled_le a.lo a.hi (p * p) fine.ordered)), tt),
    );
    lasts = omega arith;
  }
    where
      start : ((a.lo -ℤ pos x) *ℤ pos p) *ℤ pos p ≡ (a.lo *ℤ pos (p * p)) -ℤ pos (x * (p * p))
      start = ring (a.lo ∷ pos x ∷ pos p ∷ []) (((at 0 ⊖ at 1) ⊗ at 2) ⊗ at 2) ((at 0 ⊗ (at 2 ⊗ at 2)) ⊖ (at 1 ⊗ (at 2 ⊗ at 2))) refl

      end : (((a.lo -ℤ pos x) *ℤ pos p) *ℤ pos p) +ℤ (pos (p * p) *ℤ pos x) ≡ a.lo *ℤ pos (p * p)
      end = ring (a.lo ∷ pos x ∷ pos p ∷ []) ((((at 0 ⊖ at 1) ⊗ at 2) ⊗ at 2) ⊕ ((at 2 ⊗ at 2) ⊗ at 1)) (at 0 ⊗ (at 2 ⊗ at 2)) refl

      under : (z : ℤ) (n : ℕ) → 0 < n → (z -ℤ pos n) <ℤ z
      under z n h = omega (arith, ints)

  from_above : (x : ℕ) → 0 < x → HasResponse a (a.hi +ℤ pos x)
  from_above x some = record {
    over = p;
    some = fine.some_pull;
    response = segment x (neg_ℤ (pos (p * p))) ∷ segment p (pos 0) ∷ [];
    meets = inl (
      follows_down (scaled p a) (((a.hi +ℤ pos x) *ℤ pos p) *ℤ pos p) x (p * p) (scaled_le a.lo a.hi (p * p) fine.ordered) some
          (rw start (above (a.hi *ℤ pos (p * p)) (x * (p * p)) (mul-pos some square))) (omega arith) steep (end x),
      (subst (λ (z : ℤ). Follows (scaled p a) z (segment p (pos 0))) (sym (end x)) (follows_level (scaled p a) (a.hi *ℤ pos (p * p)) p fine.some_pull (scaled_le a.lo a.hi (p * p) fine.ordered) (omega (arith, ints))), tt),
    );
    lasts = omega arith;
  }
    where
      start : ((a.hi +ℤ pos x) *ℤ pos p) *ℤ pos p ≡ (a.hi *ℤ pos (p * p)) +ℤ pos (x * (p * p))
      start = ring (a.hi ∷ pos x ∷ pos p ∷ []) (((at 0 ⊕ at 1) ⊗ at 2) ⊗ at 2) ((at 0 ⊗ (at 2 ⊗ at 2)) ⊕ (at 1 ⊗ (at 2 ⊗ at 2))) refl

      negated : (c x : ℤ) → neg_ℤ c *ℤ x ≡ (pos 0 -ℤ c) *ℤ x
      negated c x = ap (λ z. z *ℤ x) (zero c)
        where
          zero : (c : ℤ) → neg_ℤ c ≡ pos 0 -ℤ c
          zero c = omega (arith, ints)

      end : (x : ℕ) → (((a.hi +ℤ pos x) *ℤ pos p) *ℤ pos p) +ℤ (neg_ℤ (pos (p * p)) *ℤ pos x) ≡ a.hi *ℤ pos (p * p)
      end x = rw (negated (pos (p * p)) (pos x))
          (ring (a.hi ∷ pos x ∷ pos p ∷ []) ((((at 0 ⊕ at 1) ⊗ at 2) ⊗ at 2) ⊕ ((num (pos 0) ⊖ (at 2 ⊗ at 2)) ⊗ at 1)) (at 0 ⊗ (at 2 ⊗ at 2)) refl)

      above : (z : ℤ) (n : ℕ) → 0 < n → z <ℤ (z +ℤ pos n)
      above z n h = omega (arith, ints)

  from_within : (v : ℤ) → a.lo ≤ℤ v → v ≤ℤ a.hi → HasResponse a v
  from_within v low high = record {
    over = p;
    some = fine.some_pull;
    response = segment p (pos 0) ∷ [];
    meets = rw (twice v) (inl (follows_level (scaled p a) (v *ℤ pos (p * p)) p fine.some_pull (scaled_le a.lo v (p * p) low) (scaled_le v a.hi (p * p) high), tt));
    lasts = omega arith;
  }

  some_response : (v : ℤ) → HasResponse a v
  some_response v =
      ⊎_elim
      (λ l. by_below a.lo v (omega (arith, ints)) (λ x e. rw e (from_below x (omega (arith, ints)))))
      (λ low. ⊎_elim
      (λ l. by_above a.hi v (omega (arith, ints)) (λ x e. rw e (from_above x (omega (arith, ints)))))
      (λ high. from_within v low high)
      (cases_lt_ℤ a.hi v))
      (cases_lt_ℤ v a.lo)

-- ---- what is reached

between : (n : ℕ) (x y z : ℤ) → 0 < n → (x *ℤ pos n) ≤ℤ z → z ≤ℤ (y *ℤ pos n) → x ≤ℤ y
between n x y z some h k = le-from_mul_ℤ n x y some (rw (*ℤ_comm (pos n) x, *ℤ_comm (pos n) y) (line _ _ _ h k))
  where
    line : (x y z : ℤ) → x ≤ℤ z → z ≤ℤ y → x ≤ℤ y
    line x y z h k = omega (arith, ints)

module _ (a : Demand) (fine : CanBeMet a) (h v w : Interval) (oh : h.least ≤ℤ h.greatest) (ov : v.least ≤ℤ v.greatest) (ow : w.least ≤ℤ w.greatest) where
  same : (z : ℤ) → z ≤ℤ z
  same z = omega (arith, ints)

  pub ends_ordered : least_altitude a h v w ≤ℤ greatest_altitude a h v w
  ends_ordered =
      let r = some_response a fine v.least in
      let q = r.over in
      let own = v.least *ℤ pos q in
      let cut = cuts_meet (scaled q a) (own *ℤ pos q) r.response q (scaled_can_be_met q a r.some fine) r.meets r.lasts in
      let first = until q r.response in
      between (q * q * q) _ _ _ (mul-pos (mul-pos r.some r.some) r.some)
      (least_altitude-holds a v q own first cut.1 cut.0 fine r.some h w (h.least *ℤ pos q) (w.least *ℤ pos q) (scaled_le v.least v.greatest q ov) (same (h.least *ℤ pos q)) (same (w.least *ℤ pos q)))
      (greatest_altitude-holds a v q own first cut.1 cut.0 fine r.some h w (h.least *ℤ pos q) (w.least *ℤ pos q) (same own) (scaled_le h.least h.greatest q oh) (scaled_le w.least w.greatest q ow))
