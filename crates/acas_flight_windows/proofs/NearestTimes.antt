-- The nearest time of a rising curve: there is one, and it is one in lowest terms too.
use Rattle.std.proofs.Common.{◌≡◌, ℕ, ◌*◌, ◌<◌, ◌≤◌, mul-le-mul_right, inl, inr, ⊎_elim, refl, ap, ◌∙◌, arith, [], ◌∷◌, ℤ, pos, ◌+ℤ◌, ◌-ℤ◌, ◌*ℤ◌, ◌≤ℤ◌, ◌<ℤ◌}
use Rattle.std.specs.Int.Signed.{≤ℤ_refl}
use Rattle.std.proofs.lemmas.Int.{ints}
use lib.IntN.{*ℤ_comm}
use native.Mathlib.Nat.{le_of_mul-le-mul_left}
use Rattle.acas_frac.proofs.SignedProducts.{mul-le_ℤ, le-from_mul_ℤ}
use Rattle.acas_units.specs.declared.limits.TheConstants.{WINDOW_SECONDS}
use Rattle.acas_frac.specs.Fraction.{Fraction}
use Rattle.acas_flight.specs.Window.{Times}
use Rattle.acas_flight.specs.Border.{Border, border_of, turn, IsLate, IsSoon, IsNearestTime, IsOnTheWay}
use Rattle.acas_frac.proofs.IntRing.{at, ◌⊗◌, ring}
use Rattle.acas_frac.proofs.Orders.{cases_lt_ℤ}
use Rattle.acas_areas.specs.Limits.{AreEnds, IsEnd}
use Rattle.acas_flight_lemmas.proofs.Numbers.{natural}

-- a time x/p before the end n/d of a window
pub before_end : (x p n d : ℕ) → 0 < d → n ≤ WINDOW_SECONDS * d → x * d ≤ n * p → x ≤ WINDOW_SECONDS * p
before_end x p n d s h k = le_of_mul-le-mul_left {m = x} {n = WINDOW_SECONDS * p} {k = d} (omega (arith, mul-le-mul_right p h)) s

-- ---- a time at which a rising curve is nearest

pub record HasNearest (s : Border) (w : Times) : Type 0 where
  pub time : Fraction
  pub some : 0 < time.den
  pub least : pos 0 ≤ℤ time.num
  pub most : time.num ≤ℤ pos (WINDOW_SECONDS * time.den)
  pub near : IsNearestTime s w time

at_end : (s : Border) (w : Times) (f : Fraction) → IsEnd f → IsNearestTime s w f → HasNearest s w
at_end s w f e near = record { time = f; some = e.some; least = e.least; most = e.greatest; near = near }

module _ (v k : ℤ) (b g : ℕ) (h x : ℤ) (w : Times) (sb : 0 < b) (e : AreEnds w) where
  abbrev turning : Fraction
  turning = record { num = turn (border_of v k b g h x); den = b }

  not_before : IsOnTheWay (border_of v k b g h x) → pos 0 ≤ℤ turning.num
  not_before way = at_least (g * b) x v way.over
    where
      at_least : (a : ℕ) (y z : ℤ) → z <ℤ y → pos 0 ≤ℤ (pos a +ℤ (y -ℤ z))
      at_least a y z l = omega (arith, ints)

  -- the curve has the intruder's rate before the end of a window
  turns_in_time : IsOnTheWay (border_of v k b g h x) → (turn (border_of v k b g h x) *ℤ pos w.to.den) <ℤ (pos b *ℤ w.to.num) → turning.num ≤ℤ pos (WINDOW_SECONDS * b)
  turns_in_time way h = natural turning.num (not_before way) (λ n en. natural w.to.num e.to.least (λ m em. by n m en em))
    where
      products : (n d m : ℕ) → (pos n *ℤ pos d) <ℤ (pos b *ℤ pos m) → n * d ≤ m * b
      products n d m l = omega (arith, ints)

      by : (n m : ℕ) → turning.num ≡ pos n → w.to.num ≡ pos m → turning.num ≤ℤ pos (WINDOW_SECONDS * b)
      by n m en em =
          let most : m ≤ WINDOW_SECONDS * w.to.den = omega (arith, ints, em, e.to.greatest) in
          let within = before_end n b m w.to.den e.to.some most (products n w.to.den m (rw (en, em) at h)) in
          omega (arith, ints, en, within)

  on_the_way : IsOnTheWay (border_of v k b g h x) → HasNearest (border_of v k b g h x) w
  on_the_way way = elim (cases_lt_ℤ (pos b *ℤ w.from.num) (turn (border_of v k b g h x) *ℤ pos w.from.den)) [
    | inr late ↦ at_end (border_of v k b g h x) w w.from e.from (record { after = ≤ℤ_refl _; before = e.order; late = inl (inr (way, late)); soon = inr (≤ℤ_refl _) })
    | inl early ↦ elim (cases_lt_ℤ (turn (border_of v k b g h x) *ℤ pos w.to.den) (pos b *ℤ w.to.num)) [
      | inr soon ↦ at_end (border_of v k b g h x) w w.to e.to (record { after = e.order; before = ≤ℤ_refl _; late = inr (≤ℤ_refl _); soon = inl (inr (way, soon)) })
      | inl late ↦ record {
        time = turning;
        some = sb;
        least = not_before way;
        most = turns_in_time way late;
        near = record {
          after = less (turned w.from.num) early;
          before = less' (turned w.to.num) late;
          late = inl (inr (way, same (turned turning.num)));
          soon = inl (inr (way, same' (turned turning.num)));
        };
      }
    ]
  ]
    where
      turned : (z : ℤ) → z *ℤ pos b ≡ pos b *ℤ z
      turned z = *ℤ_comm z (pos b)

      less : {i j t : ℤ} → i ≡ j → j <ℤ t → i ≤ℤ t
      less i l = omega (arith, ints)

      less' : {i j t : ℤ} → i ≡ j → t <ℤ j → t ≤ℤ i
      less' i l = omega (arith, ints)

      same : {i j : ℤ} → i ≡ j → i ≤ℤ j
      same i = omega (arith, ints)

      same' : {i j : ℤ} → i ≡ j → j ≤ℤ i
      same' i = omega (arith, ints)

  pub nearest : v <ℤ k → HasNearest (border_of v k b g h x) w
  nearest o = elim (cases_lt_ℤ v x) [
    | inr slow ↦ at_end (border_of v k b g h x) w w.from e.from (record { after = ≤ℤ_refl _; before = e.order; late = inl (inl slow); soon = inr (≤ℤ_refl _) })
    | inl over ↦ elim (cases_lt_ℤ k x) [
      | inl fast ↦ at_end (border_of v k b g h x) w w.to e.to (record { after = e.order; before = ≤ℤ_refl _; late = inr (≤ℤ_refl _); soon = inl (inl fast) })
      | inr within ↦ on_the_way (record { over = over; within = within })
    ]
  ]

-- ---- another fraction of the same value

module _ (f g : Fraction) (p : 0 < g.den) (e : f.num *ℤ pos g.den ≡ g.num *ℤ pos f.den) (a c : ℤ) where
  left : pos g.den *ℤ (a *ℤ pos f.den) ≡ pos f.den *ℤ (a *ℤ pos g.den)
  left = ring (pos g.den ∷ a ∷ pos f.den ∷ []) (at 0 ⊗ (at 1 ⊗ at 2)) (at 2 ⊗ (at 1 ⊗ at 0)) refl

  right : pos g.den *ℤ (f.num *ℤ c) ≡ pos f.den *ℤ (g.num *ℤ c)
  right =
      ring (pos g.den ∷ f.num ∷ c ∷ []) (at 0 ⊗ (at 1 ⊗ at 2)) ((at 1 ⊗ at 0) ⊗ at 2) refl
      ∙ ap (λ z. z *ℤ c) e
      ∙ ring (g.num ∷ pos f.den ∷ c ∷ []) ((at 0 ⊗ at 1) ⊗ at 2) (at 1 ⊗ (at 0 ⊗ at 2)) refl

  pub above_same : (a *ℤ pos g.den) ≤ℤ (g.num *ℤ c) → (a *ℤ pos f.den) ≤ℤ (f.num *ℤ c)
  above_same h = le-from_mul_ℤ g.den (a *ℤ pos f.den) (f.num *ℤ c) p (rw (left, right) (mul-le_ℤ f.den (a *ℤ pos g.den) (g.num *ℤ c) h))

  pub below_same : (g.num *ℤ c) ≤ℤ (a *ℤ pos g.den) → (f.num *ℤ c) ≤ℤ (a *ℤ pos f.den)
  below_same h = le-from_mul_ℤ g.den (f.num *ℤ c) (a *ℤ pos f.den) p (rw (left, right) (mul-le_ℤ f.den (g.num *ℤ c) (a *ℤ pos g.den) h))

pub nearest_same : (s : Border) (w : Times) (f g : Fraction) → 0 < g.den → f.num *ℤ pos g.den ≡ g.num *ℤ pos f.den → IsNearestTime s w g → IsNearestTime s w f
nearest_same s w f g p e n = record {
  after = above_same f g p e w.from.num (pos w.from.den) n.after;
  before = below_same f g p e w.to.num (pos w.to.den) n.before;
  late = ⊎_elim (λ l. inl (late l)) (λ l. inr (above_same f g p e w.to.num (pos w.to.den) l)) n.late;
  soon = ⊎_elim (λ l. inl (soon l)) (λ l. inr (below_same f g p e w.from.num (pos w.from.den) l)) n.soon;
}
  where
    late : IsLate s g → IsLate s f
    late l = ⊎_elim (λ i. inl i) (λ i. inr (i.0, rw (*ℤ_comm (pos s.pull) f.num) (above_same f g p e (turn s) (pos s.pull) (rw (*ℤ_comm (pos s.pull) g.num) at i.1)))) l

    soon : IsSoon s g → IsSoon s f
    soon l = ⊎_elim (λ i. inl i) (λ i. inr (i.0, rw (*ℤ_comm (pos s.pull) f.num) (below_same f g p e (turn s) (pos s.pull) (rw (*ℤ_comm (pos s.pull) g.num) at i.1)))) l
