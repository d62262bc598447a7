-- The least gap of an area, and the greatest, are reached at some time of the window.
use Rattle.std.proofs.Common.{◌≡◌, ℕ, ◌*◌, ◌<◌, inl, inr, refl, ap, ◌∙◌, arith, [], ◌∷◌, ℤ, pos, neg_ℤ, ◌*ℤ◌, ◌≤ℤ◌, ◌<ℤ◌, cond, mul-pos}
use Rattle.std.proofs.lemmas.Int.{ints}
use lib.IntN.{*ℤ_comm}
use Rattle.acas_units.specs.declared.limits.TheConstants.{WINDOW_SECONDS}
use Rattle.acas_frac.specs.Fraction.{Fraction, IsReduced, Same}
use Rattle.acas_frac.proofs.Reduced.{some_reduced, num_ahead}
use Rattle.acas_frac.proofs.SignedProducts.{mul-le_ℤ, mul-lt_ℤ, le-from_mul_ℤ, lt-from_mul_ℤ}
use Rattle.acas_flight.specs.Response.{Demand}
use Rattle.acas_flight.specs.Parts.{CanBeMet}
use Rattle.acas_flight.specs.Curves.{low_pull, low_hold, high_pull, high_hold}
use Rattle.acas_flight.specs.Window.{Times}
use Rattle.acas_flight.specs.Clear.{Area}
use Rattle.acas_flight.specs.Border.{Border, border_of, gap_number, IsGapAt, IsLeastGap, IsNearestTime, low_border_of, high_border_of}
use Rattle.acas_flight.specs.Extremes.{IsLowExtreme, IsHighExtreme}
use Rattle.acas_flight.specs.Values.{IsOver}
use Rattle.acas_flight.proofs.Between.{test_ge}
use Rattle.acas_frac.proofs.IntRing.{at, ◌⊗◌, ring}
use Rattle.acas_frac.proofs.Orders.{cases_lt_ℤ}
use Rattle.acas_flight_windows.proofs.EndTimes.{first_least, last_least}
use Rattle.acas_areas.specs.Limits.{AreEnds, IsEnd}
use Rattle.acas_flight_lemmas.proofs.Scales.{cancel_left}
use Rattle.acas_flight_lemmas.proofs.Gaps.{IsGapAt-of, low_extreme_of, high_extreme_of}
use Rattle.acas_flight_lemmas.proofs.Safe.{low_pull-some, high_pull-some}
use Rattle.acas_flight_lemmas.proofs.Numbers.{natural}
use Rattle.acas_flight_windows.proofs.LeastGaps.{least_of_nearest}
use Rattle.acas_flight_windows.proofs.NearestTimes.{nearest}
use Rattle.acas_areas.specs.Search.{IsMoment}

-- a time at which a border has its least gap
record IsReached (s : Border) (w : Times) : Type 0 where
  pub time : Fraction
  pub gap : Fraction
  pub moment : IsMoment time
  pub some : 0 < gap.den
  pub least : IsLeastGap s w time gap

-- the gap at the time n/d
abbrev gap_at : Border → ℕ → ℕ → Fraction
gap_at s d n = record { num = gap_number s d n; den = d * d * s.pull }

moment_of : (f : Fraction) → IsEnd f → IsMoment f
moment_of f e = record { some = e.some; least = e.least; most = e.greatest }

-- ---- a rising curve: at its nearest time

module _ (v k : ℤ) (b g : ℕ) (h x : ℤ) (w : Times) (sb : 0 < b) (e : AreEnds w) where
  at_nearest : v <ℤ k → (time : Fraction) → IsMoment time → IsNearestTime (border_of v k b g h x) w time → IsReached (border_of v k b g h x) w
  at_nearest o time m near = natural time.num m.least (λ n en. by n en (mul-pos (mul-pos m.some m.some) sb))
    where
      by : (n : ℕ) → time.num ≡ pos n → 0 < time.den * time.den * b → IsReached (border_of v k b g h x) w
      by n en some = record {
        time = time;
        gap = gap_at (border_of v k b g h x) time.den n;
        moment = m;
        some = some;
        least = least_of_nearest v k b g h x w time (gap_at (border_of v k b g h x) time.den n) n o sb e en m.some some
            (IsGapAt-of (border_of v k b g h x) time (gap_at (border_of v k b g h x) time.den n) n en m.some refl) near;
      }

  rising : v <ℤ k → IsReached (border_of v k b g h x) w
  rising o = let n = nearest v k b g h x w sb e o in at_nearest o n.time (record { some = n.some; least = n.least; most = n.most }) n.near

-- ---- a curve that does not rise: at an end

module _ (v k : ℤ) (b : ℕ) (h x : ℤ) (w : Times) (sb : 0 < b) (e : AreEnds w) (o : k ≤ℤ v) where
  at_end : (f : Fraction) (n : ℕ) → f.num ≡ pos n → IsEnd f → IsGapAt (border_of v k b 0 h x) f (gap_at (border_of v k b 0 h x) f.den n)
  at_end f n en is = IsGapAt-of (border_of v k b 0 h x) f (gap_at (border_of v k b 0 h x) f.den n) n en is.some refl

  some_at : (f : Fraction) → IsEnd f → 0 < f.den * f.den * b
  some_at f is = mul-pos (mul-pos is.some is.some) sb

  at_ends : (m n : ℕ) → w.from.num ≡ pos m → w.to.num ≡ pos n → IsReached (border_of v k b 0 h x) w
  at_ends m n em en =
      let first = gap_at (border_of v k b 0 h x) w.from.den m in
      let last = gap_at (border_of v k b 0 h x) w.to.den n in
      elim (cases_lt_ℤ (last.num *ℤ pos first.den) (first.num *ℤ pos last.den)) [
        | inl less ↦ record {
          time = w.to;
          gap = last;
          moment = moment_of w.to e.to;
          some = some_at w.to e.to;
          least = last_least v k b h x w first last m n o sb em en e.from.some e.to.some (some_at w.from e.from) (some_at w.to e.to) (at_end w.from m em e.from) (at_end w.to n en e.to) e.order less;
        }
        | inr more ↦ record {
          time = w.from;
          gap = first;
          moment = moment_of w.from e.from;
          some = some_at w.from e.from;
          least = first_least v k b h x w first last m n o sb em en e.from.some e.to.some (some_at w.from e.from) (some_at w.to e.to) (at_end w.from m em e.from) (at_end w.to n en e.to) e.order more;
        }
      ]

  falling : IsReached (border_of v k b 0 h x) w
  falling = natural w.from.num e.from.least (λ m em. natural w.to.num e.to.least (λ n en. at_ends m n em en))

reached : (v k : ℤ) (b g : ℕ) (h x : ℤ) (w : Times) → 0 < b → AreEnds w → (k ≤ℤ v → g ≡ 0) → IsReached (border_of v k b g h x) w
reached v k b g h x w sb e at_once = elim (cases_lt_ℤ v k) [
  | inl o ↦ rising v k b g h x w sb e o
  | inr o ↦ rw (at_once o) (falling v k b h x w sb e o)
]

-- ---- a least gap is one at the same time in other numbers

IsLeastGap-Same : (s : Border) (w : Times) (f g y : Fraction) → 0 < f.den → 0 < g.den → Same g f → IsLeastGap s w f y → IsLeastGap s w g y
IsLeastGap-Same s w f g y pf pg e l = record {
  after = le-from_mul_ℤ f.den (w.from.num *ℤ pos g.den) (g.num *ℤ pos w.from.den) pf (rw (first w.from.num f.den g.den, value w.from.den) (mul-le_ℤ g.den (w.from.num *ℤ pos f.den) (f.num *ℤ pos w.from.den) l.after));
  before = le-from_mul_ℤ f.den (g.num *ℤ pos w.to.den) (w.to.num *ℤ pos g.den) pf (rw (first w.to.num f.den g.den, value w.to.den) (mul-le_ℤ g.den (f.num *ℤ pos w.to.den) (w.to.num *ℤ pos f.den) l.before));
  value = record { over = λ q t p i. l.value.over q t p (over q t i) };
  least = l.least;
  earliest = λ q t p i h. l.earliest q t p i (lt-from_mul_ℤ g.den (pos (t * f.den)) (f.num *ℤ pos q) (rw (first (pos t) g.den f.den, ← value q) (mul-lt_ℤ f.den (pos (t * g.den)) (g.num *ℤ pos q) pf h)));
}
  where
    first : (z : ℤ) (m n : ℕ) → pos m *ℤ (z *ℤ pos n) ≡ pos n *ℤ (z *ℤ pos m)
    first z m n = ring (z ∷ pos m ∷ pos n ∷ []) (at 1 ⊗ (at 0 ⊗ at 2)) (at 2 ⊗ (at 0 ⊗ at 1)) refl

    value : (n : ℕ) → pos f.den *ℤ (g.num *ℤ pos n) ≡ pos g.den *ℤ (f.num *ℤ pos n)
    value n = ring (g.num ∷ pos f.den ∷ pos n ∷ []) (at 1 ⊗ (at 0 ⊗ at 2)) ((at 0 ⊗ at 1) ⊗ at 2) refl ∙ ap (λ z. z *ℤ pos n) e
        ∙ ring (f.num ∷ pos g.den ∷ pos n ∷ []) ((at 0 ⊗ at 1) ⊗ at 2) (at 1 ⊗ (at 0 ⊗ at 2)) refl

    over : (q t : ℕ) → IsOver q (pos t) g → IsOver q (pos t) f
    over q t i = cancel_left g.den (pos t *ℤ pos f.den) (f.num *ℤ pos q) pg (first (pos t) g.den f.den ∙ ap (λ z. pos f.den *ℤ z) i ∙ value q)

-- ---- the two gaps of an area

-- a moment in lowest terms, which is the time of the least gap
record IsReachedLowest (s : Border) (w : Times) : Type 0 where
  pub time : Fraction
  pub gap : Fraction
  pub moment : IsMoment time
  pub reduced : IsReduced time
  pub some : 0 < gap.den
  pub least : IsLeastGap s w time gap

in_lowest_terms : (s : Border) (w : Times) → IsReached s w → IsReachedLowest s w
in_lowest_terms s w r =
    let m = r.moment in
    let f = some_reduced r.time.num r.time.den m.some in
    record {
      time = f.fraction;
      gap = r.gap;
      moment = record { some = f.reduced.some; least = num_ahead f.fraction r.time.num r.time.den m.some f.same m.least; most = most f.fraction m.some f.same m.most };
      reduced = f.reduced;
      some = r.some;
      least = IsLeastGap-Same s w r.time f.fraction r.gap m.some f.reduced.some f.same r.least;
    }
  where
    turned : (n a b : ℕ) → pos a *ℤ pos (n * b) ≡ pos b *ℤ pos (n * a)
    turned n a b = ring (pos n ∷ pos a ∷ pos b ∷ []) (at 1 ⊗ (at 0 ⊗ at 2)) (at 2 ⊗ (at 0 ⊗ at 1)) refl

    most : (f : Fraction) → 0 < r.time.den → Same f r.time → r.time.num ≤ℤ pos (WINDOW_SECONDS * r.time.den) → f.num ≤ℤ pos (WINDOW_SECONDS * f.den)
    most f p e h = le-from_mul_ℤ r.time.den f.num (pos (WINDOW_SECONDS * f.den)) p
        (rw (*ℤ_comm (pos r.time.den) f.num, e, *ℤ_comm r.time.num (pos f.den), turned WINDOW_SECONDS r.time.den f.den) (mul-le_ℤ f.den r.time.num (pos (WINDOW_SECONDS * r.time.den)) h))

pub record HasLowExtreme (a : Demand) (area : Area) (w : Times) : Type 0 where
  pub time : Fraction
  pub moment : IsMoment time
  pub extreme : IsLowExtreme a area w time

pub record HasHighExtreme (a : Demand) (area : Area) (w : Times) : Type 0 where
  pub time : Fraction
  pub moment : IsMoment time
  pub extreme : IsHighExtreme a area w time

pub low_reached : (a : Demand) (area : Area) (w : Times) → CanBeMet a → AreEnds w → HasLowExtreme a area w
low_reached a area w f e =
    let v = area.own.least in
    let r = in_lowest_terms (low_border_of a area) w (reached v a.lo (low_pull a v) (low_hold a v) area.altitude.greatest area.intruder.greatest w (low_pull-some a v f) e
    (λ h. ap (λ t. cond t a.delay 0) (test_ge v a.lo h))) in
    record { time = r.time; moment = r.moment; extreme = low_extreme_of a area w r.time r.gap r.some r.reduced r.moment.least r.least }

pub high_reached : (a : Demand) (area : Area) (w : Times) → CanBeMet a → AreEnds w → HasHighExtreme a area w
high_reached a area w f e =
    let v = area.own.greatest in
    let r = in_lowest_terms (high_border_of a area) w (reached (neg_ℤ v) (neg_ℤ a.hi) (high_pull a v) (high_hold a v) (neg_ℤ area.altitude.least) (neg_ℤ area.intruder.least) w (high_pull-some a v f) e
    (λ h. ap (λ t. cond t a.delay 0) (test_ge a.hi v (turned_le v a.hi h)))) in
    record { time = r.time; moment = r.moment; extreme = high_extreme_of a area w r.time r.gap r.some r.reduced r.moment.least r.least }
  where
    turned_le : (y z : ℤ) → neg_ℤ z ≤ℤ neg_ℤ y → y ≤ℤ z
    turned_le y z h = omega (arith, ints)
