-- The printed flight ends in contact.
use Rattle.std.proofs.Common.{◌≡◌, ℕ, ◌*◌, ◌<◌, ◌≤◌, ⊎_elim, refl, ap, sym, ◌∙◌, arith, [], ◌∷◌, ◌++◌, pos, ◌*ℤ◌, ◌≤ℤ◌, unsigned_abs, mul-pos, mul-le-mul}
use Rattle.std.specs.List.{All}
use Rattle.std.proofs.lemmas.Int.{ints}
use Rattle.acas_frac.proofs.SignedProducts.{le-from_mul_ℤ}
use Rattle.acas_frac.specs.Fraction.{Fraction, IsReduced}
use Rattle.acas_flight.specs.Response.{Demand}
use Rattle.acas_flight.specs.Clear.{Area}
use Rattle.acas_flight.specs.Window.{Times, IsDuring}
use Rattle.acas_flight.specs.Values.{IsOver}
use Rattle.acas_frac.proofs.IntRing.{at, ◌⊗◌, ring, mul_swapped_ℤ}
use Rattle.acas_flight_lemmas.proofs.Rising.{scaled_le}
use Rattle.acas_areas.specs.Limits.{IsHeldCurve, IsOneAtMostNotWhole, IsEnd}
use Rattle.acas_areas.specs.Value.{thinnest}
use Rattle.acas_areas.specs.Flights.{Flight}
use Rattle.acas_areas.specs.Search.{Search, IsSearch, IsTimed, IsFound, CanMeet, unit}
use Rattle.acas_areas.specs.Responses.{IsResponse, fine}
use Rattle.acas_pass_lemmas.proofs.Founds.{found-contact}
use Rattle.acas_pass_lemmas.proofs.Touching.{lasts}
use Rattle.acas_witness_plans.specs.declared.plan.Plan.{Plan}
use Rattle.acas_rulings.specs.declared.flight.Flight as printed
use Rattle.acas_rulings.specs.Witness.{search_between, IsFlightInContact}
use Rattle.acas_witness.specs.FoundPlans.{IsPlanIn}
use Rattle.acas_rulings.specs.Printed.{Prints, hold_part, some_part, flight_fractions}
use Rattle.acas_rulings.proofs.Parts.{AreParts-append}
use Rattle.acas_areas.proofs.Finer.{IsOver-finer}

pub unit_positive : (a : Demand) (area : Area) (low high : Fraction) → IsEnd low → IsEnd high → 0 < unit (search_between a area low high)
unit_positive a area low high l h = mul-pos (omega arith) (mul-pos l.some h.some)

-- the denominators of the times and of the bend
pub planned_dens : (v k b g t : Fraction) → IsHeldCurve v k b g t → (t.den * g.den) * (v.den * k.den * unsigned_abs b.num) ≤ 10000000000000
planned_dens v k b g t w = ⊎_elim
    (λ (e : g.den ≡ 1). ⊎_elim
    (λ a. rw (e, a.0, a.1) (small (t.den * 1) (1 * 1 * unsigned_abs b.num) 1280000 2000 (omega (arith, w.curve.time.den)) (let m = rw a.2 at pull in omega arith) (omega arith)))
    (λ p. coarse e p.0 p.1) w.curve.fine)
    (λ p. rw (p.0.0, p.0.1) (small (t.den * g.den) (1 * 1 * unsigned_abs b.num) (5000 * 256) 2000 (mul-le-mul p.1 w.hold.den) (let m = rw p.0.2 at pull in omega arith) (omega arith)))
    w.hold_fine
  where
    pull : unsigned_abs b.num ≤ 2000 * b.den
    pull = omega (arith, ints, w.curve.pull.greatest, w.curve.pull.least)

    small : (x y m n : ℕ) → x ≤ m → y ≤ n → m * n ≤ 10000000000000 → x * y ≤ 10000000000000
    small x y m n h k l = omega (arith, mul-le-mul h k)

    coarse : g.den ≡ 1 → t.den ≤ 5000 → IsOneAtMostNotWhole v k b → (t.den * g.den) * (v.den * k.den * unsigned_abs b.num) ≤ 10000000000000
    coarse e h o = ⊎_elim
        (λ (p : (v.den ≡ 1) × (k.den ≡ 1)). rw (e, p.0, p.1) (small (t.den * 1) (1 * 1 * unsigned_abs b.num) 5000 4096000 (omega arith) (omega (arith, pull, w.curve.pull.den)) (omega arith)))
        (λ q. ⊎_elim
        (λ (p : (v.den ≡ 1) × (b.den ≡ 1)). let m = rw p.1 at pull in let n : unsigned_abs b.num ≤ 2000 = omega arith in rw (e, p.0) (small (t.den * 1) (1 * k.den * unsigned_abs b.num) 5000 16000 (omega arith) (omega (arith, mul-le-mul w.curve.aim.den n)) (omega arith)))
        (λ (p : (k.den ≡ 1) × (b.den ≡ 1)). let m = rw p.1 at pull in let n : unsigned_abs b.num ≤ 2000 = omega arith in rw (e, p.0) (small (t.den * 1) (v.den * 1 * unsigned_abs b.num) 5000 16000 (omega arith) (omega (arith, mul-le-mul w.curve.start.den n)) (omega arith)))
        q)
        o

-- the denominators of a flight, over the pull
pub along : (q b : ℕ) → q * (q * b) ≡ (q * q) * b
along q b = omega arith

-- the response of a printed flight
pub response_of : (q : ℕ) (c : Flight) (f : printed.Flight) (fl : Prints q c f) → IsResponse q c fl.hold.segments fl.segments.segments
response_of q c f fl = record { held = fl.hold.held; approached = fl.segments.approached }

pub contact_at : (half : ℕ) (s : Search) (w : Times) (c : Flight) (f : printed.Flight) → thinnest ≤ 2 * half → IsSearch s → IsTimed s w → CanMeet half s → IsFound half s c → Prints (unit s) c f → All IsReduced (flight_fractions f) →
    IsFlightInContact half s.demand s.area w f
contact_at half s w c f thick is timed can found fl lowest = record {
  q = fine (unit s) c;
  altitude = c.altitude *ℤ pos (fine (unit s) c);
  own = c.own *ℤ pos c.pull;
  intruder = c.intruder *ℤ pos c.pull;
  response = fl.hold.segments ++ fl.segments.segments;
  time_over = rw (lasts (unit s) c fl.hold.segments fl.segments.segments (response_of (unit s) c f fl)) (IsOver-finer f.time (unit s) (unit s * c.pull) (pos c.time) fl.time);
  altitude_over = ap (λ z. z *ℤ pos (fine (unit s) c)) (sym fl.altitude);
  own_over = rw (along (unit s) c.pull) (IsOver-finer f.v0 (unit s * unit s) c.pull c.own fl.own);
  intruder_over = rw (along (unit s) c.pull) (IsOver-finer f.v1 (unit s * unit s) c.pull c.intruder fl.intruder);
  flown = AreParts-append (fine (unit s) c) fl.hold.segments fl.segments.segments (hold_part f.hold) (some_part f.first ++ some_part f.second) fl.hold.part fl.segments.parts;
  contact = found-contact half s w c fl.hold.segments fl.segments.segments thick is timed can found (response_of (unit s) c f fl);
  reduced = lowest;
}

pub contact_of : (half : ℕ) (a : Demand) (area : Area) (w : Times) (p : Plan) (f : printed.Flight) (n : IsPlanIn half a area w p) →
    Prints (unit (search_between a area n.low n.high)) n.found.flight f → All IsReduced (flight_fractions f) → IsFlightInContact half a area w f
contact_of half a area w p f n fl lowest =
    contact_at half (search_between a area n.low n.high) w n.found.flight f n.thick n.fine
    (record { low_after = n.at_low.first.after; low_before = n.at_low.first.before; high_after = n.at_high.first.after; high_before = n.at_high.first.before }) n.can n.found.found fl lowest

-- the flight's time is one of the window
pub during_of : (w : Times) (f : Fraction) (q t : ℕ) → 0 < q → pos 0 ≤ℤ f.num → IsOver q (pos t) f → IsDuring q w t → IsDuring f.den w (unsigned_abs f.num)
during_of w f q t p h o i = by (unsigned_abs f.num) (omega (arith, ints))
  where
    over : (n c : ℕ) → f.num ≡ pos n → pos q *ℤ pos (n * c) ≡ pos (t * c) *ℤ pos f.den
    over n c e = ring (pos n ∷ pos q ∷ pos c ∷ []) (at 1 ⊗ (at 0 ⊗ at 2)) ((at 0 ⊗ at 1) ⊗ at 2) refl ∙ ap (λ z. (z *ℤ pos q) *ℤ pos c) (sym e) ∙ ap (λ z. z *ℤ pos c) (sym o)
        ∙ ring (pos t ∷ pos f.den ∷ pos c ∷ []) ((at 0 ⊗ at 1) ⊗ at 2) ((at 0 ⊗ at 2) ⊗ at 1) refl

    by : (n : ℕ) → f.num ≡ pos n → IsDuring f.den w n
    by n e = (
      le-from_mul_ℤ q (w.from.num *ℤ pos f.den) (pos (n * w.from.den)) p (rw (← mul_swapped_ℤ w.from.num (pos q) (pos f.den), over n w.from.den e) (scaled_le (w.from.num *ℤ pos q) (pos (t * w.from.den)) f.den i.0)),
      le-from_mul_ℤ q (pos (n * w.to.den)) (w.to.num *ℤ pos f.den) p (rw (← mul_swapped_ℤ w.to.num (pos q) (pos f.den), over n w.to.den e) (scaled_le (pos (t * w.to.den)) (w.to.num *ℤ pos q) f.den i.1)),
    )
