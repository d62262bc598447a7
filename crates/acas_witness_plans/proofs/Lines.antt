-- The value of a flight of the code is that of its numbers over q.
use Rattle.std.proofs.Common.{◌≡◌, ℕ, ◌*◌, ◌<◌, refl, ap, ap₂, sym, ◌∙◌, [], ◌∷◌, ℤ, pos, ◌+ℤ◌, ◌-ℤ◌, ◌*ℤ◌, mul-pos}
use Rattle.acas_frac.proofs.IntRing.{at, num, ◌⊕◌, ◌⊖◌, ◌⊗◌, ring}
use Rattle.acas_flight_lemmas.proofs.Scales.{cancel_left}
use Rattle.acas_frac.specs.Fraction.{Fraction, Same}
use Rattle.acas_flight.specs.Values.{IsOver, IsHeld}
use Rattle.acas_flight.specs.Curves.{held}
use Rattle.acas_areas.specs.Flights.{Flight, value, intruder_end}
use Rattle.acas_witness_plans.specs.Plans.{clearance_of, IsIntruderEnd, IsPlanOf, CanBeFlown, IsOutcomeOf}
use Rattle.acas_witness_plans.specs.declared.plan.Outcome.{Outcome}
use Rattle.acas_witness_plans.specs.declared.plan.Plan.{Plan}

-- the intruder_end over q
pub line-over : (h : ℤ) (x t y : Fraction) (q : ℕ) (xn : ℤ) (tn : ℕ) → 0 < x.den → 0 < t.den → IsOver (q * q) xn x → IsOver q (pos tn) t → IsIntruderEnd h x t y →
    y.num *ℤ pos (q * q * q) ≡ ((h *ℤ pos (q * q * q)) +ℤ ((pos 2 *ℤ xn) *ℤ pos tn)) *ℤ pos y.den
line-over h x t y q xn tn px pt ix it l =
    cancel_left (x.den * t.den) (y.num *ℤ pos (q * q * q)) (((h *ℤ pos (q * q * q)) +ℤ ((pos 2 *ℤ xn) *ℤ pos tn)) *ℤ pos y.den) (mul-pos px pt)
    (one y.num x.den t.den q ∙ ap (λ z. z *ℤ pos (q * q * q)) l.over ∙ two h x.num t.num y.den x.den t.den q
    ∙ ap₂ (λ a b. ((h *ℤ pos (q * q * q)) *ℤ (pos (x.den * t.den) *ℤ pos y.den)) +ℤ ((pos 2 *ℤ (a *ℤ b)) *ℤ pos y.den)) (sym ix) (sym it)
    ∙ three h xn tn y.den x.den t.den q)
  where
    one : (y : ℤ) (m n q : ℕ) → pos (m * n) *ℤ (y *ℤ pos (q * q * q)) ≡ (y *ℤ pos (m * n)) *ℤ pos (q * q * q)
    one y m n q = ring (y ∷ pos m ∷ pos n ∷ pos q ∷ []) ((at 1 ⊗ at 2) ⊗ (at 0 ⊗ ((at 3 ⊗ at 3) ⊗ at 3))) ((at 0 ⊗ (at 1 ⊗ at 2)) ⊗ ((at 3 ⊗ at 3) ⊗ at 3)) refl

    two : (h x t : ℤ) (d m n q : ℕ) → (((h *ℤ pos (m * n)) +ℤ ((pos 2 *ℤ x) *ℤ t)) *ℤ pos d) *ℤ pos (q * q * q) ≡ ((h *ℤ pos (q * q * q)) *ℤ (pos (m * n) *ℤ pos d)) +ℤ ((pos 2 *ℤ ((x *ℤ pos (q * q)) *ℤ (t *ℤ pos q))) *ℤ pos d)
    two h x t d m n q = ring (h ∷ x ∷ t ∷ pos d ∷ pos m ∷ pos n ∷ pos q ∷ [])
        ((((at 0 ⊗ (at 4 ⊗ at 5)) ⊕ ((num (pos 2) ⊗ at 1) ⊗ at 2)) ⊗ at 3) ⊗ ((at 6 ⊗ at 6) ⊗ at 6))
        (((at 0 ⊗ ((at 6 ⊗ at 6) ⊗ at 6)) ⊗ ((at 4 ⊗ at 5) ⊗ at 3)) ⊕ ((num (pos 2) ⊗ ((at 1 ⊗ (at 6 ⊗ at 6)) ⊗ (at 2 ⊗ at 6))) ⊗ at 3))
        refl

    three : (h xn : ℤ) (tn d m n q : ℕ) → ((h *ℤ pos (q * q * q)) *ℤ (pos (m * n) *ℤ pos d)) +ℤ ((pos 2 *ℤ ((xn *ℤ pos m) *ℤ (pos tn *ℤ pos n))) *ℤ pos d) ≡ pos (m * n) *ℤ (((h *ℤ pos (q * q * q)) +ℤ ((pos 2 *ℤ xn) *ℤ pos tn)) *ℤ pos d)
    three h xn tn d m n q = ring (h ∷ xn ∷ pos tn ∷ pos d ∷ pos m ∷ pos n ∷ pos q ∷ [])
        (((at 0 ⊗ ((at 6 ⊗ at 6) ⊗ at 6)) ⊗ ((at 4 ⊗ at 5) ⊗ at 3)) ⊕ ((num (pos 2) ⊗ ((at 1 ⊗ at 4) ⊗ (at 2 ⊗ at 5))) ⊗ at 3))
        ((at 4 ⊗ at 5) ⊗ (((at 0 ⊗ ((at 6 ⊗ at 6) ⊗ at 6)) ⊕ ((num (pos 2) ⊗ at 1) ⊗ at 2)) ⊗ at 3))
        refl

pub value-Same : (q : ℕ) (c : Flight) (p : Plan) (climb y : Fraction) → 0 < q → 0 < p.intruder.den → 0 < p.time.den → IsPlanOf q c p → IsHeld p.own p.aim p.pull p.hold p.time climb → IsIntruderEnd p.altitude p.intruder p.time y →
    Same (clearance_of climb y) (value q c)
value-Same q c p climb y s px pt is h l =
    let up = h.over q c.own c.aim c.pull c.hold c.time s is.own is.aim is.pull is.hold is.time in
    let down = rw is.altitude at (line-over p.altitude p.intruder p.time y q c.intruder c.time px pt is.intruder is.time l) in
    one climb.num y.num climb.den y.den q c.pull
    ∙ ap₂ (λ a b. (a *ℤ pos y.den) -ℤ ((b *ℤ pos c.pull) *ℤ pos climb.den)) up down
    ∙ two (held c.own c.aim c.pull c.hold c.time) (intruder_end q c) climb.den y.den c.pull
  where
    one : (a b : ℤ) (m n q p : ℕ) → ((a *ℤ pos n) -ℤ (b *ℤ pos m)) *ℤ pos (q * q * q * p) ≡ ((a *ℤ pos (q * q * q * p)) *ℤ pos n) -ℤ (((b *ℤ pos (q * q * q)) *ℤ pos p) *ℤ pos m)
    one a b m n q p = ring (a ∷ b ∷ pos m ∷ pos n ∷ pos q ∷ pos p ∷ [])
        (((at 0 ⊗ at 3) ⊖ (at 1 ⊗ at 2)) ⊗ (((at 4 ⊗ at 4) ⊗ at 4) ⊗ at 5))
        (((at 0 ⊗ (((at 4 ⊗ at 4) ⊗ at 4) ⊗ at 5)) ⊗ at 3) ⊖ (((at 1 ⊗ ((at 4 ⊗ at 4) ⊗ at 4)) ⊗ at 5) ⊗ at 2))
        refl

    two : (a l : ℤ) (m n p : ℕ) → ((a *ℤ pos m) *ℤ pos n) -ℤ (((l *ℤ pos n) *ℤ pos p) *ℤ pos m) ≡ (a -ℤ (pos p *ℤ l)) *ℤ pos (m * n)
    two a l m n p = ring (a ∷ l ∷ pos m ∷ pos n ∷ pos p ∷ []) (((at 0 ⊗ at 2) ⊗ at 3) ⊖ (((at 1 ⊗ at 3) ⊗ at 4) ⊗ at 2)) ((at 0 ⊖ (at 4 ⊗ at 1)) ⊗ (at 2 ⊗ at 3)) refl

-- a plan as flown
pub outcome_of : (q : ℕ) (c : Flight) (p : Plan) (o : Outcome) → 0 < q → o.plan ≡ p → IsPlanOf q c p → CanBeFlown p →
    IsHeld p.own p.aim p.pull p.hold p.time o.climb → 0 < o.climb.den → IsIntruderEnd p.altitude p.intruder p.time o.intruder_end → 0 < o.intruder_end.den → IsOutcomeOf q c o
outcome_of q c p o s e is can h sc l se = record {
  point = rw e is;
  flown = rw e can;
  same = value-Same q c p o.climb o.intruder_end s can.intruder.some can.limits.curve.time.some is h l;
  some = mul-pos sc se;
}
