-- The value of a course as flown is that of its numbers over q.
use Rattle.std.proofs.Common.{◌≡◌, ℕ, ◌*◌, ◌<◌, refl, ap, ap₂, ◌∙◌, [], ◌∷◌, ℤ, pos, ◌+ℤ◌, ◌-ℤ◌, ◌*ℤ◌}
use Rattle.acas_frac.proofs.IntRing.{at, ◌⊕◌, ◌⊖◌, ◌⊗◌, ring}
use Rattle.acas_frac.specs.Fraction.{Fraction, Same, whole_of}
use Rattle.acas_flight.specs.Values.{IsApproach, IsHeld}
use Rattle.acas_flight.specs.Curves.{approach, held}
use Rattle.acas_witness_plans.specs.Plans.{IsPlanOf}
use Rattle.acas_witness_plans.specs.declared.plan.Plan.{Plan}
use Rattle.acas_witness_plans.proofs.Overs.{whole_over_ℕ}
use Rattle.acas_rulings.specs.Hunt.{Course, value}
use Rattle.acas_meeting_search.specs.declared.parts.Turn.{Turn}
use Rattle.acas_meeting_search.specs.Turns.{IsTurnOf, value_of}

pub value-same : (q n : ℕ) (accel : ℤ) (c : Course) (p : Plan) (turn : Turn) (climb ascent : Fraction) → 0 < q → accel ≡ pos n → IsPlanOf q c.own p → IsTurnOf q c turn →
    IsHeld p.own p.aim p.pull p.hold p.time climb → IsApproach turn.intruder turn.goal (whole_of accel) turn.time ascent → Same (value_of p.altitude climb ascent) (value q (n * q) c)
value-same q n accel c p turn climb ascent s e is against h l =
    let up = h.over q c.own.own c.own.aim c.own.pull c.own.hold c.own.time s is.own is.aim is.pull is.hold is.time in
    let down = l.over q c.own.intruder c.goal (n * q) c.own.time s against.intruder against.goal (whole_over_ℕ n accel q (n * q) (whole_of accel) refl e refl) against.time in
    one climb.num ascent.num p.altitude climb.den ascent.den q c.own.pull (n * q)
    ∙ ap₂ (λ x y. ((x *ℤ pos (n * q)) *ℤ pos ascent.den -ℤ (y *ℤ pos c.own.pull) *ℤ pos climb.den) -ℤ ((p.altitude *ℤ pos (q * q * q * (n * q))) *ℤ pos c.own.pull) *ℤ pos (climb.den * ascent.den)) up down
    ∙ ap (λ x. ((((held c.own.own c.own.aim c.own.pull c.own.hold c.own.time *ℤ pos climb.den) *ℤ pos (n * q)) *ℤ pos ascent.den) -ℤ (((approach c.own.intruder c.goal (n * q) c.own.time *ℤ pos ascent.den) *ℤ pos c.own.pull) *ℤ pos climb.den)) -ℤ ((x *ℤ pos (q * q * q * (n * q))) *ℤ pos c.own.pull) *ℤ pos (climb.den * ascent.den)) is.altitude
    ∙ two (held c.own.own c.own.aim c.own.pull c.own.hold c.own.time) (approach c.own.intruder c.goal (n * q) c.own.time) c.own.altitude climb.den ascent.den q c.own.pull (n * q)
  where
    one : (x y h : ℤ) (m n q b a : ℕ) → (((x *ℤ pos n) -ℤ (y *ℤ pos m)) -ℤ (h *ℤ pos (m * n))) *ℤ pos (q * q * q * b * a)
        ≡ ((((x *ℤ pos (q * q * q * b)) *ℤ pos a) *ℤ pos n) -ℤ (((y *ℤ pos (q * q * q * a)) *ℤ pos b) *ℤ pos m)) -ℤ (((h *ℤ pos (q * q * q * a)) *ℤ pos b) *ℤ pos (m * n))
    one x y h m n q b a = ring (x ∷ y ∷ h ∷ pos m ∷ pos n ∷ pos q ∷ pos b ∷ pos a ∷ [])
        ((((at 0 ⊗ at 4) ⊖ (at 1 ⊗ at 3)) ⊖ (at 2 ⊗ (at 3 ⊗ at 4))) ⊗ ((((at 5 ⊗ at 5) ⊗ at 5) ⊗ at 6) ⊗ at 7))
        (((((at 0 ⊗ (((at 5 ⊗ at 5) ⊗ at 5) ⊗ at 6)) ⊗ at 7) ⊗ at 4) ⊖ (((at 1 ⊗ (((at 5 ⊗ at 5) ⊗ at 5) ⊗ at 7)) ⊗ at 6) ⊗ at 3)) ⊖ (((at 2 ⊗ (((at 5 ⊗ at 5) ⊗ at 5) ⊗ at 7)) ⊗ at 6) ⊗ (at 3 ⊗ at 4)))
        refl

    two : (o y h : ℤ) (m n q b a : ℕ) → ((((o *ℤ pos m) *ℤ pos a) *ℤ pos n) -ℤ (((y *ℤ pos n) *ℤ pos b) *ℤ pos m)) -ℤ (((h *ℤ pos (q * q * q * a)) *ℤ pos b) *ℤ pos (m * n))
        ≡ ((o *ℤ pos a) -ℤ (((h *ℤ pos (q * q * q * a)) +ℤ y) *ℤ pos b)) *ℤ pos (m * n)
    two o y h m n q b a = ring (o ∷ y ∷ h ∷ pos m ∷ pos n ∷ pos q ∷ pos b ∷ pos a ∷ [])
        (((((at 0 ⊗ at 3) ⊗ at 7) ⊗ at 4) ⊖ (((at 1 ⊗ at 4) ⊗ at 6) ⊗ at 3)) ⊖ (((at 2 ⊗ (((at 5 ⊗ at 5) ⊗ at 5) ⊗ at 7)) ⊗ at 6) ⊗ (at 3 ⊗ at 4)))
        (((at 0 ⊗ at 7) ⊖ (((at 2 ⊗ (((at 5 ⊗ at 5) ⊗ at 5) ⊗ at 7)) ⊕ at 1) ⊗ at 6)) ⊗ (at 3 ⊗ at 4))
        refl
