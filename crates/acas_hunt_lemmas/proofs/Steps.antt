-- One step of a pass raises the value of a course by less than the thinnest puck is thick.
use Rattle.std.proofs.Common.{◌≡◌, ℕ, ◌+◌, ◌*◌, ◌<◌, ◌≤◌, inr, refl, ap, ◌∙◌, arith, [], ◌∷◌, ℤ, pos, ◌+ℤ◌, ◌-ℤ◌, ◌*ℤ◌, ◌≤ℤ◌, unsigned_abs, mul-pos}
use Rattle.std.proofs.lemmas.Int.{ints}
use Rattle.acas_frac.proofs.IntRing.{at, num, ◌⊕◌, ◌⊖◌, ◌⊗◌, ring}
use Rattle.acas_flight_lemmas.proofs.Rising.{scaled_le}
use Rattle.acas_flight.proofs.Holding.{held-none}
use Rattle.acas_flight.specs.Curves.{approach, held}
use Rattle.acas_units.specs.declared.limits.TheConstants.{WINDOW_SECONDS}
use Rattle.acas_areas.specs.declared.steps.TheConstants.{TIME_STEPS, RATE_STEPS}
use Rattle.acas_areas.specs.Value.{IsLessThanAbove, thinnest}
use Rattle.acas_areas.specs.Flights as flights
use Rattle.acas_areas.specs.Flights.{Flight, flight}
use Rattle.acas_areas.specs.Search.{fastest}
use Rattle.acas_pass_lemmas.proofs.Gains.{gain, held_later, held_sooner, room_time}
use Rattle.acas_pass_lemmas.proofs.Turns.{higher_aim, higher_above}
use Rattle.acas_rulings.specs.Hunt.{course, value}
use Rattle.acas_hunt_lemmas.proofs.Shifts.{shift, against}

-- ---- a step of the own flight or of the altitude, at one time

-- where a step gains less than so much against an intruder that holds its rate, it does against one that goes to a goal
pub own_step : (q a t : ℕ) (w m : ℤ) (h v k : ℤ) (b g : ℕ) (h' v' k' : ℤ) (b' g' : ℕ) → 0 < a →
    IsLessThanAbove thinnest (flights.value q (flight t h v w k b g)) (flights.value q (flight t h' v' w k' b' g')) →
    IsLessThanAbove thinnest (value q a (course (flight t h v w k b g) m)) (value q a (course (flight t h' v' w k' b' g') m))
own_step q a t w m h v k b g h' v' k' b' g' p s =
    rw (ends h, ends h') (shift thinnest (q * q * q) a (held v k b g t) (held v' k' b' g' t) ((h *ℤ pos (q * q * q)) +ℤ ((pos 2 *ℤ w) *ℤ pos t)) ((h' *ℤ pos (q * q * q)) +ℤ ((pos 2 *ℤ w) *ℤ pos t))
    (approach w m a t -ℤ (((pos 2 *ℤ w) *ℤ pos t) *ℤ pos a)) b b' p s)
  where
    ends : (h : ℤ) → (h *ℤ pos (q * q * q * a)) +ℤ approach w m a t ≡ (((h *ℤ pos (q * q * q)) +ℤ ((pos 2 *ℤ w) *ℤ pos t)) *ℤ pos a) +ℤ (approach w m a t -ℤ (((pos 2 *ℤ w) *ℤ pos t) *ℤ pos a))
    ends h = ring (h ∷ pos q ∷ pos a ∷ w ∷ pos t ∷ approach w m a t ∷ [])
        ((at 0 ⊗ (((at 1 ⊗ at 1) ⊗ at 1) ⊗ at 2)) ⊕ at 5)
        ((((at 0 ⊗ ((at 1 ⊗ at 1) ⊗ at 1)) ⊕ ((num (pos 2) ⊗ at 3) ⊗ at 4)) ⊗ at 2) ⊕ (at 5 ⊖ (((num (pos 2) ⊗ at 3) ⊗ at 4) ⊗ at 2)))
        refl

-- ---- a step of the intruder

-- the value of a flight of the intruder alone is its approach
alone : (q a t : ℕ) (w m : ℤ) → (flights.value q (flight t (pos 0) w (pos 0) m a 0)).num ≡ approach w m a t
alone q a t w m = ap (λ y. y -ℤ (pos a *ℤ ((pos 0 *ℤ pos (q * q * q)) +ℤ ((pos 2 *ℤ pos 0) *ℤ pos t)))) (held-none w m a t) ∙ none (approach w m a t)
  where
    none : (y : ℤ) → y -ℤ (pos a *ℤ ((pos 0 *ℤ pos (q * q * q)) +ℤ ((pos 2 *ℤ pos 0) *ℤ pos t))) ≡ y
    none y = ring (y ∷ pos a ∷ pos q ∷ pos t ∷ []) (at 0 ⊖ (at 1 ⊗ ((num (pos 0) ⊗ ((at 2 ⊗ at 2) ⊗ at 2)) ⊕ ((num (pos 2) ⊗ num (pos 0)) ⊗ at 3)))) (at 0) refl

-- where an intruder that climbs as a pilot gains less than so much, the course loses less
pub intruder_step : (q a t : ℕ) (h v k : ℤ) (b g : ℕ) (w m w' m' : ℤ) → 0 < b →
    IsLessThanAbove thinnest (flights.value q (flight t (pos 0) w' (pos 0) m' a 0)) (flights.value q (flight t (pos 0) w (pos 0) m a 0)) →
    IsLessThanAbove thinnest (value q a (course (flight t h v w k b g) m)) (value q a (course (flight t h v w' k b g) m'))
intruder_step q a t h v k b g w m w' m' p s =
    against thinnest (q * q * q) a b (held v k b g t) (h *ℤ pos (q * q * q * a)) (approach w m a t) (approach w' m' a t) p
    (rw (alone q a t w m, alone q a t w' m') at s)

-- to a lower goal
pub lower_goal : (q a t : ℕ) (h v w k : ℤ) (b g : ℕ) (m : ℤ) (d : ℕ) → 0 < q → 0 < a → 0 < b → RATE_STEPS * d ≤ q * q → t ≤ WINDOW_SECONDS * q →
    IsLessThanAbove thinnest (value q a (course (flight t h v w k b g) m)) (value q a (course (flight t h v w k b g) (m -ℤ pos d)))
lower_goal q a t h v w k b g m d p sa sb r u =
    let back : (m -ℤ pos d) +ℤ pos d ≡ m = omega (arith, ints) in
    intruder_step q a t h v k b g w m w (m -ℤ pos d) sb (rw back at (higher_aim q (pos 0) w (pos 0) (m -ℤ pos d) a 0 t d p sa r u (inr refl)))

-- to a lower start rate, from above the goal
pub lower_start : (q a t : ℕ) (h v w k : ℤ) (b g : ℕ) (m : ℤ) (d : ℕ) → 0 < q → 0 < a → 0 < b → RATE_STEPS * d ≤ q * q → t ≤ WINDOW_SECONDS * q → m ≤ℤ (w -ℤ pos d) →
    IsLessThanAbove thinnest (value q a (course (flight t h v w k b g) m)) (value q a (course (flight t h v (w -ℤ pos d) k b g) m))
lower_start q a t h v w k b g m d p sa sb r u l =
    let back : (w -ℤ pos d) +ℤ pos d ≡ w = omega (arith, ints) in
    intruder_step q a t h v k b g w m (w -ℤ pos d) m sb (rw back at (higher_above q (pos 0) (w -ℤ pos d) (pos 0) m a 0 t d p sa r u l))

-- ---- a step of the time

module _ (q a : ℕ) (h v w k : ℤ) (b g : ℕ) (m : ℤ) (t d : ℕ) (p : 0 < q) (sa : 0 < a) (sb : 0 < b) (r : TIME_STEPS * d ≤ q)
    (hv : unsigned_abs v ≤ fastest * (q * q)) (hk : unsigned_abs k ≤ fastest * (q * q)) (hw : unsigned_abs w ≤ fastest * (q * q)) (hm : unsigned_abs m ≤ fastest * (q * q)) where
  room : 4 * fastest * ((q * q) * (d * (b * a))) < thinnest * (q * q * q * b * a)
  room = let s = room_time q (b * a) d p (mul-pos sb sa) r in let e : q * q * q * b * a ≡ q * q * q * (b * a) = omega arith in rw e s

  other_later : approach w m a (t + d) ≤ℤ (approach w m a t +ℤ pos (2 * ((fastest * (q * q)) * (d * a))))
  other_later = rw (held-none w m a (t + d), held-none w m a t) at (held_later w m a 0 t d (fastest * (q * q)) hw hm)

  other_sooner : approach w m a t ≤ℤ (approach w m a (t + d) +ℤ pos (2 * ((fastest * (q * q)) * (d * a))))
  other_sooner = rw (held-none w m a (t + d), held-none w m a t) at (held_sooner w m a 0 t d (fastest * (q * q)) hw hm)

  -- both over the other's pull
  both : (o o' i y y' : ℤ) → o' ≤ℤ (o +ℤ pos (2 * ((fastest * (q * q)) * (d * b)))) → y ≤ℤ (y' +ℤ pos (2 * ((fastest * (q * q)) * (d * a)))) →
      ((o' *ℤ pos a) -ℤ ((i +ℤ y') *ℤ pos b)) ≤ℤ (((o *ℤ pos a) -ℤ ((i +ℤ y) *ℤ pos b)) +ℤ pos (4 * fastest * ((q * q) * (d * (b * a)))))
  both o o' i y y' e f = line _ _ _ _ _ _ (o *ℤ pos a) (i *ℤ pos b) (y' *ℤ pos b) (scaled_le _ _ a e) (scaled_le _ _ b f)
      (ring (o ∷ pos q ∷ pos d ∷ pos b ∷ pos a ∷ []) ((at 0 ⊕ (num (pos 2) ⊗ ((num (pos fastest) ⊗ (at 1 ⊗ at 1)) ⊗ (at 2 ⊗ at 3)))) ⊗ at 4) ((at 0 ⊗ at 4) ⊕ (num (pos (2 * fastest)) ⊗ ((at 1 ⊗ at 1) ⊗ (at 2 ⊗ (at 3 ⊗ at 4))))) refl)
      (ring (y' ∷ pos q ∷ pos d ∷ pos b ∷ pos a ∷ []) ((at 0 ⊕ (num (pos 2) ⊗ ((num (pos fastest) ⊗ (at 1 ⊗ at 1)) ⊗ (at 2 ⊗ at 4)))) ⊗ at 3) ((at 0 ⊗ at 3) ⊕ (num (pos (2 * fastest)) ⊗ ((at 1 ⊗ at 1) ⊗ (at 2 ⊗ (at 3 ⊗ at 4))))) refl)
      (sum i y' b) (sum i y b)
    where
      sum : (i y : ℤ) (b : ℕ) → (i +ℤ y) *ℤ pos b ≡ (i *ℤ pos b) +ℤ (y *ℤ pos b)
      sum i y b = ring (i ∷ y ∷ pos b ∷ []) ((at 0 ⊕ at 1) ⊗ at 2) ((at 0 ⊗ at 2) ⊕ (at 1 ⊗ at 2)) refl

      line : (o' x y z iy' iy oa ib y'b : ℤ) → o' ≤ℤ x → y ≤ℤ z → x ≡ oa +ℤ pos ((2 * fastest) * ((q * q) * (d * (b * a)))) → z ≡ y'b +ℤ pos ((2 * fastest) * ((q * q) * (d * (b * a)))) →
          iy' ≡ ib +ℤ y'b → iy ≡ ib +ℤ y → (o' -ℤ iy') ≤ℤ ((oa -ℤ iy) +ℤ pos (4 * fastest * ((q * q) * (d * (b * a)))))
      line o' x y z iy' iy oa ib y'b e f g j l n = omega (arith, ints, e, f, g, j, l, n)

  -- to a later time
  pub later : IsLessThanAbove thinnest (value q a (course (flight t h v w k b g) m)) (value q a (course (flight (t + d) h v w k b g) m))
  later = gain _ _ (4 * fastest * ((q * q) * (d * (b * a)))) (q * q * q * b * a)
      (both (held v k b g t) (held v k b g (t + d)) (h *ℤ pos (q * q * q * a)) (approach w m a t) (approach w m a (t + d)) (held_later v k b g t d (fastest * (q * q)) hv hk) other_sooner) room

  -- to a sooner time
  pub sooner : IsLessThanAbove thinnest (value q a (course (flight (t + d) h v w k b g) m)) (value q a (course (flight t h v w k b g) m))
  sooner = gain _ _ (4 * fastest * ((q * q) * (d * (b * a)))) (q * q * q * b * a)
      (both (held v k b g (t + d)) (held v k b g t) (h *ℤ pos (q * q * q * a)) (approach w m a (t + d)) (approach w m a t) (held_sooner v k b g t d (fastest * (q * q)) hv hk) other_later) room
