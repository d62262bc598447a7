-- The responses whose climbs are the curves: a segment of the pull up to the aim, and then a level one.
use Rattle.std.proofs.Common.{◌≡◌, ℕ, ◌+◌, ◌-◌, ◌*◌, ◌<◌, ◌≤◌, refl, sym, ◌∙◌, arith, [], ◌∷◌, ℤ, pos, ◌+ℤ◌, ◌-ℤ◌, ◌*ℤ◌, ◌≤ℤ◌}
use Rattle.std.proofs.lemmas.Int.{ints}
use Rattle.acas_frac.proofs.IntRing.{at, num, ◌⊕◌, ◌⊖◌, ◌⊗◌, ring}
use Rattle.acas_frac.proofs.Squares.{sq}
use Rattle.acas_flight.proofs.Curves.{steady, approach_below}
use Rattle.acas_flight.specs.Response.{Segment, Demand, climb, Follows}
use Rattle.acas_flight.specs.Curves.{approach}

abbrev pub speeding : ℕ → ℕ → Segment
speeding t b = record { duration = t; acceleration = pos b }

abbrev pub level : ℕ → Segment
level t = record { duration = t; acceleration = pos 0 }

-- before the aim is reached
pub climb-speeding : (k : ℤ) (x b t : ℕ) → b * t ≤ x → climb (k -ℤ pos x) (speeding t b ∷ []) *ℤ pos b ≡ approach (k -ℤ pos x) k b t
climb-speeding k x b t h = from (x - b * t) (omega arith) ∙ sym (approach_below k x b t)
  where
    from : (y : ℕ) → x ≡ y + b * t → climb (k -ℤ pos x) (speeding t b ∷ []) *ℤ pos b ≡ (steady k t b -ℤ pos (x * x)) +ℤ pos (sq (x - b * t))
    from y e =
        let rest : x - b * t ≡ y = omega arith in
        rw (rest, e) (ring (k ∷ pos y ∷ pos b ∷ pos t ∷ [])
        ((((num (pos 2) ⊗ (at 0 ⊖ (at 1 ⊕ at 2 ⊗ at 3))) ⊗ at 3 ⊕ (at 2 ⊗ at 3) ⊗ at 3) ⊕ num (pos 0)) ⊗ at 2)
        (((((num (pos 2) ⊗ at 0) ⊗ at 3) ⊗ at 2) ⊖ ((at 1 ⊕ at 2 ⊗ at 3) ⊗ (at 1 ⊕ at 2 ⊗ at 3))) ⊕ (at 1 ⊗ at 1))
        refl)

-- after it
pub climb-speeding_level : (k : ℤ) (b d t : ℕ) → climb (k -ℤ pos (b * d)) (speeding d b ∷ level t ∷ []) *ℤ pos b ≡ approach (k -ℤ pos (b * d)) k b (d + t)
climb-speeding_level k b d t =
    let none : b * d - b * (d + t) ≡ 0 = omega arith in
    (ring (k ∷ pos b ∷ pos d ∷ pos t ∷ [])
    ((((num (pos 2) ⊗ (at 0 ⊖ at 1 ⊗ at 2)) ⊗ at 2 ⊕ (at 1 ⊗ at 2) ⊗ at 2) ⊕ (((num (pos 2) ⊗ ((at 0 ⊖ at 1 ⊗ at 2) ⊕ at 1 ⊗ at 2)) ⊗ at 3 ⊕ (num (pos 0) ⊗ at 3) ⊗ at 3) ⊕ num (pos 0))) ⊗ at 1)
    (((((num (pos 2) ⊗ at 0) ⊗ (at 2 ⊕ at 3)) ⊗ at 1) ⊖ ((at 1 ⊗ at 2) ⊗ (at 1 ⊗ at 2))) ⊕ num (pos 0))
    refl)
    ∙ sym (approach_below k (b * d) b (d + t) ∙ rw none refl)

-- A segment of the pull toward an aim within the advisory follows it.
pub speeding-Follows : (a : Demand) (k : ℤ) (x b t : ℕ) → 0 < t → b * t ≤ x → a.lo ≤ℤ k → k ≤ℤ a.hi → a.pull ≤ b → b ≤ a.limit → Follows a (k -ℤ pos x) (speeding t b)
speeding-Follows a k x b t p h i j m n = record {
  lasts = p;
  at_least = omega (arith, ints);
  at_most = omega (arith, ints);
  from_below = λ u. (omega (arith, ints), omega (arith, ints));
  from_above = λ u. absurd (omega (arith, ints));
  from_within = λ u l. (omega (arith, ints), omega (arith, ints));
}

pub level-Follows : (a : Demand) (k : ℤ) (t : ℕ) → 0 < t → a.lo ≤ℤ k → k ≤ℤ a.hi → Follows a k (level t)
level-Follows a k t p i j = record {
  lasts = p;
  at_least = omega (arith, ints);
  at_most = omega (arith, ints);
  from_below = λ u. absurd (omega (arith, ints));
  from_above = λ u. absurd (omega (arith, ints));
  from_within = λ u l. (omega (arith, ints), omega (arith, ints));
}
