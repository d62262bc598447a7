-- A response from its parts.
use Rattle.std.proofs.Common.{◌≡◌, ◌≢◌, refl, sym, ℕ, ◌-◌, ◌*◌, ◌<◌, ◌≤◌, ap, ◌∙◌, arith, Option, Some, None, [], ◌∷◌, ℤ, pos, neg_ℤ, ◌-ℤ◌, ◌*ℤ◌, ◌≤ℤ◌, unsigned_abs, int_le, cond, mul-pos, of_z}
use Rattle.std.specs.Int.{w128}
use Rattle.std.proofs.lemmas.Int.{ints}
use Rattle.std.proofs.lemmas.Option.{none-some}
use Rattle.acas_flight_lemmas.proofs.Rising.{scaled_le}
use Rattle.acas_frac.specs.Fraction.{Fraction, IsFrac, whole_of}
use Rattle.acas_flight.specs.Response as response
use Rattle.acas_flight.specs.Values.{IsAtMost, IsOver}
use Rattle.acas_frac.proofs.Lowest.{den_at_most}
use Rattle.acas_areas.specs.Limits.{IsRate, IsPull}
use Rattle.acas_areas.specs.Responses.{segment, not_held, held_for, at_once, at_aim, before, past}
use Rattle.acas_witness_plans.specs.Bends.{IsBend, IsDifference}
use Rattle.acas_rulings.specs.Printed.{IsPart, AreParts, IsHeldPart, AreSegments, no_parts, a_part, level}
use Rattle.acas_rulings.specs.declared.flight.Segment.{Segment}
use Rattle.acas_witness_plans.proofs.Lattices.{at_least, at_most}
use Rattle.acas_witness_plans.proofs.Portions.{some_of, none_over}

pub not_zero : (z n : ℤ) → (of_z w128 z ≡ 0 → ⊥) → z ≡ n → n ≢ pos 0
not_zero z n d f = λ e. d (ap (λ x. of_z w128 x) (f ∙ e))

abbrev part : Fraction → Fraction → Segment
part d a = record { duration = d; acceleration = a }

one_part : (n : ℕ) (s : response.Segment) (f : Segment) → IsPart n s f → AreParts n (s ∷ []) (f ∷ [])
one_part n s f is = a_part s f [] [] is no_parts

-- an option that is not left out
some_first : {X : Type 0} (x : X) (o : Option X) → Some x ≡ None → o ≡ None
some_first x o e = absurd (none-some x (sym e))

pub without : (q : ℕ) (v k : ℤ) (b t : ℕ) → t ≡ 0 → AreSegments q v k b t None None
without q v k b t e = rw e (record { segments = []; approached = at_once; parts = no_parts; in_order = λ n. refl })

pub level_only : (q : ℕ) (v k : ℤ) (b t : ℕ) (time none : Fraction) → 0 < t → unsigned_abs (k -ℤ v) * q ≡ 0 → IsOver (q * (q * b)) (pos t) time → none ≡ whole_of (pos 0) →
    AreSegments q v k b t (Some (part time none)) None
level_only q v k b t time none p e o z = record {
  segments = segment t (pos 0) ∷ [];
  approached = at_aim t p e;
  parts = one_part (q * (q * b)) (segment t (pos 0)) (part time none) (record { duration = o; acceleration = none_over (q * (q * b)) none z });
  in_order = λ n. refl;
}

abbrev toward_is : ℕ → ℤ → ℤ → ℕ → ℤ
toward_is q v k b = cond (int_le v k) (pos (b * (q * b))) (neg_ℤ (pos (b * (q * b))))

pub before_bend : (q : ℕ) (v k : ℤ) (b t : ℕ) (time a : Fraction) → 0 < t → 0 < unsigned_abs (k -ℤ v) * q → t ≤ unsigned_abs (k -ℤ v) * q → IsOver (q * (q * b)) (pos t) time → IsOver (q * (q * b)) (cond (int_le v k) (pos (b * (q * b))) (neg_ℤ (pos (b * (q * b))))) a →
    AreSegments q v k b t (Some (part time a)) None
before_bend q v k b t time a p s h o oa = record {
  segments = segment t (toward_is q v k b) ∷ [];
  approached = before t p s h;
  parts = one_part (q * (q * b)) (segment t (toward_is q v k b)) (part time a) (record { duration = o; acceleration = oa });
  in_order = λ n. refl;
}

pub past_bend : (q : ℕ) (v k : ℤ) (b t : ℕ) (bend a rest none : Fraction) → 0 < unsigned_abs (k -ℤ v) * q → unsigned_abs (k -ℤ v) * q < t → IsOver (q * (q * b)) (pos (unsigned_abs (k -ℤ v) * q)) bend → IsOver (q * (q * b)) (cond (int_le v k) (pos (b * (q * b))) (neg_ℤ (pos (b * (q * b))))) a →
    IsOver (q * (q * b)) (pos (t - unsigned_abs (k -ℤ v) * q)) rest → none ≡ whole_of (pos 0) → AreSegments q v k b t (Some (part bend a)) (Some (part rest none))
past_bend q v k b t bend a rest none s h ob oa or z = record {
  segments = segment (unsigned_abs (k -ℤ v) * q) (toward_is q v k b) ∷ segment (t - unsigned_abs (k -ℤ v) * q) (pos 0) ∷ [];
  approached = past t s h;
  parts = a_part (segment (unsigned_abs (k -ℤ v) * q) (toward_is q v k b)) (part bend a) _ _ (record { duration = ob; acceleration = oa })
      (one_part (q * (q * b)) (segment (t - unsigned_abs (k -ℤ v) * q) (pos 0)) (part rest none) (record { duration = or; acceleration = none_over (q * (q * b)) none z }));
  in_order = some_first (part bend a) (Some (part rest none));
}

pub hold_none : (n t : ℕ) → t ≡ 0 → IsHeldPart n t None
hold_none n t e = rw e (record { segments = []; held = not_held; part = no_parts })

pub hold_some : (n t : ℕ) (f : Fraction) → 0 < t → IsOver n (pos t) f → IsHeldPart n t (Some f)
hold_some n t f p o = record { segments = segment t (pos 0) ∷ []; held = held_for t p; part = one_part n (segment t (pos 0)) (level f) (record { duration = o; acceleration = none_over n (whole_of (pos 0)) refl }) }

-- ---- the bend's fraction

pub pull_some : (b : Fraction) → IsPull b → (0 < unsigned_abs b.num) × (pos 0 ≤ℤ b.num)
pull_some b h = (omega (arith, ints, h.least, h.some), omega (arith, ints, h.least))

pub bend_den : (v k b y : Fraction) → IsRate v → IsRate k → IsPull b → IsBend v k b y → IsFrac y → y.den ≤ v.den * k.den * unsigned_abs b.num
bend_den v k b y iv ik ib is f = den_at_most y (pos (unsigned_abs ((k.num *ℤ pos v.den) -ℤ (v.num *ℤ pos k.den)) * b.den)) (v.den * k.den * unsigned_abs b.num) f (mul-pos (mul-pos iv.some ik.some) (pull_some b ib).0) is.over

pub from_none : (z : ℤ) (d : ℕ) → (pos 0 *ℤ pos d) ≤ℤ z → pos 0 ≤ℤ z
from_none z d h = omega (arith, ints)

pub bend_least : (v k b y : Fraction) → IsRate v → IsRate k → IsPull b → IsBend v k b y → pos 0 ≤ℤ y.num
bend_least v k b y iv ik ib is = from_none y.num y.den
    (at_least y (pos (unsigned_abs ((k.num *ℤ pos v.den) -ℤ (v.num *ℤ pos k.den)) * b.den)) (pos 0) (v.den * k.den * unsigned_abs b.num) (mul-pos (mul-pos iv.some ik.some) (pull_some b ib).0) is.over (omega (arith, ints)))

-- ---- the difference's fraction

module _ (f g r : Fraction) (pf : 0 < f.den) (pg : 0 < g.den) (is : IsDifference f g r) (order : IsAtMost g f) (least : pos 0 ≤ℤ g.num) (most : f.num ≤ℤ pos (600 * f.den)) (fr : IsFrac r) where
  pub difference_den : r.den ≤ f.den * g.den
  difference_den = den_at_most r ((f.num *ℤ pos g.den) -ℤ (g.num *ℤ pos f.den)) (f.den * g.den) fr (mul-pos pf pg) is.over

  pub difference_least : pos 0 ≤ℤ r.num
  difference_least = from_none r.num r.den
      (at_least r ((f.num *ℤ pos g.den) -ℤ (g.num *ℤ pos f.den)) (pos 0) (f.den * g.den) (mul-pos pf pg) is.over (above (f.num *ℤ pos g.den) (g.num *ℤ pos f.den) (f.den * g.den) order))
    where
      above : (a b : ℤ) (d : ℕ) → b ≤ℤ a → (pos 0 *ℤ pos d) ≤ℤ (a -ℤ b)
      above a b d h = omega (arith, ints)

  pub difference_most : r.num ≤ℤ pos (600 * r.den)
  difference_most =
      at_most r ((f.num *ℤ pos g.den) -ℤ (g.num *ℤ pos f.den)) (pos 600) (f.den * g.den) (mul-pos pf pg) is.over
      (under (f.num *ℤ pos g.den) (g.num *ℤ pos f.den) (600 * (f.den * g.den)) (let h = scaled_le f.num (pos (600 * f.den)) g.den most in let e : (600 * f.den) * g.den ≡ 600 * (f.den * g.den) = omega arith in rw e at h) (from_none (g.num *ℤ pos f.den) f.den (scaled_le (pos 0) g.num f.den least)))
    where
      under : (a b : ℤ) (n : ℕ) → a ≤ℤ pos n → pos 0 ≤ℤ b → (a -ℤ b) ≤ℤ pos n
      under a b n h k = omega (arith, ints)

pub fine_some : (q b : ℕ) (p : Fraction) → IsPull p → 0 < q → IsOver q (pos b) p → 0 < q * (q * b)
fine_some q b p h s o = mul-pos s (mul-pos s (some_of q b p s o (λ e. absurd (line p.num (pull_some p h).0 e))))
  where
    line : (z : ℤ) → 0 < unsigned_abs z → z ≡ pos 0 → ⊥
    line z h e = omega (arith, ints)

pub opposite_from : (r p : Fraction) (x : ℤ) (d : ℕ) → r.num *ℤ pos d ≡ x *ℤ pos r.den → d ≡ p.den → x ≡ neg_ℤ p.num → r.num *ℤ pos p.den ≡ neg_ℤ p.num *ℤ pos r.den
opposite_from r p x d e ed ex = rw (← ed, ← ex) e
