-- Segments have one printed form in lowest terms.
use Rattle.std.proofs.Common.{◌≡◌, ℕ, ◌<◌, refl, sym, ap, ap₂, ◌∙◌, arith, Option, Some, None, List, [], ◌∷◌, ◌++◌, ℤ, pos}
use Rattle.std.specs.List.{AllByRecursion, flat_map}
use Rattle.acas_frac.specs.Fraction.{Fraction, IsReduced}
use Rattle.acas_frac.proofs.Reduced.{over-IsReduced-same}
use Rattle.acas_flight.specs.Response.{Segment}
use Rattle.acas_areas.specs.Responses.{IsHoldFor, not_held, held_for, IsApproachFor, at_once, at_aim, before, past}
use Rattle.acas_rulings.specs.declared.flight.Segment as part
use Rattle.acas_rulings.specs.Printed.{IsPart, AreParts, no_parts, a_part, level, hold_part, some_part}

-- ---- a response is one

pub hold-one : (t : ℕ) (xs ys : List Segment) → IsHoldFor t xs → IsHoldFor t ys → xs ≡ ys
hold-one _ _ _ not_held not_held = refl
hold-one _ _ _ not_held (held_for _ p) = absurd (omega arith)
hold-one _ _ _ (held_for t p) not_held = absurd (omega arith)
hold-one _ _ _ (held_for t p) (held_for _ q) = refl

pub approach-one : (bend : ℕ) (c : ℤ) (t : ℕ) (xs ys : List Segment) → IsApproachFor bend c t xs → IsApproachFor bend c t ys → xs ≡ ys
approach-one bend c _ _ _ at_once at_once = refl
approach-one bend c _ _ _ at_once (at_aim _ p e) = absurd (omega arith)
approach-one bend c _ _ _ at_once (before _ p s h) = absurd (omega arith)
approach-one bend c _ _ _ at_once (past _ s h) = absurd (omega arith)
approach-one bend c _ _ _ (at_aim t p e) at_once = absurd (omega arith)
approach-one bend c _ _ _ (at_aim t p e) (at_aim _ q f) = refl
approach-one bend c _ _ _ (at_aim t p e) (before _ q s h) = absurd (omega arith)
approach-one bend c _ _ _ (at_aim t p e) (past _ s h) = absurd (omega arith)
approach-one bend c _ _ _ (before t p s h) at_once = absurd (omega arith)
approach-one bend c _ _ _ (before t p s h) (at_aim _ q e) = absurd (omega arith)
approach-one bend c _ _ _ (before t p s h) (before _ q r k) = refl
approach-one bend c _ _ _ (before t p s h) (past _ r k) = absurd (omega arith)
approach-one bend c _ _ _ (past t s h) at_once = absurd (omega arith)
approach-one bend c _ _ _ (past t s h) (at_aim _ q e) = absurd (omega arith)
approach-one bend c _ _ _ (past t s h) (before _ q r k) = absurd (omega arith)
approach-one bend c _ _ _ (past t s h) (past _ r k) = refl

-- ---- its printed segments are one

-- the fractions of printed segments
abbrev pub parts_fractions : List part.Segment → List Fraction
parts_fractions ps = flat_map (λ s. s.duration ∷ s.acceleration ∷ []) ps

abbrev pub AreReduced : List part.Segment → Type 0
AreReduced ps = AllByRecursion IsReduced (parts_fractions ps)

same_part : (d e a b : Fraction) → d ≡ e → a ≡ b → ◌≡◌ {A = part.Segment} (record { duration = d; acceleration = a }) (record { duration = e; acceleration = b })
same_part d e a b p q = rw (p, q) refl

pub part-one : (n : ℕ) (s : Segment) (f g : part.Segment) → 0 < n → IsPart n s f → IsPart n s g → IsReduced f.duration → IsReduced f.acceleration → IsReduced g.duration → IsReduced g.acceleration → f ≡ g
part-one n s f g p i j d a e b = same_part f.duration g.duration f.acceleration g.acceleration
    (over-IsReduced-same n (pos s.duration) f.duration g.duration p d e i.duration j.duration)
    (over-IsReduced-same n s.acceleration f.acceleration g.acceleration p a b i.acceleration j.acceleration)

pub parts-one : (n : ℕ) (xs : List Segment) (ps qs : List part.Segment) → 0 < n → AreParts n xs ps → AreParts n xs qs → AreReduced ps → AreReduced qs → ps ≡ qs
parts-one n _ _ _ p no_parts no_parts r s = refl
parts-one n _ _ _ p (a_part x f rest ps i more) (a_part _ g _ qs j others) r s =
    ap₂ (λ (h : part.Segment) (t : List part.Segment). h ∷ t) (part-one n x f g p i j r.0 r.1.0 s.0 s.1.0) (parts-one n rest ps qs p more others r.1.1 s.1.1)

-- the fractions of both parts of a list
pub reduced-append : (ps qs : List part.Segment) → AreReduced (ps ++ qs) → AreReduced ps × AreReduced qs
reduced-append [] qs r = (tt, r)
reduced-append (p ∷ ps) qs r = let more = reduced-append ps qs r.1.1 in ((r.0, (r.1.0, more.0)), more.1)

pub append-reduced : (ps qs : List part.Segment) → AreReduced ps → AreReduced qs → AreReduced (ps ++ qs)
append-reduced [] qs r s = s
append-reduced (p ∷ ps) qs r s = (r.0, (r.1.0, append-reduced ps qs r.1.1 s))

-- ---- what is printed of a hold and of an approach is one

pub hold_part-one : (o r : Option Fraction) → hold_part o ≡ hold_part r → o ≡ r
hold_part-one None None e = refl
hold_part-one None (Some f) e = cc
hold_part-one (Some f) None e = cc
hold_part-one (Some f) (Some g) e = let h : level f ≡ level g = cc in ap (λ (s : part.Segment). Some s.duration) h

pub some_parts-one : (o r p q : Option part.Segment) → (o ≡ None → r ≡ None) → (p ≡ None → q ≡ None) → some_part o ++ some_part r ≡ some_part p ++ some_part q → (o ≡ p) × (r ≡ q)
some_parts-one None r None q i j e = (refl, i refl ∙ sym (j refl))
some_parts-one None r (Some s) q i j e = let n = i refl in let f = rw n at e in cc
some_parts-one (Some s) r None q i j e = let n = j refl in let f = rw n at e in cc
some_parts-one (Some s) None (Some t) None i j e = (cc, refl)
some_parts-one (Some s) None (Some t) (Some u) i j e = cc
some_parts-one (Some s) (Some u) (Some t) None i j e = cc
some_parts-one (Some s) (Some u) (Some t) (Some v) i j e = (cc, cc)
