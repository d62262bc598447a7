-- The fractions of a flight are in lowest terms.
use Rattle.std.proofs.Common.{Some, List, [], ◌∷◌, ◌++◌, refl, sym, subst, arith, pos}
use Rattle.std.specs.List.{All, flat_map}
use Rattle.std.proofs.lemmas.List.Elements.{All-nil, All-cons, All-append}
use Rattle.std.proofs.lemmas.Grind.{flat_map-append}
use Rattle.std.proofs.lemmas.Nat.Gcd.{IsGcd-from_zero, IsGcd-swap}
use Rattle.acas_frac.specs.Fraction.{Fraction, IsReduced, whole_of}
use Rattle.acas_rulings.specs.declared.flight.Segment.{Segment}
use Rattle.acas_rulings.specs.declared.flight.Flight as printed
use Rattle.acas_rulings.specs.Printed.{hold_part, some_part, segments_of, flight_fractions}

pub zero_reduced : IsReduced (whole_of (pos 0))
zero_reduced = record { some = omega arith; lowest = IsGcd-swap 1 0 1 (IsGcd-from_zero 1 0 refl) }

abbrev pub fractions : List Segment → List Fraction
fractions parts = flat_map (λ (s : Segment). s.duration ∷ s.acceleration ∷ []) parts

pub fractions_append : (parts others : List Segment) → All IsReduced (fractions parts) → All IsReduced (fractions others) → All IsReduced (fractions (parts ++ others))
fractions_append parts others h k = subst (All IsReduced) (sym (flat_map-append (λ (s : Segment). s.duration ∷ s.acceleration ∷ []) parts others)) (All-append IsReduced (fractions parts) (fractions others) h k)

pub hold_reduced : (d : Fraction) → IsReduced d → All IsReduced (fractions (hold_part (Some d)))
hold_reduced d h = All-cons IsReduced d (whole_of (pos 0) ∷ []) h (All-cons IsReduced (whole_of (pos 0)) [] zero_reduced (All-nil IsReduced))

pub flight_reduced : (f : printed.Flight) → IsReduced f.time → IsReduced f.v0 → IsReduced f.v1 → All IsReduced (fractions (hold_part f.hold)) → All IsReduced (fractions (some_part f.first)) → All IsReduced (fractions (some_part f.second)) →
    All IsReduced (flight_fractions f)
flight_reduced f t v w h a b =
    let parts = fractions (segments_of f) in
    All-cons IsReduced f.time (f.v0 ∷ f.v1 ∷ parts) t
    (All-cons IsReduced f.v0 (f.v1 ∷ parts) v
    (All-cons IsReduced f.v1 parts w (fractions_append (hold_part f.hold) (some_part f.first ++ some_part f.second) h (fractions_append (some_part f.first) (some_part f.second) a b))))
