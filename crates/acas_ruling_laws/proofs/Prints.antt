-- What is printed of a flight in lowest terms is one.
use Rattle.std.proofs.Common.{◌≡◌, ℕ, ◌*◌, ◌<◌, sym, ◌∙◌, Option, ◌++◌, ℤ, pos, mul-pos}
use Rattle.std.proofs.lemmas.List.Elements.{recursion_from_All}
use Rattle.std.specs.List.{All}
use Rattle.acas_frac.specs.Fraction.{Fraction, IsReduced}
use Rattle.acas_frac.proofs.Reduced.{over-IsReduced-same}
use Rattle.acas_areas.specs.Flights.{Flight}
use Rattle.acas_areas.specs.Responses.{fine}
use Rattle.acas_rulings.specs.declared.flight.Flight as printed
use Rattle.acas_rulings.specs.declared.flight.Segment as part
use Rattle.acas_rulings.specs.Printed.{IsHeldPart, AreSegments, Prints, hold_part, some_part, flight_fractions}
use Rattle.acas_ruling_laws.proofs.Parts.{AreReduced, hold-one, approach-one, parts-one, reduced-append, hold_part-one, some_parts-one}

pub hold-printed_one : (n t : ℕ) (o r : Option Fraction) → 0 < n → IsHeldPart n t o → IsHeldPart n t r → AreReduced (hold_part o) → AreReduced (hold_part r) → o ≡ r
hold-printed_one n t o r p i j a b =
    let same = hold-one t j.segments i.segments j.held i.held in
    hold_part-one o r (parts-one n i.segments (hold_part o) (hold_part r) p i.part (rw same at j.part) a b)

pub segments-printed_one : (q : ℕ) (v k : ℤ) (b t : ℕ) (f g h i : Option part.Segment) → 0 < q * (q * b) → AreSegments q v k b t f g → AreSegments q v k b t h i →
    AreReduced (some_part f ++ some_part g) → AreReduced (some_part h ++ some_part i) → (f ≡ h) × (g ≡ i)
segments-printed_one q v k b t f g h i p x y r s =
    let same = approach-one _ _ t y.segments x.segments y.approached x.approached in
    some_parts-one f g h i x.in_order y.in_order
    (parts-one (q * (q * b)) x.segments (some_part f ++ some_part g) (some_part h ++ some_part i) p x.parts (rw same at y.parts) r s)

pub same_flight : (f g : printed.Flight) → f.time ≡ g.time → f.h ≡ g.h → f.v0 ≡ g.v0 → f.v1 ≡ g.v1 → f.hold ≡ g.hold → f.first ≡ g.first → f.second ≡ g.second → f ≡ g
same_flight f g t h v w o a b = λ i. record { time = t i; h = h i; v0 = v i; v1 = w i; hold = o i; first = a i; second = b i }

pub flight-printed_one : (q : ℕ) (c : Flight) (f g : printed.Flight) → 0 < q → 0 < c.pull → Prints q c f → Prints q c g → All IsReduced (flight_fractions f) → All IsReduced (flight_fractions g) → f ≡ g
flight-printed_one q c f g p b i j r s =
    let x = recursion_from_All IsReduced (flight_fractions f) r in
    let y = recursion_from_All IsReduced (flight_fractions g) s in
    let u = reduced-append (hold_part f.hold) (some_part f.first ++ some_part f.second) x.1.1.1 in
    let v = reduced-append (hold_part g.hold) (some_part g.first ++ some_part g.second) y.1.1.1 in
    let n : 0 < fine q c = mul-pos p (mul-pos p b) in
    let pair = segments-printed_one q c.own c.aim c.pull _ f.first f.second g.first g.second n i.segments j.segments u.1 v.1 in
    same_flight f g
    (over-IsReduced-same q (pos c.time) f.time g.time p x.0 y.0 i.time j.time)
    (i.altitude ∙ sym j.altitude)
    (over-IsReduced-same (q * q) c.own f.v0 g.v0 (mul-pos p p) x.1.0 y.1.0 i.own j.own)
    (over-IsReduced-same (q * q) c.intruder f.v1 g.v1 (mul-pos p p) x.1.1.0 y.1.1.0 i.intruder j.intruder)
    (hold-printed_one (fine q c) _ f.hold g.hold n i.hold j.hold u.0 v.0)
    pair.0
    pair.1
