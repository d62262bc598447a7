-- What a line says of a cell or box, read back field by field.
use Rattle.std.proofs.Common.{◌≡◌, ℕ, ◌+◌, ◌<◌, ℤ, Bool, false, nat_lt, List, [], ◌∷◌, ◌++◌, codes, get_or, refl, ap, sym, ◌∙◌, append_assoc, arith}
use Rattle.std.proofs.lemmas.List.{append_cancel_left}
use Rattle.std.proofs.lemmas.Bool.{le-ltb}
use Rattle.std.specs.List.{AllZip}
use Rattle.std.specs.Fmt.{signed_decimal}
use Rattle.acas_frac.specs.Fraction.{Fraction, fraction_text}
use Rattle.acas_rulings.specs.Printed.{segments_of}
use Rattle.acas_rulings.specs.declared.flight.Segment.{Segment}
use Rattle.acas_rulings.specs.declared.flight.Witness.{Witness}
use Rattle.acas_rulings.specs.declared.ruling.Ruling.{Ruling}
use Rattle.acas_rulings.specs.declared.ruling.Ruling.TheVariants.{Certified, Reported}
use Rattle.acas_report_lines.specs.Text.{field, labelled, parts_text, response_text, ruling_text, segment_text, witness_text}
use Rattle.acas_report_laws.proofs.Separators.{Lacks, Stops, all_append, less, peel}
use Rattle.acas_report_laws.proofs.Numerals.{fraction_bytes, signed_bytes}

-- a space or a line feed ends a field, and no byte of a number or a name is as low
abbrev pub ends : ℕ → Bool
ends b = nat_lt b 33

-- both fractions of two segments have the same texts
pub record SameSegment (s t : Segment) : Type 0 where
  pub duration : fraction_text s.duration ≡ fraction_text t.duration
  pub acceleration : fraction_text s.acceleration ≡ fraction_text t.acceleration

-- all numbers of two witnesses have the same texts
pub record SameTexts (w v : Witness) : Type 0 where
  pub time : fraction_text w.flight.time ≡ fraction_text v.flight.time
  pub range : fraction_text w.range ≡ fraction_text v.range
  pub speed : fraction_text w.speed ≡ fraction_text v.speed
  pub altitude : signed_decimal w.flight.h ≡ signed_decimal v.flight.h
  pub own : fraction_text w.flight.v0 ≡ fraction_text v.flight.v0
  pub intruder : fraction_text w.flight.v1 ≡ fraction_text v.flight.v1
  pub response : AllZip SameSegment (segments_of w.flight) (segments_of v.flight)

-- two rulings are of one kind, and print the same
abbrev pub Same : Ruling → Ruling → Type 0
Same Certified Certified = Unit {0}
Same Certified (Reported v) = ⊥
Same (Reported w) Certified = ⊥
Same (Reported w) (Reported v) = SameTexts w v

-- ---- fields

-- the field of a word, and a text behind it
pub labelled_is : (word a s : List ℕ) → labelled word a ++ s ≡ (32 ∷ word ++ 32 ∷ []) ++ (a ++ s)
unfolding labelled field
labelled_is word a s = ap (λ l. 32 ∷ l) (append_assoc word (32 ∷ a) s ∙ sym (append_assoc word (32 ∷ []) (a ++ s)))

read_labelled : (word a b s t : List ℕ) → Lacks ends a → Lacks ends b → Stops ends s → Stops ends t → labelled word a ++ s ≡ labelled word b ++ t → (a ≡ b) × (s ≡ t)
read_labelled word a b s t la lb ss st e =
    peel ends a b s t la lb ss st
    (append_cancel_left (32 ∷ word ++ 32 ∷ []) (a ++ s) (b ++ t) (sym (labelled_is word a s) ∙ e ∙ labelled_is word b t))

stops_labelled : (word a s : List ℕ) → Stops ends (labelled word a ++ s)
unfolding labelled field
stops_labelled word a s = refl

-- ---- numbers

pub no_end : (d : ℕ) → d < 10 → ends (48 + d) ≡ false
no_end d l = le-ltb (48 + d) 33 (omega arith)

fraction_lacks : (f : Fraction) → Lacks ends (fraction_text f)
fraction_lacks f = fraction_bytes (λ b. ends b ≡ false) no_end refl refl f

altitude_lacks : (z : ℤ) → Lacks ends (signed_decimal z)
altitude_lacks z = signed_bytes (λ b. ends b ≡ false) no_end refl z

-- ---- responses

-- `@` and each letter are above the digits
above : ℕ → Bool
above b = nat_lt 57 b

fraction_below : (f : Fraction) → Lacks above (fraction_text f)
unfolding above
fraction_below f = fraction_bytes (λ b. above b ≡ false) (λ d l. le-ltb 57 (48 + d) (omega arith)) refl refl f

segment_lacks : (s : Segment) → Lacks ends (segment_text s)
unfolding segment_text
segment_lacks s = all_append (λ b. ends b ≡ false) (fraction_text s.duration) (64 ∷ fraction_text s.acceleration) (fraction_lacks s.duration) (refl, fraction_lacks s.acceleration)

read_segment : (s t : Segment) → segment_text s ≡ segment_text t → SameSegment s t
unfolding segment_text above
read_segment s t e =
    let parts = peel above (fraction_text s.duration) (fraction_text t.duration) (64 ∷ fraction_text s.acceleration) (64 ∷ fraction_text t.acceleration) (fraction_below s.duration) (fraction_below t.duration) refl refl e in
    record { duration = parts.0; acceleration = append_cancel_left (64 ∷ []) (fraction_text s.acceleration) (fraction_text t.acceleration) parts.1 }

no_segment : {A : Type 0} (s : Segment) → codes "none" ≡ segment_text s → A
unfolding segment_text above
no_segment s e =
    let parts = peel above [] (fraction_text s.duration) (codes "none") (64 ∷ fraction_text s.acceleration) tt (fraction_below s.duration) refl refl e in
    let wrong : codes "none" ≡ 64 ∷ fraction_text s.acceleration = parts.1 in
    absurd (cc)

-- a text that no segment stands before: a line feed is first, or a field that begins with a letter
pub record EndsParts (s : List ℕ) : Type 0 where
  pub stops : Stops ends s
  pub none : (q : Segment) (rest : List ℕ) → s ≡ field (segment_text q) ++ rest → ⊥

pub line_ends : (s : List ℕ) → EndsParts (10 ∷ s)
unfolding field
line_ends s = record { stops = refl; none = λ q rest e. less 10 32 (omega arith) (ap (λ (l : List ℕ). get_or l 0 0) e) }

stops_parts : (ps : List Segment) (s : List ℕ) → Stops ends s → Stops ends (parts_text ps ++ s)
unfolding field
stops_parts [] s stops = stops
stops_parts (p ∷ ps) s stops = refl

read_parts : (ps qs : List Segment) (s t : List ℕ) → EndsParts s → EndsParts t → parts_text ps ++ s ≡ parts_text qs ++ t → AllZip SameSegment ps qs × (s ≡ t)
unfolding field
read_parts [] [] s t es et e = (tt, e)
read_parts [] (q ∷ qs) s t es et e = absurd (es.none q (parts_text qs ++ t) (e ∙ append_assoc (32 ∷ segment_text q) (parts_text qs) t))
read_parts (p ∷ ps) [] s t es et e = absurd (et.none p (parts_text ps ++ s) (sym e ∙ append_assoc (32 ∷ segment_text p) (parts_text ps) s))
read_parts (p ∷ ps) (q ∷ qs) s t es et e =
    let parts = peel ends (segment_text p) (segment_text q) (parts_text ps ++ s) (parts_text qs ++ t) (segment_lacks p) (segment_lacks q) (stops_parts ps s es.stops) (stops_parts qs t et.stops)
    (sym (append_assoc (segment_text p) (parts_text ps) s) ∙ append_cancel_left (32 ∷ []) _ _ e ∙ append_assoc (segment_text q) (parts_text qs) t) in
    let more = read_parts ps qs s t es et parts.1 in
    ((read_segment p q parts.0, more.0), more.1)

pub read_response : (ps qs : List Segment) (s t : List ℕ) → EndsParts s → EndsParts t → response_text ps ++ s ≡ response_text qs ++ t → AllZip SameSegment ps qs × (s ≡ t)
read_response [] [] s t es et e = (tt, append_cancel_left (codes "none") s t e)
read_response [] (q ∷ qs) s t es et e =
    let parts = peel ends (codes "none") (segment_text q) s (parts_text qs ++ t) (refl, (refl, (refl, (refl, tt)))) (segment_lacks q) es.stops (stops_parts qs t et.stops) (e ∙ append_assoc (segment_text q) (parts_text qs) t) in
    no_segment q parts.0
read_response (p ∷ ps) [] s t es et e =
    let parts = peel ends (codes "none") (segment_text p) t (parts_text ps ++ s) (refl, (refl, (refl, (refl, tt)))) (segment_lacks p) et.stops (stops_parts ps s es.stops) (sym e ∙ append_assoc (segment_text p) (parts_text ps) s) in
    no_segment p parts.0
read_response (p ∷ ps) (q ∷ qs) s t es et e =
    let parts = peel ends (segment_text p) (segment_text q) (parts_text ps ++ s) (parts_text qs ++ t) (segment_lacks p) (segment_lacks q) (stops_parts ps s es.stops) (stops_parts qs t et.stops)
    (sym (append_assoc (segment_text p) (parts_text ps) s) ∙ e ∙ append_assoc (segment_text q) (parts_text qs) t) in
    let more = read_parts ps qs s t es et parts.1 in
    ((read_segment p q parts.0, more.0), more.1)

-- ---- witnesses and rulings

-- the fields of a witness, each before the rest
from_response : Witness → List ℕ → List ℕ
from_response w s = labelled (codes "response") (response_text (segments_of w.flight)) ++ s

from_intruder : Witness → List ℕ → List ℕ
from_intruder w s = labelled (codes "intruder") (fraction_text w.flight.v1) ++ from_response w s

from_own : Witness → List ℕ → List ℕ
from_own w s = labelled (codes "own") (fraction_text w.flight.v0) ++ from_intruder w s

from_ticks : Witness → List ℕ → List ℕ
from_ticks w s = labelled (codes "ticks") (signed_decimal w.flight.h) ++ from_own w s

from_speed : Witness → List ℕ → List ℕ
from_speed w s = labelled (codes "speed") (fraction_text w.speed) ++ from_ticks w s

from_range : Witness → List ℕ → List ℕ
from_range w s = labelled (codes "range") (fraction_text w.range) ++ from_speed w s

from_time : Witness → List ℕ → List ℕ
from_time w s = labelled (codes "time") (fraction_text w.flight.time) ++ from_range w s

witness_is : (w : Witness) (s : List ℕ) → witness_text w ++ s ≡ from_time w s
unfolding witness_text from_response from_intruder from_own from_ticks from_speed from_range from_time
witness_is w s = simp append_assoc

read_from_response : (w v : Witness) (s t : List ℕ) → EndsParts s → EndsParts t → from_response w s ≡ from_response v t → AllZip SameSegment (segments_of w.flight) (segments_of v.flight) × (s ≡ t)
unfolding from_response
read_from_response w v s t es et e =
    read_response (segments_of w.flight) (segments_of v.flight) s t es et
    (append_cancel_left (32 ∷ codes "response" ++ 32 ∷ []) _ _
    (sym (labelled_is (codes "response") (response_text (segments_of w.flight)) s) ∙ e ∙ labelled_is (codes "response") (response_text (segments_of v.flight)) t))

pub read_witness : (w v : Witness) (s t : List ℕ) → EndsParts s → EndsParts t → witness_text w ++ s ≡ witness_text v ++ t → SameTexts w v × (s ≡ t)
unfolding from_response from_intruder from_own from_ticks from_speed from_range from_time
read_witness w v s t es et e =
    let time = fraction (codes "time") w.flight.time v.flight.time (from_range w s) (from_range v t) (stops_labelled _ _ _) (stops_labelled _ _ _) (sym (witness_is w s) ∙ e ∙ witness_is v t) in
    let range = fraction (codes "range") w.range v.range (from_speed w s) (from_speed v t) (stops_labelled _ _ _) (stops_labelled _ _ _) time.1 in
    let speed = fraction (codes "speed") w.speed v.speed (from_ticks w s) (from_ticks v t) (stops_labelled _ _ _) (stops_labelled _ _ _) range.1 in
    let altitude = read_labelled (codes "ticks") (signed_decimal w.flight.h) (signed_decimal v.flight.h) (from_own w s) (from_own v t) (altitude_lacks w.flight.h) (altitude_lacks v.flight.h) (stops_labelled _ _ _) (stops_labelled _ _ _) speed.1 in
    let own = fraction (codes "own") w.flight.v0 v.flight.v0 (from_intruder w s) (from_intruder v t) (stops_labelled _ _ _) (stops_labelled _ _ _) altitude.1 in
    let intruder = fraction (codes "intruder") w.flight.v1 v.flight.v1 (from_response w s) (from_response v t) (stops_labelled _ _ _) (stops_labelled _ _ _) own.1 in
    let response = read_from_response w v s t es et intruder.1 in (
      record { time = time.0; range = range.0; speed = speed.0; altitude = altitude.0; own = own.0; intruder = intruder.0; response = response.0 },
      response.1,
    )
  where
    fraction : (word : List ℕ) (f g : Fraction) (s t : List ℕ) → Stops ends s → Stops ends t → labelled word (fraction_text f) ++ s ≡ labelled word (fraction_text g) ++ t → (fraction_text f ≡ fraction_text g) × (s ≡ t)
    fraction word f g s t ss st e = read_labelled word (fraction_text f) (fraction_text g) s t (fraction_lacks f) (fraction_lacks g) ss st e

read_ruling : (r q : Ruling) (s t : List ℕ) → ruling_text r ++ s ≡ ruling_text q ++ t → Same r q × (s ≡ t)
read_ruling Certified Certified s t e = (tt, append_cancel_left (codes " certified\n") s t e)
read_ruling Certified (Reported v) s t e = less 99 114 (omega arith) (ap (λ (l : List ℕ). get_or l 1 0) e)
read_ruling (Reported w) Certified s t e = less 99 114 (omega arith) (sym (ap (λ (l : List ℕ). get_or l 1 0) e))
read_ruling (Reported w) (Reported v) s t e =
    let parts = read_witness w v (10 ∷ s) (10 ∷ t) (line_ends s) (line_ends t) (append_cancel_left (codes " reported") _ _ (sym (reported_is w s) ∙ e ∙ reported_is v t)) in
    (parts.0, append_cancel_left (10 ∷ []) s t parts.1)
  where
    reported_is : (w : Witness) (s : List ℕ) → ruling_text (Reported w) ++ s ≡ codes " reported" ++ (witness_text w ++ 10 ∷ s)
    reported_is w s = ap (λ l. codes " reported" ++ l) (append_assoc (witness_text w) (10 ∷ []) s)

stops_ruling : (r : Ruling) (s : List ℕ) → Stops ends (ruling_text r ++ s)
stops_ruling Certified s = refl
stops_ruling (Reported w) s = refl

-- ---- texts of rulings of any kind

-- equal texts are of rulings that say the same, and what is behind them is equal
pub record AreTexts {R : Type 0} (SameAs : R → R → Type 0) (text : R → List ℕ) : Type 0 where
  pub read : (r q : R) (s t : List ℕ) → text r ++ s ≡ text q ++ t → SameAs r q × (s ≡ t)
  pub stops : (r : R) (s : List ℕ) → Stops ends (text r ++ s)

pub ruling_texts : AreTexts Same ruling_text
ruling_texts = record { read = read_ruling; stops = stops_ruling }
