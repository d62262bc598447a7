-- From equal texts to equal numbers.
use Rattle.std.proofs.Common.{◌≡◌, ◌<◌, ◌^◌, List, [], ◌∷◌, ◌++◌, map, All, Option, Some, unsigned_abs, refl, ap}
use Rattle.std.proofs.lemmas.List.Elements.{All-head, All-tail, recursion_from_All}
use Rattle.std.specs.List.{AllByRecursion, AllZip, flat_map}
use Rattle.acas_frac.specs.Fraction.{Fraction, fraction_text}
use Rattle.acas_rulings.specs.declared.flight.Segment.{Segment}
use Rattle.acas_rulings.specs.declared.flight.Witness.{Witness}
use Rattle.acas_rulings.specs.declared.ruling.Ruling.{Ruling}
use Rattle.acas_rulings.specs.declared.ruling.Ruling.TheVariants.{Certified, Reported}
use Rattle.acas_rulings.specs.Printed.{fractions_of, segments_of}
use Rattle.acas_report_lines.specs.Report.{Ruled}
use Rattle.acas_rulings.specs.PrintedMeetings.{against_of, meeting_fractions}
use Rattle.acas_rulings.specs.declared.meeting.Meeting.{Meeting}
use Rattle.acas_rulings.specs.declared.verdict.MeetVerdict.{MeetVerdict}
use Rattle.acas_rulings.specs.declared.verdict.MeetVerdict.TheVariants as met
use Rattle.acas_report_laws.specs.Told.{IsShort, IsShortMeeting, IsShortRuling, IsShortVerdict, IsShortWitness, told_by, told_meeting, told_of, told_verdict, told_witness}
use Rattle.acas_report_laws.proofs.Numerals.{fraction_gives, signed_gives}
use Rattle.acas_report_laws.proofs.Fields.{Same, SameSegment, SameTexts}
use Rattle.acas_report_laws.proofs.MeetingFields.{SameMeetings, SameVerdict}
use Rattle.acas_report_laws.proofs.Lines.{SaysSame}

same_fraction : (f g : Fraction) → IsShort f → fraction_text f ≡ fraction_text g → f ≡ g
same_fraction f g short e = fraction_gives f g short.num short.den e

-- the fractions of segments
abbrev fractions_in : List Segment → List Fraction
fractions_in parts = flat_map (λ s. s.duration ∷ s.acceleration ∷ []) parts

same_segments : (ps qs : List Segment) → AllByRecursion IsShort (fractions_in ps) → AllZip SameSegment ps qs → ps ≡ qs
same_segments [] [] short same = refl
same_segments [] (q ∷ qs) short same = absurd same
same_segments (p ∷ ps) [] short same = absurd same
same_segments (p ∷ ps) (q ∷ qs) short same =
    let duration = same_fraction p.duration q.duration short.0 same.0.duration in
    let acceleration = same_fraction p.acceleration q.acceleration short.1.0 same.0.acceleration in
    let rest = same_segments ps qs short.1.1 same.1 in
    λ i. record { duration = duration i; acceleration = acceleration i } ∷ rest i

same_numbers : (w v : Witness) → AllByRecursion IsShort (fractions_of w) → unsigned_abs w.flight.h < 10 ^ 63 → SameTexts w v → told_witness w ≡ told_witness v
same_numbers w v all small same =
    let range = same_fraction w.range v.range all.0 same.range in
    let speed = same_fraction w.speed v.speed all.1.0 same.speed in
    let time = same_fraction w.flight.time v.flight.time all.1.1.0 same.time in
    let altitude = signed_gives w.flight.h v.flight.h small same.altitude in
    let own = same_fraction w.flight.v0 v.flight.v0 all.1.1.1.0 same.own in
    let intruder = same_fraction w.flight.v1 v.flight.v1 all.1.1.1.1.0 same.intruder in
    let response = same_segments (segments_of w.flight) (segments_of v.flight) all.1.1.1.1.1 same.response in
    λ i. record {
      time = time i;
      range = range i;
      speed = speed i;
      altitude = altitude i;
      own = own i;
      intruder = intruder i;
      response = response i;
    }

pub same_witness : (w v : Witness) → IsShortWitness w → SameTexts w v → told_witness w ≡ told_witness v
same_witness w v short same = same_numbers w v (recursion_from_All IsShort (fractions_of w) short.fractions) short.altitude same

halves : {A : Type 0} (P : A → Type 0) (a b : List A) → AllByRecursion P (a ++ b) → AllByRecursion P a × AllByRecursion P b
halves P [] b all = (tt, all)
halves P (x ∷ a) b all = let rest = halves P a b all.1 in ((all.0, rest.0), rest.1)

pub same_meeting : (w v : Meeting) → IsShortMeeting w → SameMeetings w v → told_meeting w ≡ told_meeting v
same_meeting w v short same =
    let all = halves IsShort (fractions_of w.witness) (fractions_in (against_of w)) (recursion_from_All IsShort (meeting_fractions w) short.fractions) in
    let witness = same_numbers w.witness v.witness all.0 short.altitude same.witness in
    let against = same_segments (against_of w) (against_of v) all.1 same.against in
    λ i. record { witness = witness i; against = against i }

-- ---- lines

pub same_told : (r q : Ruling) → IsShortRuling r → Same r q → told_of r ≡ told_of q
same_told Certified Certified short same = refl
same_told Certified (Reported v) short same = absurd same
same_told (Reported w) Certified short same = absurd same
same_told (Reported w) (Reported v) short same = ap Some (same_witness w v short same)

pub same_told_verdict : (r q : MeetVerdict) → IsShortVerdict r → SameVerdict r q → told_verdict r ≡ told_verdict q
same_told_verdict met.Certified met.Certified short same = refl
same_told_verdict met.Certified (met.Reported v) short same = absurd same
same_told_verdict (met.Reported w) met.Certified short same = absurd same
same_told_verdict (met.Reported w) (met.Reported v) short same = ap Some (same_meeting w v short same)

pub told_all : {N R T : Type 0} (SameAs : R → R → Type 0) (IsShortOne : R → Type 0) (tell : R → Option T) → ((r q : R) → IsShortOne r → SameAs r q → tell r ≡ tell q) → (ruled other : List (Ruled N R)) →
    All (λ r. IsShortOne r.ruling) ruled → AllZip (SaysSame SameAs) ruled other → map (told_by tell) ruled ≡ map (told_by tell) other
told_all SameAs IsShortOne tell by [] [] short same = refl
told_all SameAs IsShortOne tell by [] (o ∷ os) short same = absurd same
told_all SameAs IsShortOne tell by (r ∷ rs) [] short same = absurd same
told_all {N} {R} SameAs IsShortOne tell by (r ∷ rs) (o ∷ os) short same =
    let name = same.0.name in
    let ruling = by r.ruling o.ruling (All-head (λ (r : Ruled N R). IsShortOne r.ruling) r rs short) same.0.ruling in
    let rest = told_all SameAs IsShortOne tell by rs os (All-tail (λ (r : Ruled N R). IsShortOne r.ruling) r rs short) same.1 in
    λ i. record { name = name i; ruling = ruling i } ∷ rest i
