-- What a line says of a box against an intruder that may change its rate, read back field by field.
use Rattle.std.proofs.Common.{◌≡◌, ℕ, ◌+◌, ◌<◌, Bool, false, nat_lt, List, [], ◌∷◌, ◌++◌, codes, get_or, refl, ap, sym, ◌∙◌, append_assoc, arith}
use Rattle.std.proofs.lemmas.List.{append_cancel_left}
use Rattle.std.proofs.lemmas.Bool.{le-ltb}
use Rattle.std.specs.List.{AllZip}
use Rattle.acas_frac.specs.Fraction.{fraction_text}
use Rattle.acas_rulings.specs.declared.flight.Segment.{Segment}
use Rattle.acas_rulings.specs.PrintedMeetings.{against_of}
use Rattle.acas_rulings.specs.declared.meeting.Meeting.{Meeting}
use Rattle.acas_rulings.specs.declared.verdict.MeetVerdict.{MeetVerdict}
use Rattle.acas_rulings.specs.declared.verdict.MeetVerdict.TheVariants.{Certified, Reported}
use Rattle.acas_report_lines.specs.Meetings.{meet_text, meeting_text}
use Rattle.acas_report_lines.specs.Text.{field, labelled, response_text, segment_text, witness_text}
use Rattle.acas_report_laws.proofs.Separators.{Lacks, Stops, apart, less}
use Rattle.acas_report_laws.proofs.Numerals.{fraction_bytes}
use Rattle.acas_report_laws.proofs.Fields.{AreTexts, EndsParts, SameSegment, SameTexts, ends, labelled_is, line_ends, read_response, read_witness}

-- all numbers of two meetings have the same texts
pub record SameMeetings (w v : Meeting) : Type 0 where
  pub witness : SameTexts w.witness v.witness
  pub against : AllZip SameSegment (against_of w) (against_of v)

-- two verdicts are of one kind, and print the same
abbrev pub SameVerdict : MeetVerdict → MeetVerdict → Type 0
SameVerdict Certified Certified = Unit {0}
SameVerdict Certified (Reported v) = ⊥
SameVerdict (Reported w) Certified = ⊥
SameVerdict (Reported w) (Reported v) = SameMeetings w v

-- ---- the field of the intruder ends a response

-- letters are above each byte of a segment
letter : ℕ → Bool
letter b = nat_lt 96 b

begins_low : (number more rest text : List ℕ) → Lacks letter number → 97 ∷ text ≡ (number ++ 64 ∷ more) ++ rest → ⊥
unfolding letter
begins_low [] more rest text low e = less 64 97 (omega arith) (sym (ap (λ (l : List ℕ). get_or l 0 0) e))
begins_low (b ∷ number) more rest text low e =
    let same : 97 ≡ b = ap (λ (l : List ℕ). get_or l 0 0) e in
    apart (letter b) (ap letter (sym same)) low.0

against_ends : (text s : List ℕ) → EndsParts (labelled (codes "against") text ++ s)
unfolding labelled field segment_text letter
against_ends text s = record {
  stops = refl;
  none = λ q rest e.
      let low : Lacks letter (fraction_text q.duration) = fraction_bytes (λ b. letter b ≡ false) (λ d l. le-ltb 96 (48 + d) (omega arith)) refl refl q.duration in
      begins_low (fraction_text q.duration) (fraction_text q.acceleration) rest _ low (append_cancel_left (32 ∷ []) _ _ e);
}

-- ---- verdicts

against_is : (w : Meeting) (s : List ℕ) → meet_text (Reported w) ++ s ≡ codes " reported" ++ (witness_text w.witness ++ (labelled (codes "against") (response_text (against_of w)) ++ 10 ∷ s))
unfolding meeting_text
against_is w s = simp append_assoc

read_meeting : (w v : Meeting) (s t : List ℕ) → meet_text (Reported w) ++ s ≡ meet_text (Reported v) ++ t → SameMeetings w v × (s ≡ t)
read_meeting w v s t e =
    let witness = read_witness w.witness v.witness _ _ (against_ends (response_text (against_of w)) (10 ∷ s)) (against_ends (response_text (against_of v)) (10 ∷ t))
    (append_cancel_left (codes " reported") _ _ (sym (against_is w s) ∙ e ∙ against_is v t)) in
    let against = read_response (against_of w) (against_of v) (10 ∷ s) (10 ∷ t) (line_ends s) (line_ends t)
    (append_cancel_left (32 ∷ codes "against" ++ 32 ∷ []) _ _
    (sym (labelled_is (codes "against") (response_text (against_of w)) (10 ∷ s)) ∙ witness.1 ∙ labelled_is (codes "against") (response_text (against_of v)) (10 ∷ t))) in
    (record { witness = witness.0; against = against.0 }, append_cancel_left (10 ∷ []) s t against.1)

read_verdict : (r q : MeetVerdict) (s t : List ℕ) → meet_text r ++ s ≡ meet_text q ++ t → SameVerdict r q × (s ≡ t)
read_verdict Certified Certified s t e = (tt, append_cancel_left (codes " certified\n") s t e)
read_verdict Certified (Reported v) s t e = less 99 114 (omega arith) (ap (λ (l : List ℕ). get_or l 1 0) e)
read_verdict (Reported w) Certified s t e = less 99 114 (omega arith) (sym (ap (λ (l : List ℕ). get_or l 1 0) e))
read_verdict (Reported w) (Reported v) s t e = read_meeting w v s t e

stops_verdict : (r : MeetVerdict) (s : List ℕ) → Stops ends (meet_text r ++ s)
stops_verdict Certified s = refl
stops_verdict (Reported w) s = refl

pub verdict_texts : AreTexts SameVerdict meet_text
verdict_texts = record { read = read_verdict; stops = stops_verdict }
