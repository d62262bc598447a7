-- What a witness shows is said by what is printed of it.
use Rattle.std.proofs.Common.{◌≡◌, ℕ, List, [], ◌∷◌, ◌++◌, All, pos, ◌*ℤ◌, ap, refl, sym, subst, ◌∙◌}
use Rattle.std.specs.List.{flat_map}
use Rattle.acas_spec.specs.Model.{ModelData}
use Rattle.acas_frac.specs.Fraction.{Fraction, IsReduced}
use Rattle.acas_flight.specs.Response.{lasting}
use Rattle.acas_flight.specs.State.{State}
use Rattle.acas_flight.specs.Values.{IsOver}
use Rattle.acas_rulings.specs.Printed.{AreParts, fractions_of}
use Rattle.acas_rulings.specs.declared.flight.Witness.{Witness}
use Rattle.acas_rulings.specs.Rulings.{ShowsDanger}
use Rattle.acas_rulings.specs.Boxes.{AuditedBox}
use Rattle.acas_rulings.specs.Intruder.{Manoeuvre}
use Rattle.acas_rulings.specs.PrintedMeetings.{meeting_fractions}
use Rattle.acas_rulings.specs.Verdicts.{ShowsMeeting}
use Rattle.acas_rulings.specs.declared.meeting.Meeting.{Meeting}
use Rattle.acas_report_laws.specs.Told.{ToldMeeting, ToldWitness, told_meeting, told_witness}

-- the fractions of what is printed
told_fractions : ToldWitness → List Fraction
told_fractions t = t.range ∷ t.speed ∷ t.time ∷ t.own ∷ t.intruder ∷ flat_map (λ s. s.duration ∷ s.acceleration ∷ []) t.response

fractions_are : (w : Witness) → told_fractions (told_witness w) ≡ fractions_of w
unfolding told_fractions
fractions_are w = refl

-- a witness that is printed as another shows the danger that it shows
pub shows_as_printed : (m : ModelData) (advisory : ℕ) (IsIn : ℕ → State → Type 0) (w v : Witness) → told_witness w ≡ told_witness v → ShowsDanger m advisory IsIn v → ShowsDanger m advisory IsIn w
shows_as_printed m advisory IsIn w v e shown =
    let back = sym e in
    record {
      q = shown.q;
      state = shown.state;
      response = shown.response;
      range = subst (IsOver shown.q shown.state.range) (ap (λ t. t.range) back) shown.range;
      closing = subst (IsOver shown.q shown.state.closing) (ap (λ t. t.speed) back) shown.closing;
      altitude = shown.altitude ∙ ap (λ t. t.altitude *ℤ pos shown.q) back;
      own = subst (IsOver shown.q shown.state.own) (ap (λ t. t.own) back) shown.own;
      intruder = subst (IsOver shown.q shown.state.intruder) (ap (λ t. t.intruder) back) shown.intruder;
      time = subst (IsOver shown.q (pos (lasting shown.response))) (ap (λ t. t.time) back) shown.time;
      flown = subst (AreParts shown.q shown.response) (ap (λ t. t.response) back) shown.flown;
      contact = shown.contact;
      reduced = subst (All IsReduced) (sym (fractions_are v) ∙ ap told_fractions back ∙ fractions_are w) shown.reduced;
    }

-- ---- against an intruder that may change its rate

met_fractions : ToldMeeting → List Fraction
met_fractions t = told_fractions t.witness ++ flat_map (λ s. s.duration ∷ s.acceleration ∷ []) t.against

met_fractions_are : (w : Meeting) → met_fractions (told_meeting w) ≡ meeting_fractions w
unfolding met_fractions told_fractions
met_fractions_are w = refl

-- a meeting that is printed as another shows the danger that it shows
pub meets_as_printed : (m : ModelData) (may : Manoeuvre) (b : AuditedBox) (w v : Meeting) → told_meeting w ≡ told_meeting v → ShowsMeeting m may b v → ShowsMeeting m may b w
meets_as_printed m may b w v e shown =
    let back = sym e in
    record {
      q = shown.q;
      state = shown.state;
      response = shown.response;
      flight = shown.flight;
      range = subst (IsOver shown.q shown.state.range) (ap (λ t. t.witness.range) back) shown.range;
      closing = subst (IsOver shown.q shown.state.closing) (ap (λ t. t.witness.speed) back) shown.closing;
      altitude = shown.altitude ∙ ap (λ t. t.witness.altitude *ℤ pos shown.q) back;
      own = subst (IsOver shown.q shown.state.own) (ap (λ t. t.witness.own) back) shown.own;
      intruder = subst (IsOver shown.q shown.state.intruder) (ap (λ t. t.witness.intruder) back) shown.intruder;
      time = subst (IsOver shown.q (pos (lasting shown.response))) (ap (λ t. t.witness.time) back) shown.time;
      flown = subst (AreParts shown.q shown.response) (ap (λ t. t.witness.response) back) shown.flown;
      against = subst (AreParts shown.q shown.flight) (ap (λ t. t.against) back) shown.against;
      meeting = shown.meeting;
      reduced = subst (All IsReduced) (sym (met_fractions_are v) ∙ ap met_fractions back ∙ met_fractions_are w) shown.reduced;
    }
