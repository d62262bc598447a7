-- What the answers of the command are worth.
use Rattle.std.proofs.Common.{◌≡◌, ◌≢◌, ℕ, List, [], Some, Ok, Err, ◌⊎◌, inl, inr, sym, ap, subst, ◌∙◌}
use Rattle.std.specs.Prelude.{IfSome}
use Rattle.std.specs.FinMap.{get}
use Rattle.acas_spec.specs.Model.{ModelData}
use Rattle.acas_outside.specs.Files.{Files}
use Rattle.acas_outside.specs.Outside.{Outside}
use Rattle.acas_doc.specs.declared.input_fault.InputFault.{InputFault}
use Rattle.acas_doc.specs.declared.input_fault.InputFault.TheVariants.{Rate}
use Rattle.acas_rulings.specs.Intruder.{Manoeuvre}
use Rattle.acas_rulings.specs.Boxes.{AuditedBox, box_at}
use Rattle.acas_rulings.specs.Verdicts.{IsMeetVerdict}
use Rattle.acas_rulings.specs.declared.verdict.MeetVerdict.{MeetVerdict}
use Rattle.acas_rulings.specs.declared.verdict.MeetVerdict.TheVariants.{Certified, Reported}
use Rattle.acas_boxes.specs.Rates.{AllRatesFit, fitting_boxes_of, rates_in}
use Rattle.acas_boxes.specs.Text.{IsBoxesText}
use Rattle.acas_boxes.specs.Whole.{boxes_of}
use Rattle.acas_boxes.proofs.Faults.{never_rate}
use Rattle.acas_boxes.proofs.Fitting.{fitting_err, fitting_ok, fitting_read, rates_fault, unfit_first}
use Rattle.acas_boxes.proofs.Pass.{understood}
use Rattle.acas_boxes.proofs.Read.{said}
use Rattle.acas_report_lines.specs.Meetings.{IsMeetVerdictAt, as_counts, is_safe, meetings_text}
use Rattle.acas_report_lines.specs.Regions.{places}
use Rattle.acas_report_lines.proofs.Reports.{report-of}
use Rattle.acas_command.specs.Answers.{Agrees, Answers}
use Rattle.acas_command.specs.Called.{MayPrint}
use Rattle.acas_command.specs.Calls.{with_input_file}
use Rattle.acas_command.specs.Outcome.{Outcome, prints, report_cause}
use Rattle.acas_command.specs.Says.{RejectsBeside, SaysBeside, SaysModel}
use Rattle.acas_command.specs.declared.status.Cause.{Cause}
use Rattle.acas_command.specs.declared.status.Cause.TheVariants.{Input}
use Rattle.acas_command.specs.declared.status.FileRole.TheVariants.{Boxes as BoxesFile}
use Rattle.acas_command.proofs.Behind.{told-map}
use Rattle.acas_command.proofs.Completed.{completed}
use Rattle.acas_command.proofs.Inputs.{rejected-input_file, with_input_file-read}
use Rattle.acas_command.proofs.Refused.{IsNoFileCause, behind-model, not_refused}
use Rattle.acas_command.proofs.Reports.{IsPrinted, report-may_print, report-printed, report-refused}
use Rattle.acas_command.proofs.Says.{file-says, read-model, says-model}
use Rattle.acas_box_commands.specs.ManoeuvreCalls.{CallsForManoeuvre, IsManoeuvreBegun, IsManoeuvreText, manoeuvre_looks_at}
use Rattle.acas_box_commands.specs.ManoeuvreWorth.{IsVerdictOn, IsVerdictOnBox, ManoeuvreIsWorth, PrintsManoeuvre, RejectsRates}

-- ---- what was printed

verdict : (m : ModelData) (may : Manoeuvre) (b : AuditedBox) (v : MeetVerdict) → IsMeetVerdict m may b v → IsVerdictOn m may b v
verdict m may b Certified h = h
verdict m may b (Reported w) h = h.shown

prints-manoeuvre : (model boxes : List ℕ) (may : Manoeuvre) (files : Files) (cause : Cause) (before after : Outside) → IsPrinted (IsManoeuvreText model boxes may files) files cause before after
    → PrintsManoeuvre model boxes may files cause before after
prints-manoeuvre model boxes may files cause before after p =
    let m : ModelData = p.report.m in
    let a = p.report.audited in
    let says : SaysModel files model a.model_file.bytes m = file-says files model a.digest m a.model_file in
    let fitting = fitting_ok m may a.boxes_file.bytes p.report.said a.boxes_file.is_read in
    record {
      m = m;
      said = p.report.said;
      says = record {
        bytes = a.model_file.bytes;
        given = a.boxes_file.bytes;
        says = says;
        file = a.boxes_file.text.there;
        short = a.boxes_file.text.short;
        text = said m a.boxes_file.bytes p.report.said says.text.within fitting.0;
      };
      rates = a.rates;
      counts = p.report.counts;
      text = p.text;
      report = report-of (IsMeetVerdictAt m may p.report.said) (IsVerdictOnBox m may p.report.said) is_safe (places p.report.said) 0 meetings_text (as_counts p.report.counts) p.text
          (λ place v. verdict m may (box_at p.report.said place) v) p.report.report;
      printed = p.printed;
      kept = p.kept;
      reported = p.ends ∙ ap report_cause p.report.count;
    }

-- ---- what was refused

-- a text beside a model that is refused
record Rejected (model boxes : List ℕ) (may : Manoeuvre) (files : Files) (fault : InputFault) : Type 0 where
  pub bytes : List ℕ
  pub m : ModelData
  pub given : List ℕ
  pub says : SaysModel files model bytes m
  pub file : get files boxes ≡ Some given
  pub is : fitting_boxes_of m may given ≡ Err fault

rejected : (model boxes : List ℕ) (may : Manoeuvre) (files : Files) (fault : InputFault) → (manoeuvre_looks_at model boxes may files).cause ≡ Input fault → Rejected model boxes may files fault
rejected model boxes may files fault cause =
    let behind : List ℕ → ModelData → Outcome = λ digest m. with_input_file BoxesFile (fitting_boxes_of m may) (get files boxes) (λ said. prints []) in
    let b = behind-model (get files model) behind (subst IsNoFileCause (sym cause) tt) in
    let t = rejected-input_file BoxesFile (fitting_boxes_of b.m may) (get files boxes) fault (ap (λ (o : Outcome). o.cause) (sym b.is) ∙ cause) in
    record { bytes = b.bytes; m = b.m; given = t.0; says = says-model files model behind b; file = t.1; is = t.2 }

rejects-boxes : (model boxes : List ℕ) (may : Manoeuvre) (files : Files) (fault : InputFault) → ((place : ℕ) → fault ≢ Rate place) → Rejected model boxes may files fault → RejectsBeside (λ m digest. IsBoxesText m) model boxes files
rejects-boxes model boxes may files fault other r = by (fitting_err r.m may r.given fault r.is)
  where
    by : (boxes_of r.m r.given ≡ Err fault) ⊎ ((said : List AuditedBox) × (boxes_of r.m r.given ≡ Ok said) × (rates_in may said ≡ Err fault)) → RejectsBeside (λ m digest. IsBoxesText m) model boxes files
    by (inl refused) = record {
      bytes = r.bytes;
      m = r.m;
      given = r.given;
      says = r.says;
      file = r.file;
      none = λ boxes_said text.
          let both = sym refused ∙ understood r.m r.given boxes_said r.says.text.within text in
          absurd (cc both);
    }
    by (inr rates) = let at = rates_fault may rates.0 fault rates.2 in absurd (other at.0 at.1)

rejects-rates : (model boxes : List ℕ) (may : Manoeuvre) (files : Files) (place : ℕ) → Rejected model boxes may files (Rate place) → RejectsRates model boxes may files place
rejects-rates model boxes may files place r = by (fitting_err r.m may r.given (Rate place) r.is)
  where
    by : (boxes_of r.m r.given ≡ Err (Rate place)) ⊎ ((said : List AuditedBox) × (boxes_of r.m r.given ≡ Ok said) × (rates_in may said ≡ Err (Rate place))) → RejectsRates model boxes may files place
    by (inl refused) = absurd (never_rate r.m r.given place refused)
    by (inr rates) = record {
      bytes = r.bytes;
      m = r.m;
      given = r.given;
      said = rates.0;
      says = r.says;
      file = r.file;
      boxes_text = said r.m r.given rates.0 r.says.text.within rates.1;
      first = unfit_first may rates.0 place rates.2;
    }

-- ---- what is not refused

manoeuvre-looks : (files : Files) (model boxes : List ℕ) (may : Manoeuvre) (m : ModelData) (boxes_said : List AuditedBox) → SaysBeside IsBoxesText model boxes files m boxes_said → AllRatesFit may boxes_said
    → manoeuvre_looks_at model boxes may files ≡ prints []
manoeuvre-looks files model boxes may m boxes_said says fit =
    read-model files model says.bytes m (λ digest n. with_input_file BoxesFile (fitting_boxes_of n may) (get files boxes) (λ b. prints [])) says.says
    ∙ with_input_file-read BoxesFile (fitting_boxes_of m may) (get files boxes) says.given boxes_said (λ b. prints []) (record { there = says.file; short = says.short })
    (fitting_read m may says.given boxes_said (understood m says.given boxes_said says.says.text.within says.text) fit)

pub manoeuvre-worth : (model boxes : List ℕ) (may : Manoeuvre) (cause : Cause) (before after : Outside) → Answers (CallsForManoeuvre model boxes may) cause before after
    → IfSome before.holds (λ files. ManoeuvreIsWorth model boxes may files cause before after)
manoeuvre-worth model boxes may cause before after answers =
    told-map before.holds _ _ (λ files agrees. worth files agrees) answers.told
  where
    looks : Files → Outcome
    looks = manoeuvre_looks_at model boxes may

    refusal : (files : Files) (fault : InputFault) → Agrees (CallsForManoeuvre model boxes may) files cause before after → cause ≡ Input fault → Rejected model boxes may files fault
    refusal files fault agrees is =
        rejected model boxes may files fault
        (report-refused looks (IsManoeuvreText model boxes may) (IsManoeuvreBegun model boxes may) files (Input fault) after (λ never. never)
        (subst (λ (c : Cause). Agrees (CallsForManoeuvre model boxes may) files c before after) is agrees))

    worth : (files : Files) → Agrees (CallsForManoeuvre model boxes may) files cause before after → ManoeuvreIsWorth model boxes may files cause before after
    worth files agrees = record {
      printed = λ may_print. prints-manoeuvre model boxes may files cause before after
          (report-printed looks (IsManoeuvreText model boxes may) (IsManoeuvreBegun model boxes may) files cause before after may_print (completed (CallsForManoeuvre model boxes may) files cause before after may_print agrees));
      refused = λ fault is other. rejects-boxes model boxes may files fault other (refusal files fault agrees is);
      unfit = λ place is. rejects-rates model boxes may files place (refusal files (Rate place) agrees is);
      not_refused = λ m boxes_said says fit.
          not_refused (CallsForManoeuvre model boxes may) files cause before after
          (λ o ends. report-may_print looks (IsManoeuvreText model boxes may) (IsManoeuvreBegun model boxes may) files o
          (subst (λ (p : Outcome). MayPrint p.cause) (sym (manoeuvre-looks files model boxes may m boxes_said says fit)) tt) ends) answers.has_cause agrees;
    }
