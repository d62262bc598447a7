-- What the answers of `regions` are worth.
use Rattle.std.proofs.Common.{◌≡◌, ℕ, List, [], sym, ap, subst, ◌∙◌}
use Rattle.std.specs.Prelude.{IfSome}
use Rattle.std.specs.FinMap.{get}
use Rattle.acas_spec.specs.Model.{ModelData}
use Rattle.acas_outside.specs.Files.{Files}
use Rattle.acas_outside.specs.Outside.{Outside}
use Rattle.acas_doc.specs.declared.input_fault.InputFault.{InputFault}
use Rattle.acas_flight.specs.State.{IsInBox}
use Rattle.acas_rulings.specs.Boxes.{AuditedBox, box_at}
use Rattle.acas_rulings.specs.Rulings.{IsWitnessOfBox}
use Rattle.acas_report_lines.specs.Regions.{IsRulingAt, places, regions_text}
use Rattle.acas_boxes.specs.Text.{IsBoxesText}
use Rattle.acas_boxes.specs.Whole.{boxes_of}
use Rattle.acas_boxes.proofs.Pass.{understood}
use Rattle.acas_boxes.proofs.Read.{said}
use Rattle.acas_command.specs.Answers.{Agrees, Answers}
use Rattle.acas_command.specs.Called.{MayPrint}
use Rattle.acas_command.specs.Calls.{with_input_file}
use Rattle.acas_command.proofs.Inputs.{rejected-input_file, with_input_file-read}
use Rattle.acas_command.specs.Outcome.{Outcome, prints, report_cause}
use Rattle.acas_command.specs.Says.{RejectsBeside, SaysBeside, SaysModel}
use Rattle.acas_command.specs.declared.status.Cause.{Cause}
use Rattle.acas_command.specs.declared.status.Cause.TheVariants.{Input}
use Rattle.acas_command.specs.declared.status.FileRole.TheVariants.{Boxes as BoxesFile}
use Rattle.acas_command.proofs.Behind.{told-map}
use Rattle.acas_command.proofs.Completed.{completed}
use Rattle.acas_command.proofs.Refused.{IsNoFileCause, behind-model, not_refused}
use Rattle.acas_command.proofs.Reports.{IsPrinted, report-may_print, report-printed, report-refused}
use Rattle.acas_command.proofs.Says.{file-says, read-model, says-model}
use Rattle.acas_box_commands.specs.RegionsCalls.{CallsForRegions, IsRegionsBegun, IsRegionsText, regions_looks_at}
use Rattle.acas_report.proofs.Verdicts.{verdict}
use Rattle.acas_report_lines.specs.Text.{is_certified}
use Rattle.acas_report_lines.proofs.Reports.{report-of}
use Rattle.acas_box_commands.specs.RegionsWorth.{PrintsRegions, RegionsIsWorth}
use Rattle.acas_report.specs.Verdicts.{IsVerdictOnBox}

prints-regions : (model boxes : List ℕ) (files : Files) (cause : Cause) (before after : Outside) → IsPrinted (IsRegionsText model boxes files) files cause before after
    → PrintsRegions model boxes files cause before after
prints-regions model boxes files cause before after p =
    let m : ModelData = p.report.m in
    let a = p.report.audited in
    let says : SaysModel files model a.model_file.bytes m = file-says files model a.digest m a.model_file in
    record {
      m = m;
      said = p.report.said;
      says = record {
        bytes = a.model_file.bytes;
        given = a.boxes_file.bytes;
        says = says;
        file = a.boxes_file.text.there;
        short = a.boxes_file.text.short;
        text = said m a.boxes_file.bytes p.report.said says.text.within a.boxes_file.is_read;
      };
      counts = p.report.counts;
      text = p.text;
      report = report-of (IsRulingAt m p.report.said) (IsVerdictOnBox m p.report.said) is_certified (places p.report.said) 0 regions_text p.report.counts p.text
          (λ place ruling. verdict m (box_at p.report.said place).advisory (IsInBox (box_at p.report.said place).states) (IsWitnessOfBox m (box_at p.report.said place)) ruling) p.report.report;
      printed = p.printed;
      kept = p.kept;
      reported = p.ends ∙ ap report_cause p.report.count;
    }

rejects-boxes : (model boxes : List ℕ) (files : Files) (fault : InputFault) → (regions_looks_at model boxes files).cause ≡ Input fault → RejectsBeside (λ m digest. IsBoxesText m) model boxes files
rejects-boxes model boxes files fault cause =
    let behind : List ℕ → ModelData → Outcome = λ digest m. with_input_file BoxesFile (boxes_of m) (get files boxes) (λ said. prints []) in
    let b = behind-model (get files model) behind (subst IsNoFileCause (sym cause) tt) in
    let says : SaysModel files model b.bytes b.m = says-model files model behind b in
    let t = rejected-input_file BoxesFile (boxes_of b.m) (get files boxes) fault (ap (λ (o : Outcome). o.cause) (sym b.is) ∙ cause) in
    record {
      bytes = b.bytes;
      m = b.m;
      given = t.0;
      says = says;
      file = t.1;
      none = λ boxes_said text.
          let both = sym t.2 ∙ understood b.m t.0 boxes_said says.text.within text in
          absurd (cc both);
    }

regions-looks : (files : Files) (model boxes : List ℕ) (m : ModelData) (boxes_said : List AuditedBox) → SaysBeside IsBoxesText model boxes files m boxes_said
    → regions_looks_at model boxes files ≡ prints []
regions-looks files model boxes m boxes_said s =
    read-model files model s.bytes m (λ digest n. with_input_file BoxesFile (boxes_of n) (get files boxes) (λ b. prints [])) s.says
    ∙ with_input_file-read BoxesFile (boxes_of m) (get files boxes) s.given boxes_said (λ b. prints []) (record { there = s.file; short = s.short })
    (understood m s.given boxes_said s.says.text.within s.text)

pub regions-worth : (model boxes : List ℕ) (cause : Cause) (before after : Outside) → Answers (CallsForRegions model boxes) cause before after
    → IfSome before.holds (λ files. RegionsIsWorth model boxes files cause before after)
regions-worth model boxes cause before after answers =
    told-map before.holds _ _ (λ files agrees. worth files agrees) answers.told
  where
    looks : Files → Outcome
    looks = regions_looks_at model boxes

    worth : (files : Files) → Agrees (CallsForRegions model boxes) files cause before after → RegionsIsWorth model boxes files cause before after
    worth files agrees = record {
      printed = λ may. prints-regions model boxes files cause before after
          (report-printed looks (IsRegionsText model boxes) (IsRegionsBegun model boxes) files cause before after may (completed (CallsForRegions model boxes) files cause before after may agrees));
      refused = λ fault is. rejects-boxes model boxes files fault
          (report-refused looks (IsRegionsText model boxes) (IsRegionsBegun model boxes) files (Input fault) after (λ never. never)
          (subst (λ (c : Cause). Agrees (CallsForRegions model boxes) files c before after) is agrees));
      not_refused = λ m boxes_said says.
          not_refused (CallsForRegions model boxes) files cause before after
          (λ o may. report-may_print looks (IsRegionsText model boxes) (IsRegionsBegun model boxes) files o
          (subst (λ (p : Outcome). MayPrint p.cause) (sym (regions-looks files model boxes m boxes_said says)) tt) may) answers.has_cause agrees;
    }
