use Rattle.std.proofs.Common.{ℕ, List, refl, Option, inr, subst, sym, arith, [], ◌∷◌}
use Rattle.std.proofs.lemmas.Grind.{common_steps}
use Rattle.std.specs.FinMap.{get}
use Rattle.std.proofs.lemmas.Result.{err_from_is_err_and}
use Rattle.acas_outside.specs.Files.{Files, Given}
use Rattle.acas_outside.specs.Outside.{Outside, outside}
use Rattle.acas_command.specs.Called.{reading}
use Rattle.acas_command.specs.Outcome.{prints, report_cause, reports}
use Rattle.acas_command.proofs.Behind.{answers-behind, answers-printed, told-both, told-kept, told-map}
use Rattle.acas_command.proofs.Reports.{answers-refer, may_print-report_cause}
use Rattle.acas_boxes.specs.Whole.{boxes_of}
use Rattle.acas_command.specs.Calls.{input_cause, with_input, with_input_file}
use Rattle.acas_command.specs.InputFile.{IsInputFile}
use Rattle.acas_command.specs.TextFile.{IsTextFile}
use Rattle.acas_command.proofs.Inputs.{answers-input, ends-input}
use Rattle.acas_command.specs.declared.status.FileRole.TheVariants.{Boxes as BoxesFile}
use Rattle.acas_box_commands.specs.RegionsCalls.{CallsForRegions}
use Rattle.acas_box_commands.proofs.RegionsFiles.{regions-behind_model, regions-refers}
use Rattle.acas_box_commands.proofs.regions_command.rule_on_boxes.Goals as goal

pub returns-in_err-text-clause-answers : goal.returns-in_err-text-clause-answers
returns-in_err-text-clause-answers g c model told =
    let m = c.args.found.now.model in
    let digest = c.args.found.now.digest in
    let boxes = c.args.boxes.now in
    let before : Outside = outside g.F.Folder g.O.Sink c.args.folder.now c.args.out.now in
    let after : Outside = outside g.F.Folder g.O.Sink c.read_text_file.new.folder c.args.out.now in
    let p = err_from_is_err_and c.from_residual.result c.from_residual.ensures.1 in
    rw (p.1, p.2)
    (answers-refer (λ files. with_input_file BoxesFile (boxes_of m) (get files boxes) (λ said. prints [])) (reading (boxes ∷ []) (CallsForRegions model boxes)) c.in_err-text.field-0.0 before after c.in_err-text.ensures.refused
    (told-map before.holds _ _
    (λ files is. regions-refers model boxes files (λ fs. with_input_file BoxesFile (boxes_of m) (get fs boxes) (λ said. prints [])) (regions-behind_model model boxes digest m files is))
    told)
    (c.in_err-text.ensures.err [] (λ files bytes. with_input (boxes_of m bytes) (λ said. prints [])) _ _))

pub returns-in_err-said-clause-answers : goal.returns-in_err-said-clause-answers
returns-in_err-said-clause-answers g c model told =
    let m = c.args.found.now.model in
    let digest = c.args.found.now.digest in
    let boxes = c.args.boxes.now in
    let bytes = c.deref.result.now in
    let fault = c.in_err-said.field-0.0 in
    let before : Outside = outside g.F.Folder g.O.Sink c.args.folder.now c.args.out.now in
    let after : Outside = outside g.F.Folder g.O.Sink c.read_text_file.new.folder c.args.out.now in
    let frame = c.read_text_file.ensures.frame in
    let p = err_from_is_err_and c.from_residual-in_err-said.result c.from_residual-in_err-said.ensures.1 in
    let given : Given after.holds boxes (λ file. IsTextFile file bytes) =
    subst (λ (h : Option Files). Given h boxes (λ file. IsTextFile file bytes)) (sym frame.holds)
    (subst (λ (b : List ℕ). Given before.holds boxes (λ file. IsTextFile file b)) (sym c.deref.ensures.value) c.in_ok-text.ensures.ok) in
    rw (p.1, p.2)
    (answers-behind (boxes ∷ []) [] (λ files. with_input_file BoxesFile (boxes_of m) (get files boxes) (λ said. prints [])) (reading (boxes ∷ []) (CallsForRegions model boxes)) (input_cause fault) before after after
    (ends-input fault) refl
    (record { holds = frame.holds; written = refl; misses = frame.misses; taken = frame.taken; faults = frame.faults; output_faults = omega arith; once = c.read_text_file.ensures.once })
    (told-map before.holds _ _
    (λ files is. regions-refers model boxes files (λ fs. with_input_file BoxesFile (boxes_of m) (get fs boxes) (λ said. prints [])) (regions-behind_model model boxes digest m files is))
    told)
    (answers-input [] BoxesFile (boxes_of m) boxes bytes fault (λ said. prints []) after given c.in_err-said.ensures.value))

pub returns-in-Ok-clause-answers : goal.returns-in-Ok-clause-answers
returns-in-Ok-clause-answers g c model told =
    let m = c.args.found.now.model in
    let digest = c.args.found.now.digest in
    let boxes = c.args.boxes.now in
    let said = c.in_ok-said.said in
    let counts = c.in-Ok.counts in
    let r = c.in-Ok.ensures.report in
    let before : Outside = outside g.F.Folder g.O.Sink c.args.folder.now c.args.out.now in
    let after : Outside = outside g.F.Folder g.O.Sink c.read_text_file.new.folder c.write_regions.new.sink in
    let bytes = c.deref.result.now in
    let given : Given before.holds boxes (λ file. IsTextFile file bytes) =
    subst (λ (b : List ℕ). Given before.holds boxes (λ file. IsTextFile file b)) (sym c.deref.ensures.value) c.in_ok-text.ensures.ok in
    let read : Given before.holds boxes (λ file. IsInputFile (boxes_of m) file said) =
    told-map before.holds _ _ (λ files text. record { bytes = bytes; text = text; is_read = c.in_ok-said.ensures.value }) given in
    answers-printed (reading (boxes ∷ []) (CallsForRegions model boxes)) (report_cause counts.reported) (reports counts.reported r.0) before after (may_print-report_cause counts.reported)
    (told-both before.holds _ _ _ (λ files is_model is_boxes. inr (record {
      reported = counts.reported;
      text = r.0;
      report = record {
        m = m;
        said = said;
        audited = record { digest = digest; model_file = is_model; boxes_file = is_boxes; fits = c.in_ok-said.ensures.fits };
        counts = counts;
        report = r.1;
        count = refl;
      };
      is = refl;
    })) told read) refl
    (told-kept before.holds after.holds c.read_text_file.ensures.frame.holds) r.2 c.read_text_file.ensures.once

pub write_regions-requires : goal.write_regions-requires
write_regions-requires g c = grind (arith, common_steps)

pub returns-in_err-said-clause-folder : goal.returns-in_err-said-clause-folder
returns-in_err-said-clause-folder g c = grind (arith, common_steps)

pub returns-in_err-text-clause-folder : goal.returns-in_err-text-clause-folder
returns-in_err-text-clause-folder g c = grind (arith, common_steps)
