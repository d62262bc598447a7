use Rattle.std.proofs.Common.{refl, Option, subst, sym, arith, [], ◌∷◌}
use Rattle.std.specs.FinMap.{get}
use Rattle.std.proofs.lemmas.Result.{err_from_is_err_and}
use Rattle.acas_outside.specs.Files.{Files, Given}
use Rattle.acas_outside.specs.Outside.{Outside, outside}
use Rattle.acas_command.specs.Answers.{report_ended}
use Rattle.acas_command.specs.Outcome.{prints}
use Rattle.acas_command.proofs.Behind.{answers-from-report}
use Rattle.acas_command.proofs.Reports.{answers-refer, told-all}
use Rattle.acas_boxes.specs.Whole.{boxes_of}
use Rattle.acas_command.specs.Calls.{with_input_file}
use Rattle.acas_command.specs.ModelFile.{IsModelFile}
use Rattle.acas_command.specs.declared.status.FileRole.TheVariants.{Boxes as BoxesFile}
use Rattle.acas_box_commands.specs.RegionsCalls.{CallsForRegions, IsRegionsBegun, IsRegionsText, regions_looks_at}
use Rattle.acas_box_commands.proofs.RegionsFiles.{regions-refers}
use Rattle.acas_box_commands.proofs.regions_command.regions.Goals as goal

pub returns-in_err-found-clause-answers : goal.returns-in_err-found-clause-answers
returns-in_err-found-clause-answers g c =
    let model = c.args.model.now in
    let boxes = c.args.boxes.now in
    let before : Outside = outside g.F.Folder g.O.Sink c.args.folder.now c.args.out.now in
    let after : Outside = outside g.F.Folder g.O.Sink c.read_model_file.new.folder c.args.out.now in
    let p = err_from_is_err_and c.from_residual.result c.from_residual.ensures.1 in
    rw (p.1, p.2)
    (answers-refer (regions_looks_at model boxes) (CallsForRegions model boxes) c.in_err-found.field-0.0 before after c.in_err-found.ensures.refused
    (told-all before.holds _ (λ files. regions-refers model boxes files (regions_looks_at model boxes) refl))
    (c.in_err-found.ensures.err (boxes ∷ []) (λ files digest m. with_input_file BoxesFile (boxes_of m) (get files boxes) (λ said. prints [])) _ _))

pub returns-clause-answers : goal.returns-clause-answers
returns-clause-answers g c =
    let model = c.args.model.now in
    let boxes = c.args.boxes.now in
    let found = c.in_ok-found.found in
    let before : Outside = outside g.F.Folder g.O.Sink c.args.folder.now c.args.out.now in
    let mid : Outside = outside g.F.Folder g.O.Sink c.read_model_file.new.folder c.args.out.now in
    let after : Outside = outside g.F.Folder g.O.Sink c.rule_on_boxes.new.folder c.rule_on_boxes.new.out in
    let frame = c.read_model_file.ensures.frame in
    let given : Given mid.holds model (λ file. IsModelFile file found.digest found.model) =
    subst (λ (h : Option Files). Given h model (λ file. IsModelFile file found.digest found.model)) (sym frame.holds) c.in_ok-found.ensures.ok in
    answers-from-report (model ∷ []) (boxes ∷ []) (regions_looks_at model boxes) (IsRegionsText model boxes) (IsRegionsBegun model boxes) (report_ended c.rule_on_boxes.result) before mid after
    (record { holds = frame.holds; written = refl; misses = frame.misses; taken = frame.taken; faults = frame.faults; output_faults = omega arith; once = c.read_model_file.ensures.once })
    (c.rule_on_boxes.ensures.answers model given)
