use Rattle.std.proofs.Common.{[], ◌∷◌, Option, refl, subst, sym, arith}
use Rattle.std.specs.FinMap.{get}
use Rattle.std.proofs.lemmas.Result.{err_from_is_err_and}
use Rattle.acas_outside.specs.Outside.{Outside, outside}
use Rattle.acas_command.proofs.Behind.{answers-from-one}
use Rattle.acas_risk_commands.specs.Calls.{risk_of}
use Rattle.acas_risk_commands.proofs.Files.{rest_of_risk}
use Rattle.acas_outside.specs.Files.{Files, Given}
use Rattle.acas_command.specs.Answers.{ended}
use Rattle.acas_command.specs.ModelFile.{IsModelFile}
use Rattle.acas_risk_commands.proofs.risk_command.risk.Goals as goal

pub returns-in_err-found-clause-answers : goal.returns-in_err-found-clause-answers
returns-in_err-found-clause-answers g c =
    let p = err_from_is_err_and c.from_residual.result c.from_residual.ensures.1 in
    rw (p.1, p.2) (c.in_err-found.ensures.err (c.args.table.now ∷ []) (λ files digest m. rest_of_risk (get files c.args.table.now) digest m) _ _)

pub returns-clause-answers : goal.returns-clause-answers
returns-clause-answers g c =
    let model = c.args.model.now in
    let table = c.args.table.now in
    let found = c.in_ok-found.found in
    let before : Outside = outside g.F.Folder g.O.Sink c.args.folder.now c.args.out.now in
    let mid : Outside = outside g.F.Folder g.O.Sink c.read_model_file.new.folder c.args.out.now in
    let after : Outside = outside g.F.Folder g.O.Sink c.print_risk.new.folder c.print_risk.new.out in
    let frame = c.read_model_file.ensures.frame in
    let given : Given mid.holds model (λ file. IsModelFile file found.digest found.model) =
    subst (λ (h : Option Files). Given h model (λ file. IsModelFile file found.digest found.model)) (sym frame.holds) c.in_ok-found.ensures.ok in
    answers-from-one (model ∷ []) (table ∷ []) (λ files. risk_of (get files model) (get files table)) (ended c.print_risk.result) before mid after
    (record { holds = frame.holds; written = refl; misses = frame.misses; taken = frame.taken; faults = frame.faults; output_faults = omega arith; once = c.read_model_file.ensures.once })
    (c.print_risk.ensures.answers model given)
