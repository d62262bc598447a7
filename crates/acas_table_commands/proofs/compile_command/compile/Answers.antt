use Rattle.std.proofs.Common.{[], ◌∷◌, Option, refl, subst, sym, arith}
use Rattle.std.specs.FinMap.{get}
use Rattle.acas_outside.specs.Outside.{Outside, outside}
use Rattle.acas_outside.specs.Files.{Files, Given}
use Rattle.acas_command.specs.Answers.{ended}
use Rattle.acas_command.specs.ModelFile.{IsModelFile}
use Rattle.acas_command.proofs.Behind.{answers-from-one}
use Rattle.acas_table_commands.specs.Calls.{compile_of}
use Rattle.acas_table_commands.specs.Work.{EndsUnswept}
use Rattle.acas_table_commands.proofs.Swept.{answered, counts_nothing, counts_sweep}
use Rattle.acas_table_commands.proofs.Worth.{rest_of_compile}
use Rattle.acas_table_commands.proofs.compile_command.compile.Goals as goal

pub returns-in_err-found-clause-answers : goal.returns-in_err-found-clause-answers
returns-in_err-found-clause-answers g c =
    rw (answered c.from_residual.result c.from_residual.ensures.1) (c.in_err-found.ensures.err [] (λ files digest m. rest_of_compile c.args.table.now digest m) _ _)

pub returns-clause-answers : goal.returns-clause-answers
returns-clause-answers g c =
    let model = c.args.model.now in
    let found = c.in_ok-found.found in
    let before : Outside = outside g.F.Folder g.O.Sink c.args.folder.now c.args.out.now in
    let mid : Outside = outside g.F.Folder g.O.Sink c.read_model_file.new.folder c.args.out.now in
    let after : Outside = outside g.F.Folder g.O.Sink c.store_compiled.new.folder c.store_compiled.new.out in
    let frame = c.read_model_file.ensures.frame in
    let given : Given mid.holds model (λ file. IsModelFile file found.digest found.model) =
    subst (λ (h : Option Files). Given h model (λ file. IsModelFile file found.digest found.model)) (sym frame.holds) c.in_ok-found.ensures.ok in
    answers-from-one (model ∷ []) [] (λ files. compile_of (get files model) c.args.table.now) (ended c.store_compiled.result) before mid after
    (record { holds = frame.holds; written = refl; misses = frame.misses; taken = frame.taken; faults = frame.faults; output_faults = omega arith; once = c.read_model_file.ensures.once })
    (c.store_compiled.ensures.answers model given)

pub returns-in_err-found-clause-work : goal.returns-in_err-found-clause-work
returns-in_err-found-clause-work g c =
    rw (answered c.from_residual.result c.from_residual.ensures.1) (counts_nothing EndsUnswept (g.F.Folder.holds c.args.folder.now) c.args.model.now c.in_err-found.field-0.0 c.args.backups.now c.args.turned.now c.in_err-found.ensures.refused)

pub returns-clause-work : goal.returns-clause-work
returns-clause-work g c =
    let swept = c.store_compiled.ensures in
    counts_sweep EndsUnswept _ _ c.in_ok-found.found.digest c.in_ok-found.found.model _ _ _ _ _ c.in_ok-found.ensures.within c.in_ok-found.ensures.ok swept.counted swept.turns swept.no_backups swept.no_turns
