use Rattle.std.proofs.Common.{ℕ, List, refl, ◌∙◌, Option, inr, subst, sym, arith, rules, [], ◌∷◌}
use Rattle.std.proofs.lemmas.Grind.{common_steps}
use Rattle.std.specs.Prelude.{IfSome}
use Rattle.std.specs.FinMap.{get}
use Rattle.std.proofs.lemmas.Result.{err_from_is_err_and}
use Rattle.acas_base.specs.Advices.{AreAdvices}
use Rattle.acas_outside.specs.Counts.{Rose}
use Rattle.acas_outside.specs.Files.{Files, Given}
use Rattle.acas_outside.specs.Outside.{Outside, outside}
use Rattle.acas_outside.proofs.Once.{takes_both}
use Rattle.acas_replay.specs.Whole.{encounter_of}
use Rattle.acas_command.specs.Called.{reading}
use Rattle.acas_command.specs.Calls.{input_cause, with_input}
use Rattle.acas_command.specs.InputFile.{IsInputFile}
use Rattle.acas_command.specs.TextFile.{IsTextFile}
use Rattle.acas_command.specs.declared.status.FileRole.TheVariants.{Encounter as EncounterFile}
use Rattle.acas_command.proofs.Inputs.{answers-input, ends-input}
use Rattle.acas_command.specs.ModelFile.{IsModelFile}
use Rattle.acas_command.specs.Outcome.{prints, reports}
use Rattle.acas_command.specs.declared.status.Cause.TheVariants.{Done}
use Rattle.acas_command.proofs.Behind.{answers-behind, answers-printed, told-both, told-kept, told-map}
use Rattle.acas_command.proofs.Reports.{answers-begun, answers-refer}
use Rattle.acas_table_file.specs.AcceptedFile.{IsTableFile}
use Rattle.acas_table_file.specs.Calls.{with_table}
use Rattle.acas_encounter_commands.specs.Calls.{CallsForReplay, IsReplayBegun, IsReplayText, IsReplayed, encounter_looked_at, replay_looks_at}
use Rattle.acas_encounter_commands.proofs.Files.{replay-behind_model, replay-behind_table, replay-refers}
use Rattle.acas_encounter_commands.proofs.replay_command.fly.Goals as goal

pub returns-in_err-advices-clause-answers : goal.returns-in_err-advices-clause-answers
returns-in_err-advices-clause-answers g c model told =
    let m = c.args.found.now.model in
    let digest = c.args.found.now.digest in
    let table = c.args.table.now in
    let encounter = c.args.encounter.now in
    let before : Outside = outside g.F.Folder g.O.Sink c.args.folder.now c.args.out.now in
    let after : Outside = outside g.F.Folder g.O.Sink c.read_table_file.new.folder c.args.out.now in
    let p = err_from_is_err_and c.from_residual.result c.from_residual.ensures.1 in
    rw (p.1, p.2)
    (answers-refer (λ files. with_table m digest (get files table) (λ bytes. encounter_looked_at encounter files m)) (reading (table ∷ encounter ∷ []) (CallsForReplay model table encounter)) c.in_err-advices.field-0.0 before after c.in_err-advices.ensures.refused
    (told-map before.holds _ _
    (λ files is. replay-refers model table encounter files (λ fs. with_table m digest (get fs table) (λ bytes. encounter_looked_at encounter fs m)) (replay-behind_model model table encounter digest m files is))
    told)
    (c.in_err-advices.ensures.err (encounter ∷ []) (λ files bytes. encounter_looked_at encounter files m) _ _))

pub returns-in_err-text-clause-answers : goal.returns-in_err-text-clause-answers
returns-in_err-text-clause-answers g c model told =
    let m = c.args.found.now.model in
    let digest = c.args.found.now.digest in
    let table = c.args.table.now in
    let encounter = c.args.encounter.now in
    let advices = c.in_ok-advices.advices in
    let before : Outside = outside g.F.Folder g.O.Sink c.args.folder.now c.args.out.now in
    let mid : Outside = outside g.F.Folder g.O.Sink c.read_table_file.new.folder c.args.out.now in
    let after : Outside = outside g.F.Folder g.O.Sink c.read_text_file.new.folder c.args.out.now in
    let second = c.read_table_file.ensures.frame in
    let p = err_from_is_err_and c.from_residual-in_err-text.result c.from_residual-in_err-text.ensures.1 in
    let accepted = c.in_ok-advices.ensures.ok in
    rw (p.1, p.2)
    (answers-behind (table ∷ []) (encounter ∷ []) (λ files. encounter_looked_at encounter files m) (reading (table ∷ encounter ∷ []) (CallsForReplay model table encounter)) c.in_err-text.field-0.0 before mid after
    c.in_err-text.ensures.refused refl
    (record { holds = second.holds; written = refl; misses = second.misses; taken = second.taken; faults = second.faults; output_faults = omega arith; once = c.read_table_file.ensures.once })
    (told-both before.holds _ _ _
    (λ files is is_table. replay-refers model table encounter files (λ fs. encounter_looked_at encounter fs m) (replay-behind_table model table encounter digest m advices files is is_table))
    told accepted)
    (c.in_err-text.ensures.err [] (λ files bytes. with_input (encounter_of m bytes) (λ flown. prints [])) _ _))

pub returns-in_err-flown-clause-answers : goal.returns-in_err-flown-clause-answers
returns-in_err-flown-clause-answers g c model told =
    let m = c.args.found.now.model in
    let digest = c.args.found.now.digest in
    let table = c.args.table.now in
    let encounter = c.args.encounter.now in
    let advices = c.in_ok-advices.advices in
    let before : Outside = outside g.F.Folder g.O.Sink c.args.folder.now c.args.out.now in
    let after : Outside = outside g.F.Folder g.O.Sink c.read_text_file.new.folder c.args.out.now in
    let second = c.read_table_file.ensures.frame in
    let third = c.read_text_file.ensures.frame in
    let bytes = c.deref.result.now in
    let fault = c.in_err-flown.field-0.0 in
    let p = err_from_is_err_and c.from_residual-in_err-flown.result c.from_residual-in_err-flown.ensures.1 in
    let accepted = c.in_ok-advices.ensures.ok in
    let given : Given after.holds encounter (λ file. IsTextFile file bytes) =
    subst (λ (h : Option Files). Given h encounter (λ file. IsTextFile file bytes)) (sym third.holds)
    (subst (λ (b : List ℕ). Given (g.F.Folder.holds c.read_table_file.new.folder) encounter (λ file. IsTextFile file b)) (sym c.deref.ensures.value) c.in_ok-text.ensures.ok) in
    rw (p.1, p.2)
    (answers-behind (table ∷ encounter ∷ []) [] (λ files. encounter_looked_at encounter files m) (reading (table ∷ encounter ∷ []) (CallsForReplay model table encounter)) (input_cause fault) before after after
    (ends-input fault) refl
    (record {
      holds = third.holds ∙ second.holds;
      written = refl;
      misses = omega (arith, second.misses, third.misses);
      taken = omega (arith, second.taken, third.taken);
      faults = omega (arith, second.faults, third.faults);
      output_faults = omega arith;
      once = takes_both (table ∷ []) (encounter ∷ []) (g.F.Folder.holds c.args.folder.now) (g.F.Folder.holds c.read_table_file.new.folder) _ _ _ second.holds c.read_table_file.ensures.once c.read_text_file.ensures.once;
    })
    (told-both before.holds _ _ _
    (λ files is is_table. replay-refers model table encounter files (λ fs. encounter_looked_at encounter fs m) (replay-behind_table model table encounter digest m advices files is is_table))
    told accepted)
    (answers-input [] EncounterFile (encounter_of m) encounter bytes fault (λ flown. prints []) after given c.in_err-flown.ensures.value))

pub returns-in-Ok-clause-answers : goal.returns-in-Ok-clause-answers
returns-in-Ok-clause-answers g c model told =
    let m = c.args.found.now.model in
    let digest = c.args.found.now.digest in
    let table = c.args.table.now in
    let encounter = c.args.encounter.now in
    let advices = c.in_ok-advices.advices in
    let flown = c.in_ok-flown.flown in
    let r = c.in-Ok.ensures.replay in
    let before : Outside = outside g.F.Folder g.O.Sink c.args.folder.now c.args.out.now in
    let after : Outside = outside g.F.Folder g.O.Sink c.read_text_file.new.folder c.replay.new.sink in
    let second = c.read_table_file.ensures.frame in
    let accepted = c.in_ok-advices.ensures.ok in
    let bytes = c.deref.result.now in
    let given : Given before.holds encounter (λ file. IsTextFile file bytes) =
    subst (λ (h : Option Files). Given h encounter (λ file. IsTextFile file bytes)) second.holds
    (subst (λ (b : List ℕ). Given (g.F.Folder.holds c.read_table_file.new.folder) encounter (λ file. IsTextFile file b)) (sym c.deref.ensures.value) c.in_ok-text.ensures.ok) in
    let read : Given before.holds encounter (λ file. IsInputFile (encounter_of m) file flown) =
    told-map before.holds _ _ (λ files text. record { bytes = bytes; text = text; is_read = c.in_ok-flown.ensures.value }) given in
    let replayed : IfSome before.holds (λ files. IsReplayed model table encounter files m advices flown) =
    told-both before.holds _ _ _ (λ files both is_encounter. record {
      advised = record { digest = digest; model_file = both.0; table_file = both.1; fits = c.in_ok-advices.ensures.advices; known = subst AreAdvices c.advices.view_is c.advices.invariant };
      encounter_file = is_encounter;
      fits = c.in_ok-flown.ensures.fits;
    }) (told-both before.holds _ _ (λ files. IsModelFile (get files model) digest m × IsTableFile m digest (get files table) advices) (λ files is is_table. (is, is_table)) told accepted) read in
    answers-printed (reading (table ∷ encounter ∷ []) (CallsForReplay model table encounter)) Done (reports 0 r.0) before after tt
    (told-map before.holds _ _ (λ files is. inr (record {
      reported = 0;
      text = r.0;
      report = record { m = m; advices = advices; flown = flown; replayed = is; contacts = _; replay = r.1; none = refl };
      is = refl;
    })) replayed) refl
    (told-kept before.holds after.holds (c.read_text_file.ensures.frame.holds ∙ second.holds)) r.2
    (takes_both (table ∷ []) (encounter ∷ []) (g.F.Folder.holds c.args.folder.now) (g.F.Folder.holds c.read_table_file.new.folder) _ _ _ second.holds c.read_table_file.ensures.once c.read_text_file.ensures.once)

pub returns-in-Err-Sink-clause-answers : goal.returns-in-Err-Sink-clause-answers
returns-in-Err-Sink-clause-answers g c model told =
    let m = c.args.found.now.model in
    let digest = c.args.found.now.digest in
    let table = c.args.table.now in
    let encounter = c.args.encounter.now in
    let advices = c.in_ok-advices.advices in
    let flown = c.in_ok-flown.flown in
    let r = c.in-Err-Sink.ensures.part (search rules) in
    let before : Outside = outside g.F.Folder g.O.Sink c.args.folder.now c.args.out.now in
    let after : Outside = outside g.F.Folder g.O.Sink c.read_text_file.new.folder c.replay.new.sink in
    let second = c.read_table_file.ensures.frame in
    let rose : Rose before.output_faults after.output_faults = search rules in
    let accepted = c.in_ok-advices.ensures.ok in
    let bytes = c.deref.result.now in
    let given : Given before.holds encounter (λ file. IsTextFile file bytes) =
    subst (λ (h : Option Files). Given h encounter (λ file. IsTextFile file bytes)) second.holds
    (subst (λ (b : List ℕ). Given (g.F.Folder.holds c.read_table_file.new.folder) encounter (λ file. IsTextFile file b)) (sym c.deref.ensures.value) c.in_ok-text.ensures.ok) in
    let read : Given before.holds encounter (λ file. IsInputFile (encounter_of m) file flown) =
    told-map before.holds _ _ (λ files text. record { bytes = bytes; text = text; is_read = c.in_ok-flown.ensures.value }) given in
    let replayed : IfSome before.holds (λ files. IsReplayed model table encounter files m advices flown) =
    told-both before.holds _ _ _ (λ files both is_encounter. record {
      advised = record { digest = digest; model_file = both.0; table_file = both.1; fits = c.in_ok-advices.ensures.advices; known = subst AreAdvices c.advices.view_is c.advices.invariant };
      encounter_file = is_encounter;
      fits = c.in_ok-flown.ensures.fits;
    }) (told-both before.holds _ _ (λ files. IsModelFile (get files model) digest m × IsTableFile m digest (get files table) advices) (λ files is is_table. (is, is_table)) told accepted) read in
    answers-begun (table ∷ encounter ∷ []) (replay_looks_at model table encounter) (IsReplayText model table encounter) (IsReplayBegun model table encounter) before after
    (told-map before.holds _ _ (λ files is. record {
      text = r.1;
      replay = record { m = m; advices = advices; flown = flown; replayed = is; contacts = r.0; replay = r.2; none = refl };
      part = r.3;
    }) replayed)
    (told-kept before.holds after.holds (c.read_text_file.ensures.frame.holds ∙ second.holds)) rose
    (takes_both (table ∷ []) (encounter ∷ []) (g.F.Folder.holds c.args.folder.now) (g.F.Folder.holds c.read_table_file.new.folder) _ _ _ second.holds c.read_table_file.ensures.once c.read_text_file.ensures.once)

pub returns-in-Err-Sink-clause-folder : goal.returns-in-Err-Sink-clause-folder
returns-in-Err-Sink-clause-folder g c = search rules

pub returns-in_err-flown-clause-folder : goal.returns-in_err-flown-clause-folder
returns-in_err-flown-clause-folder g c = grind (arith, common_steps)

pub returns-in-Err-Sink-clause-output : goal.returns-in-Err-Sink-clause-output
returns-in-Err-Sink-clause-output g c = grind (arith, common_steps)

pub returns-in-Ok-clause-folder : goal.returns-in-Ok-clause-folder
returns-in-Ok-clause-folder g c = search rules

pub returns-in_err-advices-clause-folder : goal.returns-in_err-advices-clause-folder
returns-in_err-advices-clause-folder g c = grind (arith, common_steps)

pub returns-in_err-text-clause-folder : goal.returns-in_err-text-clause-folder
returns-in_err-text-clause-folder g c = grind (arith, common_steps)

pub returns-in-Ok-clause-output : goal.returns-in-Ok-clause-output
returns-in-Ok-clause-output g c = grind (arith, common_steps)
