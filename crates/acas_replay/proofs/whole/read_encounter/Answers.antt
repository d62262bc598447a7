use Rattle.std.proofs.Common.{refl}
use Rattle.std.proofs.lemmas.Result.{err_from_is_err_and}
use Rattle.acas_replay.specs.Whole.{encounter_of}
use Rattle.acas_replay.proofs.Faults.{fault_is_of_encounter, given_fault}
use Rattle.acas_replay.proofs.whole.read_encounter.Goals as goal

pub returns-in_err-document-clause-fault : goal.returns-in_err-document-clause-fault
unfolding encounter_of
returns-in_err-document-clause-fault c =
    let p = err_from_is_err_and c.from_residual.result c.from_residual.ensures.1 in
    rw (p.1, p.2) (fault_is_of_encounter c.args.model.now c.args.bytes.now c.in_err-document.field-0.0 (λ other. rw (c.in_err-document.ensures other) refl))

pub returns-clause-fault : goal.returns-clause-fault
unfolding encounter_of
returns-clause-fault c = given_fault (λ e. e) c.encounter_in.result c.args.model.now c.args.bytes.now (rw c.in_ok-document.ensures c.encounter_in.ensures.value)
