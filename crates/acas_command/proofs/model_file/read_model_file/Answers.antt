use Rattle.std.proofs.Common.{arith}
use Rattle.std.proofs.lemmas.Grind.{common_steps}
use Rattle.std.proofs.lemmas.Result.{err_from_is_err_and}
use Rattle.sha2.specs.Sha256.{sha256}
use Rattle.acas_model.specs.Whole.{model_of}
use Rattle.acas_command.specs.Calls.{with_reading}
use Rattle.acas_command.proofs.model_file.read_model_file.Goals as goal

pub returns-in_err-bytes-clause-err : goal.returns-in_err-bytes-clause-err
returns-in_err-bytes-clause-err g c =
    let p = err_from_is_err_and c.from_residual.result c.from_residual.ensures.1 in
    rw (p.1, p.2) (λ more rest written output_faults. c.in_err-bytes.ensures.err more (λ files bytes. with_reading (model_of bytes) (rest files (sha256 bytes))) written output_faults)

pub returns-in-Ok : goal.returns-in-Ok
returns-in-Ok g c = grind (arith, common_steps)

pub returns-in-Err-Memory : goal.returns-in-Err-Memory
returns-in-Err-Memory g c = grind (arith, common_steps)

pub returns : goal.returns
returns g c = grind (arith, common_steps)
