-- The fault that a `?` answers.
use Rattle.std.proofs.Common.{◌≡◌, Result, Err, IsErrAnd, ◌∙◌, ap}
use Rattle.std.proofs.lemmas.Result.{err_from_is_err_and}
use Rattle.acas_table_text.specs.declared.fault.TableFault.{TableFault}

pub answered : {T : Type 0} {fault : TableFault} (r : Result T TableFault) → IsErrAnd r (λ e. e ≡ fault) → r ≡ Err fault
answered r h = let p = err_from_is_err_and r h in p.1 ∙ ap (λ (e : TableFault). Err e) p.2
