-- The ways out of a reader at a `?`.
use Rattle.std.proofs.Common.{◌≡◌, ◌≢◌, Result, Err, refl}
use Rattle.std.specs.Result.{IsErrAnd}
use Rattle.std.proofs.lemmas.Result.{err_from_is_err_and}
use Rattle.acas_doc.specs.Answers.{Fails, text_fault}
use Rattle.acas_doc.specs.declared.fault.DocFault.{DocFault}
use Rattle.acas_doc.specs.declared.fault.DocError.{DocError}
use Rattle.acas_doc.specs.declared.fault.DocError.TheVariants as errors
use Rattle.acas_doc.specs.declared.input_fault.InputFault.{InputFault}
use Rattle.acas_doc.specs.declared.input_fault.InputFault.TheVariants.{Doc, Memory}
use Rattle.acas_doc.specs.InputAnswers.{Gives}
use Rattle.acas_doc.specs.Input.{in_doc}

-- a reader gives this fault if the rules do, unless it says that memory ran out
pub out : {X Y : Type 0} (view : X → Y) (r : Result X InputFault) (f : InputFault) (rules : Result Y InputFault)
    → IsErrAnd r (λ e. e ≡ f) → (f ≢ Memory → rules ≡ Err f) → Gives view r rules
out view r f rules is gives = let p = err_from_is_err_and r is in rw (p.1, p.2) gives

-- a fault carried over from a getter is that of the rules, unless it says that memory ran out
pub carried : {Y : Type 0} (e : DocError) (r : Result Y DocFault)
    → Fails e r → text_fault Doc Memory e ≢ Memory → in_doc r ≡ Err (text_fault Doc Memory e)
carried (errors.Fault f) r fails is = rw fails refl
carried errors.Memory r fails is = absurd (is refl)
