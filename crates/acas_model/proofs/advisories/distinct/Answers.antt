use Rattle.std.proofs.Common.{◌≡◌, ◌+◌, ◌++◌, ◌∷◌, [], take, ◌∙◌}
use Rattle.std.proofs.lemmas.List.{take_more, take_all}
use Rattle.std.proofs.lemmas.Result.{err_from_is_err_and}
use Rattle.acas_spec.proofs.Each.{goes_on, ends, is_done}
use Rattle.acas_model.proofs.advisories.distinct.Goals as goal

pub returns-in_err-new_name : goal.returns-in_err-new_name
returns-in_err-new_name c =
    let p = err_from_is_err_and c.from_residual.result c.from_residual.ensures.1 in
    let a = c.index-advisories-place in
    rw (p.1, p.2) (ends _ _ _ _ a.result _ _ c.loop-place.invariant c.loop-place-test.true (λ (_ : Unit {0}). rw (← a.is) c.in_err-new_name.ensures) tt)

pub loop-place-preserved : goal.loop-place-preserved
loop-place-preserved c =
    let a = c.index-advisories-place in
    let xs = c.args.advisories.now in
    let pushed : take (c.loop-place.place + 1) xs ≡ take c.loop-place.place xs ++ a.result ∷ [] = take_more xs c.loop-place.place a.result c.loop-place-test.true ∙ rw (← a.is) in
    goes_on _ _ _ _ _ a.result _ a.result c.loop-place.invariant c.loop-place-test.true (rw (← a.is) c.in_ok-new_name.ensures) pushed

pub returns : goal.returns
returns c = is_done _ _ _ _ _ c.loop-place.invariant c.loop-place-test.false ∙ rw (take_all c.loop-place.place c.args.advisories.now c.loop-place-test.false)
