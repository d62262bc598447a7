use Rattle.std.proofs.Common.{refl}
use Rattle.std.proofs.lemmas.Result.{err_from_is_err_and}
use Rattle.acas_model.specs.Axes.{axes_of}
use Rattle.acas_model.proofs.axes.axes_of.Goals as goal

pub returns-in_err-v1 : goal.returns-in_err-v1
unfolding axes_of
returns-in_err-v1 c =
    let p = err_from_is_err_and c.from_residual-in_err-v1.result c.from_residual-in_err-v1.ensures.1 in
    rw (p.1, p.2) (λ not_memory. rw (c.in_ok-grid.ensures, c.in_ok-h.ensures, c.in_ok-v0.ensures, c.in_err-v1.ensures not_memory) refl)

pub returns : goal.returns
unfolding axes_of
returns c = rw (c.in_ok-grid.ensures, c.in_ok-h.ensures, c.in_ok-v0.ensures, c.in_ok-v1.ensures) refl
