use Rattle.std.proofs.Common.{refl, arith}
use Rattle.std.proofs.lemmas.Grind.{common_steps}
use Rattle.acas_boxes.specs.Whole.{boxes_in}
use Rattle.acas_boxes.proofs.Ways.{carried, out}
use Rattle.acas_boxes.proofs.whole.boxes_in.Goals as goal

pub returns-in_err-only_keys-clause-value : goal.returns-in_err-only_keys-clause-value
unfolding boxes_in
returns-in_err-only_keys-clause-value c = out _ _ _ _ c.from_residual.ensures.1 (λ is.
    rw (carried c.in_err-only_keys.field-0.0 _ c.in_err-only_keys.ensures is) refl)

pub returns-in_err-items-clause-value : goal.returns-in_err-items-clause-value
unfolding boxes_in
returns-in_err-items-clause-value c =
    out _ _ _ _ c.from_residual-in_err-items.ensures.1 (λ is.
    rw (c.in_ok-only_keys.ensures, c.in_ok-version_of.ensures, carried c.in_err-items.field-0.0 _ c.in_err-items.ensures.value is) refl)

pub returns-in_err-boxes-clause-value : goal.returns-in_err-boxes-clause-value
unfolding boxes_in
returns-in_err-boxes-clause-value c =
    out _ _ _ _ c.from_residual-in_err-boxes.ensures.1 (λ is.
    rw (c.in_ok-only_keys.ensures, c.in_ok-version_of.ensures, c.in_ok-items.ensures.value, c.in_err-boxes.ensures.value is) refl)

pub returns-clause-value : goal.returns-clause-value
unfolding boxes_in
returns-clause-value c = rw (c.in_ok-only_keys.ensures, c.in_ok-version_of.ensures, c.in_ok-items.ensures.value, c.in_ok-boxes.ensures.value, c.new.ensures) refl

pub returns-clause-fits : goal.returns-clause-fits
returns-clause-fits c = grind (arith, common_steps)
