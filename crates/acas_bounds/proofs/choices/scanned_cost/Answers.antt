use Rattle.std.proofs.Common.{sym, arith}
use Rattle.acas_bounds.proofs.Allowed.{allowed_cost-none}
use Rattle.acas_bounds.proofs.choices.scanned_cost.Goals as goal

pub returns-clause-value : goal.returns-clause-value
returns-clause-value c =
    sym (allowed_cost-none c.args.model.now c.args.present c.args.advisory (λ k h. c.loop-place.invariant k (omega (arith, c.choice_count-place-end.ensures.value))))
