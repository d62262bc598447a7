use Rattle.std.proofs.Common.{◌≡◌, ◌<◌, ◌≤◌, ℕ, get_or}
use Rattle.acas_spec.specs.Model.{states}
use Rattle.acas_base.specs.Advices.{AreAdvicesOf, advice_at}
use Rattle.acas_accept.proofs.keeping.keep_advices.Given as goal

abbrev pub invariant-loop-state : goal.invariant-loop-state
invariant-loop-state l = record {
  are : AreAdvicesOf l.model l.advices;
  here : (s : ℕ) → s < l.state → advice_at l.advices l.n s ≡ get_or l.advice s 0;
  below : (k s : ℕ) → 1 ≤ k → k < l.n → s < states l.model.grid → advice_at l.advices k s ≡ advice_at l.initial.advices k s;
}
