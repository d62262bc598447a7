use Rattle.std.proofs.Common.{◌≡◌, ℕ, ◌<◌, length}
use Rattle.acas_spec.specs.Model.{states}
use Rattle.acas_means.specs.Layer.{pair_at}
use Rattle.acas_risk.proofs.Valued.{IsEnding}
use Rattle.acas_risk.proofs.layer.put_endings.Given as goal

abbrev pub invariant-loop-state : goal.invariant-loop-state
invariant-loop-state l = record {
  count : length l.pairs ≡ states l.model.grid;
  ended : (s : ℕ) → s < l.state → IsEnding l.counted l.model s (pair_at l.pairs s);
}
