use Rattle.std.proofs.Common.{◌≡◌, ℕ, ◌+◌, ◌*◌, ◌^◌, ◌<◌, length}
use Rattle.acas_spec.specs.Model.{states}
use Rattle.acas_means.specs.Layer.{AreWithin}
use Rattle.acas_means.specs.declared.layer.Side.{Side}
use Rattle.acas_risk.specs.Counts.{model_counting}
use Rattle.acas_risk.specs.Layers.{given_at}
use Rattle.acas_risk.specs.Pairs.{ArePairsOf}
use Rattle.acas_risk.specs.Plans.{policy_of}
use Rattle.acas_risk.proofs.valuation.plan_values.Given as goal

abbrev pub invariant-loop-n : goal.invariant-loop-n
invariant-loop-n g l = record {
  pairs : ArePairsOf (model_counting l.fn.counted l.model) (policy_of l.model l.plan) l.n l.below.items;
  small : (side : Side) → AreWithin ((l.n + 1) * 10 ^ 15) side l.below.items;
  room : length l.above.items ≡ states l.model.grid;
  known : (k s : ℕ) → k < l.n → s < states l.model.grid → given_at l.model.grid (policy_of l.model l.plan) (k + 1) s < l.model.grid.advisories;
}
