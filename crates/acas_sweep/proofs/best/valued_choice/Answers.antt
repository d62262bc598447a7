use Rattle.std.proofs.Common.{◌≡◌, ℕ, ℤ, ◌+ℤ◌, ap, ◌∙◌, rules, w64, arith}
use Rattle.std.proofs.lemmas.Int.{to_z-of_z}
use Rattle.acas_means.specs.Layer.{value_at}
use Rattle.acas_means.specs.declared.layer.Side.TheVariants.{Lower, Upper}
use Rattle.acas_sweep.proofs.best.valued_choice.Goals as goal
use mir.Val.{SFits}

-- the same value at the number of an advisory, by the cost that it has
priced : (value cost own : ℤ) (mean : ℕ → ℤ) (place advisory : ℕ) → value ≡ mean place +ℤ cost → place ≡ advisory → cost ≡ own → value ≡ mean advisory +ℤ own
priced value cost own mean place advisory is at same = is ∙ ap (λ (k : ℕ). mean k +ℤ cost) at ∙ ap (λ z. mean advisory +ℤ z) same

pub values_by_cost-requires-clause-upper : goal.values_by_cost-requires-clause-upper
values_by_cost-requires-clause-upper c = c.requires.means.each Upper c.from.result (omega (arith, c.from.ensures, c.requires.choice.inside))

pub values_by_cost-requires-clause-lower : goal.values_by_cost-requires-clause-lower
values_by_cost-requires-clause-lower c = c.requires.means.each Lower c.from.result (omega (arith, c.from.ensures, c.requires.choice.inside))

pub returns : goal.returns
returns c =
    let means = c.args.vertex_means.now in
    let choice = c.args.choice.now in
    let fits : SFits w64 choice.cost = search rules in
    let upper : c.values_by_cost.result.upper ≡ value_at Upper means c.from.result +ℤ choice.cost = simp to_z-of_z at c.values_by_cost.ensures.upper in
    let lower : c.values_by_cost.result.lower ≡ value_at Lower means c.from.result +ℤ choice.cost = simp to_z-of_z at c.values_by_cost.ensures.lower in
    record {
      upper = priced _ choice.cost _ (value_at Upper means) c.from.result choice.advisory upper c.from.ensures c.requires.choice.cost;
      lower = priced _ choice.cost _ (value_at Lower means) c.from.result choice.advisory lower c.from.ensures c.requires.choice.cost;
    }
