use Rattle.std.proofs.Common.{rules, ◌≡◌, w64, to_z, of_z, ap, ◌∙◌}
use Rattle.acas_means.specs.declared.layer.Side.TheVariants.{Upper, Lower}
use Rattle.acas_step_narrow.specs.Raised.{raised}
use Rattle.acas_step_narrow.proofs.RateSums.{are_summed, weighted_sum-along_v0, weighted_sum-within}
use Rattle.acas_step_narrow.proofs.raised.along_rates.Goals as goal

pub sum_by-upper-requires : goal.sum_by-upper-requires
sum_by-upper-requires c =
    (c.requires.weights.1, are_summed c.requires.weights.0 c.args.weights.now Upper c.args.below.now c.requires.weights.1 c.args.at c.args.row _ _ _ _ c.requires.weights.2 c.requires.weights.3 c.requires.place (search rules) (search rules) (search rules) (search rules))

pub sum_by-lower-requires : goal.sum_by-lower-requires
sum_by-lower-requires c =
    (c.requires.weights.1, are_summed c.requires.weights.0 c.args.weights.now Lower c.args.below.now c.requires.weights.1 c.args.at c.args.row _ _ _ _ c.requires.weights.2 c.requires.weights.4 c.requires.place (search rules) (search rules) (search rules) (search rules))

pub raise-requires-clause-within : goal.raise-requires-clause-within
raise-requires-clause-within c =
    let same : to_z w64 (of_z w64 c.sum_by-upper.result) ≡ c.sum_by-upper.result = search rules in
    weighted_sum-within c.requires.weights.0 c.args.weights.now Upper c.args.below.now c.requires.weights.1 c.args.at c.args.row (to_z w64 (of_z w64 c.sum_by-upper.result)) _ _ _ _ c.requires.weights.2 c.requires.weights.3 c.requires.place
    (search rules) (search rules) (search rules) (search rules) (same ∙ c.sum_by-upper.ensures)

pub raise-requires-2-clause-within : goal.raise-requires-2-clause-within
raise-requires-2-clause-within c =
    let same : to_z w64 (of_z w64 c.sum_by-lower.result) ≡ c.sum_by-lower.result = search rules in
    weighted_sum-within c.requires.weights.0 c.args.weights.now Lower c.args.below.now c.requires.weights.1 c.args.at c.args.row (to_z w64 (of_z w64 c.sum_by-lower.result)) _ _ _ _ c.requires.weights.2 c.requires.weights.4 c.requires.place
    (search rules) (search rules) (search rules) (search rules) (same ∙ c.sum_by-lower.ensures)

pub returns-clause-upper : goal.returns-clause-upper
returns-clause-upper c t by is within =
    let same : to_z w64 (of_z w64 c.sum_by-upper.result) ≡ c.sum_by-upper.result = search rules in
    weighted_sum-along_v0 t c.args.weights.now Upper c.args.below.now by c.args.at c.args.row c.raise.result _ _ _ _ is within c.requires.place (search rules) (search rules) (search rules) (search rules)
    (c.raise.ensures.value ∙ ap (λ z. raised c.args.weights.now.most z) (same ∙ c.sum_by-upper.ensures))

pub returns-clause-lower : goal.returns-clause-lower
returns-clause-lower c t by is within =
    let same : to_z w64 (of_z w64 c.sum_by-lower.result) ≡ c.sum_by-lower.result = search rules in
    weighted_sum-along_v0 t c.args.weights.now Lower c.args.below.now by c.args.at c.args.row c.raise-2.result _ _ _ _ is within c.requires.place (search rules) (search rules) (search rules) (search rules)
    (c.raise-2.ensures.value ∙ ap (λ z. raised c.args.weights.now.most z) (same ∙ c.sum_by-lower.ensures))
