use Rattle.std.proofs.Common.{ℕ, ◌+◌, ◌<◌, sym, subst, arith, rules}
use Rattle.std.proofs.lemmas.Grind.{common_steps}
use Rattle.acas_bounds.proofs.Planes.{from_first-below}
use Rattle.acas_bounds.proofs.near.upper_mean.Goals as goal

pub offset_bounds-means-choice : goal.offset_bounds-means-choice
offset_bounds-means-choice c = grind (arith, common_steps)

pub bounds-means-choice : goal.bounds-means-choice
bounds-means-choice c =
    let choice = c.args.choice.now in
    subst (λ (count : ℕ). choice.first + c.args.vertex < count) (sym c.requires.means)
    (from_first-below c.args.model.now.grid choice.advisory c.args.vertex choice.first c.requires.advisory c.requires.vertex c.requires.first)

pub returns-clause-value : goal.returns-clause-value
returns-clause-value c = search rules

pub returns-clause-narrow : goal.returns-clause-narrow
returns-clause-narrow c = grind (arith, common_steps)
