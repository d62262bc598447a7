use Rattle.std.proofs.Common.{bytes_eq, sym, arith}
use Rattle.std.proofs.lemmas.List.Quantifiers.{position-Some}
use Rattle.acas_model.proofs.ReadAdvisories.{no_advisory}
use Rattle.acas_model.proofs.named.advisory_named.Goals as goal

pub returns-in-Some-clause-range : goal.returns-in-Some-clause-range
returns-in-Some-clause-range c =
    let found = position-Some (λ a. bytes_eq a.name c.args.name.now) c.args.model.now.advisories c.in-Some.advisory no_advisory (sym c.in-Some.ensures) in
    omega (arith, found.0, c.grid.ensures.valid.advisory_count)
