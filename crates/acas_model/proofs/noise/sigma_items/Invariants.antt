use Rattle.std.proofs.Common.{length, map}
use Rattle.std.specs.List.{AllByRecursion}
use Rattle.toml.specs.View.{view}
use Rattle.acas_model.specs.Noise as rules
use Rattle.acas_spec.specs.Limits.{IsSigma}
use Rattle.acas_spec.proofs.Each.{Goes}
use Rattle.acas_model.proofs.noise.sigma_items.Given as goal

abbrev pub invariant-loop-place : goal.invariant-loop-place
invariant-loop-place l = record {
  goes : Goes (λ before d. rules.sigma_item (length before) d) l.sigmas.items l.place (map view l.items) (rules.sigma_items (map view l.items));
  range : AllByRecursion IsSigma l.sigmas.items;
}
