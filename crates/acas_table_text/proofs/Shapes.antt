-- The shape of the tables of a model within its limits.
use Rattle.std.proofs.Common.{◌≡◌, ℕ, zero, suc, ◌+◌, ◌*◌, ◌≤◌, length, sym, ◌∙◌, ap, subst, arith}
use Rattle.acas_units.specs.declared.limits.TheConstants.{GREATEST_ENTRIES, LEAST_ADVISORIES, LEAST_VERTICES}
use Rattle.acas_spec.specs.Model.{GridData, states}
use Rattle.acas_spec.specs.Limits.{IsGrid}
use Rattle.acas_table_text.specs.Shape.{IsShape, shape_of}
use Rattle.acas_table_text.specs.declared.shape.TableShape.{TableShape}

some_product : (m n : ℕ) → 1 ≤ m → 1 ≤ n → 1 ≤ m * n
some_product zero n some_m some_n = absurd (omega (arith, some_m))
some_product (suc m) zero some_m some_n = absurd (omega (arith, some_n))
some_product (suc m) (suc n) some_m some_n = omega arith

-- there are states where there are advisories and numbers on each axis
some_states : (advisories h v0 v1 : ℕ) → LEAST_ADVISORIES ≤ advisories → LEAST_VERTICES ≤ h → LEAST_VERTICES ≤ v0 → LEAST_VERTICES ≤ v1 → 1 ≤ advisories * (h * v0 * v1)
some_states advisories h v0 v1 some_advisories some_h some_v0 some_v1 =
    some_product advisories (h * v0 * v1) (omega (arith, some_advisories))
    (some_product (h * v0) v1 (some_product h v0 (omega (arith, some_h)) (omega (arith, some_v0))) (omega (arith, some_v1)))

pub limited : (g : GridData) → IsGrid g → IsShape (shape_of g)
limited g grid = record {
  altitudes = grid.altitudes.at_most;
  own_rates = grid.own_rates.at_most;
  intruder_rates = grid.intruder_rates.at_most;
  advisories = grid.few_advisories;
  horizon = grid.horizon;
  some_states = some_states g.advisories (length g.h) (length g.v0) (length g.v1) grid.some_advisories grid.altitudes.at_least grid.own_rates.at_least grid.intruder_rates.at_least;
  few_entries = grid.entries;
}

pub limited_as : (g : GridData) (s : TableShape) → IsGrid g → s.altitudes ≡ length g.h → s.own_rates ≡ length g.v0 → s.intruder_rates ≡ length g.v1
    → s.advisories ≡ g.advisories → s.horizon ≡ g.horizon → s.states ≡ states g → IsShape s
limited_as g s grid h v0 v1 advisories horizon at_states = record {
  altitudes = omega (arith, h, grid.altitudes.at_most);
  own_rates = omega (arith, v0, grid.own_rates.at_most);
  intruder_rates = omega (arith, v1, grid.intruder_rates.at_most);
  advisories = omega (arith, advisories, grid.few_advisories);
  horizon = omega (arith, horizon, grid.horizon);
  some_states = subst (λ (n : ℕ). 1 ≤ n) (sym at_states) (limited g grid).some_states;
  few_entries =
      subst (λ (n : ℕ). n ≤ GREATEST_ENTRIES) (sym (ap (λ (n : ℕ). (n + 1) * s.states) horizon ∙ ap (λ (n : ℕ). (g.horizon + 1) * n) at_states)) grid.entries;
}
