-- The pairs of a policy at the horizon are bounds of its chances of contact, and of what it costs.
use Rattle.std.specs.Prelude.{IfOk, OnOk, Result, Ok, Err}
use Rattle.std.proofs.Common.{ℕ, ◌<◌, List, sym, subst, arith}
use Rattle.acas_spec.specs.Limits.{IsModel}
use Rattle.acas_spec.specs.Model.{ModelData, states}
use Rattle.acas_spec.specs.Table.{Policy}
use Rattle.acas_grid.specs.States.{state_present, state_vertex}
use Rattle.acas_grid.proofs.StateNumbers.{state_present-below}
use Rattle.acas_units.specs.declared.pair.Pair.{Pair}
use Rattle.acas_policies.specs.Allowed.{SaysAdvisories}
use Rattle.acas_process.specs.Cost.{IsEntry}
use Rattle.acas_policies.specs.Policies.{always_clear, counting_contact}
use Rattle.acas_policies.proofs.ChanceLaws.{chance_bounds}
use Rattle.acas_policies.proofs.PolicyLaws.{policy_bounds}
use Rattle.acas_means.specs.Layer.{pair_at}
use Rattle.acas_means.proofs.NumberedStates.{IsVertex-state_vertex}
use Rattle.acas_risk.specs.Pairs.{ArePairsOf, BoundsChance, BoundsCost, policy_pair}
use Rattle.acas_risk.specs.RiskText.{AreRisks, risk_row}

-- what holds of a value by what holds of it, and by what holds where there is one
pub if_ok : {X E : Type 0} (r : Result X E) (P Q : X → Type 0) (S : Type 0) → ((x : X) → S → P x → Q x) → OnOk r S → IfOk r P → IfOk r Q
if_ok (Ok x) P Q S both s p = both x s p
if_ok (Err e) P Q S both s p = tt

-- a state at the horizon
at_horizon : (m : ModelData) (s : ℕ) → s < states m.grid → IsEntry m m.grid.horizon (state_present m.grid s) (state_vertex m.grid s)
at_horizon m s inside = record { seconds = omega arith; present = state_present-below m.grid s inside; vertex = IsVertex-state_vertex m.grid s inside }

pub bounds_chance : (m : ModelData) (policy : Policy) → IsModel m → SaysAdvisories m policy → (s : ℕ) → s < states m.grid → BoundsChance m policy s (policy_pair (counting_contact m) policy m.grid.horizon s)
bounds_chance m policy valid says s inside = chance_bounds m policy m.grid.horizon (state_present m.grid s) (state_vertex m.grid s) valid says (at_horizon m s inside)

pub bounds_cost : (m : ModelData) (policy : Policy) → IsModel m → SaysAdvisories m policy → (s : ℕ) → s < states m.grid → BoundsCost m policy s (policy_pair m policy m.grid.horizon s)
bounds_cost m policy valid says s inside = policy_bounds m policy m.grid.horizon (state_present m.grid s) (state_vertex m.grid s) valid says (at_horizon m s inside)

-- ---- the same of pairs in a list

pub bounds_chances : (m : ModelData) (policy : Policy) (pairs : List Pair) → IsModel m → SaysAdvisories m policy → ArePairsOf (counting_contact m) policy m.grid.horizon pairs
    → (s : ℕ) → s < states m.grid → BoundsChance m policy s (pair_at pairs s)
bounds_chances m policy pairs valid says are s inside =
    subst (λ (pair : Pair). BoundsChance m policy s pair) (sym (are.each s inside)) (bounds_chance m policy valid says s inside)

pub bounds_costs : (m : ModelData) (policy : Policy) (pairs : List Pair) → IsModel m → SaysAdvisories m policy → ArePairsOf m policy m.grid.horizon pairs
    → (s : ℕ) → s < states m.grid → BoundsCost m policy s (pair_at pairs s)
bounds_costs m policy pairs valid says are s inside =
    subst (λ (pair : Pair). BoundsCost m policy s pair) (sym (are.each s inside)) (bounds_cost m policy valid says s inside)

-- ---- and of the rows of a report

clear_says : (m : ModelData) → IsModel m → SaysAdvisories m always_clear
clear_says m valid = record { known = λ n p x at. omega (arith, valid.grid.some_advisories) }

pub rows_are_risks : (m : ModelData) (policy : Policy) → IsModel m → SaysAdvisories m policy → AreRisks m policy (risk_row m policy)
rows_are_risks m policy valid says = record {
  risk = bounds_chance m policy valid says;
  clear = bounds_chance m always_clear valid (clear_says m valid);
  cost = bounds_cost m policy valid says;
}
