-- The costs of seconds: none where contacts are counted, and none larger than that of the costliest choice.
use Rattle.std.proofs.Common.{◌≡◌, ℕ, suc, ◌<◌, ◌≤◌, ℤ, pos, Bool, true, false, cond, nat_eq, List, [], ◌∷◌, length, get_or, replicate, unsigned_abs, ap, ◌∙◌, arith}
use Rattle.std.proofs.lemmas.Int.{ints}
use Rattle.std.proofs.lemmas.List.{get_or-replicate}
use Rattle.acas_spec.proofs.Bounds.{unsigned_abs-between}
use Rattle.acas_spec.specs.Limits.{IsModel}
use Rattle.acas_spec.specs.Model.{ModelData, choices_at}
use Rattle.acas_spec.specs.declared.parts.Choice.{Choice}
use Rattle.acas_units.specs.declared.limits.TheConstants.{LEAST_COST, GREATEST_COST}
use Rattle.acas_process.specs.Cost.{cost_among, cost_of}
use Rattle.acas_policies.specs.Policies.{counting_contact}
use Rattle.acas_policies.proofs.ChanceLaws.{counting_is_model, seconds_are_free}
use Rattle.acas_risk.specs.Counts.{AreSecondCosts, model_counting, second_cost}
use Rattle.acas_risk.specs.Layers.{AreSmall}
use Rattle.acas_risk.specs.declared.counted.Counted.{Counted}
use Rattle.acas_risk.specs.declared.counted.Counted.TheVariants.{Contacts, Costs}

-- seconds that cost nothing
no_costs : (p a : ℕ) → p < 16 → a < 16 → second_cost (replicate 16 (replicate 16 (pos 0))) p a ≡ pos 0
no_costs p a h k = ap (λ (row : List ℤ). get_or row a (pos 0)) (get_or-replicate 16 p (replicate 16 (pos 0)) [] h) ∙ get_or-replicate 16 a (pos 0) (pos 0) k

pub seconds_of_contacts : (m : ModelData) → IsModel m → AreSecondCosts (counting_contact m) (replicate 16 (replicate 16 (pos 0)))
seconds_of_contacts m valid = record {
  each = λ p a known given. no_costs p a (omega (arith, known, valid.grid.few_advisories)) (omega (arith, given, valid.grid.few_advisories)) ∙ omega (arith, ints, seconds_are_free m p a);
}

-- ---- how large they are

of_cond : (P : ℤ → Type 0) (b : Bool) (y z : ℤ) → P y → P z → P (cond b y z)
of_cond P true y z h k = h
of_cond P false y z h k = k

of_cost_among : (P : ℤ → Type 0) (cs : List Choice) (a : ℕ) (d : Choice) → P (pos 0) → ((k : ℕ) → k < length cs → P (get_or cs k d).cost) → P (cost_among cs a)
of_cost_among P [] a d none each = none
of_cost_among P (c ∷ rest) a d none each =
    of_cond P (nat_eq c.advisory a) c.cost (cost_among rest a) (each 0 (omega arith)) (of_cost_among P rest a d none (λ k h. each (suc k) (omega (arith, h))))

small_of : (m : ModelData) (costs : List (List ℤ)) → IsModel m → AreSecondCosts m costs → AreSmall m.grid costs
small_of m costs valid are = record {
  each = λ p a known given.
      let cost : unsigned_abs (cost_of m p a) ≤ 1_000_000_000 =
      of_cost_among (λ z. unsigned_abs z ≤ 1_000_000_000) (choices_at m p) a _ (omega (arith, ints))
      (λ k h. unsigned_abs-between 1_000_000_000 LEAST_COST GREATEST_COST _ ((valid.choices p known).each k h).cost (omega arith) (omega arith)) in
      omega (arith, ints, are.each p a known given, cost);
}

-- whichever is counted
pub are_small : (counted : Counted) (m : ModelData) (costs : List (List ℤ)) → IsModel m → AreSecondCosts (model_counting counted m) costs → AreSmall m.grid costs
are_small Contacts m costs valid are = small_of _ costs (counting_is_model m valid) are
are_small Costs m costs valid are = small_of m costs valid are
