-- Policies that say the same with a second to go and more: what is printed of them is the same.
use Rattle.std.proofs.Common.{◌≡◌, ℕ, zero, suc, ◌<◌, List, [], ◌∷◌, ◌++◌, codes, refl, ap, ◌∙◌, arith}
use Rattle.std.specs.Fmt.{decimal}
use Rattle.acas_spec.specs.Model.{ModelData, states}
use Rattle.acas_spec.specs.Table.{Policy}
use Rattle.acas_spec.specs.declared.place.Vertex.{Vertex}
use Rattle.acas_frac.specs.Rounding.{down, up}
use Rattle.acas_grid.specs.States.{state_present, state_vertex}
use Rattle.acas_grid.proofs.StateNumbers.{state_present-below}
use Rattle.acas_outside.specs.Printing.{below}
use Rattle.acas_policies.specs.Allowed.{SaysAdvisories}
use Rattle.acas_process.specs.Cost.{IsEntry}
use Rattle.acas_policies.specs.Policies.{counting_contact}
use Rattle.acas_policies.proofs.PolicyLaws.{SayTheSame, same_values}
use Rattle.acas_means.proofs.NumberedStates.{IsVertex-state_vertex}
use Rattle.acas_risk.specs.Pairs.{policy_pair}
use Rattle.acas_risk.specs.RiskText.{RiskRow, risk_line, risk_row, risk_text}

-- texts that are given by number and are the same below a number
same-below : (f g : ℕ → List ℕ) (n : ℕ) → ((k : ℕ) → k < n → f k ≡ g k) → below n f ≡ below n g
same-below f g zero same = refl
same-below f g (suc n) same =
    ap (λ (l : List ℕ). l ++ f n) (same-below f g n (λ k inside. same k (omega (arith, inside)))) ∙ ap (λ (l : List ℕ). below n g ++ l) (same n (omega arith))

-- the state of a number, at the horizon
at_horizon : (m : ModelData) (s : ℕ) → s < states m.grid → IsEntry m m.grid.horizon (state_present m.grid s) (state_vertex m.grid s)
at_horizon m s here = record { seconds = omega arith; present = state_present-below m.grid s here; vertex = IsVertex-state_vertex m.grid s here }

same-pair : (m : ModelData) (one other : Policy) (s : ℕ) → SaysAdvisories m one → SayTheSame m one other → s < states m.grid → policy_pair m one m.grid.horizon s ≡ policy_pair m other m.grid.horizon s
same-pair m one other s says same here =
    let at = at_horizon m s here in
    rw (same_values up m one other m.grid.horizon _ _ says same at, same_values down m one other m.grid.horizon _ _ says same at) refl

-- the entries are the same where contact is counted
entry_counted : (m : ModelData) (n p : ℕ) (x : Vertex) → IsEntry (counting_contact m) n p x → IsEntry m n p x
entry_counted m n p x at = record { seconds = at.seconds; present = at.present; vertex = at.vertex }

says_counted : (m : ModelData) (policy : Policy) → SaysAdvisories m policy → SaysAdvisories (counting_contact m) policy
says_counted m policy says = record { known = λ n p x at. says.known n p x (entry_counted m (suc n) p x at) }

same-row : (m : ModelData) (one other : Policy) (s : ℕ) → SaysAdvisories m one → SayTheSame m one other → s < states m.grid → risk_row m one s ≡ risk_row m other s
same-row m one other s says same here =
    rw (
      same-pair (counting_contact m) one other s (says_counted m one says) (λ k q y at some. same k q y (entry_counted m k q y at) some) here,
      same-pair m one other s says same here,
    ) refl

pub same-text : (m : ModelData) (one other : Policy) → SaysAdvisories m one → SayTheSame m one other → risk_text m one ≡ risk_text m other
unfolding risk_text
same-text m one other says same =
    ap (λ (l : List ℕ). l ++ codes "states " ++ decimal (states m.grid) ++ 10 ∷ [])
    (same-below (λ s. risk_line m s (risk_row m one s)) (λ s. risk_line m s (risk_row m other s)) (states m.grid)
    (λ s here. ap (λ (row : RiskRow). risk_line m s row) (same-row m one other s says same here)))
