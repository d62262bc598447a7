-- The text of a report of risks, as it is written.
use Rattle.std.proofs.Common.{◌≡◌, ℕ, zero, suc, ◌<◌, List, [], ◌∷◌, ◌++◌, codes, Option, append_assoc, refl, sym, ap, ap₂, subst, ◌∙◌, arith}
use Rattle.std.specs.Fmt.{decimal}
use Rattle.std.proofs.lemmas.List.{append-nil}
use Rattle.acas_spec.specs.Model.{ModelData, states}
use Rattle.acas_spec.specs.Table.{Policy}
use Rattle.acas_outside.specs.Bytes.{Appends, AppendsPart}
use Rattle.acas_outside.proofs.Appended.{appends_none}
use Rattle.acas_outside.specs.Printing.{Prints, below}
use Rattle.acas_outside.proofs.PrintedPieces.{part_of_longer, part_of_next, prints_all, prints_both}
use Rattle.acas_units.specs.declared.pair.Pair.{Pair}
use Rattle.acas_risk.specs.RiskText.{RiskRow, risk_line, risk_lines, risk_row, risk_text}
use Rattle.acas_risk.specs.Rows.{AreRiskValues, row_at}
use Rattle.acas_risk.specs.declared.risk_values.RiskValues.{RiskValues}

-- ---- the lines and the last line

-- the last line
abbrev pub states_line : ModelData → List ℕ
states_line m = codes "states " ++ decimal (states m.grid) ++ 10 ∷ []

-- the lines of the states
abbrev pub state_lines : ModelData → (ℕ → RiskRow) → List ℕ
state_lines m rows = below (states m.grid) (λ s. risk_line m s (rows s))

lines_joined : (m : ModelData) (rows : ℕ → RiskRow) → state_lines m rows ++ states_line m ≡ risk_lines m rows
lines_joined m rows =
    sym (append_assoc (state_lines m rows) (codes "states " ++ decimal (states m.grid)) (10 ∷ []))
    ∙ ap (λ (l : List ℕ). l ++ 10 ∷ []) (sym (append_assoc (state_lines m rows) (codes "states ") (decimal (states m.grid))))

-- both behind nothing that waits
behind_nothing : (m : ModelData) (rows : ℕ → RiskRow) (waits last : List ℕ) → waits ≡ [] → last ≡ states_line m → waits ++ (state_lines m rows ++ last) ≡ risk_lines m rows
behind_nothing m rows waits last empty same =
    ap₂ (λ (l : List ℕ) (n : List ℕ). l ++ (state_lines m rows ++ n)) empty same ∙ lines_joined m rows

-- all of it
pub whole_text : (m : ModelData) (rows : ℕ → RiskRow) (old mid new : Option (List ℕ)) (waits left last : List ℕ) → waits ≡ [] → last ≡ states_line m →
    Prints old mid waits left (state_lines m rows) → Appends mid new (left ++ last) → Appends old new (risk_lines m rows)
whole_text m rows old mid new waits left last empty same lines end =
    let ended : Prints mid new left [] last = record { sent = left ++ last; written = end; all = sym (append-nil (left ++ last)) } in
    let both = prints_both old mid new waits left [] (state_lines m rows) last lines ended in
    subst (λ (l : List ℕ). Appends old new l) (behind_nothing m rows waits last empty same)
    (prints_all old new new waits [] (state_lines m rows ++ last) both (appends_none new))

-- a failure at the last line
pub part_at_last : (m : ModelData) (rows : ℕ → RiskRow) (old mid new : Option (List ℕ)) (waits left last : List ℕ) → waits ≡ [] → last ≡ states_line m →
    Prints old mid waits left (state_lines m rows) → AppendsPart mid new (left ++ last) → AppendsPart old new (risk_lines m rows)
part_at_last m rows old mid new waits left last empty same lines part =
    subst (AppendsPart old new) (behind_nothing m rows waits last empty same)
    (part_of_next old mid new waits left (state_lines m rows) last lines part)

-- a failure before it
pub part_before_last : (m : ModelData) (rows : ℕ → RiskRow) (old new : Option (List ℕ)) (waits : List ℕ) → waits ≡ [] → AppendsPart old new (waits ++ state_lines m rows) → AppendsPart old new (risk_lines m rows)
part_before_last m rows old new waits empty part =
    subst (AppendsPart old new) (append_assoc waits (state_lines m rows) (states_line m) ∙ behind_nothing m rows waits (states_line m) empty refl)
    (part_of_longer old new (waits ++ state_lines m rows) (states_line m) part)

-- ---- the rows that are printed

below_same : (n : ℕ) (f g : ℕ → List ℕ) → ((k : ℕ) → k < n → f k ≡ g k) → below n f ≡ below n g
below_same zero f g same = refl
below_same (suc n) f g same = ap₂ ◌++◌ (below_same n f g (λ k h. same k (omega arith))) (same n (omega arith))

pub rows_same : (m : ModelData) (policy : Policy) (values : RiskValues) (s : ℕ) → AreRiskValues m policy values → s < states m.grid → row_at values s ≡ risk_row m policy s
rows_same m policy values s are here =
    let row : Pair → Pair → Pair → RiskRow = λ risk clear cost. record { risk = risk; clear = clear; cost = cost } in
    ap (λ (p : Pair). row p (row_at values s).clear (row_at values s).cost) (are.risk.each s here)
    ∙ ap (λ (p : Pair). row (risk_row m policy s).risk p (row_at values s).cost) (are.clear.each s here)
    ∙ ap (λ (p : Pair). row (risk_row m policy s).risk (risk_row m policy s).clear p) (are.cost.each s here)

-- the lists of values make the text
pub text_same : (m : ModelData) (policy : Policy) (values : RiskValues) → AreRiskValues m policy values → risk_lines m (row_at values) ≡ risk_text m policy
unfolding risk_text
text_same m policy values are =
    ap (λ (l : List ℕ). l ++ codes "states " ++ decimal (states m.grid) ++ 10 ∷ [])
    (below_same (states m.grid) (λ s. risk_line m s (row_at values s)) (λ s. risk_line m s (risk_row m policy s))
    (λ s here. ap (risk_line m s) (rows_same m policy values s are here)))
