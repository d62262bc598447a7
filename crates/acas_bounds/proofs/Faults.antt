-- The fault of an entry by the means of the layer below is its fault in the table, and what an answer says.
use Rattle.std.proofs.Common.{◌≡◌, ℕ, zero, suc, ◌<◌, ℤ, ◌+ℤ◌, Bool, true, false, cond, Option, Some, None, Result, List, refl, ap, sym, subst, arith}
use Rattle.std.specs.Prelude.{OnOk}
use Rattle.acas_spec.specs.Limits.{IsModel}
use Rattle.acas_spec.specs.Model.{ModelData, choices_at}
use Rattle.acas_grid.specs.Grid.{IsVertex}
use Rattle.acas_spec.specs.declared.place.Vertex.{Vertex}
use Rattle.acas_frac.specs.Rounding.{down, up}
use Rattle.acas_units.specs.declared.pair.Entry.{Entry}
use Rattle.acas_units.specs.declared.pair.Pair.{Pair}
use Rattle.acas_spec.specs.Table.{Table}
use Rattle.acas_process.specs.Values.{mean_value, millionths}
use Rattle.acas_policies.specs.Bounds.{lower_value, upper_value}
use Rattle.acas_process.specs.Compiled.{least}
use Rattle.acas_process.specs.Cost.{MayChoose, cost_of}
use Rattle.acas_process.proofs.ModelLaws.{is_chosen}
use Rattle.acas_means.specs.Choices.{value_by_mean}
use Rattle.acas_means.specs.Entries.{IsEntryOf}
use Rattle.acas_means.specs.Layer.{layer_values}
use Rattle.acas_means.specs.Means.{AreMeansOf}
use Rattle.acas_means.specs.declared.layer.Side.TheVariants.{Lower, Upper}
use Rattle.acas_process.proofs.Least.{least-same}
use Rattle.acas_means.proofs.NumberedStates.{layer_values-is}
use Rattle.acas_bounds.specs.Checks.{OfBelow, AnswersFault}
use Rattle.acas_bounds.specs.Means.{AreOfLayer, allowed_cost, answer_of, choice_fault, fault_by_means}
use Rattle.acas_bounds.specs.Sound.{bound_fault, is_allowed, values_fault}
use Rattle.acas_spec.specs.declared.fault.BoundFault.{BoundFault}
use Rattle.acas_spec.specs.declared.fault.BoundFault.TheVariants.{AdviceNotAllowed}
use Rattle.acas_bounds.proofs.Allowed.{is_allowed-is}

pub means_by_means : (m : ModelData) (t : Table) (k : ℕ) (x : Vertex) (means : List Pair) → IsVertex m.grid x → AreMeansOf m t k means →
    AreOfLayer m t k x (λ a. layer_values Upper m.grid means a x) (λ a. layer_values Lower m.grid means a x)
means_by_means m t k x means inside are = record {
  upper = λ a known. layer_values-is m.grid Upper means (λ b y. mean_value up m (t.upper k) y b) are.upper a x known inside;
  lower = λ a known. layer_values-is m.grid Lower means (λ b y. mean_value down m (t.lower k) y b) are.lower a x known inside;
}

-- ---- with a second to go

same_if : {A : Type 0} (b : Bool) (x y z : A) → (b ≡ true → x ≡ y) → cond b x z ≡ cond b y z
same_if true x y z h = h refl
same_if false x y z h = refl

same_values : (upper needed needed' lower allowed allowed' : ℤ) → needed ≡ needed' → allowed ≡ allowed' → values_fault upper needed lower allowed ≡ values_fault upper needed' lower allowed'
same_values upper needed needed' lower allowed allowed' p q = rw (p, q) refl

choice_fault-is : (m : ModelData) (t : Table) (n p : ℕ) (x : Vertex) (e : Entry) (upper lower : ℕ → ℤ) → IsModel m → p < m.grid.advisories → IsEntryOf t (suc n) p x e → AreOfLayer m t n x upper lower →
    choice_fault m upper lower p e ≡ bound_fault m t (suc n) p x
choice_fault-is m t n p x e upper lower valid known is are =
    let advice : ℕ = t.advice (suc n) p x in
    rw (is.upper, is.lower, is.advice)
    (same_if (is_allowed m p advice) _ _ (Some AdviceNotAllowed)
    (λ listed. same_values (t.upper (suc n) p x) (value_by_mean m p upper advice) (upper_value m (t.upper n) p x advice) (t.lower (suc n) p x) (least (value_by_mean m p lower) (choices_at m p)) (least (lower_value m (t.lower n) p x) (choices_at m p))
    (ap (λ z. z +ℤ millionths (cost_of m p advice)) (are.upper advice ((is_chosen m p advice valid known ((is_allowed-is m p advice).0 listed)).inside)))
    (least-same (value_by_mean m p lower) (lower_value m (t.lower n) p x) (choices_at m p)
    (λ a chosen. ap (λ z. z +ℤ millionths (cost_of m p a)) (are.lower a ((is_chosen m p a valid known chosen).inside))))))

-- the fault that is found by the cost of the advice in the list
pub found_in : (b : Bool) (cost own : ℤ) → Some cost ≡ cond b (Some own) None → (b ≡ true) × (cost ≡ own)
found_in true cost own h = (refl, cc)
found_in false cost own h = cc

pub choice_found : (m : ModelData) (p : ℕ) (e : Entry) (upper lower : ℕ → ℤ) (cost needed allowed : ℤ) → Some cost ≡ allowed_cost m p e.advice → needed ≡ upper e.advice +ℤ millionths cost → allowed ≡ least (value_by_mean m p lower) (choices_at m p) →
    values_fault e.pair.upper needed e.pair.lower allowed ≡ choice_fault m upper lower p e
choice_found m p e upper lower cost needed allowed is n a =
    let found = found_in (is_allowed m p e.advice) cost (cost_of m p e.advice) is in
    rw (found.0, n, a, found.1) refl

pub fault_by_means-is : (m : ModelData) (t : Table) (n p : ℕ) (x : Vertex) (e : Entry) (upper lower : ℕ → ℤ) → IsModel m → p < m.grid.advisories → IsEntryOf t n p x e → OfBelow (λ k. AreOfLayer m t k x upper lower) n →
    fault_by_means m upper lower n p x e ≡ bound_fault m t n p x
fault_by_means-is m t zero p x e upper lower valid known is are = rw (is.upper, is.lower) refl
fault_by_means-is m t (suc n) p x e upper lower valid known is are = choice_fault-is m t n p x e upper lower valid known is are

-- with a second to go it is that of a choice
pub fault_by_means-later : (m : ModelData) (n p : ℕ) (x : Vertex) (e : Entry) (upper lower : ℕ → ℤ) → ¬ (n ≡ 0) → choice_fault m upper lower p e ≡ fault_by_means m upper lower n p x e
fault_by_means-later m zero p x e upper lower later = absurd (later refl)
fault_by_means-later m (suc n) p x e upper lower later = refl

-- what follows of the layer below, where there is one
pub OfBelow-map : (P Q : ℕ → Type 0) (n : ℕ) → ((k : ℕ) → P k → Q k) → OfBelow P n → OfBelow Q n
OfBelow-map P Q zero f h = tt
OfBelow-map P Q (suc n) f h = f n h

-- ---- answers

answer_reports : (fault : Option BoundFault) → AnswersFault (answer_of fault) fault
answer_reports None = refl
answer_reports (Some f) = refl

pub reports_fault : (r : Result (Unit {0}) BoundFault) (fault : Option BoundFault) → r ≡ answer_of fault → AnswersFault r fault
reports_fault r fault e = subst (λ (q : Result (Unit {0}) BoundFault). AnswersFault q fault) (sym e) (answer_reports fault)

ok_if : (fault : Option BoundFault) (P : Type 0) → (fault ≡ None → P) → OnOk (answer_of fault) P
ok_if None P h = h refl
ok_if (Some f) P h = tt

allowed_if : (b : Bool) (rest : Option BoundFault) → cond b rest (Some AdviceNotAllowed) ≡ None → b ≡ true
allowed_if true rest h = refl
allowed_if false rest h = cc

-- above layer 0, the advice of an entry without fault is in the list
pub may_choose : (m : ModelData) (upper lower : ℕ → ℤ) (n p : ℕ) (x : Vertex) (e : Entry) → fault_by_means m upper lower n p x e ≡ None → 0 < n → MayChoose m p e.advice
may_choose m upper lower zero p x e h some = absurd (omega arith)
may_choose m upper lower (suc n) p x e h some = (is_allowed-is m p e.advice).0 (allowed_if (is_allowed m p e.advice) _ h)

-- a check that answers Ok above layer 0 found the advice in the list
pub ok_allowed : (m : ModelData) (upper lower : ℕ → ℤ) (n p : ℕ) (x : Vertex) (e : Entry) (r : Result (Unit {0}) BoundFault) → r ≡ answer_of (fault_by_means m upper lower n p x e) → OnOk r (0 < n → MayChoose m p e.advice)
ok_allowed m upper lower n p x e r is =
    subst (λ (q : Result (Unit {0}) BoundFault). OnOk q (0 < n → MayChoose m p e.advice)) (sym is)
    (ok_if (fault_by_means m upper lower n p x e) (0 < n → MayChoose m p e.advice) (may_choose m upper lower n p x e))
