-- The first part of soundness that an entry fails.
use Rattle.std.specs.Prelude.{ℕ, zero, suc, ℤ, Bool, nat_eq, int_lt, Option, Some, None, if◌then◌else◌}
use Rattle.std.specs.List.{list_any}
use Rattle.acas_spec.specs.Model.{ModelData, choices_at}
use Rattle.acas_spec.specs.Table.{Table}
use Rattle.acas_spec.specs.declared.place.Vertex.{Vertex}
use Rattle.acas_process.specs.Values.{millionths}
use Rattle.acas_policies.specs.Bounds.{lower_value, upper_value}
use Rattle.acas_process.specs.Compiled.{least}
use Rattle.acas_process.specs.Cost.{terminal_cost}
use Rattle.acas_spec.specs.declared.fault.BoundFault.{BoundFault}
use Rattle.acas_spec.specs.declared.fault.BoundFault.TheVariants.{AdviceNotAllowed, UpperTooLow, LowerTooHigh}

-- the advisory a is in the list of choices where p is present
abbrev pub is_allowed : ModelData → ℕ → ℕ → Bool
is_allowed m p a = list_any (λ c. nat_eq c.advisory a) (choices_at m p)

-- what an upper value is to be at least: with no second to go the cost at the end, and otherwise the upper value of the advice
abbrev pub needed_upper : ModelData → Table → ℕ → ℕ → Vertex → ℤ
needed_upper m t zero p x = millionths (terminal_cost m x)
needed_upper m t (suc n) p x = upper_value m (t.upper n) p x (t.advice (suc n) p x)

-- what a lower value is to be at most: with no second to go the cost at the end, and otherwise the least lower value of the choices
abbrev pub allowed_lower : ModelData → Table → ℕ → ℕ → Vertex → ℤ
allowed_lower m t zero p x = millionths (terminal_cost m x)
allowed_lower m t (suc n) p x = least (lower_value m (t.lower n) p x) (choices_at m p)

-- an upper value is to be at least what is needed, and a lower value at most what is allowed; the upper value is looked at first
abbrev pub values_fault : ℤ → ℤ → ℤ → ℤ → Option BoundFault
values_fault upper needed lower allowed =
    if int_lt upper needed then Some (UpperTooLow upper needed)
    else if int_lt allowed lower then Some (LowerTooHigh lower allowed)
    else None

-- the same of the two values of a table's entry
abbrev pub table_values_fault : ModelData → Table → ℕ → ℕ → Vertex → Option BoundFault
table_values_fault m t n p x =
    values_fault (t.upper n p x) (needed_upper m t n p x) (t.lower n p x) (allowed_lower m t n p x)

-- with a second to go the advice is to be allowed; then the two values are looked at
abbrev pub bound_fault : ModelData → Table → ℕ → ℕ → Vertex → Option BoundFault
bound_fault m t zero p x = table_values_fault m t 0 p x
bound_fault m t (suc n) p x =
    if is_allowed m p (t.advice (suc n) p x)
    then table_values_fault m t (suc n) p x
    else Some AdviceNotAllowed
