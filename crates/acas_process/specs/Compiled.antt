-- The table that is compiled: one function of the model, layer by layer.
use Rattle.std.specs.Prelude.{ℕ, zero, suc, ℤ, pos, List, [], ◌∷◌, if◌then◌else◌, int_le}
use Rattle.std.specs.Int.{int_min}
use Rattle.acas_spec.specs.Model.{ModelData, choices_at}
use Rattle.acas_spec.specs.declared.parts.Choice.{Choice}
use Rattle.acas_frac.specs.Rounding.{down, up}
use Rattle.acas_spec.specs.Table.{Policy}
use Rattle.acas_process.specs.Cost.{terminal_cost}
use Rattle.acas_spec.specs.Table.{Values, Table}
use Rattle.acas_process.specs.Values.{millionths, choice_value}

-- the least value over the choices of a list, which is not empty
abbrev pub least : (ℕ → ℤ) → List Choice → ℤ
least f [] = pos 0
least f (c ∷ []) = f c.advisory
least f (c ∷ d ∷ rest) = int_min (f c.advisory) (least f (d ∷ rest))

-- the first advisory of such a list that has the least value
abbrev pub first_least : (ℕ → ℤ) → List Choice → ℕ
first_least f [] = 0
first_least f (c ∷ []) = c.advisory
first_least f (c ∷ d ∷ rest) =
    if int_le (f c.advisory) (least f (d ∷ rest)) then c.advisory else first_least f (d ∷ rest)

-- the values with n seconds to go, by the way to round: the cost at the end, and later the least value over the choices
abbrev pub compiled_values : (ℤ → ℤ → ℤ) → ModelData → ℕ → Values
compiled_values round m zero p x = millionths (terminal_cost m x)
compiled_values round m (suc n) p x = least (choice_value round m (compiled_values round m n) p x) (choices_at m p)

-- the first choice of the least upper value; with no second to go there is none, which is written 255
abbrev pub compiled_advice : ModelData → Policy
compiled_advice m zero p x = 255
compiled_advice m (suc n) p x = first_least (choice_value up m (compiled_values up m n) p x) (choices_at m p)

-- the compiled table has the least upper and the least lower value of the choices
abbrev pub compiled : ModelData → Table
compiled m = record { upper = compiled_values up m; lower = compiled_values down m; advice = compiled_advice m }
