-- The choices under a present advisory.
use Rattle.std.specs.Prelude.{ℕ, ℤ, pos, ◌+ℤ◌, length, get_or, sum_by}
use Rattle.acas_spec.specs.Model.{ModelData, choices_at}
use Rattle.acas_spec.specs.declared.parts.Choice.{Choice}
use Rattle.acas_process.specs.Values.{millionths}
use Rattle.acas_process.specs.Cost.{cost_of}

-- the choice that a list holds where it ends
abbrev pub no_choice : Choice
no_choice = record { advisory = 0; cost = pos 0 }

-- the choice at a place of the list of the present advisory p
abbrev pub listed_choice : ModelData → ℕ → ℕ → Choice
listed_choice m p place = get_or (choices_at m p) place no_choice

-- the value of choosing the advisory a where p is present, by the mean under each advisory
abbrev pub value_by_mean : ModelData → ℕ → (ℕ → ℤ) → ℕ → ℤ
value_by_mean m p mean a = mean a +ℤ millionths (cost_of m p a)

-- how many choices there are under all present advisories
abbrev pub choice_count : ModelData → ℕ
choice_count m = sum_by (λ choices. length choices) m.choices
