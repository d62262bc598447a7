-- What `values` prints, behind nothing that waits.
use Rattle.std.proofs.Common.{◌≡◌, ℕ, List, [], ◌++◌, ap}
use Rattle.acas_spec.specs.Model.{ModelData}
use Rattle.acas_process.specs.Compiled.{compiled}
use Rattle.acas_table_rows.specs.ValuesText.{table_lines, values_text}

pub values_text-behind_nothing : (m : ModelData) (waits : List ℕ) → waits ≡ [] → waits ++ table_lines m (compiled m) ≡ values_text m
unfolding values_text
values_text-behind_nothing m waits empty = ap (λ (l : List ℕ). l ++ table_lines m (compiled m)) empty
