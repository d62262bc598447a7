-- Why bytes are no accepted table of a model whose text has a digest: the first refusal, from left to right.
use Rattle.std.specs.Prelude.{ℕ, ◌/◌, ◌%◌, List, [], ◌∷◌, Option}
use Rattle.std.specs.Option.{option_map}
use Rattle.acas_spec.specs.Model.{ModelData, states}
use Rattle.acas_bounds.specs.Checks.{state_fault}
use Rattle.acas_spec.specs.declared.fault.BoundFault.{BoundFault}
use Rattle.acas_table_text.specs.Faults.{entry_fault, first, first_below, header_fault, tail_fault}
use Rattle.acas_table_text.specs.Shape.{entry_count, shape_of}
use Rattle.acas_accept.specs.GivenTable.{given_table}
use Rattle.acas_table_text.specs.declared.refusal.TableRefusal.{TableRefusal}
use Rattle.acas_table_text.specs.declared.refusal.TableRefusal.TheVariants.{Form, Entry}

-- the part of soundness that the entry of a state with n seconds to go fails
abbrev pub given_fault : ModelData → List ℕ → ℕ → ℕ → Option BoundFault
given_fault m bytes n state = state_fault m (given_table m.grid bytes) n state

-- the entry of a number is not sound
unfoldable pub soundness_refusal : ModelData → List ℕ → ℕ → Option TableRefusal
soundness_refusal m bytes i =
    option_map (Entry (i / states m.grid) (i % states m.grid))
    (given_fault m bytes (i / states m.grid) (i % states m.grid))

-- an entry's bytes and its advice are looked at before its soundness
abbrev pub entry_refusal : ModelData → List ℕ → ℕ → Option TableRefusal
entry_refusal m bytes i =
    first (option_map Form (entry_fault (shape_of m.grid) bytes i) ∷ soundness_refusal m bytes i ∷ [])

-- the header, each entry in turn, and what follows the entries
unfoldable pub first_refusal : ModelData → List ℕ → List ℕ → Option TableRefusal
first_refusal m digest bytes = first (
    option_map Form (header_fault digest (shape_of m.grid) bytes)
    ∷ first_below (entry_refusal m bytes) (entry_count (shape_of m.grid))
    ∷ option_map Form (tail_fault (shape_of m.grid) bytes)
    ∷ [])
