-- The items of an array, as a list of what they stand for.
use Rattle.std.proofs.Common.{◌≡◌, ℕ, List, [], ◌∷◌, length, map, Some, Result, Ok, refl, ap}
use Rattle.std.proofs.lemmas.List.{length-map}
use Rattle.toml.specs.Data.{Data, as_array}
use Rattle.toml.specs.View.{view, items_view}
use Rattle.toml.specs.declared.value.Value.{Value}
use Rattle.acas_doc.specs.declared.fault.DocKind.{DocKind}
use Rattle.acas_spec.specs.Steps.{◌>>◌}
use Rattle.acas_doc.specs.Values.{items_list, length_in_range, list_of}

pub items_list-view : (vs : List Value) → items_list (items_view vs) ≡ map view vs
items_list-view [] = refl
items_list-view (v ∷ vs) = ap (λ ds. view v ∷ ds) (items_list-view vs)

-- a list of values, by its length
pub list_of_array : (least greatest : ℕ) (d : Data) (vs : List Value) → Some (items_view vs) ≡ as_array d
    → list_of least greatest d ≡ (length_in_range least greatest (length vs) >> Ok (map view vs))
list_of_array least greatest d vs e = rw (← e, items_list-view vs, length-map vs view) refl

pub list_of_slice : (least greatest : ℕ) (d : Data) (vs ws : List Value) (r : Result (Unit {0}) DocKind) → Some (items_view vs) ≡ as_array d → ws ≡ vs → r ≡ length_in_range least greatest (length ws)
    → list_of least greatest d ≡ (r >> Ok (map view ws))
list_of_slice least greatest d vs ws r e same long = rw (long, same) (list_of_array least greatest d vs e)
