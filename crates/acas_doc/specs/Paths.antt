-- The printed path of a value in a document, and a fault at it.
use Rattle.std.specs.Prelude.{ℕ, List, [], ◌∷◌, ◌++◌, Result, decimal}
use Rattle.acas_spec.specs.Steps.{fault_as}
use Rattle.acas_doc.specs.declared.fault.DocKind.{DocKind}
use Rattle.acas_doc.specs.declared.fault.DocFault.{DocFault}

-- a key of the table at this path: `horizon` of the document itself, else `grid.altitude`
abbrev pub key_path : List ℕ → List ℕ → List ℕ
key_path [] key = key
key_path (b ∷ path) key = (b ∷ path) ++ 46 ∷ key

-- an item of the list at this path: `grid.altitude[2]`
abbrev pub item_path : List ℕ → ℕ → List ℕ
item_path path place = path ++ 91 ∷ (decimal place ++ 93 ∷ [])

-- what is wrong, at this path
abbrev pub at_path : {A : Type 0} → List ℕ → Result A DocKind → Result A DocFault
at_path path r = fault_as (λ kind. record { key = path; kind = kind }) r
