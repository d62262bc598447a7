-- A list of whole numbers whose reading ends early.
use Rattle.std.proofs.Common.{ℕ, ◌<◌, false, List, length, get_or, ℤ, Result, Err}
use Rattle.toml.specs.Data.{Data, boolean}
use Rattle.acas_spec.proofs.Each.{Goes, ends}
use Rattle.acas_doc.specs.declared.fault.DocFault.{DocFault}
use Rattle.acas_doc.specs.declared.fault.DocError.{DocError}
use Rattle.acas_doc.specs.declared.fault.DocError.TheVariants.{Fault, Memory}
use Rattle.acas_doc.specs.Answers.{Fails, Gives}
use Rattle.acas_doc.specs.Keys.{whole_item}

-- the fault of an item is that of the list
pub item_fails : {X : Type 0} (view : X → List ℤ) (path : List ℕ) (least greatest : ℤ) (before : List ℤ) (place : ℕ) (ds : List Data) (total : Result (List ℤ) DocFault) (e : DocError)
    → Goes (λ zs d. whole_item path (length zs) least greatest d) before place ds total → place < length ds → Fails e (whole_item path place least greatest (get_or ds place (boolean false))) → Gives view (Err e) total
item_fails view path least greatest before place ds total (Fault f) goes within is = ends _ before place ds (boolean false) total f goes within (λ fails. rw goes.count fails) is
item_fails view path least greatest before place ds total Memory goes within is = tt
