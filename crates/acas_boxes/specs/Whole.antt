-- The rules of a text of boxes, in the order in which they are looked at: the boxes that the text says, or the first rule that it fails.
use Rattle.std.specs.Prelude.{ℕ, List, [], length, codes, Result}
use Rattle.toml.specs.Data.{Data, Members}
use Rattle.acas_units.specs.declared.limits.TheConstants.{LEAST_BOXES, GREATEST_BOXES}
use Rattle.acas_spec.specs.Model.{ModelData}
use Rattle.acas_spec.specs.Steps.{◌>>=◌, ◌>>◌, each}
use Rattle.acas_doc.specs.Document.{document_of}
use Rattle.acas_doc.specs.Keys.{list_at}
use Rattle.acas_doc.specs.Known.{only_known}
use Rattle.acas_rulings.specs.Boxes.{AuditedBox}
use Rattle.acas_doc.specs.declared.input_fault.InputFault.{InputFault}
use Rattle.acas_doc.specs.declared.input_fault.InputFault.TheVariants.{NotToml, Doc, UnknownName, Window, Rate, Memory}
use Rattle.acas_doc.specs.Input.{in_doc, version_of}
use Rattle.acas_boxes.specs.OneBox.{box_item}

-- each item of the list is a box
unfoldable pub box_items : ModelData → List Data → Result (List AuditedBox) InputFault
box_items m ds = each (λ before d. box_item m (length before) d) [] ds

-- the boxes of a document: its keys, its version, the list, and each box in turn
unfoldable pub boxes_in : ModelData → Members → Result (List AuditedBox) InputFault
boxes_in m doc = do
  in_doc (only_known [] (codes "version box") doc)
  version_of doc
  items ← in_doc (list_at doc [] (codes "box") LEAST_BOXES GREATEST_BOXES)
  box_items m items

-- the boxes that a text says, beside a model
unfoldable pub boxes_of : ModelData → List ℕ → Result (List AuditedBox) InputFault
boxes_of m bytes = do
  doc ← document_of NotToml bytes
  boxes_in m doc

-- a fault that boxes can have beside a model: their intruder's rates are no rule of it
abbrev pub IsOfBoxes : InputFault → Type 0
IsOfBoxes NotToml = Unit {0}
IsOfBoxes (Doc f) = Unit {0}
IsOfBoxes (UnknownName place) = Unit {0}
IsOfBoxes (Window place) = Unit {0}
IsOfBoxes (Rate place) = ⊥
IsOfBoxes Memory = Unit {0}
