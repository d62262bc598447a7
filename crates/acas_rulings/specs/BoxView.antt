-- What contracts see of boxes.
use Rattle.std.specs.Prelude.{◌≤◌, List, length, map}
use Rattle.acas_units.specs.declared.limits.TheConstants.{LEAST_BOXES, GREATEST_BOXES}
use Rattle.acas_rulings.specs.Boxes.{AuditedBox, audited}
use Rattle.acas_rulings.specs.declared.boxes.Boxes.TheInside.{Inside}

-- what each box stands for
abbrev pub boxes_view : Inside → List AuditedBox
boxes_view b = map audited b.boxes.items

-- there are as many as a file may have
pub record AreOfAFile (b : Inside) : Type 0 where
  pub some : LEAST_BOXES ≤ length (boxes_view b)
  pub few : length (boxes_view b) ≤ GREATEST_BOXES
