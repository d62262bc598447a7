-- Verdicts: what a ruling says of a cell or a box, in the words of the subject.
use Rattle.std.specs.Prelude.{ℕ, List}
use Rattle.acas_spec.specs.Model.{ModelData}
use Rattle.acas_flight.specs.Contact.{IsEndangered}
use Rattle.acas_flight.specs.State.{IsInBox, IsInCell, State}
use Rattle.acas_rulings.specs.Boxes.{AuditedBox, box_at}
use Rattle.acas_rulings.specs.Rulings.{ShowsDanger}
use Rattle.acas_cells.specs.declared.name.CellName.{CellName}
use Rattle.acas_rulings.specs.declared.ruling.Ruling.{Ruling}
use Rattle.acas_rulings.specs.declared.ruling.Ruling.TheVariants.{Certified, Reported}

-- certified: the set of states is not endangered under the advisory; reported: the witness shows that it is
abbrev pub IsVerdict : ModelData → ℕ → (ℕ → State → Type 0) → Ruling → Type 0
IsVerdict m advisory IsIn Certified = ¬ IsEndangered m advisory IsIn
IsVerdict m advisory IsIn (Reported w) = ShowsDanger m advisory IsIn w

-- of a cell under an advice
abbrev pub IsVerdictOnCell : ModelData → CellName → Ruling → Type 0
IsVerdictOnCell m name ruling = IsVerdict m name.advice (IsInCell m name.n name.i name.j name.k) ruling

-- of the box at a place
abbrev pub IsVerdictOnBox : ModelData → List AuditedBox → ℕ → Ruling → Type 0
IsVerdictOnBox m said place ruling = IsVerdict m (box_at said place).advisory (IsInBox (box_at said place).states) ruling
