-- What is known of a cell before its ruling is made.
use Rattle.std.proofs.Common.{◌≡◌, ℕ, Bool, true, false, List, Option, refl, sym, ◌∙◌, ap}
use Rattle.std.proofs.lemmas.Bool.{false≢true}
use Rattle.acas_spec.specs.Model.{ModelData}
use Rattle.acas_outside.specs.Printing.{Prints}
use Rattle.acas_outside.proofs.PrintedPieces.{prints_nothing}
use Rattle.acas_cells.specs.declared.name.CellName.{CellName}
use Rattle.acas_rulings.specs.Rulings.{IsRulingOfCell}
use Rattle.acas_rulings.specs.declared.ruling.Ruling.{Ruling}
use Rattle.acas_rulings.specs.declared.ruling.Ruling.TheVariants.{Certified, Reported}
use Rattle.acas_report_lines.specs.Report.{is_left_out, shown}
use Rattle.acas_report_lines.specs.Text.{is_certified}
use Rattle.acas_report_lines.specs.declared.counts.Which.{Which}
use Rattle.acas_report_lines.specs.declared.counts.Which.TheVariants as which

-- what is known of a cell is so of a ruling of it
pub as_known : (m : ModelData) (name : CellName) (known : Bool) (ruling : Ruling) → (known ≡ true → IsRulingOfCell m name Certified)
    → (known ≡ false → (r : Ruling) → IsRulingOfCell m name r → is_certified r ≡ false) → IsRulingOfCell m name ruling → known ≡ is_certified ruling
as_known m name true Certified certified reported is = refl
as_known m name true (Reported w) certified reported is = absurd (certified refl is.endangered)
as_known m name false ruling certified reported is = sym (reported refl ruling is)

-- only lines of certified cells are left out
pub left_out_certified : (which : Which) (known : Bool) → is_left_out which known ≡ true → known ≡ true
left_out_certified which.All known out = absurd (false≢true out)
left_out_certified which.Reported known out = out

-- whether a line is left out, by what is known of its cell
pub left_out_as_known : (which : Which) (known certified out : Bool) → known ≡ certified → out ≡ is_left_out which known → is_left_out which certified ≡ out
left_out_as_known which known certified out same is = ap (is_left_out which) (sym same) ∙ sym is

-- a line that is left out
pub prints_left_out : (w : Option (List ℕ)) (waits : List ℕ) (which : Which) (certified : Bool) (line : List ℕ) → is_left_out which certified ≡ true → Prints w w waits waits (shown which certified line)
prints_left_out w waits which certified line out = rw out (prints_nothing w waits)
