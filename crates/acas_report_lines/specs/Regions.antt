-- The report of a box file.
use Rattle.std.specs.Prelude.{ℕ, ◌<◌, List, [], ◌∷◌, ◌++◌, length, Bool, Option}
use Rattle.acas_spec.specs.Model.{ModelData}
use Rattle.acas_rulings.specs.Boxes.{AuditedBox, box_at}
use Rattle.acas_cells.specs.Cells.{below}
use Rattle.acas_rulings.specs.Rulings.{IsRulingOfBox}
use Rattle.acas_rulings.specs.declared.ruling.Ruling.{Ruling}
use Rattle.acas_report_lines.specs.Text.{line_of_box, ruling_text, box_counts_text, is_certified}
use Rattle.acas_report_lines.specs.Report.{Ruled, IsReportOn, IsBegun, lines_of, counts_of}
use Rattle.acas_report_lines.specs.declared.counts.Counts.{Counts}
use Rattle.acas_report_lines.specs.declared.counts.Which.TheVariants as which

-- each of the boxes is such a box
abbrev pub IsEachBox : (AuditedBox → Type 0) → List AuditedBox → Type 0
IsEachBox IsSuch boxes = (place : ℕ) → place < length boxes → IsSuch (box_at boxes place)

-- the places of boxes, from 0 on
abbrev pub places : List AuditedBox → List ℕ
places boxes = below (length boxes) (λ place. place ∷ [])

-- what is so of a ruling of a box is so of one of the box at a place
abbrev pub IsSaidAt : {R : Type 0} → (AuditedBox → R → Type 0) → List AuditedBox → ℕ → R → Type 0
IsSaidAt IsRulingOf boxes place ruling = IsRulingOf (box_at boxes place) ruling

-- the lines of boxes, each by its place, and then the counts
unfoldable pub boxes_text : {R : Type 0} → (R → Bool) → (R → List ℕ) → List (Ruled ℕ R) → List ℕ
boxes_text certified text ruled = lines_of certified (line_of_box text) which.All ruled ++ box_counts_text (counts_of certified ruled 0)

-- ---- where the intruder holds its rate

-- a ruling of the box at a place
abbrev pub IsRulingAt : ModelData → List AuditedBox → ℕ → Ruling → Type 0
IsRulingAt m boxes place ruling = IsRulingOfBox m (box_at boxes place) ruling

-- the lines of boxes, and then the counts
abbrev pub regions_text : List (Ruled ℕ Ruling) → List ℕ
regions_text ruled = boxes_text is_certified ruling_text ruled

-- A report of a box file: its boxes are ruled on, and the text is their lines and the counts.
abbrev pub IsRegionsReport : ModelData → List AuditedBox → Counts → List ℕ → Type 0
IsRegionsReport m boxes counts text = IsReportOn (IsRulingAt m boxes) is_certified (places boxes) 0 regions_text counts text

-- a report of a box file that was begun
abbrev pub IsRegionsReportBegun : ModelData → List AuditedBox → Option (List ℕ) → Option (List ℕ) → Type 0
IsRegionsReportBegun m boxes old new = IsBegun (IsRulingAt m boxes) (places boxes) regions_text old new
