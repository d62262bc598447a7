-- What is ruled on, and rulings on the cells of the model and on boxes.
use Rattle.std.specs.Prelude.{◌≡◌, ℕ, pos, List, [], ◌∷◌}
use Rattle.acas_cells.specs.declared.name.CellName.{CellName}
use Rattle.acas_rulings.specs.declared.ruling.Ruling.{Ruling}
use Rattle.acas_rulings.specs.declared.ruling.Ruling.TheVariants.{Certified, Reported}
use Rattle.acas_rulings.specs.declared.verdict.MeetVerdict.{MeetVerdict}
use Rattle.acas_rulings.specs.declared.verdict.MeetVerdict.TheVariants as meet
use Rattle.acas_report_lines.specs.Report.{Ruled}
use Rattle.acas_report_lines.specs.declared.counts.Counts.{Counts}
use Rattle.acas_cell_examples.specs.Tabled.{under_climb}
use Rattle.acas_cell_examples.specs.Witnesses.{levelling, seen, turning}

-- a ruling on something
abbrev pub on : {N R : Type 0} → N → R → Ruled N R
on name ruling = record { name = name; ruling = ruling }

-- a number is ruled on by itself
abbrev pub IsItself : ℕ → ℕ → Type 0
IsItself name ruling = ruling ≡ name

-- so many are certified, reported and clear
abbrev pub counted : ℕ → ℕ → ℕ → Counts
counted certified reported clear = record { certified = certified; reported = reported; clear = clear }

-- rulings on the four advisory cells, of which the second alone is reported
abbrev pub cells_ruled : List (Ruled CellName Ruling)
cells_ruled =
    on (under_climb 0 0 0) Certified
    ∷ on (under_climb 0 0 1) (Reported (seen (pos 1000) 1 (pos 250) (pos 2)))
    ∷ on (under_climb 0 1 1) Certified
    ∷ on (under_climb 1 0 0) Certified ∷ []

-- rulings on three boxes, of which the second alone is reported
abbrev pub boxes_ruled : List (Ruled ℕ Ruling)
boxes_ruled = on 0 Certified ∷ on 1 (Reported levelling) ∷ on 2 Certified ∷ []

-- the same against an intruder that may change its rate
abbrev pub boxes_met : List (Ruled ℕ MeetVerdict)
boxes_met = on 0 meet.Certified ∷ on 1 (meet.Reported turning) ∷ on 2 meet.Certified ∷ []
