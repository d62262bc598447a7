-- The lines of a report.
use Rattle.std.specs.Prelude.{ℕ, List, [], ◌∷◌, ◌++◌, codes, Bool, true, false}
use Rattle.std.specs.Fmt.{decimal, signed_decimal}
use Rattle.std.specs.List.{flat_map}
use Rattle.acas_spec.specs.Model.{ModelData, advisory_at}
use Rattle.acas_frac.specs.Fraction.{fraction_text}
use Rattle.acas_rulings.specs.Printed.{segments_of}
use Rattle.acas_rulings.specs.declared.flight.Segment.{Segment}
use Rattle.acas_rulings.specs.declared.flight.Witness.{Witness}
use Rattle.acas_cells.specs.declared.name.CellName.{CellName}
use Rattle.acas_rulings.specs.declared.ruling.Ruling.{Ruling}
use Rattle.acas_rulings.specs.declared.ruling.Ruling.TheVariants.{Certified, Reported}
use Rattle.acas_report_lines.specs.declared.counts.Counts.{Counts}

-- a space and a text
unfoldable pub field : List ℕ → List ℕ
field text = 32 ∷ text

-- a word, a space and a text, behind a space
unfoldable pub labelled : List ℕ → List ℕ → List ℕ
labelled word text = field word ++ field text

-- ---- witnesses

-- a segment: its duration, `@` and its acceleration
unfoldable pub segment_text : Segment → List ℕ
segment_text s = fraction_text s.duration ++ 64 ∷ fraction_text s.acceleration

-- segments, each behind a space
abbrev pub parts_text : List Segment → List ℕ
parts_text parts = flat_map (λ s. field (segment_text s)) parts

-- the segments with a space between them, or `none`
abbrev pub response_text : List Segment → List ℕ
response_text [] = codes "none"
response_text (s ∷ rest) = segment_text s ++ parts_text rest

-- the time, the range, the closing speed, the altitude in ticks, both rates, and the response
unfoldable pub witness_text : Witness → List ℕ
witness_text w =
    labelled (codes "time") (fraction_text w.flight.time)
    ++ labelled (codes "range") (fraction_text w.range)
    ++ labelled (codes "speed") (fraction_text w.speed)
    ++ labelled (codes "ticks") (signed_decimal w.flight.h)
    ++ labelled (codes "own") (fraction_text w.flight.v0)
    ++ labelled (codes "intruder") (fraction_text w.flight.v1)
    ++ labelled (codes "response") (response_text (segments_of w.flight))

-- ---- rulings

-- the ruling says that nothing is endangered
abbrev pub is_certified : Ruling → Bool
is_certified Certified = true
is_certified (Reported witness) = false

-- what a line says of a cell or box
abbrev pub ruling_text : Ruling → List ℕ
ruling_text Certified = codes " certified\n"
ruling_text (Reported w) = codes " reported" ++ witness_text w ++ codes "\n"

-- the cell and the advice, by the advisories' names
unfoldable pub cell_text : ModelData → CellName → List ℕ
cell_text m c =
    codes "cell" ++ field (decimal c.n) ++ field (advisory_at m c.present).name
    ++ field (decimal c.i) ++ field (decimal c.j) ++ field (decimal c.k)
    ++ field (advisory_at m c.advice).name

-- the box, by its number
unfoldable pub box_text : ℕ → List ℕ
box_text number = codes "box" ++ field (decimal number)

-- the line of a cell under an advice
abbrev pub cell_line : ModelData → CellName → Ruling → List ℕ
cell_line m name ruling = cell_text m name ++ ruling_text ruling

-- the line of a box, by the text of a ruling of any kind
abbrev pub line_of_box : {R : Type 0} → (R → List ℕ) → ℕ → R → List ℕ
line_of_box text number ruling = box_text number ++ text ruling

-- ---- counts

-- how many are certified and how many reported, with which a last line begins
abbrev pub totals_text : Counts → List ℕ
totals_text counts = codes "certified" ++ field (decimal counts.certified) ++ codes " reported" ++ field (decimal counts.reported)

-- the last line of an audit
unfoldable pub counts_text : Counts → List ℕ
counts_text counts =
    codes "certified" ++ field (decimal counts.certified) ++ codes " reported" ++ field (decimal counts.reported)
    ++ codes " clear" ++ field (decimal counts.clear) ++ codes "\n"

-- the last line of a box file's report
unfoldable pub box_counts_text : Counts → List ℕ
box_counts_text counts =
    codes "certified" ++ field (decimal counts.certified) ++ codes " reported" ++ field (decimal counts.reported) ++ codes "\n"
