-- The text of a report.
use Rattle.std.proofs.Common.{◌≡◌, ℕ, zero, suc, Bool, true, false, List, [], ◌∷◌, ◌++◌, Option, append_assoc, refl, sym, ap, ap₂, subst, ◌∙◌, cond}
use Rattle.std.specs.List.{flat_map}
use Rattle.std.proofs.lemmas.Grind.{flat_map-append}
use Rattle.std.proofs.lemmas.List.{append-nil}
use Rattle.acas_spec.specs.Model.{ModelData}
use Rattle.acas_base.specs.Advices.{AdvicesData}
use Rattle.acas_cells.specs.Cells.{Cell, cells_of}
use Rattle.acas_cells.specs.Cells as cells
use Rattle.acas_outside.specs.Bytes.{Appends, AppendsPart}
use Rattle.acas_outside.proofs.Appended.{appends_none}
use Rattle.acas_outside.specs.Printing.{Prints, below}
use Rattle.acas_outside.proofs.PrintedPieces.{part_of_longer, part_of_next, prints_all, prints_both, prints_nothing}
use Rattle.acas_safeable.specs.Outlooks.{is_looked_at}
use Rattle.acas_safeable.specs.SafeableText.{cell_line, cell_text}
use Rattle.acas_safeable.specs.Walk.{cell_count, numbered_cell}
use Rattle.acas_safeable.specs.declared.outlook.Outlook.{Outlook}
use Rattle.acas_safeable.proofs.Numbering.{cells_numbered}

-- ---- one cell

-- nothing is printed of a cell that is not looked at
pub prints_unlooked : (m : ModelData) (a : AdvicesData) (found : Cell → Outlook) (c : Cell) (told : Option (List ℕ)) (waits : List ℕ) → is_looked_at m a c ≡ false → Prints told told waits waits (cell_text m a found c)
prints_unlooked m a found c told waits fails =
    subst (Prints told told waits waits) (sym (ap (λ (b : Bool). cond b (cell_line m c (found c)) []) fails)) (prints_nothing told waits)

-- the line of one that is
pub looked_text : (m : ModelData) (a : AdvicesData) (found : Cell → Outlook) (c : Cell) (outlook : Outlook) → is_looked_at m a c ≡ true → outlook ≡ found c → cell_line m c outlook ≡ cell_text m a found c
looked_text m a found c outlook looked same = ap (cell_line m c) same ∙ sym (ap (λ (b : Bool). cond b (cell_line m c (found c)) []) looked)

-- ---- all cells

flat_below : (text : Cell → List ℕ) (cell : ℕ → Cell) (n : ℕ) → flat_map text (cells.below n (λ k. cell k ∷ [])) ≡ below n (λ k. text (cell k))
flat_below text cell zero = refl
flat_below text cell (suc n) =
    flat_map-append text (cells.below n (λ k. cell k ∷ [])) (cell n ∷ []) ∙ ap₂ ◌++◌ (flat_below text cell n) (append-nil (text (cell n)))

pub numbered_lines : (m : ModelData) (text : Cell → List ℕ) → below (cell_count m) (λ k. text (numbered_cell m k)) ≡ flat_map text (cells_of m)
numbered_lines m text = sym (flat_below text (numbered_cell m) (cell_count m)) ∙ ap (flat_map text) (cells_numbered m)

-- ---- the lines and the last line, behind nothing that waits

behind_nothing : (waits lines last : List ℕ) → waits ≡ [] → waits ++ (lines ++ last) ≡ lines ++ last
behind_nothing waits lines last empty = ap (λ (l : List ℕ). l ++ (lines ++ last)) empty

-- all of it
pub whole_text : (old mid new : Option (List ℕ)) (waits left lines last : List ℕ) → waits ≡ [] → Prints old mid waits left lines → Appends mid new (left ++ last) → Appends old new (lines ++ last)
whole_text old mid new waits left lines last empty first end =
    let last_prints : Prints mid mid left (left ++ last) last = record { sent = []; written = appends_none mid; all = refl } in
    subst (Appends old new) (behind_nothing waits lines last empty)
    (prints_all old mid new waits (left ++ last) (lines ++ last) (prints_both old mid mid waits left (left ++ last) lines last first last_prints) end)

-- a failure at the last line
pub part_at_last : (old mid new : Option (List ℕ)) (waits left lines last : List ℕ) → waits ≡ [] → Prints old mid waits left lines → AppendsPart mid new (left ++ last) → AppendsPart old new (lines ++ last)
part_at_last old mid new waits left lines last empty first part =
    subst (AppendsPart old new) (behind_nothing waits lines last empty) (part_of_next old mid new waits left lines last first part)

-- a failure before it
pub part_before_last : (old new : Option (List ℕ)) (waits lines last : List ℕ) → waits ≡ [] → AppendsPart old new (waits ++ lines) → AppendsPart old new (lines ++ last)
part_before_last old new waits lines last empty part =
    subst (AppendsPart old new) (append_assoc waits lines last ∙ behind_nothing waits lines last empty) (part_of_longer old new (waits ++ lines) last part)
