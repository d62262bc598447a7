-- The format of texts, and of bytes that are cut.
use Rattle.std.proofs.Common.{◌≡◌, ℕ, ◌≤◌, cond, eqb, List, ◌++◌, length, take, sym, ◌∙◌, ap, arith}
use Rattle.std.proofs.lemmas.List.{length-take-le}
use Rattle.byteorder.specs.Endian.{little_number}
use Rattle.acas_units.specs.declared.pair.Entry.{Entry}
use Rattle.acas_table_text.specs.Format.{format_of}
use Rattle.acas_table_text.specs.Text.{chain, groups_of, header, text_of_layers}
use Rattle.acas_table_text.specs.declared.format.Format.{Format}
use Rattle.acas_table_text.specs.declared.format.Format.TheVariants.{Layered, Whole}
use Rattle.acas_table_text.specs.declared.shape.TableShape.{TableShape}
use Rattle.acas_table_text.proofs.Parts.{part-take}
use Rattle.acas_table_text.proofs.Formats.{format_long}

-- bytes that are cut behind their version
pub format_of_take : (bytes : List ℕ) (n : ℕ) → n ≤ length bytes → 8 ≤ n → format_of (take n bytes) ≡ format_of bytes
format_of_take bytes n within long =
    format_long (take n bytes) (omega (arith, length-take-le n bytes within))
    ∙ ap (λ (p : List ℕ). cond (eqb (little_number 4 p) 1) Whole Layered) (part-take bytes n 4 4 (omega arith))
    ∙ sym (format_long bytes (omega arith))

-- what begins with a header has its format
pub format-header : (f : Format) (digest : List ℕ) (s : TableShape) (rest : List ℕ) → format_of (header f digest s ++ rest) ≡ f
unfolding header
format-header Whole digest s rest = format_long (header Whole digest s ++ rest) (omega arith)
format-header Layered digest s rest = format_long (header Layered digest s ++ rest) (omega arith)

pub format-text : (f : Format) (digest : List ℕ) (s : TableShape) (layers : List (List Entry)) → format_of (text_of_layers f digest s layers) ≡ f
format-text f digest s layers = format-header f digest s (chain (header f digest s) (groups_of f layers))
