-- An entry is read as it was written.
use Rattle.std.proofs.Common.{◌≡◌, ℕ, ℤ, List, [], ◌++◌, ◌∙◌, ap, arith, w64, to_z, of_z}
use Rattle.std.proofs.lemmas.Int.{to_z-of_z}
use Rattle.std.proofs.Math.Facts.{Fits-of_z}
use Rattle.std.specs.Prelude.{FitsSigned}
use Rattle.byteorder.specs.Endian.{little_bytes, little_number}
use Rattle.byteorder.specs.Numbers.{little_number-reads_back}
use Rattle.acas_units.specs.declared.pair.Entry.{Entry}
use Rattle.acas_table_text.specs.Format.{part}
use Rattle.acas_table_text.specs.Text.{entry_of, entry_text}

number_again : (z : ℤ) (rest : List ℕ) → FitsSigned w64 z → to_z w64 (little_number 8 (little_bytes 8 (of_z w64 z) ++ rest)) ≡ z
number_again z rest fits = ap (λ (n : ℕ). to_z w64 n) (little_number-reads_back 8 (of_z w64 z) rest (omega (arith, Fits-of_z fits))) ∙ to_z-of_z w64 z fits

pub entry_again : (e : Entry) → FitsSigned w64 e.pair.upper → FitsSigned w64 e.pair.lower → entry_of (entry_text e) ≡ e
unfolding entry_of entry_text
entry_again e upper lower =
    let made : ℤ → ℤ → Entry = λ u l. record { pair = record { upper = u; lower = l }; advice = e.advice } in
    let up : to_z w64 (little_number 8 (part (entry_text e) 0 8)) ≡ e.pair.upper = number_again e.pair.upper [] upper in
    let low : to_z w64 (little_number 8 (part (entry_text e) 8 8)) ≡ e.pair.lower = number_again e.pair.lower [] lower in
    ap (λ (u : ℤ). made u (to_z w64 (little_number 8 (part (entry_text e) 8 8)))) up ∙ ap (λ (l : ℤ). made e.pair.upper l) low
