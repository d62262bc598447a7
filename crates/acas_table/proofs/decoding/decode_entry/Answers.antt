use Rattle.std.proofs.Common.{◌≡◌, ℤ, ap, ◌∙◌, w64, to_z, of_z, slice_index_or, rules}
use Rattle.std.proofs.lemmas.Int.{to_z-of_z}
use Rattle.std.specs.Int.{cast_signed}
use Rattle.byteorder.specs.Endian.{little_number}
use Rattle.acas_units.specs.declared.pair.Entry.{Entry}
use Rattle.acas_table_text.specs.Format.{part}
use Rattle.acas_table_text.specs.Text.{entry_of}
use Rattle.acas_table.proofs.decoding.decode_entry.Goals as goal

pub returns-clause-value : goal.returns-clause-value
unfolding entry_of
returns-clause-value c =
    let upper : to_z w64 (of_z w64 c.read_i64.result) ≡ cast_signed w64 (little_number 8 (part c.args.field.now 0 8)) =
    to_z-of_z w64 c.read_i64.result (search rules) ∙ c.read_i64.ensures in
    let lower : to_z w64 (of_z w64 c.read_i64-2.result) ≡ cast_signed w64 (little_number 8 (part c.args.field.now 8 8)) =
    to_z-of_z w64 c.read_i64-2.result (search rules) ∙ c.read_i64-2.ensures in
    let made : ℤ → ℤ → Entry = λ u l. record { pair = record { upper = u; lower = l }; advice = slice_index_or c.args.field.now 16 0 } in
    ap (λ (u : ℤ). made u (to_z w64 (of_z w64 c.read_i64-2.result))) upper ∙ ap (λ (l : ℤ). made (cast_signed w64 (little_number 8 (part c.args.field.now 0 8))) l) lower
