use Rattle.std.proofs.Common.{◌≡◌, ◌-◌, ◌*◌, ◌+◌, length, pos, arith, ◌∙◌}
use Rattle.std.proofs.lemmas.Grind.{common_steps}
use Rattle.std.proofs.lemmas.Slice.{take-put_mid}
use Rattle.acas_units.specs.declared.pair.Pair.{Pair}
use Rattle.acas_table_text.proofs.Layers.{text_next, text_step}
use Rattle.acas_table_writer.proofs.encoding.encode_entries.Goals as goal

pub loop-i-preserved : goal.loop-i-preserved
loop-i-preserved c =
    let i = c.loop-i.i in
    let zero_pair : Pair = record { upper = pos 0; lower = pos 0 } in
    let whole : length c.copy_from_slice.new.self ≡ 17 = grind (arith, common_steps) in
    take-put_mid (17 * i) (17 * i + 17 - 17 * i) c.loop-i.out c.copy_from_slice.new.self (17 * (i + 1)) (omega arith) (omega arith)
    ∙ text_step _ _ _ _ _ c.loop-i.invariant (c.copy_from_slice.ensures.after ∙ c.entry_bytes.ensures) (text_next c.args.pairs.now c.args.advice.now i zero_pair c.requires.long c.loop-i-test.true)
