use Rattle.std.proofs.Common.{◌≡◌, ◌*◌, take}
use Rattle.acas_table_text.specs.Text.{layer_text, layer_of}
use Rattle.acas_table_writer.proofs.encoding.encode_entries.Given as goal

abbrev pub invariant-loop-i : goal.invariant-loop-i
invariant-loop-i l = take (17 * l.i) l.out ≡ layer_text (layer_of (take l.i l.pairs) (take l.i l.advice))
