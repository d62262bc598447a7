use Rattle.std.proofs.Common.{◌≡◌, ◌∙◌, List, length, replicate, get_or, sym, arith}
use Rattle.std.proofs.lemmas.List.{get_or-replicate, length-replicate, same_lists}
use Rattle.acas_units.specs.declared.pair.Entry.{Entry}
use Rattle.acas_sweep.specs.Best.{no_entry}
use Rattle.acas_sweep.proofs.entries.blank_entries.Goals as goal

pub returns : goal.returns
returns c =
    let row : List Entry = replicate 16 no_entry in
    let long : length c.from_fn.result ≡ 129 = c.from_fn.ensures.items.long in
    record {
      blank = same_lists c.from_fn.result (replicate 129 row) (long ∙ sym (length-replicate 129 row))
          (λ k d inside. let called = c.from_fn.ensures.items.at k d (omega (arith, long)) in
          let is : get_or c.from_fn.result k d ≡ row = called.2.met in
          is ∙ sym (get_or-replicate 129 k row d (omega (arith, long))));
    }
