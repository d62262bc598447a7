use Rattle.std.proofs.Common.{◌≡◌, length, ap, subst, sym, ◌∙◌, arith}
use Rattle.acas_spec.specs.Model.{GridData, entries}
use Rattle.acas_base.specs.Layers.{LayersData}
use Rattle.acas_sweep.specs.Layers.{AreLayers}
use Rattle.acas_plain.proofs.Below.{are_layers, same_lists, written_back}
use Rattle.acas_plain.proofs.list.sweep_list.Goals as goal

pub returns-clause-layers : goal.returns-clause-layers
returns-clause-layers c =
    let m = c.args.model.now in
    let count : c.entries-entries.result ≡ entries m.grid = c.entries-entries.ensures ∙ ap (λ (g : GridData). entries g) c.grid.ensures.value in
    let pairs_long : length c.fill_layers.new.pairs ≡ entries m.grid = omega (arith, count, c.fill_layers.auto.pairs, c.deref_mut.ensures.len, c.in_ok-pairs.ensures.len) in
    let advice_long : length c.fill_layers.new.advice ≡ entries m.grid = omega (arith, count, c.fill_layers.auto.advice, c.deref_mut-2.ensures.len, c.in_ok-advice.ensures.len) in
    let pairs_back : c.in_ok-pairs.pairs.len ≡ length c.fill_layers.new.pairs = omega (arith, count, pairs_long, c.in_ok-pairs.ensures.len) in
    let advice_back : c.in_ok-advice.advice.len ≡ length c.fill_layers.new.advice = omega (arith, count, advice_long, c.in_ok-advice.ensures.len) in
    subst (λ (l : LayersData). AreLayers m l)
    (sym (c.whole.ensures ∙ same_lists m.grid _ _ _ _ (written_back _ _ _ pairs_back) (written_back _ _ _ advice_back)))
    (are_layers m c.fill_layers.new.pairs c.fill_layers.new.advice pairs_long advice_long c.fill_layers.ensures.layers)
