use Rattle.std.proofs.Common.{◌+◌, ◌++◌, List, ℕ, sym, ◌∙◌, ap, subst}
use Rattle.acas_units.specs.declared.pair.Pair.{Pair}
use Rattle.acas_base.specs.Layers.{GainsLayer, LayersData, layers_view}
use Rattle.acas_base.proofs.Grown.{grown}
use Rattle.acas_base.proofs.layers.Layers.push.Goals as goal

-- layers with these pairs and advices, of which one more stands
abbrev with_lists : LayersData → List Pair → List ℕ → LayersData
with_lists old pairs advice = record { horizon = old.horizon; states = old.states; count = old.count + 1; pairs = pairs; advice = advice }

pub returns : goal.returns
returns c =
    let old = layers_view c.self.inside in
    let pairs = c.args.pairs.now in
    let advice = c.args.advice.now in
    let states = sym (ap (λ (l : LayersData). l.states) c.self.view_is) in
    subst (λ (l : LayersData). GainsLayer l (with_lists old c.append.new.list.items c.append-2.new.list.items) pairs advice) c.self.view_is
    (subst (λ (xs : List Pair). GainsLayer old (with_lists old xs c.append-2.new.list.items) pairs advice) (sym c.append.ensures.items)
    (subst (λ (xs : List ℕ). GainsLayer old (with_lists old (old.pairs ++ pairs) xs) pairs advice) (sym c.append-2.ensures.items)
    (grown old pairs advice c.self.invariant.pairs c.self.invariant.advice (c.requires.pairs ∙ states) (c.requires.advice ∙ states))))
