use Rattle.std.proofs.Common.{◌≡◌, ℕ, ◌<◌, ⊎_elim, List, [], length, ap, sym, subst, ◌∙◌, arith}
use Rattle.std.proofs.lemmas.List.{length-set}
use Rattle.acas_spec.specs.Model.{GridData}
use Rattle.acas_grid.specs.States.{vertex_at}
use Rattle.acas_units.specs.declared.pair.Pair.{Pair}
use Rattle.acas_means.specs.Columns.{pairs_at, vertex_in}
use Rattle.acas_means.specs.Layer.{pair_at}
use Rattle.acas_means.specs.Means.{AreMeansAt}
use Rattle.acas_means.proofs.ColumnLaws.{all_within_written}
use Rattle.acas_means.proofs.ColumnPlaces.{earlier_kept}
use Rattle.acas_means.proofs.PlacedMeans.{below_or_at}
use Rattle.acas_means.proofs.Written.{each_written}
use Rattle.acas_step_columns.proofs.columns.fill_advisory.Goals as goal

pub mean_pair_from-pair-requires-clause-earlier : goal.mean_pair_from-pair-requires-clause-earlier
mean_pair_from-pair-requires-clause-earlier c =
    let here : c.loop-i.i < length c.args.over.now.model.now.grid.h = omega (arith, c.loop-i-test.true, c.len-i-end.ensures.value, ap (λ (g : GridData). length g.h) c.behind-over.view_is, ap (λ (g : GridData). length g.h) c.grid.ensures.value) in
    λ b below. c.loop-i.invariant.earlier c.loop-i.i b here below

pub loop-i-preserved : goal.loop-i-preserved
loop-i-preserved c =
    let m = c.args.over.now.model.now in
    let a = c.args.advisory in
    let i = c.loop-i.i in
    let lists : List (List Pair) = c.loop-i.means in
    let pairs : List Pair = c.set_pair.new.pairs in
    let so_far = c.loop-i.invariant in
    let end : c.len-i-end.result ≡ length m.grid.h = c.len-i-end.ensures.value ∙ ap (λ (g : GridData). length g.h) c.behind-over.view_is ∙ ap (λ (g : GridData). length g.h) c.grid.ensures.value in
    let inside : i < length lists = omega (arith, c.loop-i-test.true, so_far.long, end, c.grid.ensures.valid.grid.altitudes.at_most) in
    let P : ℕ → ℕ → Pair → Type 0 = λ j b p. AreMeansAt m c.args.over.now.below.now (vertex_at m.grid (vertex_in m.grid c.args.column j)) b p in
    record {
      long = length-set lists i pairs ∙ so_far.long;
      earlier = earlier_kept P (length m.grid.h) i a lists pairs inside c.set_pair.ensures.others so_far.earlier;
      formed = each_written (λ (j : ℕ) (l : List Pair). P j a (pair_at l a)) lists i pairs [] inside so_far.formed (subst (λ (p : Pair). P i a p) (sym c.set_pair.ensures.pair) c.mean_pair_from-pair.ensures.means);
      bounded = λ most side within all.
          let before = so_far.bounded most side within all in
          all_within_written most side lists i pairs inside before (c.set_pair.ensures.bounded most side (c.mean_pair_from-pair.ensures.bounded most side within) (before.each i));
    }

pub returns-clause-means : goal.returns-clause-means
returns-clause-means c =
    let m = c.args.over.now.model.now in
    let so_far = c.loop-i.invariant in
    let lists : List (List Pair) = c.loop-i.means in
    let end : c.len-i-end.result ≡ length m.grid.h = c.len-i-end.ensures.value ∙ ap (λ (g : GridData). length g.h) c.behind-over.view_is ∙ ap (λ (g : GridData). length g.h) c.grid.ensures.value in
    λ i b here below. ⊎_elim
    (λ (l : b < c.args.advisory). so_far.earlier i b here l)
    (λ (at : b ≡ c.args.advisory). subst (λ (k : ℕ). AreMeansAt m c.args.over.now.below.now (vertex_at m.grid (vertex_in m.grid c.args.column i)) k (pair_at (pairs_at lists i) k)) (sym at)
    (so_far.formed i (omega (arith, c.loop-i-test.false, end, here))))
    (below_or_at b c.args.advisory below)
