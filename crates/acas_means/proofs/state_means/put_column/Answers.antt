use Rattle.std.proofs.lemmas.Grind.{common_steps}
use Rattle.std.proofs.Common.{◌≡◌, ℕ, ◌<◌, length, ap, subst, ◌∙◌, arith}
use Rattle.acas_spec.specs.Model.{GridData}
use Rattle.acas_grid.specs.Grid.{state_number}
use Rattle.acas_means.specs.Columns.{pairs_at, vertex_in}
use Rattle.acas_means.specs.Layer.{pair_at}
use Rattle.acas_means.proofs.ColumnPlaces.{other_vertex, vertex_written}
use Rattle.acas_means.proofs.state_means.put_column.Goals as goal

pub loop-i-preserved : goal.loop-i-preserved
loop-i-preserved c =
    let g = c.args.model.now.grid in
    let column = c.args.column in
    let i = c.loop-i.i in
    let lists = c.args.column_means.now in
    let so_far = c.loop-i.invariant in
    let inside = c.requires.column in
    let here : i < length g.h = omega (arith, c.loop-i-test.true, c.len-i-end.ensures.value, ap (λ (g : GridData). length g.h) c.grid.view_is, ap (λ (g : GridData). length g.h) c.grid-grid.ensures.value) in
    let at : c.vertex_in_column-vertex.result ≡ vertex_in g column i = c.vertex_in_column-vertex.ensures.value ∙ ap (λ (g : GridData). vertex_in g column i) c.grid-grid.ensures.value in
    record {
      count = c.put_means.ensures.count;
      written = vertex_written g column i c.loop-i.means c.put_means.new.means lists inside here so_far.written
          (λ a known. subst (λ (v : ℕ). pair_at c.put_means.new.means (state_number g a v) ≡ pair_at (pairs_at lists i) a) at (c.put_means.ensures.written a known))
          (λ s other. c.put_means.ensures.others s (λ same. other (same ∙ at)));
      others = λ s other. c.put_means.ensures.others s (λ same. other_vertex g column i s inside other (same ∙ at)) ∙ so_far.others s other;
    }

pub loop-i-init : goal.loop-i-init
loop-i-init c = grind (arith, common_steps)

pub returns : goal.returns
returns c = grind (arith, common_steps)
