use Rattle.std.proofs.Common.{◌≡◌, pos, to_z, of_z, ◌∙◌, rules}
use Rattle.std.proofs.lemmas.Int.{to_z-of_z}
use Rattle.acas_step.specs.Ends.{weight_of_cell}
use Rattle.acas_step.proofs.CornerLaws.{AreEight, interpolates, weighs}
use Rattle.acas_step.proofs.ShareLaws.{are_corners}
use Rattle.acas_step.proofs.cell.corner_set.Goals as goal
use mir.Syntax.{w128}
use mir.Val.{SFits}

pub returns : goal.returns
returns c =
    let t : SFits w128 c.total_of.result = search rules in
    let total : to_z w128 (of_z w128 c.total_of.result) ≡ pos (weight_of_cell c.args.cell.now) = to_z-of_z w128 c.total_of.result t ∙ c.total_of.ensures.value in
    let eight : AreEight c.args.grid.now c.args.cell.now c.corner_at.result c.corner_at-2.result c.corner_at-3.result c.corner_at-4.result c.corner_at-5.result c.corner_at-6.result c.corner_at-7.result c.corner_at-8.result =
    record {
      at_a = c.corner_at.ensures;
      at_b = c.corner_at-2.ensures;
      at_c = c.corner_at-3.ensures;
      at_d = c.corner_at-4.ensures;
      at_e = c.corner_at-5.ensures;
      at_f = c.corner_at-6.ensures;
      at_h = c.corner_at-7.ensures;
      at_i = c.corner_at-8.ensures;
    } in
    record {
      corners = λ s round. are_corners _ s _ _ _ _ _ _ _ _ _ _ c.requires.grid round eight total;
      sums = λ s round. interpolates _ s _ _ _ _ _ _ _ _ _ _ c.requires.grid round eight total;
      weights = λ s round. weighs _ s _ _ _ _ _ _ _ _ _ _ c.requires.grid round eight total c.total_of.ensures.light;
    }
