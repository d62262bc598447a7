use Rattle.std.proofs.Common.{true≢false, subst, sym, ◌∙◌}
use Rattle.std.proofs.lemmas.Bool.{true_from_ne_false}
use Rattle.acas_flight.specs.Response.{demand_of}
use Rattle.acas_flight.specs.Clear.{Area, IsEndangeredDuring}
use Rattle.acas_areas.specs.View.{times_of}
use Rattle.acas_witness_lemmas.proofs.Dangers.{not_clear_in}
use Rattle.acas_audit_blocks.proofs.Blocks.{danger_in_area, danger_in_block}
use Rattle.acas_audit_blocks.proofs.clear.block_clear.Goals as goal

-- a block whose area is not clear is endangered
pub returns-clause-danger : goal.returns-clause-danger
returns-clause-danger c =
    let m = c.args.model.now in
    let w = times_of c.window_of_cell-window.result in
    λ is. danger_in_block m c.args.n c.args.advice c.args.block.now w c.window_of_cell-window.ensures c.requires.block.some
    (subst (λ (area : Area). IsEndangeredDuring m.half (demand_of m c.args.advice) area w) c.area_of_block-area.ensures.area
    (not_clear_in m c.args.advice c.area_of_block-area.result c.window_of_cell-window.result c.area_of_block-area.ensures.model c.requires.advice
    (λ clear. true≢false (sym (c.is_clear.ensures.exact.1 clear) ∙ is))))

pub returns-clause-exact : goal.returns-clause-exact
returns-clause-exact c =
    let m = c.args.model.now in
    let b = c.args.block.now in
    let w = times_of c.window_of_cell-window.result in (
      λ clear danger. c.is_clear.ensures.safe clear
          (subst (λ (area : Area). IsEndangeredDuring m.half (demand_of m c.args.advice) area w) (sym c.area_of_block-area.ensures.area)
          (danger_in_area m c.args.n c.args.advice b w c.window_of_cell-window.ensures c.area_of_block-area.ensures.model c.requires.block danger)),
      λ none. true_from_ne_false c.is_clear.result (λ is. none
          (danger_in_block m c.args.n c.args.advice b w c.window_of_cell-window.ensures c.requires.block.some
          (subst (λ (area : Area). IsEndangeredDuring m.half (demand_of m c.args.advice) area w) c.area_of_block-area.ensures.area
          (not_clear_in m c.args.advice c.area_of_block-area.result c.window_of_cell-window.result c.area_of_block-area.ensures.model c.requires.advice
          (λ clear. true≢false (sym (c.is_clear.ensures.exact.1 clear) ∙ is)))))),
    )
