use Rattle.std.proofs.Common.{◌≡◌, ℕ, ◌+◌, ◌*◌, ◌≤◌, sym, ◌∙◌, ap, subst, arith, mul-le-mul_right}
use Rattle.std.proofs.lemmas.Grind.{common_steps}
use Rattle.acas_spec.specs.Model.{GridData}
use Rattle.acas_flight.specs.Contact.{IsEndangeredCell}
use Rattle.acas_audit_blocks.specs.Audits.{IsRuledIn, Waits}
use Rattle.acas_cells.specs.Blocks.{IsBlockOf, all_cells, cells_in}
use Rattle.acas_cells.specs.DecisionCounts.{IsSumBelow}
use Rattle.acas_audit_blocks.specs.Decisions.{AreDecisionsUnder, IsDecidedBy}
use Rattle.acas_cells.specs.declared.block.Block.{Block}
use Rattle.acas_audit_blocks.proofs.Decided.{IsDecidedBelow, decided_at_first, decided_next, decided_under, exact_sets, none_at_first, waits_next}
use Rattle.acas_cells.proofs.DecisionCounts.{one_more_at}
use Rattle.acas_audit_blocks.proofs.block_audit.BlockAudit.decide.Goals as goal

pub loop-advice-init : goal.loop-advice-init
loop-advice-init c = record {
  audit = record {
    altitudes = c.fill.ensures.same.altitudes ∙ c.requires.audit.altitudes;
    own_rates = c.fill.ensures.same.own_rates ∙ c.requires.audit.own_rates;
    intruder_rates = c.fill.ensures.same.intruder_rates ∙ c.requires.audit.intruder_rates;
  };
  decided = decided_at_first c.args.model.now c.args.advices.now c.args.n c.args.present c.fill.new.self c.fill.ensures.begun;
  counted = (0, none_at_first c.args.model.now c.args.advices.now c.args.n c.args.present, omega arith);
  most = omega arith;
}

pub decide_block-requires-clause-room : goal.decide_block-requires-clause-room
decide_block-requires-clause-room c =
    let m = c.args.model.now in
    let count_same : c.behind-model.inside.advisories ≡ m.grid.advisories = ap (λ (g : GridData). g.advisories) (c.behind-model.view_is ∙ c.grid.ensures.value) in
    let here : c.loop-advice.advice + 1 ≤ m.grid.advisories = omega arith in
    let same : cells_in c.all_cells-block.result ≡ cells_in (all_cells m) = ap (λ (b : Block). cells_in b) c.all_cells-block.ensures.value in
    omega (arith, c.requires.room, c.loop-advice.invariant.most, mul-le-mul_right (2 * cells_in (all_cells m)) here, same)

pub loop-advice-preserved : goal.loop-advice-preserved
loop-advice-preserved c =
    let m = c.args.model.now in
    let a = c.args.advices.now in
    let n = c.args.n in
    let present = c.args.present in
    let advice = c.loop-advice.advice in
    let old = c.loop-advice.self in
    let new = c.decide_block.new.self in
    let inv = c.loop-advice.invariant in
    let value = c.all_cells-block.ensures.value in
    let ruled : IsRuledIn (λ i j k. IsEndangeredCell m n i j k advice) advice (all_cells m) old new =
    subst (λ (b : Block). IsRuledIn (λ i j k. IsEndangeredCell m n i j k advice) advice b old new) value c.decide_block.ensures.ruled
    in
    let block : IsBlockOf m (all_cells m) = subst (λ (b : Block). IsBlockOf m b) value c.all_cells-block.ensures.block in
    let waits = waits_next m a n present advice old inv.audit block inv.decided in
    let here = c.decide_block.ensures.counted a present (subst (λ (b : Block). Waits m a n present advice b old) (sym value) waits) in
    let decided : IsDecidedBy m a n present advice (all_cells m) here.0 = subst (λ (b : Block). IsDecidedBy m a n present advice b here.0) value here.1 in
    let before = inv.counted in
    let same : cells_in c.all_cells-block.result ≡ cells_in (all_cells m) = ap (λ (b : Block). cells_in b) value in
    record {
      audit = record {
        altitudes = ruled.same.altitudes ∙ inv.audit.altitudes;
        own_rates = ruled.same.own_rates ∙ inv.audit.own_rates;
        intruder_rates = ruled.same.intruder_rates ∙ inv.audit.intruder_rates;
      };
      decided = decided_next m a n present advice old new inv.audit block inv.decided ruled;
      counted = (
        before.0 + here.0,
        one_more_at (AreDecisionsUnder m a n present) advice before.0 here.0 before.1 (decided_under m a n present advice here.0 (omega (arith, c.loop-advice.auto.advice)) decided),
        omega (arith, before.2, here.2),
      );
      most = omega (arith, inv.most, c.decide_block.ensures.most, same);
    }

pub returns-clause-sets : goal.returns-clause-sets
returns-clause-sets c =
    let m = c.args.model.now in
    let count_same : c.behind-model.inside.advisories ≡ m.grid.advisories = ap (λ (g : GridData). g.advisories) (c.behind-model.view_is ∙ c.grid.ensures.value) in
    let ends : c.loop-advice.advice ≡ m.grid.advisories = omega (arith, c.loop-advice-test.false, c.loop-advice.auto.advice-end, c.grid.ensures.valid.grid.some_advisories) in
    exact_sets m c.args.advices.now c.args.n c.args.present c.loop-advice.self c.loop-advice.invariant.audit
    (subst (λ (x : ℕ). IsDecidedBelow m c.args.advices.now c.args.n c.args.present x c.loop-advice.self) ends c.loop-advice.invariant.decided)

pub returns-clause-counted : goal.returns-clause-counted
returns-clause-counted c =
    let m = c.args.model.now in
    let count_same : c.behind-model.inside.advisories ≡ m.grid.advisories = ap (λ (g : GridData). g.advisories) (c.behind-model.view_is ∙ c.grid.ensures.value) in
    let ends : c.loop-advice.advice ≡ m.grid.advisories = omega (arith, c.loop-advice-test.false, c.loop-advice.auto.advice-end, c.grid.ensures.valid.grid.some_advisories) in
    let number = c.loop-advice.invariant.counted in
    (number.0, subst (λ (x : ℕ). IsSumBelow (AreDecisionsUnder m c.args.advices.now c.args.n c.args.present) x number.0) ends number.1, number.2)

pub returns-clause-most : goal.returns-clause-most
returns-clause-most c = grind (arith, common_steps)
