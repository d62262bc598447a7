use Rattle.std.proofs.Common.{◌+◌, ◌<◌, refl, subst, sym, ◌∙◌, arith}
use Rattle.acas_flight.specs.Contact.{IsEndangeredCell}
use Rattle.acas_audit_blocks.specs.Audits.{IsAuditOf}
use Rattle.acas_cells.specs.Blocks.{IsBlockOf, cells_in}
use Rattle.acas_audit_blocks.specs.Decisions.{IsDecidedBy, clear, halved, one_cell}
use Rattle.acas_cells.specs.declared.block.Block.{Block}
use Rattle.acas_audit_blocks.proofs.Counted.{none_decided, tabled_here, waits_after, waits_in_part}
use Rattle.acas_audit_blocks.proofs.Decided.{in_audit}
use Rattle.acas_audit_blocks.proofs.Halves.{most_of_both, parts_of_halves, room_of_first, room_of_second, sides, some_cells}
use Rattle.acas_audit_blocks.proofs.Ruled.{danger_everywhere, one_answer, ruled_kept, ruled_parts, ruled_safe}
use Rattle.acas_audit_blocks.proofs.block_audit.BlockAudit.+decide_block.Goals as goal

pub waits-requires-clause-advice : goal.waits-requires-clause-advice
waits-requires-clause-advice t c = omega (arith, c.requires.advice, c.grid.ensures.valid.grid.few_advisories)

pub certify-requires-clause-advice : goal.certify-requires-clause-advice
certify-requires-clause-advice t c = omega (arith, c.requires.advice, c.grid.ensures.valid.grid.few_advisories)

pub returns-then-not-waits-clause-ruled : goal.returns-then-not-waits-clause-ruled
returns-then-not-waits-clause-ruled t c =
    ruled_kept (λ i j k. IsEndangeredCell c.args.model.now c.args.n i j k c.args.advice) c.args.advice c.args.block.now c.args.self.now c.requires.sets
    (λ i j k h e. absurd (one_answer _ e (c.if-not-waits.ensures.none refl i j k h)))

pub returns-then-not-waits-clause-counted : goal.returns-then-not-waits-clause-counted
returns-then-not-waits-clause-counted t c = λ a present waits.
    (0, none_decided c.args.model.now a c.args.n present c.args.advice c.args.block.now c.args.self.now c.requires.some waits (c.if-not-waits.ensures.none refl), omega arith)

pub returns-then-block_clear-clause-ruled : goal.returns-then-block_clear-clause-ruled
returns-then-block_clear-clause-ruled t c =
    ruled_safe (λ i j k. IsEndangeredCell c.args.model.now c.args.n i j k c.args.advice) c.args.advice c.args.block.now c.args.self.now c.certify.new.self
    (λ i j k h danger. c.if-block_clear.ensures.exact.0 refl (record { i = i; j = j; k = k; inside = h; danger = danger }))
    c.certify.ensures

pub returns-then-block_clear-clause-counted : goal.returns-then-block_clear-clause-counted
returns-then-block_clear-clause-counted t c = λ a present waits. (
  1,
  clear c.args.block.now (tabled_here c.args.model.now a c.args.n present c.args.advice c.args.block.now c.args.self.now c.requires.some waits (c.if-not-waits.ensures.some refl)) (c.if-block_clear.ensures.exact.0 refl),
  c.block_clear.ensures.count,
)

pub returns-then-is_one_cell-clause-ruled : goal.returns-then-is_one_cell-clause-ruled
returns-then-is_one_cell-clause-ruled t c =
    ruled_kept (λ i j k. IsEndangeredCell c.args.model.now c.args.n i j k c.args.advice) c.args.advice c.args.block.now c.args.self.now c.requires.sets
    (λ i j k h e. danger_everywhere c.args.model.now c.args.n c.args.advice c.args.block.now (sym c.is_one_cell.ensures ∙ c.if-is_one_cell.true) (c.if-block_clear.ensures.danger refl) i j k h)

pub returns-then-is_one_cell-clause-counted : goal.returns-then-is_one_cell-clause-counted
returns-then-is_one_cell-clause-counted t c = λ a present waits. (
  1,
  one_cell c.args.block.now (tabled_here c.args.model.now a c.args.n present c.args.advice c.args.block.now c.args.self.now c.requires.some waits (c.if-not-waits.ensures.some refl)) (sym c.is_one_cell.ensures ∙ c.if-is_one_cell.true),
  c.block_clear.ensures.count,
)

pub decide_block-requires : goal.decide_block-requires
decide_block-requires t c =
    let m = c.args.model.now in
    let b = c.args.block.now in
    let parts = parts_of_halves b c.halves.result.0 c.halves.result.1 c.requires.block.some (sym c.is_one_cell.ensures ∙ c.if-is_one_cell.false) c.halves.ensures.first c.halves.ensures.second in
    let block : IsBlockOf m c.halves.result.0 = record {
      some = parts.some_first;
      i = omega (arith, parts.first_i, c.requires.block.i);
      j = omega (arith, parts.first_j, c.requires.block.j);
      k = omega (arith, parts.first_k, c.requires.block.k);
    } in
    let room = room_of_first _ c.args.count.now c.block_clear.new.count (cells_in c.halves.result.0) (cells_in c.halves.result.1) (cells_in b) c.block_clear.ensures.count parts.cells
    (some_cells c.halves.result.1 parts.some_second) c.requires.room
    in
    let fall : sides c.halves.result.0 < t = omega (arith, parts.first_smaller, c.decreases) in
    (fall, (c.requires.audit, (c.requires.sets, (c.requires.n, (c.requires.some, (c.requires.advice, (block, room)))))))

pub decide_block-requires-2 : goal.decide_block-requires-2
decide_block-requires-2 t c =
    let m = c.args.model.now in
    let b = c.args.block.now in
    let parts = parts_of_halves b c.halves.result.0 c.halves.result.1 c.requires.block.some (sym c.is_one_cell.ensures ∙ c.if-is_one_cell.false) c.halves.ensures.first c.halves.ensures.second in
    let same = c.decide_block.ensures.ruled.same in
    let audit : IsAuditOf m c.decide_block.new.self = record {
      altitudes = same.altitudes ∙ c.requires.audit.altitudes;
      own_rates = same.own_rates ∙ c.requires.audit.own_rates;
      intruder_rates = same.intruder_rates ∙ c.requires.audit.intruder_rates;
    } in
    let block : IsBlockOf m c.halves.result.1 = record {
      some = parts.some_second;
      i = omega (arith, parts.second_i, c.requires.block.i);
      j = omega (arith, parts.second_j, c.requires.block.j);
      k = omega (arith, parts.second_k, c.requires.block.k);
    } in
    let room = room_of_second _ c.args.count.now c.block_clear.new.count c.decide_block.new.count (cells_in c.halves.result.0) (cells_in c.halves.result.1) (cells_in b) c.block_clear.ensures.count parts.cells
    c.decide_block.ensures.most c.requires.room
    in
    let fall : sides c.halves.result.1 < t = omega (arith, parts.second_smaller, c.decreases) in
    (fall, (audit, (c.decide_block.ensures.ruled.sets, (c.requires.n, (c.requires.some, (c.requires.advice, (block, room)))))))

pub returns-clause-ruled : goal.returns-clause-ruled
returns-clause-ruled t c =
    let m = c.args.model.now in
    let b = c.args.block.now in
    let parts = parts_of_halves b c.halves.result.0 c.halves.result.1 c.requires.block.some (sym c.is_one_cell.ensures ∙ c.if-is_one_cell.false) c.halves.ensures.first c.halves.ensures.second in
    ruled_parts (λ i j k. IsEndangeredCell m c.args.n i j k c.args.advice) c.args.advice b c.halves.result.0 c.halves.result.1
    c.args.self.now c.decide_block.new.self c.decide_block-2.new.self
    (in_audit m c.args.self.now b c.requires.audit c.requires.block) parts c.decide_block.ensures.ruled c.decide_block-2.ensures.ruled

pub returns-clause-counted : goal.returns-clause-counted
returns-clause-counted t c = λ a present waits.
    let m = c.args.model.now in
    let b = c.args.block.now in
    let parts = parts_of_halves b c.halves.result.0 c.halves.result.1 c.requires.block.some (sym c.is_one_cell.ensures ∙ c.if-is_one_cell.false) c.halves.ensures.first c.halves.ensures.second in
    let first = c.decide_block.ensures.counted a present (waits_in_part m a c.args.n present c.args.advice b c.halves.result.0 c.args.self.now parts.in_first waits) in
    let second = c.decide_block-2.ensures.counted a present
    (waits_after m a c.args.n present c.args.advice b c.halves.result.0 c.halves.result.1 (λ i j k. IsEndangeredCell m c.args.n i j k c.args.advice)
    c.args.self.now c.decide_block.new.self (in_audit m c.args.self.now b c.requires.audit c.requires.block) parts c.decide_block.ensures.ruled waits)
    in (
      1 + first.0 + second.0,
      halved b first.0 second.0
          (tabled_here m a c.args.n present c.args.advice b c.args.self.now c.requires.some waits (c.if-not-waits.ensures.some refl))
          (c.if-block_clear.ensures.danger refl) (sym c.is_one_cell.ensures ∙ c.if-is_one_cell.false)
          (subst (λ (x : Block). IsDecidedBy m a c.args.n present c.args.advice x first.0) c.halves.ensures.first first.1)
          (subst (λ (x : Block). IsDecidedBy m a c.args.n present c.args.advice x second.0) c.halves.ensures.second second.1),
      omega (arith, first.2, second.2, c.block_clear.ensures.count),
    )

pub returns-clause-most : goal.returns-clause-most
returns-clause-most t c =
    let m = c.args.model.now in
    let b = c.args.block.now in
    let parts = parts_of_halves b c.halves.result.0 c.halves.result.1 c.requires.block.some (sym c.is_one_cell.ensures ∙ c.if-is_one_cell.false) c.halves.ensures.first c.halves.ensures.second in
    most_of_both c.args.count.now c.block_clear.new.count c.decide_block.new.count c.decide_block-2.new.count (cells_in c.halves.result.0) (cells_in c.halves.result.1) (cells_in b)
    c.block_clear.ensures.count parts.cells c.decide_block.ensures.most c.decide_block-2.ensures.most
