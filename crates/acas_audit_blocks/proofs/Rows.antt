-- The sets of a row of cells, one behind the other in the list.
use Rattle.std.proofs.Common.{◌≡◌, ℕ, ◌+◌, ◌-◌, ◌<◌, ◌≤◌, true, get_or, ◌∙◌, ap, arith}
use Rattle.acas_audit_blocks.specs.Audits.{BlockAuditData, no_sets, place_of, reported_at}
use Rattle.acas_cells.specs.Blocks.{IsInBlock, intruder_rates}
use Rattle.acas_cells.specs.Sets.{holds}
use Rattle.acas_cells.specs.declared.block.Block.{Block}

-- a cell of a row stands so many places behind the first
pub place_in_row : (a : BlockAuditData) (i j from k : ℕ) → from ≤ k → place_of a i j k ≡ place_of a i j from + (k - from)
place_in_row a i j from k after = omega (arith, after)

-- where an advice waits in a row, it waits in a cell of the block
pub found_in_row : (a : BlockAuditData) (b : Block) (i j start place advice : ℕ) → b.i0 ≤ i → i < b.i1 → b.j0 ≤ j → j < b.j1 →
    start ≡ place_of a i j b.k0 → start ≤ place → place < start + intruder_rates b → holds (get_or a.sets place no_sets).reported advice ≡ true →
    (y : ℕ) × (z : ℕ) × IsInBlock b i y z × (holds (reported_at a i y z) advice ≡ true)
found_in_row a b i j start place advice from_i before_i from_j before_j first after before there =
    let k = b.k0 + (place - start) in
    let here : place_of a i j k ≡ place = omega (arith, place_in_row a i j b.k0 k (omega arith), first, after) in (
      j,
      k,
      record { from_i = from_i; from_j = from_j; from_k = omega arith; before_i = before_i; before_j = before_j; before_k = omega (arith, after, before) },
      ap (λ (p : ℕ). holds (get_or a.sets p no_sets).reported advice) here ∙ there,
    )
