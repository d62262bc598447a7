-- The states of a block's cells: their area, and when one of the cells is endangered.
use Rattle.std.specs.Prelude.{ℕ}
use Rattle.acas_spec.specs.Model.{ModelData}
use Rattle.acas_flight.specs.Contact.{IsEndangeredCell}
use Rattle.acas_flight.specs.Clear.{Area}
use Rattle.acas_cells.specs.Blocks.{IsInBlock}
use Rattle.acas_rulings.specs.Spans.{between}
use Rattle.acas_cells.specs.declared.block.Block.{Block}

-- some cell of the block, of n seconds, is endangered under an advisory
pub record IsEndangeredBlock (m : ModelData) (n advisory : ℕ) (b : Block) : Type 0 where
  pub i : ℕ
  pub j : ℕ
  pub k : ℕ
  pub inside : IsInBlock b i j k
  pub danger : IsEndangeredCell m n i j k advisory

-- the area of a block: from the lower ends of its first cell to the upper ends of its last
abbrev pub area_of_block : ModelData → Block → Area
area_of_block m b = record { altitude = between m.grid.h b.i0 b.i1; own = between m.grid.v0 b.j0 b.j1; intruder = between m.grid.v1 b.k0 b.k1 }
