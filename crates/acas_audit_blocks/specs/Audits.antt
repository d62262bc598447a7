-- The sets of a block audit.
use Rattle.std.specs.Prelude.{◌≡◌, ℕ, ◌+◌, ◌-◌, ◌*◌, ◌<◌, ◌≤◌, ◌↔◌, ◌||◌, List, length, get_or, Bool, true, false, vec_capacity}
use Rattle.acas_units.specs.declared.limits.TheConstants.{GREATEST_VERTICES}
use Rattle.acas_spec.specs.Model.{ModelData}
use Rattle.acas_base.specs.Advices.{AdvicesData}
use Rattle.acas_flight.specs.Contact.{IsEndangeredCell}
use Rattle.acas_cells.specs.Blocks.{IsInBlock, IsSome}
use Rattle.acas_cells.specs.Cells.{Cell, IsCellOf, cell_at}
use Rattle.acas_cells.specs.Corners.{is_advised}
use Rattle.acas_cells.specs.Sets.{holds}
use Rattle.acas_cells.specs.declared.block.Block.{Block}
use Rattle.acas_cells.specs.declared.set.AdviceSet.{AdviceSet}
use Rattle.acas_audit_blocks.specs.declared.block_audit.BlockAudit.TheInside.{Inside}
use Rattle.acas_audit_blocks.specs.declared.block_audit.CellSets.{CellSets}

-- how many cells there are along each axis, and the two sets of each cell
pub record BlockAuditData : Type 0 where
  pub altitudes : ℕ
  pub own_rates : ℕ
  pub intruder_rates : ℕ
  pub sets : List CellSets

abbrev pub audit_view : Inside → BlockAuditData
audit_view a = record {
  altitudes = a.altitudes;
  own_rates = a.own_rates;
  intruder_rates = a.intruder_rates;
  sets = a.sets.items;
}

-- how many cells there are
abbrev pub cell_count : BlockAuditData → ℕ
cell_count a = a.altitudes * a.own_rates * a.intruder_rates

-- there is room for the sets of each cell
pub record HasRoom (a : Inside) : Type 0 where
  pub altitudes : a.altitudes < GREATEST_VERTICES
  pub own_rates : a.own_rates < GREATEST_VERTICES
  pub intruder_rates : a.intruder_rates < GREATEST_VERTICES
  pub sets : cell_count (audit_view a) ≤ vec_capacity a.sets

-- the audit's numbers of cells are those of a model
pub record IsAuditOf (m : ModelData) (a : BlockAuditData) : Type 0 where
  pub altitudes : a.altitudes ≡ length m.grid.h - 1
  pub own_rates : a.own_rates ≡ length m.grid.v0 - 1
  pub intruder_rates : a.intruder_rates ≡ length m.grid.v1 - 1

-- there are sets for each cell, and no more
abbrev pub HasSets : BlockAuditData → Type 0
HasSets a = length a.sets ≡ cell_count a

-- the two audits have the same numbers of cells
pub record HaveSameCells (old new : BlockAuditData) : Type 0 where
  pub altitudes : new.altitudes ≡ old.altitudes
  pub own_rates : new.own_rates ≡ old.own_rates
  pub intruder_rates : new.intruder_rates ≡ old.intruder_rates

-- there is a cell with the places i, j, k
pub record IsPlace (a : BlockAuditData) (i j k : ℕ) : Type 0 where
  pub altitude : i < a.altitudes
  pub own : j < a.own_rates
  pub intruder : k < a.intruder_rates

-- where its sets stand in the list
abbrev pub place_of : BlockAuditData → ℕ → ℕ → ℕ → ℕ
place_of a i j k = (i * a.own_rates + j) * a.intruder_rates + k

-- what the list holds where it ends: no advice in either set
abbrev pub no_sets : CellSets
no_sets = record { certified = record { bits = 0 }; reported = record { bits = 0 } }

-- the sets of a cell
abbrev pub sets_at : BlockAuditData → ℕ → ℕ → ℕ → CellSets
sets_at a i j k = get_or a.sets (place_of a i j k) no_sets

-- the first of a cell's sets: the advices under which it is certified
abbrev pub certified_at : BlockAuditData → ℕ → ℕ → ℕ → AdviceSet
certified_at a i j k = (sets_at a i j k).certified

-- the second: those under which it is reported, or that wait to be decided
abbrev pub reported_at : BlockAuditData → ℕ → ℕ → ℕ → AdviceSet
reported_at a i j k = (sets_at a i j k).reported

-- what the two sets of a cell of n seconds and a present advisory say of an advice: that it is tabled at a corner of the cell and the
-- cell is not endangered under it, or is
pub record AreExact (m : ModelData) (a : AdvicesData) (n present i j k advice : ℕ) (sets : CellSets) : Type 0 where
  pub certified : (holds sets.certified advice ≡ true) ↔ ((is_advised m a (cell_at n present i j k) advice ≡ true) × (¬ IsEndangeredCell m n i j k advice))
  pub reported : (holds sets.reported advice ≡ true) ↔ ((is_advised m a (cell_at n present i j k) advice ≡ true) × IsEndangeredCell m n i j k advice)

-- the audit is exact for n seconds and a present advisory: each cell's sets are, under each advice of the model
pub record AreSetsOf (m : ModelData) (a : AdvicesData) (n present : ℕ) (audit : BlockAuditData) : Type 0 where
  pub sets : HasSets audit
  pub exact : (i j k advice : ℕ) → IsCellOf m (cell_at n present i j k) → advice < m.grid.advisories →
      AreExact m a n present i j k advice (sets_at audit i j k)
  -- each advice that is tabled at a corner of a cell is in one of its sets, and no other is
  pub tabled : (i j k advice : ℕ) → IsCellOf m (cell_at n present i j k) →
      (holds (certified_at audit i j k) advice || holds (reported_at audit i j k) advice) ≡ is_advised m a (cell_at n present i j k) advice

-- ---- on the way

-- What becomes of an advice in the two sets of a cell once it is decided: where it waited in the second, it goes over to the first if
-- there is no danger, and stays if there is.
pub data IsSorted (Danger : Type 0) : Bool → Bool → Bool → Bool → Type 0 where
  not_asked : (c : Bool) → IsSorted Danger c false c false
  no_danger : (c : Bool) → ¬ Danger → IsSorted Danger c true true false
  danger : (c : Bool) → Danger → IsSorted Danger c true c true

-- the same, of the sets of a cell before and after
abbrev pub IsSortedIn : Type 0 → ℕ → CellSets → CellSets → Type 0
IsSortedIn Danger advice old new =
    IsSorted Danger (holds old.certified advice) (holds old.reported advice) (holds new.certified advice) (holds new.reported advice)

-- an advice is in the same sets of a cell after as before
abbrev pub StaysIn : ℕ → CellSets → CellSets → Type 0
StaysIn advice old new = (holds new.certified advice ≡ holds old.certified advice) × (holds new.reported advice ≡ holds old.reported advice)

-- an advice is taken from the second set to the first, where it is there
pub record IsMoved (advice : ℕ) (old new : CellSets) : Type 0 where
  pub sorted : IsSortedIn ⊥ advice old new
  pub others : (other : ℕ) → ¬ (other ≡ advice) → StaysIn other old new

-- the advice is taken from the second set to the first at the places from one up to another, and nothing else of the list is changed
pub record AreMoved (advice start end : ℕ) (old new : List CellSets) : Type 0 where
  pub long : length new ≡ length old
  pub inside : (place : ℕ) → start ≤ place → place < end → IsMoved advice (get_or old place no_sets) (get_or new place no_sets)
  pub outside : (place : ℕ) → ¬ ((start ≤ place) × (place < end)) → get_or new place no_sets ≡ get_or old place no_sets

-- nothing is decided of a cell: no advice is in the first of its sets, and in the second are those that are tabled at its corners
pub record IsUndecided (m : ModelData) (a : AdvicesData) (c : Cell) (sets : CellSets) : Type 0 where
  pub none : (advice : ℕ) → holds sets.certified advice ≡ false
  pub tabled : (advice : ℕ) → holds sets.reported advice ≡ is_advised m a c advice

-- there are sets for the cells that stand before a place, and for no others, and nothing is decided of them
pub record AreFilledTo (m : ModelData) (a : AdvicesData) (n present upto : ℕ) (audit : BlockAuditData) : Type 0 where
  pub long : length audit.sets ≡ upto
  pub each : (i j k : ℕ) → IsPlace audit i j k → place_of audit i j k < upto →
      IsUndecided m a (cell_at n present i j k) (sets_at audit i j k)

-- there are sets for each cell, and nothing is decided of any
pub record AreUndecided (m : ModelData) (a : AdvicesData) (n present : ℕ) (audit : BlockAuditData) : Type 0 where
  pub sets : HasSets audit
  pub each : (i j k : ℕ) → IsPlace audit i j k → IsUndecided m a (cell_at n present i j k) (sets_at audit i j k)

-- the advice is decided for each cell of a block, and nothing else of the sets is changed
pub record IsRuledIn (Danger : ℕ → ℕ → ℕ → Type 0) (advice : ℕ) (b : Block) (old new : BlockAuditData) : Type 0 where
  pub same : HaveSameCells old new
  pub sets : HasSets new
  pub inside : (i j k : ℕ) → IsInBlock b i j k → IsSortedIn (Danger i j k) advice (sets_at old i j k) (sets_at new i j k)
  pub outside : (i j k : ℕ) → IsPlace old i j k → ¬ IsInBlock b i j k → sets_at new i j k ≡ sets_at old i j k
  pub others : (i j k other : ℕ) → IsPlace old i j k → ¬ (other ≡ advice) → StaysIn other (sets_at old i j k) (sets_at new i j k)

-- the block has a cell, and all its cells are among the audit's
pub record IsBlockIn (a : BlockAuditData) (b : Block) : Type 0 where
  pub some : IsSome b
  pub i : b.i1 ≤ a.altitudes
  pub j : b.j1 ≤ a.own_rates
  pub k : b.k1 ≤ a.intruder_rates

-- the cells of a block that are at one place on the axis of altitude
abbrev pub plane_of : Block → ℕ → Block
plane_of b i = record b { i0 = i; i1 = i + 1 }

-- those of them that are at one place on the axis of own rate
abbrev pub row_of : Block → ℕ → ℕ → Block
row_of b i j = record b { i0 = i; i1 = i + 1; j0 = j; j1 = j + 1 }

-- the advice waits in the second set of each cell of the block whose corners table it
pub record Waits (m : ModelData) (a : AdvicesData) (n present advice : ℕ) (b : Block) (audit : BlockAuditData) : Type 0 where
  pub each : (i j k : ℕ) → IsInBlock b i j k → holds (reported_at audit i j k) advice ≡ is_advised m a (cell_at n present i j k) advice
