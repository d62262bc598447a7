-- All advices, one after another: what is decided below one, and how many decisions that took.
use Rattle.std.proofs.Common.{◌≡◌, ℕ, zero, suc, ◌+◌, ◌<◌, ◌≤◌, ◌↔◌, ◌||◌, inl, inr, Bool, true, false, refl, sym, ◌∙◌, subst, arith}
use Rattle.std.proofs.lemmas.Bool.{cases_eq, cases_lt}
use Rattle.acas_spec.specs.Model.{ModelData}
use Rattle.acas_base.specs.Advices.{AdvicesData}
use Rattle.acas_flight.specs.Contact.{IsEndangeredCell}
use Rattle.acas_audit_blocks.specs.Audits.{AreSetsOf, AreUndecided, BlockAuditData, HasSets, IsAuditOf, IsBlockIn, IsPlace, IsRuledIn, IsSorted, Waits, certified_at, danger, no_danger, not_asked, reported_at}
use Rattle.acas_cells.specs.Blocks.{IsBlockOf, IsInBlock, all_cells}
use Rattle.acas_cells.specs.Cells.{cell_at}
use Rattle.acas_cells.specs.Corners.{is_advised}
use Rattle.acas_cells.specs.DecisionCounts.{IsSumBelow, no_more, one_more}
use Rattle.acas_audit_blocks.specs.Decisions.{AreDecisionsUnder, IsDecidedBy}
use Rattle.acas_cells.specs.Sets.{holds}
use Rattle.acas_cells.specs.declared.block.Block.{Block}
use Rattle.acas_audit_blocks.proofs.Ruled.{earlier_place, place_in_block, resorted}

-- ---- what is decided

-- the advices below one are decided, and nothing of the others is
pub record IsDecidedBelow (m : ModelData) (a : AdvicesData) (n present upto : ℕ) (audit : BlockAuditData) : Type 0 where
  pub sets : HasSets audit
  pub done : (i j k advice : ℕ) → IsPlace audit i j k → advice < upto →
      IsSorted (IsEndangeredCell m n i j k advice) false (is_advised m a (cell_at n present i j k) advice) (holds (certified_at audit i j k) advice) (holds (reported_at audit i j k) advice)
  pub none : (i j k advice : ℕ) → IsPlace audit i j k → upto ≤ advice → holds (certified_at audit i j k) advice ≡ false
  pub tabled : (i j k advice : ℕ) → IsPlace audit i j k → upto ≤ advice → holds (reported_at audit i j k) advice ≡ is_advised m a (cell_at n present i j k) advice

-- clear of conflict is no advisory, so nothing is decided for it
pub decided_at_first : (m : ModelData) (a : AdvicesData) (n present : ℕ) (audit : BlockAuditData) → AreUndecided m a n present audit → IsDecidedBelow m a n present 1 audit
decided_at_first m a n present audit begun = record {
  sets = begun.sets;
  done = by_advice;
  none = λ i j k advice place above. (begun.each i j k place).none advice;
  tabled = λ i j k advice place above. (begun.each i j k place).tabled advice;
}
  where
    by_advice : (i j k advice : ℕ) → IsPlace audit i j k → advice < 1 →
        IsSorted (IsEndangeredCell m n i j k advice) false (is_advised m a (cell_at n present i j k) advice) (holds (certified_at audit i j k) advice) (holds (reported_at audit i j k) advice)
    by_advice i j k zero place within = resorted false false false false _ _ _ _ refl refl (sym ((begun.each i j k place).none 0)) (sym ((begun.each i j k place).tabled 0)) (not_asked false)
    by_advice i j k (suc other) place within = absurd (omega (arith, within))

-- each cell of the audit is in the block of all cells
pub in_all_cells : (m : ModelData) (audit : BlockAuditData) (i j k : ℕ) → IsAuditOf m audit → IsPlace audit i j k → IsInBlock (all_cells m) i j k
in_all_cells m audit i j k of place = record {
  from_i = omega arith;
  from_j = omega arith;
  from_k = omega arith;
  before_i = omega (arith, of.altitudes, place.altitude);
  before_j = omega (arith, of.own_rates, place.own);
  before_k = omega (arith, of.intruder_rates, place.intruder);
}

-- a block of the model is one of the audit
pub in_audit : (m : ModelData) (audit : BlockAuditData) (b : Block) → IsAuditOf m audit → IsBlockOf m b → IsBlockIn audit b
in_audit m audit b of block = record {
  some = block.some;
  i = omega (arith, of.altitudes, block.i);
  j = omega (arith, of.own_rates, block.j);
  k = omega (arith, of.intruder_rates, block.k);
}

-- one advice more
pub decided_next : (m : ModelData) (a : AdvicesData) (n present upto : ℕ) (old new : BlockAuditData) → IsAuditOf m old → IsBlockOf m (all_cells m) →
    IsDecidedBelow m a n present upto old → IsRuledIn (λ i j k. IsEndangeredCell m n i j k upto) upto (all_cells m) old new →
    IsDecidedBelow m a n present (upto + 1) new
decided_next m a n present upto old new of block before ruled = record {
  sets = ruled.sets;
  done = λ i j k advice place within.
      let was = earlier_place old new i j k ruled.same place in
      elim (cases_eq advice upto) [
        | inl same ↦ subst (λ (x : ℕ). IsSorted (IsEndangeredCell m n i j k x) false (is_advised m a (cell_at n present i j k) x) (holds (certified_at new i j k) x) (holds (reported_at new i j k) x)) (sym same) (here i j k was)
        | inr other ↦
            let stays = ruled.others i j k advice was other in
            resorted _ _ _ _ _ _ _ _ refl refl (sym stays.0) (sym stays.1) (before.done i j k advice was (omega (arith, within, other)))
      ];
  none = λ i j k advice place above.
      let was = earlier_place old new i j k ruled.same place in
      (ruled.others i j k advice was (λ same. omega (arith, above, same))).0 ∙ before.none i j k advice was (omega (arith, above));
  tabled = λ i j k advice place above.
      let was = earlier_place old new i j k ruled.same place in
      (ruled.others i j k advice was (λ same. omega (arith, above, same))).1 ∙ before.tabled i j k advice was (omega (arith, above));
}
  where
    here : (i j k : ℕ) → IsPlace old i j k →
        IsSorted (IsEndangeredCell m n i j k upto) false (is_advised m a (cell_at n present i j k) upto) (holds (certified_at new i j k) upto) (holds (reported_at new i j k) upto)
    here i j k was =
        resorted _ _ _ _ _ _ _ _ (before.none i j k upto was (omega arith)) (before.tabled i j k upto was (omega arith)) refl refl
        (ruled.inside i j k (in_all_cells m old i j k of was))

-- an advice that is not decided waits in each cell whose corners table it
pub waits_next : (m : ModelData) (a : AdvicesData) (n present upto : ℕ) (audit : BlockAuditData) → IsAuditOf m audit → IsBlockOf m (all_cells m) →
    IsDecidedBelow m a n present upto audit → Waits m a n present upto (all_cells m) audit
waits_next m a n present upto audit of block before = record {
  each = λ i j k h. before.tabled i j k upto (place_in_block audit (all_cells m) i j k (in_audit m audit (all_cells m) of block) h) (omega arith);
}

-- ---- the two sets of a cell, once all is decided

sorted_exact : (D : Type 0) (r c' r' : Bool) → IsSorted D false r c' r' →
    ((c' ≡ true) ↔ ((r ≡ true) × (¬ D))) × ((r' ≡ true) ↔ ((r ≡ true) × D))
sorted_exact D _ _ _ (not_asked _) = ((λ e. absurd (cc), λ p. p.0), (λ e. absurd (cc), λ p. p.0))
sorted_exact D _ _ _ (no_danger _ none) = ((λ e. (refl, none), λ p. refl), (λ e. absurd (cc), λ p. absurd (none p.1)))
sorted_exact D _ _ _ (danger _ some) = ((λ e. absurd (cc), λ p. absurd (p.1 some)), (λ e. (refl, some), λ p. refl))

-- an advice that waited is in one of the sets, and no other is
sorted_tabled : (D : Type 0) (r c' r' : Bool) → IsSorted D false r c' r' → (c' || r') ≡ r
sorted_tabled D _ _ _ (not_asked _) = refl
sorted_tabled D _ _ _ (no_danger _ none) = refl
sorted_tabled D _ _ _ (danger _ some) = refl

or_false : (x y : Bool) → x ≡ false → (x || y) ≡ y
or_false x y e = rw e refl

pub exact_sets : (m : ModelData) (a : AdvicesData) (n present : ℕ) (audit : BlockAuditData) → IsAuditOf m audit →
    IsDecidedBelow m a n present m.grid.advisories audit → AreSetsOf m a n present audit
exact_sets m a n present audit of decided = record {
  sets = decided.sets;
  exact = λ i j k advice cell known.
      let place : IsPlace audit i j k = record { altitude = omega (arith, cell.i, of.altitudes); own = omega (arith, cell.j, of.own_rates); intruder = omega (arith, cell.k, of.intruder_rates) } in
      let both = sorted_exact _ _ _ _ (decided.done i j k advice place known) in
      record { certified = both.0; reported = both.1 };
  tabled = λ i j k advice cell.
      let place : IsPlace audit i j k = record { altitude = omega (arith, cell.i, of.altitudes); own = omega (arith, cell.j, of.own_rates); intruder = omega (arith, cell.k, of.intruder_rates) } in
      elim (cases_lt advice m.grid.advisories) [
        | inl known ↦ sorted_tabled _ _ _ _ (decided.done i j k advice place known)
        | inr above ↦ or_false _ _ (decided.none i j k advice place above) ∙ decided.tabled i j k advice place above
      ];
}

-- ---- how many decisions

pub decided_under : (m : ModelData) (a : AdvicesData) (n present advice number : ℕ) → 0 < advice → IsDecidedBy m a n present advice (all_cells m) number →
    AreDecisionsUnder m a n present advice number
decided_under m a n present zero number some decided = absurd (omega (arith, some))
decided_under m a n present (suc other) number some decided = decided

-- the first advice is clear of conflict, and takes none
pub none_at_first : (m : ModelData) (a : AdvicesData) (n present : ℕ) → IsSumBelow (AreDecisionsUnder m a n present) 1 0
none_at_first m a n present = one_more 0 0 0 no_more refl
