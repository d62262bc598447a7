-- The sets of a block audit before any advice is decided, cell by cell.
use Rattle.std.proofs.Common.{◌≡◌, ℕ, ◌+◌, ◌<◌, inl, inr, List, [], ◌∷◌, ◌++◌, length, get_or, sym, ◌∙◌, ap, subst, arith}
use Rattle.std.proofs.lemmas.Bool.{cases_eq}
use Rattle.std.proofs.lemmas.List.{get_or_append_left, get_or_push, length_push}
use Rattle.acas_spec.specs.Model.{ModelData}
use Rattle.acas_base.specs.Advices.{AdvicesData}
use Rattle.acas_audit_blocks.specs.Audits.{AreFilledTo, AreUndecided, BlockAuditData, HaveSameCells, IsPlace, IsUndecided, cell_count, no_sets, place_of}
use Rattle.acas_cells.specs.Cells.{cell_at}
use Rattle.acas_audit_blocks.specs.declared.block_audit.CellSets.{CellSets}
use Rattle.acas_audit_blocks.proofs.Ruled.{earlier_place, one_place, place_of_same, place_within}

-- what holds of the sets at each place of a list, and of those put behind them, holds at each place of both
pushed_holds : (Q : CellSets → Type 0) (old : List CellSets) (s : CellSets) (p : ℕ) → p < length old + 1 →
    (p < length old → Q (get_or old p no_sets)) → (p ≡ length old → Q s) → Q (get_or (old ++ s ∷ []) p no_sets)
pushed_holds Q old s p within each last =
    elim (cases_eq p (length old)) [
      | inl same ↦ subst Q (sym (get_or_push old s no_sets p (sym same))) (last same)
      | inr other ↦ subst Q (sym (get_or_append_left old (s ∷ []) no_sets p (omega (arith, within, other)))) (each (omega (arith, within, other)))
    ]

-- the same up to another place
pub filled_to : (m : ModelData) (a : AdvicesData) (n present upto other : ℕ) (audit : BlockAuditData) → upto ≡ other → AreFilledTo m a n present upto audit → AreFilledTo m a n present other audit
filled_to m a n present upto other audit e filled = subst (λ (x : ℕ). AreFilledTo m a n present x audit) e filled

-- one cell more
pub filled_next : (m : ModelData) (a : AdvicesData) (n present i j k : ℕ) (old new : BlockAuditData) (s : CellSets) → HaveSameCells old new → IsPlace old i j k →
    AreFilledTo m a n present (place_of old i j k) old → new.sets ≡ old.sets ++ s ∷ [] → IsUndecided m a (cell_at n present i j k) s →
    AreFilledTo m a n present (place_of new i j (k + 1)) new
filled_next m a n present i j k old new s same here before pushed undecided = record {
  long = ap length pushed ∙ length_push old.sets s ∙ omega (arith, before.long, place_of_same old new i j k same);
  each = λ x y z place within.
      let was = earlier_place old new x y z same place in
      subst (λ (l : List CellSets). IsUndecided m a (cell_at n present x y z) (get_or l (place_of new x y z) no_sets)) (sym pushed)
      (subst (λ (p : ℕ). IsUndecided m a (cell_at n present x y z) (get_or (old.sets ++ s ∷ []) p no_sets)) (sym (place_of_same old new x y z same))
      (pushed_holds (IsUndecided m a (cell_at n present x y z)) old.sets s (place_of old x y z)
      (omega (arith, within, before.long, place_of_same old new x y z same, place_of_same old new i j k same))
      (λ less. before.each x y z was (omega (arith, less, before.long)))
      (λ last.
      let one = one_place old x y z i j k was here (last ∙ before.long) in
      rw (one.0, one.1, one.2) undecided)));
}

-- the end of a row is the start of the next, and the end of a plane too
pub row_end : (a : BlockAuditData) (i j : ℕ) → place_of a i j a.intruder_rates ≡ place_of a i (j + 1) 0
row_end a i j = omega arith

pub plane_end : (a : BlockAuditData) (i : ℕ) → place_of a i a.own_rates 0 ≡ place_of a (i + 1) 0 0
plane_end a i = omega arith

pub whole_end : (a : BlockAuditData) → place_of a a.altitudes 0 0 ≡ cell_count a
whole_end a = omega arith

-- the sets of all cells
pub filled_whole : (m : ModelData) (a : AdvicesData) (n present : ℕ) (audit : BlockAuditData) → AreFilledTo m a n present (cell_count audit) audit → AreUndecided m a n present audit
filled_whole m a n present audit filled = record {
  sets = filled.long;
  each = λ i j k place. filled.each i j k place (place_within audit i j k place);
}
