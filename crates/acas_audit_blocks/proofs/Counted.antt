-- How many decisions a block takes.
use Rattle.std.proofs.Common.{◌≡◌, ℕ, zero, suc, ◌<◌, ◌&&◌, not, ◌==◌, true, false, Bool, refl, sym, ◌∙◌, ap, arith}
use Rattle.std.proofs.lemmas.Bool.Decides.{nat_tests}
use Rattle.acas_spec.specs.Model.{ModelData}
use Rattle.acas_base.specs.Advices.{AdvicesData}
use Rattle.acas_audit_blocks.specs.Audits.{BlockAuditData, IsBlockIn, IsRuledIn, Waits, reported_at}
use Rattle.acas_cells.specs.Blocks.{IsInBlock, first_half, second_half}
use Rattle.acas_cells.specs.Cells.{cell_at}
use Rattle.acas_cells.specs.Corners.{is_at_corner}
use Rattle.acas_cells.specs.DecisionCounts.{IsSumBelow, no_more, one_more}
use Rattle.acas_audit_blocks.specs.Decisions.{IsDecidedBy, IsTabledIn, AreAuditsDecisions, AreDecisionsUnder, clear, halved, one_cell, untabled}
use Rattle.acas_cells.specs.Sets.{holds}
use Rattle.acas_cells.specs.declared.block.Block.{Block}
use Rattle.acas_audit_blocks.proofs.Halves.{AreParts}
use Rattle.acas_audit_blocks.proofs.Ruled.{place_in_block}

-- ---- an advice that waits is tabled

not_clear : (advice : ℕ) → 0 < advice → (advice == 0) ≡ false
not_clear advice some = grind (arith, nat_tests)

advised_is_at : (advice : ℕ) (at : Bool) → 0 < advice → (not (advice == 0) && at) ≡ at
advised_is_at advice at some = rw (not_clear advice some) refl

module _ (m : ModelData) (a : AdvicesData) (n present advice : ℕ) (b : Block) (audit : BlockAuditData) (some : 0 < advice) (waits : Waits m a n present advice b audit) where
  at_corner : (i j k : ℕ) → IsInBlock b i j k → is_at_corner m a (cell_at n present i j k) advice ≡ holds (reported_at audit i j k) advice
  at_corner i j k h = sym (advised_is_at advice (is_at_corner m a (cell_at n present i j k) advice) some) ∙ sym (waits.each i j k h)

  pub tabled_here : (i : ℕ) × (j : ℕ) × (k : ℕ) × IsInBlock b i j k × (holds (reported_at audit i j k) advice ≡ true) → IsTabledIn m a n present advice b
  tabled_here h = (h.0, h.1, h.2, h.3, at_corner h.0 h.1 h.2 h.3 ∙ h.4)

  -- where it waits nowhere there is no decision
  pub none_decided : ((i j k : ℕ) → IsInBlock b i j k → holds (reported_at audit i j k) advice ≡ false) → IsDecidedBy m a n present advice b 0
  none_decided none = untabled b (λ h.
      let found : holds (reported_at audit h.0 h.1 h.2) advice ≡ true = sym (at_corner h.0 h.1 h.2 h.3) ∙ h.4 in
      differ (holds (reported_at audit h.0 h.1 h.2) advice) found (none h.0 h.1 h.2 h.3))
    where
      differ : (x : Bool) → x ≡ true → x ≡ false → ⊥
      differ x e f = cc

-- the advice waits in a part of the block as it does in the block
pub waits_in_part : (m : ModelData) (a : AdvicesData) (n present advice : ℕ) (b part : Block) (audit : BlockAuditData) →
    ((i j k : ℕ) → IsInBlock part i j k → IsInBlock b i j k) → Waits m a n present advice b audit → Waits m a n present advice part audit
waits_in_part m a n present advice b part audit inside waits = record { each = λ i j k h. waits.each i j k (inside i j k h) }

-- and it still waits in the second part once it is decided for the first
pub waits_after : (m : ModelData) (a : AdvicesData) (n present advice : ℕ) (b first second : Block) (D : ℕ → ℕ → ℕ → Type 0) (old new : BlockAuditData) →
    IsBlockIn old b → AreParts b first second → IsRuledIn D advice first old new → Waits m a n present advice b old → Waits m a n present advice second new
waits_after m a n present advice b first second D old new block parts ruled waits = record {
  each = λ i j k h.
      let in_block = parts.in_second i j k h in
      let stays = ruled.outside i j k (place_in_block old b i j k block in_block) (λ in_first. parts.apart i j k in_first h) in
      ap (λ s. holds s.reported advice) stays ∙ waits.each i j k in_block;
}

-- ---- one number

-- there is one number of decisions of a block
pub one_number : (m : ModelData) (a : AdvicesData) (n present advice : ℕ) (b : Block) (x y : ℕ) → IsDecidedBy m a n present advice b x → IsDecidedBy m a n present advice b y → x ≡ y
one_number m a n present advice _ _ _ (untabled b none) (untabled _ _) = refl
one_number m a n present advice _ _ _ (untabled b none) (clear _ some _) = absurd (none some)
one_number m a n present advice _ _ _ (untabled b none) (one_cell _ some _) = absurd (none some)
one_number m a n present advice _ _ _ (untabled b none) (halved _ _ _ some _ _ _ _) = absurd (none some)
one_number m a n present advice _ _ _ (clear b some safe) (untabled _ none) = absurd (none some)
one_number m a n present advice _ _ _ (clear b some safe) (clear _ _ _) = refl
one_number m a n present advice _ _ _ (clear b some safe) (one_cell _ _ _) = refl
one_number m a n present advice _ _ _ (clear b some safe) (halved _ _ _ _ danger _ _ _) = absurd (safe danger)
one_number m a n present advice _ _ _ (one_cell b some one) (untabled _ none) = absurd (none some)
one_number m a n present advice _ _ _ (one_cell b some one) (clear _ _ _) = refl
one_number m a n present advice _ _ _ (one_cell b some one) (one_cell _ _ _) = refl
one_number m a n present advice _ _ _ (one_cell b some one) (halved _ _ _ _ _ more _ _) = absurd (cc)
one_number m a n present advice _ _ _ (halved b x y some danger more p r) (untabled _ none) = absurd (none some)
one_number m a n present advice _ _ _ (halved b x y some danger more p r) (clear _ _ safe) = absurd (safe danger)
one_number m a n present advice _ _ _ (halved b x y some danger more p r) (one_cell _ _ one) = absurd (cc)
one_number m a n present advice _ _ _ (halved b x y some danger more p r) (halved _ z w _ _ _ s t) =
    let first = one_number m a n present advice (first_half b) x z p s in
    let second = one_number m a n present advice (second_half b) y w r t in
    rw (first, second) refl

-- there is one sum where there is one number for each
pub one_sum : (IsOf : ℕ → ℕ → Type 0) → ((k x y : ℕ) → IsOf k x → IsOf k y → x ≡ y) → (k x y : ℕ) → IsSumBelow IsOf k x → IsSumBelow IsOf k y → x ≡ y
one_sum IsOf one _ _ _ no_more no_more = refl
one_sum IsOf one _ _ _ (one_more k sum next rest here) (one_more _ other last more there) =
    let before = one_sum IsOf one k sum other rest more in
    let now = one k next last here there in
    rw (before, now) refl

one_under : (m : ModelData) (a : AdvicesData) (n present advice x y : ℕ) → AreDecisionsUnder m a n present advice x → AreDecisionsUnder m a n present advice y → x ≡ y
one_under m a n present zero x y p r = p ∙ sym r
one_under m a n present (suc other) x y p r = one_number m a n present (suc other) _ x y p r

-- there is one whole number of decisions of an audit
pub one_whole : (m : ModelData) (a : AdvicesData) (x y : ℕ) → AreAuditsDecisions m a x → AreAuditsDecisions m a y → x ≡ y
one_whole m a x y p r =
    one_sum _ (λ n. one_sum _ (λ present. one_sum _ (λ advice. one_under m a n present advice) m.grid.advisories) m.grid.advisories) m.grid.horizon x y p r
