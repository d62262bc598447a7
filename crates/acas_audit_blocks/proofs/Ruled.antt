-- How the sets of a block audit change while an advice is decided.
use Rattle.std.proofs.Common.{◌≡◌, ℕ, ◌+◌, ◌*◌, ◌<◌, ◌⊎◌, inl, inr, ◌==◌, ◌&&◌, ◌||◌, not, Bool, true, false, refl, sym, ◌∙◌, ap, subst, arith}
use Rattle.std.proofs.lemmas.Bool.Decides.{nat_tests}
use Rattle.std.proofs.lemmas.Nat.{mul-add-lt, same_from_place}
use Rattle.acas_spec.specs.Model.{ModelData}
use Rattle.acas_flight.specs.Contact.{IsEndangeredCell}
use Rattle.acas_audit_blocks.specs.Audits.{BlockAuditData, HasSets, HaveSameCells, IsBlockIn, IsMoved, IsPlace, IsRuledIn, IsSorted, IsSortedIn, cell_count, certified_at, danger, no_danger, not_asked, place_of, reported_at, sets_at}
use Rattle.acas_audit_blocks.specs.BlockStates.{IsEndangeredBlock}
use Rattle.acas_audit_blocks.specs.declared.block_audit.CellSets.{CellSets}
use Rattle.acas_cells.specs.Blocks.{IsInBlock, altitudes, intruder_rates, is_one_cell, own_rates}
use Rattle.acas_cells.specs.Sets.{holds}
use Rattle.acas_cells.specs.declared.block.Block.{Block}
use Rattle.acas_cells.specs.declared.set.AdviceSet.{AdviceSet}
use Rattle.acas_audit_blocks.proofs.Halves.{AreParts}

-- ---- what becomes of an advice in the sets of one cell

-- the same where the tests have the same answers
pub resorted : {D : Type 0} (c r c' r' d s d' s' : Bool) → c ≡ d → r ≡ s → c' ≡ d' → r' ≡ s' → IsSorted D c r c' r' → IsSorted D d s d' s'
resorted {D = D} c r c' r' d s d' s' e f g h sorted =
    subst (λ (x : Bool). IsSorted D x s d' s') e
    (subst (λ (x : Bool). IsSorted D c x d' s') f
    (subst (λ (x : Bool). IsSorted D c r x s') g
    (subst (λ (x : Bool). IsSorted D c r c' x) h sorted)))

-- a test has one answer
pub one_answer : (x : Bool) → x ≡ true → x ≡ false → ⊥
one_answer x e f = cc

-- nothing is changed where there is danger
pub kept : {D : Type 0} (c r : Bool) → (r ≡ true → D) → IsSorted D c r c r
kept c false in_danger = not_asked c
kept c true in_danger = danger c (in_danger refl)

-- where nothing could be in danger there is none
pub safe : {D : Type 0} (c r c' r' : Bool) → ¬ D → IsSorted ⊥ c r c' r' → IsSorted D c r c' r'
safe c r c' r' none (not_asked _) = not_asked c
safe c r c' r' none (no_danger _ never) = no_danger c none
safe c r c' r' none (danger _ never) = absurd never

-- ---- places

pub place_in_block : (a : BlockAuditData) (b : Block) (i j k : ℕ) → IsBlockIn a b → IsInBlock b i j k → IsPlace a i j k
place_in_block a b i j k block inside = record {
  altitude = omega (arith, block.i, inside.before_i);
  own = omega (arith, block.j, inside.before_j);
  intruder = omega (arith, block.k, inside.before_k);
}

-- a place of an audit is one of an audit with the same numbers of cells
pub same_place : (old new : BlockAuditData) (i j k : ℕ) → HaveSameCells old new → IsPlace old i j k → IsPlace new i j k
same_place old new i j k same place = record {
  altitude = omega (arith, place.altitude, same.altitudes);
  own = omega (arith, place.own, same.own_rates);
  intruder = omega (arith, place.intruder, same.intruder_rates);
}

-- and the other way round
pub earlier_place : (old new : BlockAuditData) (i j k : ℕ) → HaveSameCells old new → IsPlace new i j k → IsPlace old i j k
earlier_place old new i j k same place = record {
  altitude = omega (arith, place.altitude, same.altitudes);
  own = omega (arith, place.own, same.own_rates);
  intruder = omega (arith, place.intruder, same.intruder_rates);
}

-- there are as many cells as there were
pub count_of_same : (old new : BlockAuditData) → HaveSameCells old new → cell_count new ≡ cell_count old
count_of_same old new same = rw (same.altitudes, same.own_rates, same.intruder_rates) refl

-- a cell's sets stand where they stood
pub place_of_same : (old new : BlockAuditData) (i j k : ℕ) → HaveSameCells old new → place_of new i j k ≡ place_of old i j k
place_of_same old new i j k same = rw (same.own_rates, same.intruder_rates) refl

pub place_within : (a : BlockAuditData) (i j k : ℕ) → IsPlace a i j k → place_of a i j k < cell_count a
place_within a i j k place =
    let row : i * a.own_rates + j < a.own_rates * a.altitudes = mul-add-lt i a.own_rates j a.altitudes place.altitude place.own in
    let whole : (i * a.own_rates + j) * a.intruder_rates + k < a.intruder_rates * (a.own_rates * a.altitudes) =
    mul-add-lt (i * a.own_rates + j) a.intruder_rates k (a.own_rates * a.altitudes) row place.intruder in
    omega (arith, whole)

-- two cells at one place of the list are one
pub one_place : (a : BlockAuditData) (i j k i' j' k' : ℕ) → IsPlace a i j k → IsPlace a i' j' k' → place_of a i j k ≡ place_of a i' j' k' →
    (i ≡ i') × (j ≡ j') × (k ≡ k')
one_place a i j k i' j' k' here there same =
    let rows = same_from_place (i * a.own_rates + j) k (i' * a.own_rates + j') k' a.intruder_rates here.intruder there.intruder same in
    let columns = same_from_place i j i' j' a.own_rates here.own there.own rows.0 in
    (columns.0, columns.1, rows.1)

-- ---- blocks

-- two blocks have a block's cells, each once; one of them may have none
pub record AreJoined (b first second : Block) : Type 0 where
  pub in_first : (i j k : ℕ) → IsInBlock first i j k → IsInBlock b i j k
  pub in_second : (i j k : ℕ) → IsInBlock second i j k → IsInBlock b i j k
  pub either : (i j k : ℕ) → IsInBlock b i j k → IsInBlock first i j k ⊎ IsInBlock second i j k
  pub apart : (i j k : ℕ) → IsInBlock first i j k → ¬ IsInBlock second i j k

-- an advice that is decided for two blocks is decided for the block that they make
pub ruled_joined : (D : ℕ → ℕ → ℕ → Type 0) (advice : ℕ) (b first second : Block) (old middle new : BlockAuditData) →
    ((i j k : ℕ) → IsInBlock b i j k → IsPlace old i j k) → AreJoined b first second → IsRuledIn D advice first old middle → IsRuledIn D advice second middle new →
    IsRuledIn D advice b old new
ruled_joined D advice b first second old middle new within parts before after = record {
  same = record {
    altitudes = after.same.altitudes ∙ before.same.altitudes;
    own_rates = after.same.own_rates ∙ before.same.own_rates;
    intruder_rates = after.same.intruder_rates ∙ before.same.intruder_rates;
  };
  sets = after.sets;
  inside = λ i j k h.
      let place = within i j k h in
      elim (parts.either i j k h) [
        | inl in_first ↦
            let stays = after.outside i j k (same_place old middle i j k before.same place) (parts.apart i j k in_first) in
            subst (λ (s : CellSets). IsSortedIn (D i j k) advice (sets_at old i j k) s) (sym stays) (before.inside i j k in_first)
        | inr in_second ↦
            let stays = before.outside i j k place (λ in_first. parts.apart i j k in_first in_second) in
            subst (λ (s : CellSets). IsSortedIn (D i j k) advice s (sets_at new i j k)) stays (after.inside i j k in_second)
      ];
  outside = λ i j k place not_in.
      after.outside i j k (same_place old middle i j k before.same place) (λ h. not_in (parts.in_second i j k h))
      ∙ before.outside i j k place (λ h. not_in (parts.in_first i j k h));
  others = λ i j k other place apart.
      let first_stays = before.others i j k other place apart in
      let second_stays = after.others i j k other (same_place old middle i j k before.same place) apart in
      (second_stays.0 ∙ first_stays.0, second_stays.1 ∙ first_stays.1);
}

-- the same for the parts of a block that has a cell
pub ruled_parts : (D : ℕ → ℕ → ℕ → Type 0) (advice : ℕ) (b first second : Block) (old middle new : BlockAuditData) →
    IsBlockIn old b → AreParts b first second → IsRuledIn D advice first old middle → IsRuledIn D advice second middle new →
    IsRuledIn D advice b old new
ruled_parts D advice b first second old middle new block parts before after =
    ruled_joined D advice b first second old middle new (λ i j k h. place_in_block old b i j k block h)
    (record { in_first = parts.in_first; in_second = parts.in_second; either = parts.either; apart = parts.apart }) before after

-- an advice that is taken over for all cells of a block is decided where none of them is in danger
pub ruled_safe : (D : ℕ → ℕ → ℕ → Type 0) (advice : ℕ) (b : Block) (old new : BlockAuditData) → ((i j k : ℕ) → IsInBlock b i j k → ¬ D i j k) →
    IsRuledIn (λ i j k. ⊥) advice b old new → IsRuledIn D advice b old new
ruled_safe D advice b old new none ruled = record {
  same = ruled.same;
  sets = ruled.sets;
  inside = λ i j k h. safe _ _ _ _ (none i j k h) (ruled.inside i j k h);
  outside = ruled.outside;
  others = ruled.others;
}

-- an advice that stays is decided where each cell in which it waits is in danger
pub ruled_kept : (D : ℕ → ℕ → ℕ → Type 0) (advice : ℕ) (b : Block) (old : BlockAuditData) → HasSets old →
    ((i j k : ℕ) → IsInBlock b i j k → holds (reported_at old i j k) advice ≡ true → D i j k) → IsRuledIn D advice b old old
ruled_kept D advice b old sets in_danger = record {
  same = record { altitudes = refl; own_rates = refl; intruder_rates = refl };
  sets = sets;
  inside = λ i j k h. kept (holds (certified_at old i j k) advice) (holds (reported_at old i j k) advice) (in_danger i j k h);
  outside = λ i j k place not_in. refl;
  others = λ i j k other place apart. (refl, refl);
}

-- ---- an advice that is moved

same_is : (x : ℕ) → (x == x) ≡ true
same_is x = grind (arith, nat_tests)

other_is : (x y : ℕ) → ¬ (x ≡ y) → (x == y) ≡ false
other_is x y apart = grind (arith, nat_tests)

-- an advice in two sets, once it is taken over where it is in the second
taken : (x y : Bool) → IsSorted ⊥ x y (x || y) false
taken false false = not_asked false
taken true false = not_asked true
taken false true = no_danger false (λ never. never)
taken true true = no_danger true (λ never. never)

here_or : (b x y : Bool) → b ≡ true → (x || (b && y)) ≡ (x || y)
here_or b x y e = rw e refl

here_not : (b y : Bool) → b ≡ true → (not b && y) ≡ false
here_not b y e = rw e refl

other_or : (b x y : Bool) → b ≡ false → (x || (b && y)) ≡ x
other_or b true y e = refl
other_or b false y e = rw e refl

other_not : (b y : Bool) → b ≡ false → (not b && y) ≡ y
other_not b y e = rw e refl

-- the sets with the advice taken over, where it is there
pub moved_over : (advice : ℕ) (old new : CellSets) (there : AdviceSet) → ((a : ℕ) → holds there a ≡ (a == advice && holds old.reported a)) →
    ((a : ℕ) → holds new.certified a ≡ (holds old.certified a || holds there a)) → ((a : ℕ) → holds new.reported a ≡ (not (a == advice) && holds old.reported a)) →
    IsMoved advice old new
moved_over advice old new there only more less = record {
  sorted = resorted (holds c advice) (holds r advice) _ _ _ _ _ _ refl refl
      (sym (more advice ∙ ap (λ x. holds c advice || x) (only advice) ∙ here_or (advice == advice) (holds c advice) (holds r advice) (same_is advice)))
      (sym (less advice ∙ here_not (advice == advice) (holds r advice) (same_is advice)))
      (taken (holds c advice) (holds r advice));
  others = λ other apart. (
    more other ∙ ap (λ x. holds c other || x) (only other) ∙ other_or (other == advice) (holds c other) (holds r other) (other_is other advice apart),
    less other ∙ other_not (other == advice) (holds r other) (other_is other advice apart),
  );
}
  where
    c : AdviceSet
    c = old.certified

    r : AdviceSet
    r = old.reported

-- ---- one cell

one_sides : (x y z : ℕ) → ((x == 1 && y == 1) && z == 1) ≡ true → (x ≡ 1) × (y ≡ 1) × (z ≡ 1)
one_sides x y z h = (grind (arith, nat_tests), grind (arith, nat_tests), grind (arith, nat_tests))

-- the one cell of a block
pub in_one_cell : (b : Block) (i j k : ℕ) → is_one_cell b ≡ true → IsInBlock b i j k → (i ≡ b.i0) × (j ≡ b.j0) × (k ≡ b.k0)
in_one_cell b i j k one h =
    let sides = one_sides (altitudes b) (own_rates b) (intruder_rates b) one in
    (omega (arith, sides.0, h.from_i, h.before_i), omega (arith, sides.1, h.from_j, h.before_j), omega (arith, sides.2, h.from_k, h.before_k))

-- where a block of one cell is in danger, that cell is
pub danger_everywhere : (m : ModelData) (n advice : ℕ) (b : Block) → is_one_cell b ≡ true → IsEndangeredBlock m n advice b →
    (i j k : ℕ) → IsInBlock b i j k → IsEndangeredCell m n i j k advice
danger_everywhere m n advice b one some i j k h =
    let here = in_one_cell b i j k one h in
    let there = in_one_cell b some.i some.j some.k one some.inside in
    subst (λ (x : ℕ). IsEndangeredCell m n x j k advice) (there.0 ∙ sym here.0)
    (subst (λ (y : ℕ). IsEndangeredCell m n some.i y k advice) (there.1 ∙ sym here.1)
    (subst (λ (z : ℕ). IsEndangeredCell m n some.i some.j z advice) (there.2 ∙ sym here.2) some.danger))
