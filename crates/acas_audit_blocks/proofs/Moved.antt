-- How the sets of a block audit change while an advice is taken over row by row.
use Rattle.std.proofs.Common.{◌≡◌, ℕ, ◌+◌, ◌-◌, ◌<◌, ◌≤◌, ◌⊎◌, inl, inr, List, length, get_or, set, refl, sym, ◌∙◌, ap, subst, arith}
use Rattle.std.proofs.lemmas.Bool.{cases_eq, cases_lt}
use Rattle.std.proofs.lemmas.List.{get_or-set_other, get_or-set_same, length-set}
use Rattle.acas_audit_blocks.specs.Audits.{AreMoved, BlockAuditData, HasSets, HaveSameCells, IsBlockIn, IsMoved, IsPlace, IsRuledIn, IsSortedIn, StaysIn, no_sets, place_of, plane_of, row_of, sets_at}
use Rattle.acas_cells.specs.Blocks.{IsInBlock}
use Rattle.acas_cells.specs.declared.block.Block.{Block}
use Rattle.acas_audit_blocks.specs.declared.block_audit.CellSets.{CellSets}
use Rattle.acas_audit_blocks.proofs.Rows.{place_in_row}
use Rattle.acas_audit_blocks.proofs.Ruled.{count_of_same, one_place, place_of_same, ruled_joined, ruled_kept}

-- ---- lists

-- nothing is moved at no place
pub moved_none : (advice start end : ℕ) (list : List CellSets) → end ≤ start → AreMoved advice start end list list
moved_none advice start end list none = record {
  long = refl;
  inside = λ place from before. absurd (omega (arith, none, from, before));
  outside = λ place apart. refl;
}

-- one place more
pub moved_next : (advice start place : ℕ) (old middle : List CellSets) (sets : CellSets) → start ≤ place → place < length old → AreMoved advice start place old middle →
    IsMoved advice (get_or middle place no_sets) sets → AreMoved advice start (place + 1) old (set middle place sets)
moved_next advice start place old middle sets from within before moved = record {
  long = length-set middle place sets ∙ before.long;
  inside = λ p after below.
      elim (cases_eq p place) [
        | inl same ↦ subst (λ (x : ℕ). IsMoved advice (get_or old x no_sets) (get_or (set middle place sets) x no_sets)) (sym same) here
        | inr other ↦
            subst (λ (s : CellSets). IsMoved advice (get_or old p no_sets) s) (sym (get_or-set_other middle place p sets no_sets other))
            (before.inside p after (omega (arith, below, other)))
      ];
  outside = λ p apart.
      get_or-set_other middle place p sets no_sets (λ same. apart (omega (arith, same, from), omega (arith, same)))
      ∙ before.outside p (λ h. apart (h.0, omega (arith, h.1)));
}
  where
    here : IsMoved advice (get_or old place no_sets) (get_or (set middle place sets) place no_sets)
    here =
        subst (λ (s : CellSets). IsMoved advice (get_or old place no_sets) s) (sym (get_or-set_same middle place sets no_sets (omega (arith, within, before.long))))
        (subst (λ (s : CellSets). IsMoved advice s sets) (before.outside place (λ h. absurd (omega (arith, h.1)))) moved)

-- ---- a row of a block

-- a place is within two others, or is not
is_within : (start end p : ℕ) → ((start ≤ p) × (p < end)) ⊎ (¬ ((start ≤ p) × (p < end)))
is_within start end p =
    elim (cases_lt p start) [
      | inl below ↦ inr (λ h. omega (arith, below, h.0))
      | inr from ↦ elim (cases_lt p end) [ inl before ↦ inl (from, before) | inr past ↦ inr (λ h. omega (arith, past, h.1)) ]
    ]

-- an advice that is taken over in the sets of a row is decided for the row
pub ruled_row : (advice : ℕ) (b : Block) (i j start end : ℕ) (old new : BlockAuditData) → HasSets old → IsBlockIn old b → b.i0 ≤ i → i < b.i1 → b.j0 ≤ j → j < b.j1 →
    start ≡ place_of old i j b.k0 → end ≡ start + (b.k1 - b.k0) → HaveSameCells old new →
    AreMoved advice start end old.sets new.sets → IsRuledIn (λ i j k. ⊥) advice (row_of b i j) old new
ruled_row advice b i j start end old new sets block from_i before_i from_j before_j first last same moved = record {
  same = same;
  sets = moved.long ∙ sets ∙ sym (count_of_same old new same);
  inside = λ x y k h.
      let here = in_row x y k h in
      subst (λ (s : CellSets). IsSortedIn ⊥ advice (sets_at old x y k) s) (sym (new_at x y k)) (moved.inside (place_of old x y k) here.0 here.1).sorted;
  outside = λ x y k place not_in. new_at x y k ∙ moved.outside (place_of old x y k) (λ h. not_in (of_row x y k place h.0 h.1));
  others = λ x y k other place apart.
      elim (is_within start end (place_of old x y k)) [
        | inl h ↦ subst (λ (s : CellSets). StaysIn other (sets_at old x y k) s) (sym (new_at x y k)) ((moved.inside (place_of old x y k) h.0 h.1).others other apart)
        | inr out ↦ subst (λ (s : CellSets). StaysIn other (sets_at old x y k) s) (sym (new_at x y k ∙ moved.outside (place_of old x y k) out)) (refl, refl)
      ];
}
  where
    new_at : (x y k : ℕ) → sets_at new x y k ≡ get_or new.sets (place_of old x y k) no_sets
    new_at x y k = ap (λ (p : ℕ). get_or new.sets p no_sets) (place_of_same old new x y k same)

    in_row : (x y k : ℕ) → IsInBlock (row_of b i j) x y k → (start ≤ place_of old x y k) × (place_of old x y k < end)
    in_row x y k h =
        let at_i : x ≡ i = omega (arith, h.from_i, h.before_i) in
        let at_j : y ≡ j = omega (arith, h.from_j, h.before_j) in
        let here : place_of old x y k ≡ start + (k - b.k0) = rw (at_i, at_j) (place_in_row old i j b.k0 k h.from_k ∙ ap (λ (p : ℕ). p + (k - b.k0)) (sym first)) in
        (omega (arith, here), omega (arith, here, last, h.from_k, h.before_k))

    of_row : (x y k : ℕ) → IsPlace old x y k → start ≤ place_of old x y k → place_of old x y k < end → IsInBlock (row_of b i j) x y k
    of_row x y k place from before =
        let q = b.k0 + (place_of old x y k - start) in
        let below : q < b.k1 = omega (arith, from, before, last) in
        let there : place_of old i j q ≡ place_of old x y k = omega (arith, place_in_row old i j b.k0 q (omega arith), first, from) in
        let in_grid : IsPlace old i j q = record { altitude = omega (arith, block.i, before_i); own = omega (arith, block.j, before_j); intruder = omega (arith, block.k, below) } in
        let one = one_place old x y k i j q place in_grid (sym there) in
        record {
          from_i = omega (arith, one.0);
          from_j = omega (arith, one.1);
          from_k = omega (arith, one.2);
          before_i = omega (arith, one.0);
          before_j = omega (arith, one.1);
          before_k = omega (arith, one.2, below);
        }

-- ---- blocks, plane by plane and row by row

-- an advice is decided for a block with no cell
pub ruled_nothing : (advice : ℕ) (b : Block) (old : BlockAuditData) → HasSets old → ((i j k : ℕ) → ¬ IsInBlock b i j k) → IsRuledIn (λ i j k. ⊥) advice b old old
ruled_nothing advice b old sets none = ruled_kept (λ i j k. ⊥) advice b old sets (λ i j k h e. none i j k h)

-- the cells up to a place on the axis of altitude, and those at it
pub ruled_next_plane : (advice : ℕ) (b : Block) (i : ℕ) (old middle new : BlockAuditData) → IsBlockIn old b → b.i0 ≤ i → i < b.i1 →
    IsRuledIn (λ i j k. ⊥) advice (record b { i1 = i }) old middle → IsRuledIn (λ i j k. ⊥) advice (plane_of b i) middle new →
    IsRuledIn (λ i j k. ⊥) advice (record b { i1 = i + 1 }) old new
ruled_next_plane advice b i old middle new block from before first then =
    ruled_joined (λ i j k. ⊥) advice (record b { i1 = i + 1 }) (record b { i1 = i }) (plane_of b i) old middle new
    (λ x y k h. record { altitude = omega (arith, h.before_i, before, block.i); own = omega (arith, h.before_j, block.j); intruder = omega (arith, h.before_k, block.k) })
    (record {
      in_first = λ x y k h. record { from_i = h.from_i; from_j = h.from_j; from_k = h.from_k; before_i = omega (arith, h.before_i); before_j = h.before_j; before_k = h.before_k };
      in_second = λ x y k h. record { from_i = omega (arith, h.from_i, from); from_j = h.from_j; from_k = h.from_k; before_i = h.before_i; before_j = h.before_j; before_k = h.before_k };
      either = λ x y k h. elim (cases_lt x i) [
        | inl below ↦ inl (record { from_i = h.from_i; from_j = h.from_j; from_k = h.from_k; before_i = below; before_j = h.before_j; before_k = h.before_k })
        | inr above ↦ inr (record { from_i = above; from_j = h.from_j; from_k = h.from_k; before_i = h.before_i; before_j = h.before_j; before_k = h.before_k })
      ];
      apart = λ x y k h r. absurd (omega (arith, h.before_i, r.from_i));
    }) first then

-- the cells of a plane up to a place on the axis of own rate, and those at it
pub ruled_next_row : (advice : ℕ) (b : Block) (i j : ℕ) (old middle new : BlockAuditData) → IsBlockIn old b → i < b.i1 → b.j0 ≤ j → j < b.j1 →
    IsRuledIn (λ i j k. ⊥) advice (record b { i0 = i; i1 = i + 1; j1 = j }) old middle → IsRuledIn (λ i j k. ⊥) advice (row_of b i j) middle new →
    IsRuledIn (λ i j k. ⊥) advice (record b { i0 = i; i1 = i + 1; j1 = j + 1 }) old new
ruled_next_row advice b i j old middle new block within from before first then =
    ruled_joined (λ i j k. ⊥) advice (record b { i0 = i; i1 = i + 1; j1 = j + 1 }) (record b { i0 = i; i1 = i + 1; j1 = j }) (row_of b i j) old middle new
    (λ x y k h. record { altitude = omega (arith, h.before_i, within, block.i); own = omega (arith, h.before_j, before, block.j); intruder = omega (arith, h.before_k, block.k) })
    (record {
      in_first = λ x y k h. record { from_i = h.from_i; from_j = h.from_j; from_k = h.from_k; before_i = h.before_i; before_j = omega (arith, h.before_j); before_k = h.before_k };
      in_second = λ x y k h. record { from_i = h.from_i; from_j = omega (arith, h.from_j, from); from_k = h.from_k; before_i = h.before_i; before_j = h.before_j; before_k = h.before_k };
      either = λ x y k h. elim (cases_lt y j) [
        | inl below ↦ inl (record { from_i = h.from_i; from_j = h.from_j; from_k = h.from_k; before_i = h.before_i; before_j = below; before_k = h.before_k })
        | inr above ↦ inr (record { from_i = h.from_i; from_j = above; from_k = h.from_k; before_i = h.before_i; before_j = h.before_j; before_k = h.before_k })
      ];
      apart = λ x y k h r. absurd (omega (arith, h.before_j, r.from_j));
    }) first then

-- a block of an audit is one of an audit with the same numbers of cells
pub block_after : (old new : BlockAuditData) (b : Block) → HaveSameCells old new → IsBlockIn old b → IsBlockIn new b
block_after old new b same block = record {
  some = block.some;
  i = omega (arith, block.i, same.altitudes);
  j = omega (arith, block.j, same.own_rates);
  k = omega (arith, block.k, same.intruder_rates);
}
