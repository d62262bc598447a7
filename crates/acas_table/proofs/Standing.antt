-- Where a source stands in a table, in numbers.
use Rattle.std.proofs.Common.{◌≡◌, ℕ, zero, suc, ◌+◌, ◌-◌, ◌*◌, ◌/◌, ◌%◌, ◌<◌, Bool, true, false, cond, eqb, Option, Some, None, refl, sym, ◌∙◌, ap, subst, arith, inl, inr, eq-eqb}
use Rattle.std.proofs.lemmas.Bool.{cases_lt, ne_eqb, eqb-true}
use Rattle.std.proofs.lemmas.Nat.{div-add-mod'}
use Rattle.acas_table_text.specs.Shape.{IsShape, entry_count}
use Rattle.acas_table_text.specs.Format.{digest_start, ended_group, entry_start, group_before, group_size, hashed_from}
use Rattle.acas_table_text.specs.declared.format.Format.{Format}
use Rattle.acas_table_text.specs.declared.shape.TableShape.{TableShape}
use Rattle.acas_table_text.proofs.Groups.{ended-all_left, ended-before, ended-none_left, ended-within, group-none_left, group_of_left, some_group}
use Rattle.acas_table.specs.Standing.{StandsIn, reading_mark, reading_start}
use Rattle.acas_table.specs.declared.place.GroupPlace.{GroupPlace}
use Rattle.acas_table.specs.declared.source.Source.{Source}

-- what ends before an entry, ends before it
ended_by : (b : Bool) (o : Option ℕ) (k : ℕ) → cond b o None ≡ Some k → (b ≡ true) × (o ≡ Some k)
ended_by true o k is = (refl, is)
ended_by false o k is = absurd (cc is)

before_by : (n k : ℕ) → group_before n ≡ Some k → n ≡ k + 1
before_by zero k is = absurd (cc is)
before_by (suc n) k is = let same : n ≡ k = cc in omega (arith, same)

pub behind_ended : (f : Format) (s : TableShape) (i k : ℕ) → ended_group f s i ≡ Some k → i ≡ (k + 1) * group_size f s
behind_ended f s i k ended =
    let g = group_size f s in
    let both = ended_by (eqb (i % g) 0) (group_before (i / g)) k ended in
    let none : i % group_size f s ≡ 0 = eqb-true (i % g) 0 both.0 in
    let groups : i / group_size f s ≡ k + 1 = before_by (i / g) k both.1 in
    sym (div-add-mod' i g) ∙ ap (λ (n : ℕ). n * g + i % g) groups ∙ ap (λ (n : ℕ). (k + 1) * g + n) none ∙ omega arith

-- the first entry behind a digest
group_behind : (f : Format) (s : TableShape) (i k : ℕ) → IsShape s → i ≡ (k + 1) * group_size f s → i / group_size f s ≡ k + 1
group_behind f s i k shape is = group-none_left (group_size f s) k 0 i (some_group f s shape) refl (omega (arith, is))

pub start_behind : (f : Format) (s : TableShape) (i k : ℕ) → IsShape s → i ≡ (k + 1) * group_size f s → entry_start f s i ≡ digest_start f s k + 32
start_behind f s i k shape is = omega (arith, is, group_behind f s i k shape is)

-- what a source that stands in a table is to read next
pub record ReadsNext (f : Format) (s : TableShape) (source : Source) (i : ℕ) (ended : Option ℕ) : Type 0 where
  pub group : ended ≡ ended_group f s i
  pub place : source.place ≡ reading_start f s i ended
  pub mark : source.mark ≡ reading_mark f s i ended

reads_digest : (f : Format) (s : TableShape) (source : Source) (given groups left : ℕ) → IsShape s → StandsIn f s source given groups left → left ≡ 0 → ReadsNext f s source given (Some groups)
reads_digest f s source given groups left shape stands none = record {
  group = sym (ended-none_left (group_size f s) groups left given (some_group f s shape) none stands.group);
  place = omega (arith, none, stands.group, stands.place);
  mark = stands.mark;
}

-- where some of a group's entries are left, none ends
none_ends : (f : Format) (s : TableShape) (source : Source) (given groups left : ℕ) → IsShape s → StandsIn f s source given groups left → 0 < left → None ≡ ended_group f s given
none_ends f s source given groups left shape stands some =
    let g = group_size f s in
    elim (cases_lt left (group_size f s)) [
      | inl lt ↦ sym (ended-within g groups left given some lt stands.group)
      | inr le ↦
          let all : left ≡ group_size f s = omega (arith, le, stands.rest) in
          sym (ended-all_left g groups left given (some_group f s shape) all stands.group ∙ ap group_before (stands.begun all))
    ]

pub reads_entry : (f : Format) (s : TableShape) (source : Source) (given groups left : ℕ) → IsShape s → StandsIn f s source given groups left → 0 < left → ReadsNext f s source given None
reads_entry f s source given groups left shape stands some =
    let behind = group_of_left (group_size f s) groups left given some stands.rest stands.group in
    record {
      group = none_ends f s source given groups left shape stands some;
      place = omega (arith, behind, stands.place);
      mark = stands.mark ∙ ap (hashed_from f s) (sym behind);
    }

pub reads_next : (f : Format) (s : TableShape) (source : Source) (given groups left : ℕ) (ended : Option ℕ) → IsShape s → StandsIn f s source given groups left
    → ended ≡ cond (eqb left 0) (Some groups) None → ReadsNext f s source given ended
reads_next f s source given groups left ended shape stands is =
    elim (cases_lt 0 left) [
      | inl some ↦
          subst (ReadsNext f s source given) (sym (is ∙ ap (λ (b : Bool). cond b (Some groups) None) (ne_eqb left 0 (λ e. absurd (omega (arith, e, some))))))
          (reads_entry f s source given groups left shape stands some)
      | inr le ↦
          let none : left ≡ 0 = omega (arith, le) in
          subst (ReadsNext f s source given) (sym (is ∙ ap (λ (b : Bool). cond b (Some groups) None) (eq-eqb left 0 none)))
          (reads_digest f s source given groups left shape stands none)
    ]

-- behind the first entry of a group that is not the first, and behind each other entry
stands_behind : (f : Format) (s : TableShape) (old new : Source) (given groups left : ℕ) → IsShape s → given < entry_count s → StandsIn f s old given groups left → left ≡ 0
    → new.place ≡ entry_start f s given + 17 → new.mark ≡ hashed_from f s (given / group_size f s) → StandsIn f s new (given + 1) (groups + 1) (group_size f s - 1)
stands_behind f s old new given groups left shape within stands none place mark =
    let some = some_group f s shape in
    let is : given ≡ (groups + 1) * group_size f s = omega (arith, none, stands.group) in
    let group : given / group_size f s ≡ groups + 1 = group_behind f s given groups shape is in
    record {
      place = omega (arith, place, group);
      mark = mark ∙ ap (hashed_from f s) group;
      group = omega (arith, is, some);
      rest = omega arith;
      begun = λ e. absurd (omega (arith, e, some));
      within = omega (arith, ended-before f s groups given shape is within);
    }

stands_on : (f : Format) (s : TableShape) (old new : Source) (given groups left : ℕ) → StandsIn f s old given groups left → 0 < left
    → new.place ≡ entry_start f s given + 17 → new.mark ≡ hashed_from f s (given / group_size f s) → StandsIn f s new (given + 1) groups (left - 1)
stands_on f s old new given groups left stands some place mark =
    let group : given / group_size f s ≡ groups = group_of_left (group_size f s) groups left given some stands.rest stands.group in
    record {
      place = omega (arith, place, group);
      mark = mark ∙ ap (hashed_from f s) group;
      group = omega (arith, some, stands.group);
      rest = omega (arith, stands.rest);
      begun = λ e. absurd (omega (arith, e, some, stands.rest));
      within = stands.within;
    }

-- the place behind the next entry, in either case
pub stands_next : (f : Format) (s : TableShape) (old new : Source) (given group : ℕ) (at next : GroupPlace) → IsShape s → group ≡ group_size f s → given < entry_count s → StandsIn f s old given at.groups at.left
    → new.place ≡ entry_start f s given + 17 → new.mark ≡ hashed_from f s (given / group_size f s)
    → next ≡ cond (eqb at.left 0) (record { groups = at.groups + 1; left = group - 1 }) (record { groups = at.groups; left = at.left - 1 })
    → StandsIn f s new (given + 1) next.groups next.left
stands_next f s old new given group at next shape size within stands place mark is =
    let first : GroupPlace = record { groups = at.groups + 1; left = group - 1 } in
    let other : GroupPlace = record { groups = at.groups; left = at.left - 1 } in
    elim (cases_lt 0 at.left) [
      | inl some ↦
          subst (λ (p : GroupPlace). StandsIn f s new (given + 1) p.groups p.left)
          (sym (is ∙ ap (λ (b : Bool). cond b first other) (ne_eqb at.left 0 (λ e. absurd (omega (arith, e, some))))))
          (stands_on f s old new given at.groups at.left stands some place mark)
      | inr le ↦
          let none : at.left ≡ 0 = omega (arith, le) in
          subst (λ (p : GroupPlace). StandsIn f s new (given + 1) p.groups p.left)
          (sym (is ∙ ap (λ (b : Bool). cond b first other) (eq-eqb at.left 0 none)))
          (subst (λ (n : ℕ). StandsIn f s new (given + 1) (at.groups + 1) (n - 1)) (sym size) (stands_behind f s old new given at.groups at.left shape within stands none place mark))
    ]
