use Rattle.std.proofs.Common.{◌≡◌, ℕ, ◌+◌, ◌-◌, ◌*◌, ◌<◌, ◌⊎◌, Bool, true, List, length, map, take, drop, set, ap, sym, subst, ◌∙◌, inl, inr, ⊎_elim, arith}
use Rattle.std.specs.Prelude.{Option, Some, is_some}
use Rattle.std.proofs.lemmas.List.{drop-set-add, length-drop, length-set, map-set}
use Rattle.circular_buffer.specs.Places.{somes}
use Rattle.acas_units.specs.declared.pair.Pair.{Pair}
use Rattle.acas_plane.specs.Fields.{finished_places, masked, work_places}
use Rattle.acas_plane.specs.Plane.{IsFree, Plane, missing_in, with_pair}
use Rattle.acas_plane.proofs.Masks.{masked-set, missing_in-set, take-drop-set_other}
use Rattle.acas_plane.proofs.block.PlaneBlock.put.Goals as goal

-- the places of the written plane after a place is written
written : (marks : List Bool) (slots : List (Option Pair)) (to n i : ℕ) (x : Pair) → length slots ≡ 2 * n → i < n → (to ≡ 0) ⊎ (to ≡ n)
    → masked (set marks i true) (drop to (set slots (to + i) (Some x))) ≡ set (masked marks (drop to slots)) i (Some x)
written marks slots to n i x size inside half =
    let some : i < length (drop to slots) = ⊎_elim (λ (e : to ≡ 0). omega (arith, length-drop to slots)) (λ (e : to ≡ n). omega (arith, length-drop to slots)) half in
    ap (masked (set marks i true)) (drop-set-add to slots i (Some x)) ∙ masked-set marks (drop to slots) i x some

-- the place to be written was not written
free : (c : goal.After-self-2-1) → IsFree (work_places c.self.inside) c.args.place
free c = subst (λ (ws : List (Option Pair)). IsFree ws c.args.place) (sym (ap (λ (p : Plane). p.work) c.self.view_is)) c.requires.free

-- the place is one of the plane
inside : (c : goal.After-self-2-1) → c.args.place < c.self.inside.states
inside c = omega (arith, ap (λ (p : Plane). p.states) c.self.view_is, c.requires.in_range)

-- the written plane has the pair
shown : (c : goal.After-self-2-1)
    → masked (set c.self.inside.marks.items c.args.place true) (drop c.self.inside.work_from c.put.new.self.slots) ≡ set (work_places c.self.inside) c.args.place (Some c.args.pair)
shown c =
    let b = c.self.inside in
    ap (λ (l : List (Option Pair)). masked (set b.marks.items c.args.place true) (drop b.work_from l)) c.put.ensures.1
    ∙ written b.marks.items b.places.slots b.work_from b.states c.args.place c.args.pair c.self.invariant.size (inside c) (⊎_elim (λ h. inl h.0) (λ h. inr h.0) c.self.invariant.halves)

-- the finished plane stays
finished : (c : goal.After-self-2-1) → take c.self.inside.count (drop c.self.inside.finished_from c.put.new.self.slots) ≡ finished_places c.self.inside
finished c =
    let b = c.self.inside in
    ap (λ (l : List (Option Pair)). take b.count (drop b.finished_from l)) c.put.ensures.1
    ∙ take-drop-set_other b.places.slots b.count b.finished_from b.work_from b.states c.args.place (Some c.args.pair) c.self.invariant.within (inside c) c.self.invariant.halves

pub overflow_sub-self : goal.overflow_sub-self
overflow_sub-self c =
    let b = c.self.inside in
    let open_place : IsFree (work_places b) c.args.place = subst (λ (ws : List (Option Pair)). IsFree ws c.args.place) (sym (ap (λ (p : Plane). p.work) c.self.view_is)) c.requires.free in
    omega (arith, c.self.invariant.missing, missing_in-set (work_places b) c.args.place c.args.pair open_place)

pub invariant_of-self : goal.invariant_of-self
invariant_of-self c =
    let b = c.self.inside in
    let i = c.args.place in
    let x = c.args.pair in
    let old = c.self.invariant in
    record {
      allocator = old.allocator;
      address = old.address ∙ sym c.put.ensures.0;
      count_given = old.count_given;
      size = ap length c.put.ensures.1 ∙ length-set b.places.slots (b.work_from + i) (Some x) ∙ old.size;
      marks = length-set b.marks.items i true ∙ old.marks;
      few = old.few;
      halves = old.halves;
      within = old.within;
      full = finished c ∙ old.full ∙ ap (λ (l : List (Option Pair)). map Some (somes l)) (sym (finished c));
      marked = ap (map is_some) (shown c) ∙ map-set is_some (work_places b) i (Some x) ∙ ap (λ (l : List Bool). set l i true) old.marked;
      missing =
          let fewer : b.missing - 1 ≡ missing_in (set (work_places b) i (Some x)) = omega (arith, old.missing, missing_in-set (work_places b) i x (free c)) in
          fewer ∙ ap missing_in (sym (shown c));
    }

pub returns : goal.returns
returns c =
    ap (λ (f : List (Option Pair) × List (Option Pair)). let p : Plane = record { states = c.self.inside.states; finished = somes f.0; work = f.1 } in p) (λ k. (finished c k, shown c k))
    ∙ ap (λ (p : Plane). with_pair p c.args.place c.args.pair) c.self.view_is
