use Rattle.std.proofs.Common.{◌≡◌, ℕ, false, List, length, map, take, drop, replicate, ap, sym, ◌∙◌, inl, inr, ⊎_elim, arith}
use Rattle.std.specs.Prelude.{Option, Some, None, is_some}
use Rattle.std.proofs.lemmas.List.{length-replicate}
use Rattle.circular_buffer.specs.Places.{somes}
use Rattle.acas_units.specs.declared.pair.Pair.{Pair}
use Rattle.acas_plane.specs.Fields.{masked, work_places}
use Rattle.acas_plane.specs.Plane.{Plane, missing_in}
use Rattle.acas_plane.proofs.Masks.{map-is_some-none, masked-none, masked-whole, missing_in-none, some_all}
use Rattle.acas_plane.proofs.block.PlaneBlock.turn.Goals as goal

-- every place of the written plane was written
none_missing : (c : goal.After-raise) → missing_in (work_places c.self.inside) ≡ 0
none_missing c = ap (λ (p : Plane). missing_in p.work) c.self.view_is ∙ c.requires.full

-- so its marks hide nothing
whole : (c : goal.After-raise) → take c.self.inside.states (drop c.self.inside.work_from c.self.inside.places.slots) ≡ work_places c.self.inside
whole c =
    let b = c.self.inside in
    ap (λ (k : ℕ). take k (drop b.work_from b.places.slots)) (sym c.self.invariant.marks) ∙ masked-whole b.marks.items (drop b.work_from b.places.slots) (none_missing c)

-- no mark is set any more
unset : (c : goal.After-raise) → c.fill.new.self.items ≡ replicate c.self.inside.states false
unset c = c.fill.ensures.items (λ y e. e) ∙ ap (λ (k : ℕ). replicate k false) (c.self.inside.marks.ok.0 ∙ c.self.invariant.marks)

-- so the other plane shows nothing
shown : (c : goal.After-raise) → masked c.fill.new.self.items (drop c.self.inside.finished_from c.self.inside.places.slots) ≡ replicate c.self.inside.states None
shown c =
    let b = c.self.inside in ap (λ l. masked l (drop b.finished_from b.places.slots)) (unset c) ∙ masked-none b.states (drop b.finished_from b.places.slots)

pub invariant_of-self : goal.invariant_of-self
invariant_of-self c =
    let b = c.self.inside in
    let old = c.self.invariant in
    record {
      allocator = old.allocator;
      address = old.address;
      count_given = old.count_given;
      size = old.size;
      marks = ap length (unset c) ∙ length-replicate b.states false;
      few = old.few;
      halves = ⊎_elim (λ h. inr (h.1, h.0)) (λ h. inl (h.1, h.0)) old.halves;
      within = omega arith;
      full = whole c ∙ some_all (work_places b) (none_missing c) ∙ ap (λ (l : List (Option Pair)). map Some (somes l)) (sym (whole c));
      marked = ap (map is_some) (shown c) ∙ map-is_some-none Pair b.states ∙ sym (unset c);
      missing = sym (ap missing_in (shown c) ∙ missing_in-none Pair b.states);
    }

pub returns-clause-finished : goal.returns-clause-finished
returns-clause-finished c =
    ap (λ (l : List (Option Pair)). map Some (somes l)) (whole c) ∙ sym (some_all (work_places c.self.inside) (none_missing c)) ∙ ap (λ (p : Plane). p.work) c.self.view_is

pub returns-clause-work : goal.returns-clause-work
returns-clause-work c = shown c ∙ ap (λ (p : Plane). replicate p.states None) c.self.view_is
