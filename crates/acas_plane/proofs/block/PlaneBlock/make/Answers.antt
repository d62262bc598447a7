use Rattle.std.proofs.Common.{◌≡◌, ℕ, ◌*◌, Bool, false, None, List, [], map, length, replicate, refl, ap, sym, ◌∙◌, inl, arith}
use Rattle.std.specs.Prelude.{Option, is_some}
use Rattle.std.proofs.lemmas.List.{length-replicate}
use Rattle.acas_units.specs.declared.pair.Pair.{Pair}
use Rattle.acas_plane.specs.Fields.{masked}
use Rattle.acas_plane.specs.Plane.{Plane, missing_in}
use Rattle.acas_plane.proofs.Masks.{map-is_some-none, masked-none, missing_in-none}
use Rattle.acas_plane.proofs.block.PlaneBlock.make.Goals as goal

-- the places behind marks of which none is set
nothing : (marks : List Bool) (places : List (Option Pair)) (n : ℕ) → marks ≡ replicate n false → masked marks places ≡ replicate n None
nothing marks places n unset = ap (λ l. masked l places) unset ∙ masked-none n places

pub invariant_of-result : goal.invariant_of-result
invariant_of-result c =
    let n = c.args.states in
    let none : Option Pair = None in
    let marks : c.in_ok-marks.marks.items ≡ replicate n false = c.in_ok-marks.ensures.items_if_clones_equal (λ y e. e) in
    let shown = nothing c.in_ok-marks.marks.items c.in-Some.places.slots n marks in
    record {
      allocator = c.in-Some.ensures.1;
      address = c.in-Some.ensures.2;
      count_given = c.in-Some.ensures.3;
      size = ap length c.in-Some.ensures.0 ∙ length-replicate (2 * n) none;
      marks = ap length marks ∙ length-replicate n false;
      few = c.requires;
      halves = inl (refl, refl);
      within = omega arith;
      full = refl;
      marked = ap (map is_some) shown ∙ map-is_some-none Pair n ∙ sym marks;
      missing = sym (ap missing_in shown ∙ missing_in-none Pair n);
    }

pub returns-in-Some : goal.returns-in-Some
returns-in-Some c =
    let n = c.args.states in
    let marks : c.in_ok-marks.marks.items ≡ replicate n false = c.in_ok-marks.ensures.items_if_clones_equal (λ y e. e) in
    ap (λ (ws : List (Option Pair)). let p : Plane = record { states = n; finished = []; work = ws } in p) (nothing c.in_ok-marks.marks.items c.in-Some.places.slots n marks)
