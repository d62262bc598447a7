use Rattle.std.proofs.Common.{◌≡◌, ◌<◌, Bool, List, ap, sym, subst, ◌∙◌, arith}
use Rattle.std.specs.Prelude.{Option, Some, map, is_some, slice_get}
use Rattle.std.specs.Bool.{OnFalse, OnTrue}
use Rattle.std.proofs.lemmas.Option.{slice_get_read}
use Rattle.acas_units.specs.declared.pair.Pair.{Pair}
use Rattle.acas_plane.specs.Fields.{work_places}
use Rattle.acas_plane.specs.Plane.{IsFree, IsWritten, Plane}
use Rattle.acas_plane.proofs.Masks.{told}
use Rattle.acas_plane.proofs.block.PlaneBlock.written.Goals as goal

-- what the mark says of the place
mark_tells : (c : goal.After-index) → OnTrue c.index.result.now (IsWritten c.args.self.now.work c.args.place) × OnFalse c.index.result.now (IsFree c.args.self.now.work c.args.place)
mark_tells c =
    let b = c.self.inside in
    let mark = c.index.result.now in
    let old = c.self.invariant in
    let inside : c.args.place < b.states = omega (arith, ap (λ (p : Plane). p.states) c.self.view_is, c.requires) in
    let read = slice_get_read b.marks.items b.states c.args.place mark (sym old.marks) inside c.index.ensures in
    let here : slice_get (map is_some (work_places b)) c.args.place ≡ Some mark = ap (λ (l : List Bool). slice_get l c.args.place) old.marked ∙ read in
    subst (λ (ws : List (Option Pair)). OnTrue mark (IsWritten ws c.args.place) × OnFalse mark (IsFree ws c.args.place)) (ap (λ (p : Plane). p.work) c.self.view_is)
    (told (work_places b) c.args.place mark here)

pub returns-clause-yes : goal.returns-clause-yes
returns-clause-yes c = (mark_tells c).0

pub returns-clause-no : goal.returns-clause-no
returns-clause-no c = (mark_tells c).1
