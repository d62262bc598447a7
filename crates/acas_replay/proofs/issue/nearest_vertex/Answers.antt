use Rattle.std.proofs.Common.{subst, w64, rules}
use Rattle.std.proofs.lemmas.Int.{to_z-of_z}
use mir.Val.{SFits}
use Rattle.acas_spec.specs.Model.{GridData}
use Rattle.acas_spec.specs.declared.place.Vertex.{Vertex}
use Rattle.acas_replay.specs.Issue.{IsNearestVertex}
use Rattle.acas_replay.proofs.Nearest.{nearest_places-nearest}
use Rattle.acas_replay.proofs.issue.nearest_vertex.Goals as goal

pub nearest_place-requires-3 : goal.nearest_place-requires-3
nearest_place-requires-3 c = search rules

pub returns : goal.returns
returns c =
    let h : SFits w64 c.args.point.h = search rules in
    let v0 : SFits w64 c.args.point.v0 = search rules in
    let v1 : SFits w64 c.args.point.v1 = search rules in
    let y : Vertex = record { i = c.nearest_place.result; j = c.nearest_place-2.result; k = c.nearest_place-3.result } in
    let g : GridData = record { h = c.grid.inside.h; v0 = c.grid.inside.v0; v1 = c.grid.inside.v1; advisories = c.grid.inside.advisories; horizon = c.grid.inside.horizon } in
    subst (λ (g : GridData). IsNearestVertex g c.args.point y) c.grid.view_is
    (nearest_places-nearest g c.args.point y (simp to_z-of_z at c.nearest_place.ensures) (simp to_z-of_z at c.nearest_place-2.ensures) (simp to_z-of_z at c.nearest_place-3.ensures))
