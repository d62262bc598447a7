-- A state that a table advises is in a cell that the audit of the table rules on.
use Rattle.std.proofs.Common.{◌≡◌, ℕ, zero, suc, ◌+◌, ◌-◌, ◌*◌, ◌<◌, ◌≤◌, inl, inr, List, length, refl, sym, ◌∙◌, ap, arith, ℤ, pos, ◌*ℤ◌, ◌≤ℤ◌, ◌<ℤ◌}
use Rattle.std.proofs.lemmas.Int.{ints, clamps}
use Rattle.acas_spec.specs.Axis.{place_value}
use Rattle.acas_spec.specs.Limits.{IsModel}
use Rattle.acas_spec.specs.Model.{GridData, ModelData, states}
use Rattle.acas_spec.specs.declared.place.Point.{Point}
use Rattle.acas_spec.specs.declared.place.Vertex.{Vertex}
use Rattle.acas_grid.specs.Axis.{IsBetweenEnds, clamp_to}
use Rattle.acas_grid.specs.Grid as grid
use Rattle.acas_grid.specs.Grid.{IsVertex, clamp_point, state_number, vertex_number}
use Rattle.acas_grid.proofs.Vertices.{row_below, states-one_to_one, vertices-one_to_one}
use Rattle.acas_base.specs.Advices.{AdvicesData, AreAdvices, AreAdvicesOf, advice_at}
use Rattle.acas_process.specs.Axis.{tent}
use Rattle.acas_process.specs.Step.{share}
use Rattle.acas_process.proofs.AxisLaws.{IsBetween, neighbours}
use Rattle.acas_flight.specs.State.{IsInCell, IsInside, State, from_place}
use Rattle.acas_cells.specs.Order.{IsAdvisoryCell, IsCorner, cell_of}
use Rattle.acas_cells.specs.declared.name.CellName.{CellName}
use Rattle.acas_cells.proofs.Exact.{in_advisory_cells}
use Rattle.acas_replay.specs.Encounter.{EncounterData, IsEncounterOf, seconds}
use Rattle.acas_replay.specs.Audited.{IsAudited, IsOfCells, flight_state}
use Rattle.acas_replay.specs.Issue.{IsIssued, IsLayerOf, IsNearestVertex, IsTabledFor}
use Rattle.acas_replay.specs.Replay.{Course, IsCourse, state_at}
use Rattle.acas_replay.specs.declared.state.EncounterState.{EncounterState}
use Rattle.acas_replay.proofs.Layers.{layer_not_after, layer_not_before}
use Rattle.acas_replay.proofs.Nearest.{some_nearest, tent_some}

-- ---- issued advices are advisories

tabled_known : (m : ModelData) (a : AdvicesData) (layer present : ℕ) (y : Vertex) → AreAdvices a → AreAdvicesOf m a → 1 ≤ layer → layer ≤ m.grid.horizon → present < m.grid.advisories → IsVertex m.grid y →
    advice_at a layer (state_number m.grid present (vertex_number m.grid y)) < m.grid.advisories
tabled_known m a layer present y are of some tabled known vertex =
    let state : state_number m.grid present (vertex_number m.grid y) < states m.grid =
    (states-one_to_one m.grid).below present (vertex_number m.grid y) known ((vertices-one_to_one m.grid).below y vertex) in
    let inside : (layer - 1) * states m.grid + state_number m.grid present (vertex_number m.grid y) < m.grid.horizon * states m.grid =
    row_below m.grid.horizon (states m.grid) (layer - 1) (state_number m.grid present (vertex_number m.grid y)) (omega arith) state in
    let count : length a.advice ≡ m.grid.horizon * states m.grid = are.count ∙ ap (λ (n : ℕ). n * a.states) of.horizon ∙ ap (λ (n : ℕ). m.grid.horizon * n) of.states in
    rw (← of.advisories) (are.known ((layer - 1) * a.states + state_number m.grid present (vertex_number m.grid y)) (rw (of.states, count) inside))

issued_known : (m : ModelData) (a : AdvicesData) (s : EncounterState) (advice : ℕ) → IsModel m → AreAdvices a → AreAdvicesOf m a → s.present < m.grid.advisories → IsIssued m a s advice → advice < m.grid.advisories
issued_known m a s advice is are of known (inl h) = omega (arith, h.1, is.grid.some_advisories)
issued_known m a s advice is are of known (inr h) =
    rw h.tabled (tabled_known m a h.layer s.present h.vertex are of h.advised.is_layer.some h.advised.tabled known h.nearest.vertex)

present_known : (m : ModelData) (a : AdvicesData) (e : EncounterData) (c : Course) → IsModel m → AreAdvices a → AreAdvicesOf m a → IsEncounterOf m e → IsCourse m a e c →
    (k : ℕ) → k ≤ seconds e → (state_at e c k).present < m.grid.advisories
present_known m a e c is are of known course zero h = known.advisory
present_known m a e c is are of known course (suc k) h =
    issued_known m a (state_at e c k) (c.advice k) is are of (present_known m a e c is are of known course k (omega arith)) (course.issued k (omega arith))

-- ---- on one axis

clamp_to-inside : (axis : List ℤ) (x : ℤ) → IsBetweenEnds axis x → clamp_to axis x ≡ x
clamp_to-inside axis x b = let l = b.first in let h = b.last in omega (arith, ints, clamps)

clamp_point-inside : (g : GridData) (s : Point) → grid.IsInside g s → clamp_point g s ≡ s
clamp_point-inside g s i = rw (clamp_to-inside g.h s.h i.h, clamp_to-inside g.v0 s.v0 i.v0, clamp_to-inside g.v1 s.v1 i.v1) refl

inside_over_one : (axis : List ℤ) (k : ℕ) (x : ℤ) → IsBetween axis k x → IsInside 1 (from_place axis k) x
inside_over_one axis k x b = (low (place_value axis k) x b.low, high (place_value axis (k + 1)) x b.high)
  where
    low : (y x : ℤ) → y ≤ℤ x → (y *ℤ pos 1) ≤ℤ x
    low y x h = omega (arith, ints)

    high : (y x : ℤ) → x ≤ℤ y → x ≤ℤ (y *ℤ pos 1)
    high y x h = omega (arith, ints)

-- ---- the cell

-- a state of whole numbers, and the same over 1
abbrev plain_state : EncounterState → State
plain_state s = record { range = s.range; closing = s.closing; altitude = s.point.h; own = s.point.v0; intruder = s.point.v1 }

mul_one_ℤ : (z : ℤ) → z *ℤ pos 1 ≡ z
mul_one_ℤ z = omega (arith, ints)

over_one : (m : ModelData) (n i j k : ℕ) (s : EncounterState) → IsInCell m n i j k 1 (plain_state s) → IsInCell m n i j k 1 (flight_state 1 s)
over_one m n i j k s is = rw (mul_one_ℤ s.range, mul_one_ℤ s.closing, mul_one_ℤ s.point.h, mul_one_ℤ s.point.v0, mul_one_ℤ s.point.v1) is

-- the factors of a product that is above 0
first_some : (u v w : ℕ) → 0 < u * v * w → 0 < u
first_some zero v w h = absurd (omega (arith, h))
first_some (suc u) v w h = omega arith

second_some : (u v w : ℕ) → 0 < u * v * w → 0 < v
second_some u v w h = first_some v u w (turned u v w h)
  where
    turned : (u v w : ℕ) → 0 < u * v * w → 0 < v * u * w
    turned u v w h = omega arith

third_some : (u v w : ℕ) → 0 < u * v * w → 0 < w
third_some u v w h = first_some w u v (turned u v w h)
  where
    turned : (u v w : ℕ) → 0 < u * v * w → 0 < w * u * v
    turned u v w h = omega arith

-- the nearest vertex of a point has a share
nearest_some : (g : GridData) (s : Point) (y z : Vertex) → IsNearestVertex g s y → IsVertex g z → 0 < share g s z → 0 < share g s y
nearest_some g s y z n is some = let most = n.greatest z is in omega arith

module _ (m : ModelData) (a : AdvicesData) (s : EncounterState) (advice : ℕ) (is : IsModel m) (are : AreAdvices a) (of : AreAdvicesOf m a) (known : s.present < m.grid.advisories) (cells : IsOfCells m s) (t : IsTabledFor m a s advice) where
  -- n seconds away, where the layer is n + 1
  n : ℕ
  n = t.layer - 1

  layer_is : n + 1 ≡ t.layer
  unfolding n
  layer_is = let some = t.advised.is_layer.some in omega arith

  is_layer : IsLayerOf m s (n + 1)
  is_layer = rw layer_is t.advised.is_layer

  closes : pos 0 <ℤ s.closing
  closes = let h = cells.speed.0 in let some = is.some_closing in omega (arith, ints)

  nearest : IsNearestVertex m.grid s.point t.vertex
  nearest = rw (clamp_point-inside m.grid s.point cells.point) at t.nearest

  some_share : 0 < share m.grid s.point t.vertex
  some_share = let h = some_nearest m.grid s.point is.grid cells.point in nearest_some m.grid s.point t.vertex h.vertex nearest h.is_nearest.vertex h.some

  audited : (i j k : ℕ) → IsBetween m.grid.h i s.point.h → IsBetween m.grid.v0 j s.point.v0 → IsBetween m.grid.v1 k s.point.v1 → 0 < advice → IsAudited m a s advice
  audited i j k h v0 v1 not_clear =
      let name : CellName = record { n = n; present = s.present; i = i; j = j; k = k; advice = advice } in
      let x = tent m.grid.h t.vertex.i s.point.h in
      let y = tent m.grid.v0 t.vertex.j s.point.v0 in
      let z = tent m.grid.v1 t.vertex.k s.point.v1 in
      let corner : IsCorner (cell_of name) t.vertex =
      record {
        i = tent_some m.grid.h i s.point.h is.grid.altitudes h t.vertex.i (first_some x y z some_share);
        j = tent_some m.grid.v0 j s.point.v0 is.grid.own_rates v0 t.vertex.j (second_some x y z some_share);
        k = tent_some m.grid.v1 k s.point.v1 is.grid.intruder_rates v1 t.vertex.k (third_some x y z some_share);
      } in
      let advisory : IsAdvisoryCell m a name =
      record {
        cell = record { n = omega (arith, layer_is, t.advised.tabled); present = known; i = h.place; j = v0.place; k = v1.place };
        not_clear = not_clear;
        tabled = record { corner = t.vertex; is_corner = corner; tabled = rw layer_is (sym t.tabled) };
      } in
      record {
        name = name;
        present = refl;
        advice_is = refl;
        holds = over_one m n i j k s (record {
          away = record { ahead = cells.ahead; speed = cells.speed; not_before = layer_not_before m s n is_layer; not_after = layer_not_after m s n closes is_layer };
          altitude = inside_over_one m.grid.h i s.point.h h;
          own = inside_over_one m.grid.v0 j s.point.v0 v0;
          intruder = inside_over_one m.grid.v1 k s.point.v1 v1;
        });
        ruled_on = in_advisory_cells m a name are of advisory;
      }

  tabled_audited : 0 < advice → IsAudited m a s advice
  tabled_audited not_clear =
      let h = neighbours m.grid.h s.point.h is.grid.altitudes cells.point.h in
      let v0 = neighbours m.grid.v0 s.point.v0 is.grid.own_rates cells.point.v0 in
      let v1 = neighbours m.grid.v1 s.point.v1 is.grid.intruder_rates cells.point.v1 in
      audited h.place v0.place v1.place h.holds v0.holds v1.holds not_clear

issued_audited : (m : ModelData) (a : AdvicesData) (s : EncounterState) (advice : ℕ) → IsModel m → AreAdvices a → AreAdvicesOf m a → s.present < m.grid.advisories → IsOfCells m s → 0 < advice → IsIssued m a s advice → IsAudited m a s advice
issued_audited m a s advice is are of known cells not_clear (inl h) = let clear = h.1 in absurd (omega arith)
issued_audited m a s advice is are of known cells not_clear (inr t) = tabled_audited m a s advice is are of known cells t not_clear

pub course_audited : (m : ModelData) (a : AdvicesData) (e : EncounterData) (c : Course) (k : ℕ) → IsModel m → AreAdvices a → AreAdvicesOf m a → IsEncounterOf m e → IsCourse m a e c → k < seconds e →
    IsOfCells m (state_at e c k) → 0 < c.advice k → IsAudited m a (state_at e c k) (c.advice k)
course_audited m a e c k is are of known course inside cells not_clear =
    issued_audited m a (state_at e c k) (c.advice k) is are of (present_known m a e c is are of known course k (omega arith)) cells not_clear (course.issued k inside)
