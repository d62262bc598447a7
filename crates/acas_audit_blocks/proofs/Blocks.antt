-- A block of cells as one area: a flight from a cell of it is one from the area, and a flight from the area is one from some cell.
use Rattle.std.proofs.Common.{◌≡◌, ℕ, zero, suc, ◌+◌, ◌<◌, ◌≤◌, inl, inr, List, length, ℤ, pos, ◌*ℤ◌, ◌≤ℤ◌, subst, arith}
use Rattle.std.proofs.lemmas.Int.{ints}
use Rattle.std.proofs.lemmas.Bool.{cases_eq}
use Rattle.acas_spec.specs.Axis.{Rises, place_value}
use Rattle.acas_spec.specs.Limits.{IsModel}
use Rattle.acas_spec.specs.Model.{ModelData}
use Rattle.acas_frac.proofs.SignedProducts.{le-trans_ℤ}
use Rattle.acas_flight.specs.Response.{Segment, demand_of}
use Rattle.acas_flight.specs.State.{IsInside, from_place}
use Rattle.acas_flight.specs.Window.{IsWindowOfCell, Times}
use Rattle.acas_flight.specs.Clear.{EndsInVerticalContact, IsEndangeredDuring, area_of_cell}
use Rattle.acas_frac.proofs.Orders.{cases_lt_ℤ, le_of_lt_ℤ}
use Rattle.acas_flight_lemmas.proofs.Rising.{scaled_le}
use Rattle.acas_flight_lemmas.proofs.Endangered.{endangered_cell}
use Rattle.acas_audit_blocks.specs.BlockStates.{IsEndangeredBlock, area_of_block}
use Rattle.acas_cells.specs.Blocks.{IsBlockOf, IsInBlock, IsSome}
use Rattle.acas_rulings.specs.Spans.{between}
use Rattle.acas_cells.specs.declared.block.Block.{Block}
use Rattle.acas_rulings.proofs.Spans.{rising_between}

-- ---- axes

-- the number at a later place of an axis is greater, or the same at the same place
not_falling : (axis : List ℤ) → Rises axis → (first last : ℕ) → first ≤ last → last < length axis → place_value axis first ≤ℤ place_value axis last
not_falling axis rises first last order within =
    elim (cases_eq first last) [
      | inl same ↦ subst (λ (p : ℕ). place_value axis first ≤ℤ place_value axis p) same (omega (arith, ints))
      | inr other ↦ le_of_lt_ℤ _ _ (rising_between axis rises first last (omega (arith, order, other)) within)
    ]

-- ---- intervals of an axis

-- a number of a cell's interval is one of the block's
widened : (axis : List ℤ) → Rises axis → (q first last place : ℕ) (z : ℤ) → first ≤ place → place < last → last < length axis →
    IsInside q (from_place axis place) z → IsInside q (between axis first last) z
widened axis rises q first last place z from before within inside = (
  le-trans_ℤ _ _ _ (scaled_le (place_value axis first) (place_value axis place) q (not_falling axis rises first place from (omega (arith, before, within)))) inside.0,
  le-trans_ℤ _ _ _ inside.1 (scaled_le (place_value axis (place + 1)) (place_value axis last) q (not_falling axis rises (place + 1) last (omega (arith, before)) within)),
)

-- the place of a cell whose interval has a number
record Holds (axis : List ℤ) (q first last : ℕ) (z : ℤ) : Type 0 where
  pub place : ℕ
  pub from : first ≤ place
  pub before : place < last
  pub inside : IsInside q (from_place axis place) z

-- a number of a block's interval is one of some cell's
narrowed : (axis : List ℤ) (q first last : ℕ) (z : ℤ) → first < last → IsInside q (between axis first last) z → Holds axis q first last z
narrowed axis q first zero z some inside = absurd (omega (arith, some))
narrowed axis q first (suc last) z some inside =
    let next : suc last ≡ last + 1 = omega arith in
    let top : z ≤ℤ (place_value axis (last + 1) *ℤ pos q) = subst (λ (p : ℕ). z ≤ℤ (place_value axis p *ℤ pos q)) next inside.1 in
    elim (cases_eq first last) [
      | inl same ↦ record {
        place = last;
        from = omega (arith, same);
        before = omega arith;
        inside = (subst (λ (p : ℕ). (place_value axis p *ℤ pos q) ≤ℤ z) same inside.0, top);
      }
      | inr other ↦ elim (cases_lt_ℤ (place_value axis last *ℤ pos q) z) [
        | inl above ↦ record {
          place = last;
          from = omega (arith, some);
          before = omega arith;
          inside = (le_of_lt_ℤ _ _ above, top);
        }
        | inr below ↦
            let rest = narrowed axis q first last z (omega (arith, some, other)) (inside.0, below) in
            record { place = rest.place; from = rest.from; before = omega (arith, rest.before); inside = rest.inside }
      ]
    ]

-- ---- blocks

module _ (m : ModelData) (n advisory : ℕ) (b : Block) (w : Times) (window : IsWindowOfCell m n w) where
  -- a flight from the area is one from a cell of the block
  pub danger_in_block : IsSome b → IsEndangeredDuring m.half (demand_of m advisory) (area_of_block m b) w → IsEndangeredBlock m n advisory b
  danger_in_block some danger = by danger.0 danger.1 danger.2 danger.3 danger.4 danger.5
    where
      by : (q : ℕ) (h v x : ℤ) (r : List Segment) → EndsInVerticalContact m.half (demand_of m advisory) (area_of_block m b) w q h v x r →
          IsEndangeredBlock m n advisory b
      by q h v x r f =
          let i = narrowed m.grid.h q b.i0 b.i1 h some.i f.altitude in
          let j = narrowed m.grid.v0 q b.j0 b.j1 v some.j f.own in
          let k = narrowed m.grid.v1 q b.k0 b.k1 x some.k f.intruder in
          record {
            i = i.place;
            j = j.place;
            k = k.place;
            inside = record { from_i = i.from; from_j = j.from; from_k = k.from; before_i = i.before; before_j = j.before; before_k = k.before };
            danger = (endangered_cell m n i.place j.place k.place advisory w window).1 (
              q,
              h,
              v,
              x,
              r,
              record { some = f.some; altitude = i.inside; own = j.inside; intruder = k.inside; time = f.time; meets = f.meets; contact = f.contact },
            );
          }

  -- a flight from a cell of the block is one from the area
  pub danger_in_area : IsModel m → IsBlockOf m b → IsEndangeredBlock m n advisory b → IsEndangeredDuring m.half (demand_of m advisory) (area_of_block m b) w
  danger_in_area model block danger =
      let d = (endangered_cell m n danger.i danger.j danger.k advisory w window).0 danger.danger in
      by danger.i danger.j danger.k danger.inside d.0 d.1 d.2 d.3 d.4 d.5
    where
      by : (i j k : ℕ) → IsInBlock b i j k → (q : ℕ) (h v x : ℤ) (r : List Segment) →
          EndsInVerticalContact m.half (demand_of m advisory) (area_of_cell m i j k) w q h v x r →
          IsEndangeredDuring m.half (demand_of m advisory) (area_of_block m b) w
      by i j k inside q h v x r f = (
        q,
        h,
        v,
        x,
        r,
        record {
          some = f.some;
          altitude = widened m.grid.h model.grid.altitudes.rising q b.i0 b.i1 i h inside.from_i inside.before_i block.i f.altitude;
          own = widened m.grid.v0 model.grid.own_rates.rising q b.j0 b.j1 j v inside.from_j inside.before_j block.j f.own;
          intruder = widened m.grid.v1 model.grid.intruder_rates.rising q b.k0 b.k1 k x inside.from_k inside.before_k block.k f.intruder;
          time = f.time;
          meets = f.meets;
          contact = f.contact;
        },
      )
