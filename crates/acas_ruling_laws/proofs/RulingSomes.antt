-- Each cell has a ruling under an advice, and each box under its advisory.
use Rattle.std.proofs.Common.{ℕ, ◌<◌, inl, inr, ◌⊎◌, refl, arith, ℤ, pos, ◌≤ℤ◌, ◌<ℤ◌}
use Rattle.std.proofs.lemmas.Int.{ints}
use Rattle.acas_spec.specs.Model.{ModelData}
use Rattle.acas_spec.specs.Limits.{IsModel}
use Rattle.acas_frac.proofs.SignedProducts.{mul-lt_ℤ, mul_comm_ℤ}
use Rattle.acas_flight.specs.Response.{demand_of}
use Rattle.acas_flight.specs.State.{Box, Interval, IsInBox, IsInside, State}
use Rattle.acas_flight.specs.Clear.{area_of_box, area_of_cell}
use Rattle.acas_flight_lemmas.proofs.Dangers.{clear_box_is_safe, clear_cell_is_safe}
use Rattle.acas_flight_lemmas.proofs.Endangered.{endangered_box, endangered_cell}
use Rattle.acas_frac.proofs.Orders.{cases_lt_ℤ}
use Rattle.acas_areas.specs.Limits.{IsArea}
use Rattle.acas_rulings.specs.declared.flight.Witness.{Witness}
use Rattle.acas_rulings.specs.Boxes.{AuditedBox, IsBoxOf}
use Rattle.acas_cells.specs.Cells.{IsCellOf}
use Rattle.acas_cells.specs.Order.{cell_of}
use Rattle.acas_cells.specs.declared.name.CellName.{CellName}
use Rattle.acas_rulings.specs.declared.ruling.Ruling.{Ruling}
use Rattle.acas_rulings.specs.declared.ruling.Ruling.TheVariants.{Certified, Reported}
use Rattle.acas_rulings.specs.Rulings.{IsRulingOfBox, IsRulingOfCell}
use Rattle.acas_witness.proofs.Showing.{reported_box, reported_cell}
use Rattle.acas_ruling_laws.proofs.Areas.{rates_at, rises_at}
use Rattle.acas_ruling_laws.proofs.Ranges.{range_of_box, range_of_cell}
use Rattle.acas_ruling_laws.proofs.Somes.{IsFlyable, clear_or_witness, endangered, time_of}
use Rattle.acas_flight_windows.proofs.EachWindow.{window_of_box, window_of_cell}

-- ---- cells

pub cells-some : (m : ModelData) (name : CellName) → IsModel m → IsCellOf m (cell_of name) → name.advice < m.grid.advisories → (r : Ruling) × IsRulingOfCell m name r
cells-some m name is cell known =
    let g = is.grid in
    let w = window_of_cell m name.n is cell.n in
    let area = area_of_cell m name.i name.j name.k in
    elim (clear_or_witness m name.advice area w.times is known
    (record { altitude = rises_at m.grid.h name.i g.altitudes cell.i; own = rates_at m.grid.v0 name.j g.own_rates g.own_within cell.j; intruder = rates_at m.grid.v1 name.k g.intruder_rates g.intruder_within cell.k })
    w.ends) [
      | inl clear ↦ (Certified, clear_cell_is_safe m name.n name.i name.j name.k name.advice w.times is known w.window clear)
      | inr x ↦
          let r = range_of_cell m name.n w.times x.flight.time is w.window (time_of m.half (demand_of m name.advice) area w.times x) in
          let v : Witness = record { range = r.range; speed = r.speed; flight = x.flight } in (
            Reported v,
            reported_cell m name area w.times x.flight v refl w.window
                ((endangered_cell m name.n name.i name.j name.k name.advice w.times w.window).1 (endangered m.half (demand_of m name.advice) area w.times x))
                x.is x.contact refl r.is r.contact r.range_reduced r.speed_reduced,
          )
    ]

-- ---- boxes

-- no state of a box is in an interval that ends before it begins
none_inside : (s : Interval) (q : ℕ) (n : ℤ) → 0 < q → s.greatest <ℤ s.least → IsInside q s n → ⊥
none_inside s q n p h i = omega (arith, ints, i.0, i.1, mul-lt_ℤ q s.greatest s.least p h, mul_comm_ℤ (pos q) s.greatest, mul_comm_ℤ (pos q) s.least)

-- the intervals of a box are in order, or it holds no state
pub record AreInOrder (box : Box) : Type 0 where
  pub range : box.range.least ≤ℤ box.range.greatest
  pub closing : box.closing.least ≤ℤ box.closing.greatest
  pub altitude : box.altitude.least ≤ℤ box.altitude.greatest
  pub own : box.own.least ≤ℤ box.own.greatest
  pub intruder : box.intruder.least ≤ℤ box.intruder.greatest

pub in_order_or_empty : (box : Box) → AreInOrder box ⊎ ((q : ℕ) (s : State) → 0 < q → IsInBox box q s → ⊥)
in_order_or_empty box = elim (cases_lt_ℤ box.range.greatest box.range.least) [
  | inl l ↦ inr (λ q s p i. none_inside box.range q s.range p l i.range)
  | inr range ↦ elim (cases_lt_ℤ box.closing.greatest box.closing.least) [
    | inl l ↦ inr (λ q s p i. none_inside box.closing q s.closing p l i.closing)
    | inr closing ↦ elim (cases_lt_ℤ box.altitude.greatest box.altitude.least) [
      | inl l ↦ inr (λ q s p i. none_inside box.altitude q s.altitude p l i.altitude)
      | inr altitude ↦ elim (cases_lt_ℤ box.own.greatest box.own.least) [
        | inl l ↦ inr (λ q s p i. none_inside box.own q s.own p l i.own)
        | inr own ↦ elim (cases_lt_ℤ box.intruder.greatest box.intruder.least) [
          | inl l ↦ inr (λ q s p i. none_inside box.intruder q s.intruder p l i.intruder)
          | inr intruder ↦ inl (record { range = range; closing = closing; altitude = altitude; own = own; intruder = intruder })
        ]
      ]
    ]
  ]
]

-- the area of a box in order, within the limits
pub flyable_box : (box : Box) → IsArea (area_of_box box) → AreInOrder box → IsFlyable (area_of_box box)
flyable_box box fits order = record {
  altitude = order.altitude;
  own = record { least = fits.own.least; greatest = fits.own.greatest; ordered = order.own };
  intruder = record { least = fits.intruder.least; greatest = fits.intruder.greatest; ordered = order.intruder };
}

ordered-some : (m : ModelData) (b : AuditedBox) → IsModel m → IsBoxOf m b → IsArea (area_of_box b.states) → AreInOrder b.states → (r : Ruling) × IsRulingOfBox m b r
ordered-some m b is of fits order =
    let w = window_of_box m b.states.range b.states.closing of.flown order.range order.closing in
    let area = area_of_box b.states in
    elim (clear_or_witness m b.advisory area w.times is of.advisory (flyable_box b.states fits order) w.ends) [
      | inl clear ↦ (Certified, clear_box_is_safe m b.states b.advisory w.times is of.advisory w.window clear)
      | inr x ↦
          let r = range_of_box m b.states.range b.states.closing w.times x.flight.time of.flown order.range order.closing w.window (time_of m.half (demand_of m b.advisory) area w.times x) in
          let v : Witness = record { range = r.range; speed = r.speed; flight = x.flight } in (
            Reported v,
            reported_box m b w.times x.flight v w.window
                ((endangered_box m b.states b.advisory w.times w.window).1 (endangered m.half (demand_of m b.advisory) area w.times x))
                x.is x.contact refl r.is r.contact r.range_reduced r.speed_reduced,
          )
    ]

pub boxes-some : (m : ModelData) (b : AuditedBox) → IsModel m → IsBoxOf m b → IsArea (area_of_box b.states) → (r : Ruling) × IsRulingOfBox m b r
boxes-some m b is of fits = elim (in_order_or_empty b.states) [
  | inl order ↦ ordered-some m b is of fits order
  | inr empty ↦ (Certified, λ e. empty e.0 e.1 e.3.some e.3.inside)
]
