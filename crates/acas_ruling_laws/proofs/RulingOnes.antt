-- A cell has one ruling under an advice, and a box under its advisory.
use Rattle.std.proofs.Common.{◌≡◌, ℕ, ◌<◌, refl, sym, ap, arith}
use Rattle.std.proofs.lemmas.Int.{ints}
use Rattle.std.proofs.lemmas.List.Elements.{recursion_from_All, All-from_recursion}
use Rattle.acas_spec.specs.Model.{ModelData}
use Rattle.acas_spec.specs.Limits.{IsModel}
use Rattle.acas_frac.specs.Fraction.{IsReduced}
use Rattle.acas_flight.specs.Response.{demand_of}
use Rattle.acas_flight_lemmas.proofs.Models.{demand_can_be_met}
use Rattle.acas_flight.specs.State.{State, IsInBox, IsInCell}
use Rattle.acas_flight.specs.Clear.{area_of_box, area_of_cell}
use Rattle.acas_flight.specs.Window.{IsWindowOfBox, IsWindowOfCell, Times}
use Rattle.acas_areas.specs.Search.{unit}
use Rattle.acas_rulings.specs.declared.flight.Witness.{Witness}
use Rattle.acas_rulings.specs.Ranges.{IsBoxesRange, IsCellsRange}
use Rattle.acas_rulings.specs.Printed.{fractions_of, flight_fractions}
use Rattle.acas_rulings.specs.Witness.{search_between}
use Rattle.acas_rulings.specs.Boxes.{AuditedBox, IsBoxOf}
use Rattle.acas_cells.specs.declared.name.CellName.{CellName}
use Rattle.acas_rulings.specs.declared.ruling.Ruling.{Ruling}
use Rattle.acas_rulings.specs.declared.ruling.Ruling.TheVariants.{Certified, Reported}
use Rattle.acas_rulings.specs.Rulings.{IsReported, IsRuling, IsRulingOfBox, IsRulingOfCell, IsWitnessOfBox, IsWitnessOfCell}
use Rattle.acas_ruling_laws.proofs.Ones.{AreSameTimes, unit_some, witness-one}
use Rattle.acas_ruling_laws.proofs.RangeOnes.{boxes_range-one, cells_range-one}

pub same_witness : (v w : Witness) → v.range ≡ w.range → v.speed ≡ w.speed → v.flight ≡ w.flight → v ≡ w
same_witness v w r s f = λ i. record { range = r i; speed = s i; flight = f i }

pub ruling-one : (m : ModelData) (advisory : ℕ) (IsIn : ℕ → State → Type 0) (IsRule : Witness → Type 0) →
    ((v w : Witness) → IsReported m advisory IsIn IsRule v → IsReported m advisory IsIn IsRule w → v ≡ w) →
    (r s : Ruling) → IsRuling m advisory IsIn IsRule r → IsRuling m advisory IsIn IsRule s → r ≡ s
ruling-one m advisory IsIn IsRule one Certified Certified i j = refl
ruling-one m advisory IsIn IsRule one Certified (Reported w) i j = absurd (i j.endangered)
ruling-one m advisory IsIn IsRule one (Reported v) Certified i j = absurd (j i.endangered)
ruling-one m advisory IsIn IsRule one (Reported v) (Reported w) i j = ap (λ (x : Witness). Reported x) (one v w i j)

-- ---- cells

pub same_times_of_cell : (m : ModelData) (n : ℕ) (w u : Times) → IsWindowOfCell m n w → IsWindowOfCell m n u → AreSameTimes w u
same_times_of_cell m n w u i j = λ q t p. (λ d. (j.exact q t p).1 ((i.exact q t p).0 d), λ d. (i.exact q t p).1 ((j.exact q t p).0 d))

reported-one_cell : (m : ModelData) (name : CellName) → IsModel m → name.advice < m.grid.advisories → (v w : Witness) →
    IsReported m name.advice (IsInCell m name.n name.i name.j name.k) (IsWitnessOfCell m name) v →
    IsReported m name.advice (IsInCell m name.n name.i name.j name.k) (IsWitnessOfCell m name) w → v ≡ w
reported-one_cell m name is known v w i j =
    let a = demand_of m name.advice in
    let area = area_of_cell m name.i name.j name.k in
    let x = recursion_from_All IsReduced (fractions_of v) i.shown.reduced in
    let y = recursion_from_All IsReduced (fractions_of w) j.shown.reduced in
    let flights = witness-one m.half a area i.rule.times j.rule.times v.flight w.flight (demand_can_be_met m name.advice is known)
    (same_times_of_cell m name.n j.rule.times i.rule.times j.rule.window i.rule.window)
    i.rule.flight j.rule.flight (All-from_recursion IsReduced (flight_fractions v.flight) x.1.1) (All-from_recursion IsReduced (flight_fractions w.flight) y.1.1) in
    let back = sym flights in
    let carried : IsCellsRange m name.n v.flight.time w.range w.speed = rw back at j.rule.range in
    let f = i.rule.flight in
    let pair = cells_range-one m name.n v.flight.time v.range w.range v.speed w.speed (unit (search_between a area f.low f.high)) f.flight.time
    (unit_some a area f.low f.high f.at_low.reduced.some f.at_high.reduced.some) f.prints.time i.rule.range carried x.0 y.0 in
    same_witness v w pair.0 pair.1 flights

pub cells-one : (m : ModelData) (name : CellName) (r s : Ruling) → IsModel m → name.advice < m.grid.advisories → IsRulingOfCell m name r → IsRulingOfCell m name s → r ≡ s
cells-one m name r s is known i j = ruling-one m name.advice (IsInCell m name.n name.i name.j name.k) (IsWitnessOfCell m name) (reported-one_cell m name is known) r s i j

-- ---- boxes

pub same_times_of_box : (m : ModelData) (b : AuditedBox) (w u : Times) → IsWindowOfBox m b.states.range b.states.closing w → IsWindowOfBox m b.states.range b.states.closing u → AreSameTimes w u
same_times_of_box m b w u i j = λ q t p. (λ d. (j.exact q t p).1 ((i.exact q t p).0 d), λ d. (i.exact q t p).1 ((j.exact q t p).0 d))

reported-one_box : (m : ModelData) (b : AuditedBox) → IsModel m → IsBoxOf m b → (v w : Witness) →
    IsReported m b.advisory (IsInBox b.states) (IsWitnessOfBox m b) v → IsReported m b.advisory (IsInBox b.states) (IsWitnessOfBox m b) w → v ≡ w
reported-one_box m b is of v w i j =
    let a = demand_of m b.advisory in
    let area = area_of_box b.states in
    let x = recursion_from_All IsReduced (fractions_of v) i.shown.reduced in
    let y = recursion_from_All IsReduced (fractions_of w) j.shown.reduced in
    let flights = witness-one m.half a area i.rule.times j.rule.times v.flight w.flight (demand_can_be_met m b.advisory is of.advisory)
    (same_times_of_box m b j.rule.times i.rule.times j.rule.window i.rule.window)
    i.rule.flight j.rule.flight (All-from_recursion IsReduced (flight_fractions v.flight) x.1.1) (All-from_recursion IsReduced (flight_fractions w.flight) y.1.1) in
    let back = sym flights in
    let carried : IsBoxesRange m.radius b.states.range b.states.closing v.flight.time w.range w.speed = rw back at j.rule.range in
    let f = i.rule.flight in
    let pair = boxes_range-one m.radius b.states.range b.states.closing v.flight.time v.range w.range v.speed w.speed (unit (search_between a area f.low f.high)) f.flight.time
    (omega (arith, ints, of.flown.slow)) (unit_some a area f.low f.high f.at_low.reduced.some f.at_high.reduced.some) f.prints.time i.rule.range carried x.0 y.0 x.1.0 y.1.0 in
    same_witness v w pair.0 pair.1 flights

pub boxes-one : (m : ModelData) (b : AuditedBox) (r s : Ruling) → IsModel m → IsBoxOf m b → IsRulingOfBox m b r → IsRulingOfBox m b s → r ≡ s
boxes-one m b r s is of i j = ruling-one m b.advisory (IsInBox b.states) (IsWitnessOfBox m b) (reported-one_box m b is of) r s i j
