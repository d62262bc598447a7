-- A flight of a cell's or a box's time has a range and a closing speed in lowest terms.
use Rattle.std.proofs.Common.{◌≡◌, ℕ, ◌+◌, ◌-◌, ◌*◌, ◌<◌, ◌≤◌, inl, inr, refl, arith, pos, ◌≤ℤ◌, min, max, unsigned_abs}
use Rattle.std.proofs.lemmas.Int.{ints}
use Rattle.std.proofs.lemmas.Bool.{cases_lt}
use Rattle.acas_spec.specs.Model.{ModelData}
use Rattle.acas_spec.specs.Limits.{IsModel}
use Rattle.acas_frac.specs.Fraction.{Fraction, whole_of, IsReduced}
use Rattle.acas_frac.proofs.Reduced.{some_reduced}
use Rattle.acas_flight.specs.State.{Interval}
use Rattle.acas_flight.specs.Window.{Times, IsContactTimeOfBox, IsContactTimeOfCell, IsWindowOfBox, IsWindowOfCell}
use Rattle.acas_areas.specs.Limits.{IsFlownInTime}
use Rattle.acas_rulings.specs.Ranges.{IsBoxesRange, IsCellsRange, IsContactOfBox, IsContactOfCell}
use Rattle.acas_witness_response.proofs.CellRanges.{cells_range, contact_of_cell}
use Rattle.acas_witness_response.proofs.BoxRanges.{during_renamed, pair_at_greater, pair_at_least, pair_renamed, some_time}
use Rattle.acas_ruling_laws.proofs.Printed.{whole_reduced}
use Rattle.acas_ruling_laws.proofs.Somes.{HasTime}

-- ---- cells

pub record HasCellsRange (m : ModelData) (n : ℕ) (time : Fraction) : Type 0 where
  pub range : Fraction
  pub speed : Fraction
  pub is : IsCellsRange m n time range speed
  pub contact : IsContactOfCell m n time range speed
  pub range_reduced : IsReduced range
  pub speed_reduced : IsReduced speed

pub range_of_cell : (m : ModelData) (n : ℕ) (w : Times) (time : Fraction) → IsModel m → IsWindowOfCell m n w → HasTime w time → HasCellsRange m n time
range_of_cell m n w time is window t =
    let a = unsigned_abs time.num in
    let d = time.den in
    let slow = m.least_closing in
    let some : 0 < slow = omega (arith, is.some_closing) in
    let r = some_reduced (pos (m.radius * d + slow * min a ((n + 1) * d))) d t.some in
    let during : IsContactTimeOfCell m n d a = (window.exact d a t.some).0 t.during in
    record {
      range = r.fraction;
      speed = whole_of (pos slow);
      is = cells_range m n time r.fraction (whole_of (pos slow)) a d some is.closing t.ahead refl t.some during r.reduced.some r.same refl;
      contact = contact_of_cell m n time r.fraction (whole_of (pos slow)) a d some is.closing t.ahead refl t.some during r.reduced.some r.same refl;
      range_reduced = r.reduced;
      speed_reduced = whole_reduced (pos slow);
    }

-- ---- boxes

pub record HasBoxesRange (radius : ℕ) (ranges speeds : Interval) (time : Fraction) : Type 0 where
  pub range : Fraction
  pub speed : Fraction
  pub is : IsBoxesRange radius ranges speeds time range speed
  pub contact : IsContactOfBox radius ranges speeds time range speed
  pub range_reduced : IsReduced range
  pub speed_reduced : IsReduced speed

module _ (radius : ℕ) (ranges speeds : Interval) (time : Fraction) (near far slow fast : ℕ)
    (en : ranges.least ≡ pos near) (ef : ranges.greatest ≡ pos far) (es : speeds.least ≡ pos slow) (eg : speeds.greatest ≡ pos fast) (wide : near ≤ far) (quick : slow ≤ fast)
    (some : 0 < time.den) (ahead : time.num ≡ pos (unsigned_abs time.num)) (during : IsContactTimeOfBox radius ranges speeds time.den (unsigned_abs time.num)) where
  at_least : (near - radius) * time.den ≤ slow * unsigned_abs time.num → HasBoxesRange radius ranges speeds time
  at_least first =
      let a = unsigned_abs time.num in
      let d = time.den in
      let r = some_reduced (pos (max (near * d) (min (far * d) (slow * a)))) d some in
      let pair = pair_at_least time r.fraction (whole_of (pos slow)) radius near far slow fast a d ahead refl some wide quick
      (during_renamed radius radius near far slow fast d a ranges speeds refl en ef es eg during) r.reduced.some (omega arith) first r.same refl in
      let both = pair_renamed radius radius near far slow fast ranges speeds time r.fraction (whole_of (pos slow)) refl en ef es eg pair in
      record { range = r.fraction; speed = whole_of (pos slow); is = both.0; contact = both.1; range_reduced = r.reduced; speed_reduced = whole_reduced (pos slow) }

  at_greater : slow * unsigned_abs time.num < (near - radius) * time.den → HasBoxesRange radius ranges speeds time
  at_greater first =
      let a = unsigned_abs time.num in
      let d = time.den in
      let renamed = during_renamed radius radius near far slow fast d a ranges speeds refl en ef es eg during in
      let v = some_reduced (pos ((near - radius) * d)) a (some_time radius near far slow fast a d d time.num ahead refl some wide quick renamed first) in
      let pair = pair_at_greater time (whole_of (pos near)) v.fraction radius near far slow fast a d ahead refl some wide quick renamed (omega arith) v.reduced.some first refl v.same in
      let both = pair_renamed radius radius near far slow fast ranges speeds time (whole_of (pos near)) v.fraction refl en ef es eg pair in
      record { range = whole_of (pos near); speed = v.fraction; is = both.0; contact = both.1; range_reduced = whole_reduced (pos near); speed_reduced = v.reduced }

  range_at : HasBoxesRange radius ranges speeds time
  range_at = elim (cases_lt (slow * unsigned_abs time.num) ((near - radius) * time.den)) [
    | inl first ↦ at_greater first
    | inr first ↦ at_least first
  ]

pub range_of_box : (m : ModelData) (ranges speeds : Interval) (w : Times) (time : Fraction) → IsFlownInTime m ranges speeds → ranges.least ≤ℤ ranges.greatest → speeds.least ≤ℤ speeds.greatest →
    IsWindowOfBox m ranges speeds w → HasTime w time → HasBoxesRange m.radius ranges speeds time
range_of_box m ranges speeds w time flown order rising window t =
    range_at m.radius ranges speeds time (unsigned_abs ranges.least) (unsigned_abs ranges.greatest) (unsigned_abs speeds.least) (unsigned_abs speeds.greatest)
    (omega (arith, ints, flown.ahead)) (omega (arith, ints, flown.ahead)) (omega (arith, ints, flown.slow)) (omega (arith, ints, flown.slow)) (omega (arith, ints, flown.ahead)) (omega (arith, ints, flown.slow))
    t.some t.ahead ((window.exact time.den (unsigned_abs time.num) t.some).0 t.during)
