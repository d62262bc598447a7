-- Each cell and each box has a window.
use Rattle.std.proofs.Common.{◌≡◌, ℕ, ◌+◌, ◌-◌, ◌*◌, ◌<◌, ◌≤◌, refl, arith, ℤ, pos, ◌+ℤ◌, ◌*ℤ◌, ◌≤ℤ◌, mul-le-mul, mul-le-mul_right, unsigned_abs}
use Rattle.std.proofs.lemmas.Int.{ints}
use Rattle.acas_units.specs.declared.limits.TheConstants.{GREATEST_CLOSING, WINDOW_SECONDS}
use Rattle.acas_spec.specs.Model.{ModelData}
use Rattle.acas_spec.specs.Limits.{IsModel}
use Rattle.acas_frac.specs.Fraction.{Fraction}
use Rattle.acas_flight.specs.State.{Interval}
use Rattle.acas_flight.specs.Window.{IsWindowOfBox, IsWindowOfCell, Times}
use Rattle.acas_areas.specs.Limits.{AreEnds, IsEnd, IsFlownInTime, times_from}
use Rattle.acas_flight_windows.proofs.Ends.{box_window, cell_window, ordered}

abbrev over : ℕ → ℕ → Fraction
over n d = record { num = pos n; den = d }

end_over : (n d : ℕ) → 0 < d → d ≤ GREATEST_CLOSING → n ≤ WINDOW_SECONDS * d → IsEnd (over n d)
end_over n d p h k = record { some = p; den = h; least = omega (arith, ints); greatest = omega (arith, ints) }

ends_of : (m c n d : ℕ) → 0 < c → 0 < d → c ≤ GREATEST_CLOSING → d ≤ GREATEST_CLOSING → m ≤ WINDOW_SECONDS * c → n ≤ WINDOW_SECONDS * d → m * d ≤ n * c → AreEnds (times_from (over m c) (over n d))
ends_of m c n d pc pd hc hd km kn order = record {
  from = end_over m c pc hc km;
  to = end_over n d pd hd kn;
  order = ordered (over m c) (over n d) m c n d pc pd pc pd refl refl order;
}

-- ---- cells

pub record HasCellWindow (m : ModelData) (n : ℕ) : Type 0 where
  pub times : Times
  pub ends : AreEnds times
  pub window : IsWindowOfCell m n times

pub window_of_cell : (m : ModelData) (n : ℕ) → IsModel m → n < m.grid.horizon → HasCellWindow m n
window_of_cell m n is within =
    let slow = m.least_closing in
    let last = (n + 1) * slow + 2 * m.radius in
    let some : 0 < slow = omega (arith, is.some_closing) in
    let rows = mul-le-mul_right slow (let l : n + 1 ≤ m.grid.horizon = omega arith in l) in
    let ends = ends_of n 1 last slow (omega arith) some (omega arith) (omega (arith, is.closing, is.greatest_closing)) (omega (arith, is.grid.horizon)) (omega (arith, rows, is.window)) (omega arith) in
    record { times = times_from (over n 1) (over last slow); ends = ends; window = cell_window m n (times_from (over n 1) (over last slow)) m.radius slow n is refl refl refl ends refl refl }

-- ---- boxes

pub record HasBoxWindow (m : ModelData) (ranges speeds : Interval) : Type 0 where
  pub times : Times
  pub ends : AreEnds times
  pub window : IsWindowOfBox m ranges speeds times

plain : (z : ℤ) → pos 0 ≤ℤ z → z ≡ pos (unsigned_abs z)
plain z h = omega (arith, ints)

pub window_of_box : (m : ModelData) (ranges speeds : Interval) → IsFlownInTime m ranges speeds → ranges.least ≤ℤ ranges.greatest → speeds.least ≤ℤ speeds.greatest → HasBoxWindow m ranges speeds
window_of_box m ranges speeds flown order rising = by (unsigned_abs ranges.least) (unsigned_abs ranges.greatest) (unsigned_abs speeds.least) (unsigned_abs speeds.greatest)
    (plain ranges.least (omega (arith, ints, flown.ahead))) (plain ranges.greatest (omega (arith, ints, flown.ahead))) (plain speeds.least (omega (arith, ints, flown.slow))) (plain speeds.greatest (omega (arith, ints, flown.slow)))
  where
    by : (near far slow fast : ℕ) → ranges.least ≡ pos near → ranges.greatest ≡ pos far → speeds.least ≡ pos slow → speeds.greatest ≡ pos fast → HasBoxWindow m ranges speeds
    by near far slow fast en ef es eg =
        let some : 0 < slow = omega (arith, ints, es, flown.slow) in
        let quick : slow ≤ fast = omega (arith, ints, es, eg, rising) in
        let wide : near ≤ far = omega (arith, ints, en, ef, order) in
        let top : fast ≤ GREATEST_CLOSING = omega (arith, ints, eg, flown.fast) in
        let short : far + m.radius ≤ WINDOW_SECONDS * slow = inside far m.radius slow (rw (ef, es) at flown.short) in
        let early : near - m.radius ≤ far + m.radius = omega arith in
        let ends = ends_of (near - m.radius) fast (far + m.radius) slow (omega arith) some top (omega arith) (omega (arith, short)) short (products (near - m.radius) (far + m.radius) slow fast early quick) in
        let w = times_from (over (near - m.radius) fast) (over (far + m.radius) slow) in
        record { times = w; ends = ends; window = box_window m ranges speeds w m.radius near far slow fast refl en ef es eg some wide quick ends refl refl }
      where
        inside : (a r s : ℕ) → (pos a +ℤ pos r) ≤ℤ (pos WINDOW_SECONDS *ℤ pos s) → a + r ≤ WINDOW_SECONDS * s
        inside a r s h = omega (arith, ints)

        products : (a b c d : ℕ) → a ≤ b → c ≤ d → a * c ≤ b * d
        products a b c d h k = mul-le-mul h k
