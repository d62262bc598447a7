-- Which advisories are shown: it is decided, and the windows of a cell are one up to how their ends are written.
use Rattle.std.proofs.Common.{◌≡◌, ℕ, ◌-◌, ◌*◌, ◌<◌, ◌⊎◌, ◌↔◌, inl, inr, ⊎_elim, refl, subst, arith, true, false, pos, Contains, unsigned_abs}
use Rattle.std.proofs.lemmas.Bool.{cases_lt, false≢true}
use Rattle.acas_units.specs.declared.limits.TheConstants.{GREATEST_ALTITUDE}
use Rattle.acas_units.specs.declared.ticks.TheConstants.{TICKS_PER_FOOT}
use Rattle.acas_spec.specs.Limits.{IsModel}
use Rattle.acas_spec.specs.Model.{ModelData, choices_at}
use Rattle.acas_flight_lemmas.proofs.Models.{demand_can_be_met}
use Rattle.acas_flight.specs.Clear.{Area, IsClear}
use Rattle.acas_flight.specs.Response.{Demand, demand_of}
use Rattle.acas_flight.specs.Window.{IsDuring, IsWindowOfCell, Times}
use Rattle.acas_flight_windows.proofs.EachWindow.{window_of_cell}
use Rattle.acas_cells.specs.Cells.{Cell, IsCellOf}
use Rattle.acas_safeable.specs.Firsts.{IsFound}
use Rattle.acas_safeable.specs.Outlooks.{IsOutlook, IsShown, candidates}
use Rattle.acas_safeable.specs.Reached.{IsWithinAltitudes, reached_area}
use Rattle.acas_safeable.specs.declared.outlook.Outlook.{Outlook}
use Rattle.acas_safeable.specs.declared.outlook.Outlook.TheVariants.{Safeable, Unshown}
use Rattle.acas_safeable.proofs.Firsts.{first_listed, found-of, found-same, found-some, other_listed}
use Rattle.acas_safeable.proofs.Later.{shown_is_safe}
use Rattle.acas_safeable.proofs.Tests.{HasTest, clear_test}

-- ---- windows of the same times

pub clear-windows : (half : ℕ) (a : Demand) (area : Area) (v w : Times) → ((q t : ℕ) → 0 < q → IsDuring q w t → IsDuring q v t) → IsClear half a area v → IsClear half a area w
clear-windows half a area v w same c = ⊎_elim (λ l. inl (λ q t p d. l q t p (same q t p d))) (λ l. inr (λ q t p d. l q t p (same q t p d))) c

-- an advisory is shown where the area is clear in whichever window of a second later
module _ (m : ModelData) (c : Cell) (within : IsWithinAltitudes (reached_area m c.i c.j c.k)) (w : Times) (window : IsWindowOfCell m (c.n - 1) w) where
  pub shown_in : (advisory : ℕ) → IsClear m.half (demand_of m advisory) (reached_area m c.i c.j c.k) w ↔ IsShown m c advisory
  shown_in advisory = (
    λ clear. record { within = within; window = w; is_window = window; clear = clear },
    λ shown. clear-windows m.half (demand_of m advisory) (reached_area m c.i c.j c.k) shown.window w (λ q t p d. (shown.is_window.exact q t p).1 ((window.exact q t p).0 d)) shown.clear,
  )

-- ---- decided

within_cases : (area : Area) → IsWithinAltitudes area ⊎ ¬ IsWithinAltitudes area
within_cases area =
    ⊎_elim
    (λ l. inr (λ within. omega (arith, l, within.least)))
    (λ h. ⊎_elim
    (λ l. inr (λ within. omega (arith, l, within.greatest)))
    (λ k. inl (record { least = h; greatest = k }))
    (cases_lt (TICKS_PER_FOOT * unsigned_abs GREATEST_ALTITUDE) (unsigned_abs area.altitude.greatest)))
    (cases_lt (TICKS_PER_FOOT * unsigned_abs GREATEST_ALTITUDE) (unsigned_abs area.altitude.least))

by_test : (P : Type 0) → HasTest P → P ⊎ ¬ P
by_test P (true, t) = inl (t.0 refl)
by_test P (false, t) = inr (λ p. absurd (false≢true (t.1 p)))

shown_cases : (m : ModelData) (c : Cell) (advisory : ℕ) → IsModel m → IsCellOf m c → advisory < m.grid.advisories → IsShown m c advisory ⊎ ¬ IsShown m c advisory
shown_cases m c advisory is inside allowed = ⊎_elim by_window (λ fails. inr (λ shown. fails shown.within)) (within_cases (reached_area m c.i c.j c.k))
  where
    by_window : IsWithinAltitudes (reached_area m c.i c.j c.k) → IsShown m c advisory ⊎ ¬ IsShown m c advisory
    by_window within =
        let w = window_of_cell m (c.n - 1) is (omega (arith, inside.n)) in
        let same = shown_in m c within w.times w.window advisory in
        ⊎_elim
        (λ clear. inl (same.0 clear))
        (λ fails. inr (λ shown. fails (same.1 shown)))
        (by_test (IsClear m.half (demand_of m advisory) (reached_area m c.i c.j c.k) w.times)
        (clear_test m.half (demand_of m advisory) (reached_area m c.i c.j c.k) w.times (demand_can_be_met m advisory is allowed) w.ends))

-- ---- outlooks

pub candidate_allowed : (m : ModelData) (a : ℕ) → IsModel m → Contains (candidates m) a → a < m.grid.advisories
candidate_allowed m a is listed =
    let some : 0 < m.grid.advisories = omega (arith, is.grid.some_advisories) in
    let at = other_listed (choices_at m 0) (record { advisory = 0; cost = pos 0 }) a listed in
    subst (λ (n : ℕ). n < m.grid.advisories) at.2 ((is.choices 0 some).each at.0 at.1).advisory

module _ (m : ModelData) (c : Cell) (is : IsModel m) (later : 0 < c.n) where
  -- what is found is an outlook: by a candidate that is shown the cell is safe
  pub found_is_outlook : (found : Outlook) → IsFound (IsShown m c) (candidates m) found → IsOutlook m c found
  found_is_outlook (Safeable a) f = (
    record { place = f.place; among = f.among; stands = f.stands; shown = f.holds; before = f.before },
    shown_is_safe m c a is later (candidate_allowed m a is (first_listed (IsShown m c) (candidates m) a f)) f.holds,
  )
  found_is_outlook Unshown f = f

  -- what is found to be clear, of an area that is within the limits
  pub found_standing : (area : Area) (w : Times) (found : Outlook) → area ≡ reached_area m c.i c.j c.k → IsWithinAltitudes area → IsWindowOfCell m (c.n - 1) w →
      IsFound (λ a. IsClear m.half (demand_of m a) area w) (candidates m) found → IsOutlook m c found
  found_standing area w found e within window f =
      found_is_outlook found
      (found-of (λ a. IsClear m.half (demand_of m a) (reached_area m c.i c.j c.k) w) (IsShown m c) (candidates m) found (shown_in m c (rw e at within) w window)
      (subst (λ (x : Area). IsFound (λ a. IsClear m.half (demand_of m a) x w) (candidates m) found) e f))

  outlook_is_found : (found : Outlook) → IsOutlook m c found → IsFound (IsShown m c) (candidates m) found
  outlook_is_found (Safeable a) o = record { place = o.0.place; among = o.0.among; stands = o.0.stands; holds = o.0.shown; before = o.0.before }
  outlook_is_found Unshown o = o

  pub outlook-same : (found other : Outlook) → IsOutlook m c found → IsOutlook m c other → found ≡ other
  outlook-same found other o p = found-same (IsShown m c) (candidates m) found other (outlook_is_found found o) (outlook_is_found other p)

  pub outlook-some : IsCellOf m c → (found : Outlook) × IsOutlook m c found
  outlook-some inside =
      let f = found-some (IsShown m c) (candidates m) (λ a listed. shown_cases m c a is inside (candidate_allowed m a is listed)) in
      (f.0, found_is_outlook f.0 f.1)
