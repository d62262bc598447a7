use Rattle.std.proofs.Common.{ℕ, ◌-◌, inl, inr}
use Rattle.acas_spec.specs.Model.{ModelData}
use Rattle.acas_flight.specs.Clear.{Area, IsClear}
use Rattle.acas_flight.specs.Response.{Demand, demand_of}
use Rattle.acas_flight.specs.Window.{IsWindowOfCell, Times}
use Rattle.acas_safeable.specs.Reached.{reached_area}
use Rattle.acas_safeable.proofs.laws.outlooks_in_words.Goals as goal

-- two windows of a cell have the same times
clear_in : (m : ModelData) (n half : ℕ) (a : Demand) (area : Area) (v w : Times) → IsWindowOfCell m n v → IsWindowOfCell m n w → IsClear half a area v → IsClear half a area w
clear_in m n half a area v w of_v of_w (inl above) = inl (λ q t some during. above q t some ((of_v.exact q t some).1 ((of_w.exact q t some).0 during)))
clear_in m n half a area v w of_v of_w (inr below) = inr (λ q t some during. below q t some ((of_v.exact q t some).1 ((of_w.exact q t some).0 during)))

pub returns-clause-within : goal.returns-clause-within
returns-clause-within c = λ area. (λ i. (i.least, i.greatest), λ i. record { least = i.0; greatest = i.1 })

pub returns-clause-shown : goal.returns-clause-shown
returns-clause-shown c = λ m cell advisory w window. (
  λ s. (s.within, clear_in m (cell.n - 1) m.half (demand_of m advisory) (reached_area m cell.i cell.j cell.k) s.window w s.is_window window s.clear),
  λ s. record { within = s.0; window = w; is_window = window; clear = s.1 },
)

pub returns-clause-named : goal.returns-clause-named
returns-clause-named c = λ m cell advisory. (
  λ f. (f.0.place, f.0.among, f.0.stands, f.0.shown, f.0.before, f.1),
  λ f. (record { place = f.0; among = f.1; stands = f.2; shown = f.3; before = f.4 }, f.5),
)

pub returns-clause-open : goal.returns-clause-open
returns-clause-open c = λ m cell. (λ o. o, λ o. o)
