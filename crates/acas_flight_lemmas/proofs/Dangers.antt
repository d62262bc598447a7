-- What endangers a cell or a box, and what keeps it safe.
use Rattle.std.proofs.Common.{ℕ, ◌<◌, ◌≤◌, List, pos, ◌*ℤ◌}
use Rattle.acas_spec.specs.Limits.{IsModel}
use Rattle.acas_spec.specs.Model.{ModelData}
use Rattle.acas_flight_lemmas.proofs.Cuts.{cuts_meet}
use Rattle.acas_flight_lemmas.proofs.Endangered.{endangered_cell, endangered_box}
use Rattle.acas_flight_lemmas.proofs.Models.{demand_can_be_met, scaled_can_be_met}
use Rattle.acas_flight_lemmas.proofs.Safe.{clear_areas_are_safe}
use Rattle.acas_flight.specs.Response.{Segment, demand_of, scaled, climb, lasting, Meets}
use Rattle.acas_flight.specs.State.{State, Box}
use Rattle.acas_flight.specs.Contact.{IsInContact, IsEndangered, IsEndangeredCell, IsEndangeredBox}
use Rattle.acas_flight.specs.Parts.{until}
use Rattle.acas_flight.specs.Window.{Times, IsWindowOfCell, IsWindowOfBox}
use Rattle.acas_flight.specs.Clear.{area_of_cell, area_of_box, IsClear}

-- contact on the way is contact at the end of the response that is cut there
pub endangered_on_the_way : (m : ModelData) (a : ℕ) (IsIn : ℕ → State → Type 0) (q : ℕ) (s : State) (response : List Segment) (t : ℕ) → IsModel m → a < m.grid.advisories →
    0 < q → IsIn q s → Meets (scaled q (demand_of m a)) (s.own *ℤ pos q) response → t ≤ lasting response →
    IsInContact m q s t (climb (s.own *ℤ pos q) (until t response)) → IsEndangered m a IsIn
endangered_on_the_way m a IsIn q s r t f h p i meets l c =
    let cut = cuts_meet (scaled q (demand_of m a)) (s.own *ℤ pos q) r t (scaled_can_be_met q (demand_of m a) p (demand_can_be_met m a f h)) meets l in
    (q, s, until t r, record { some = p; inside = i; meets = cut.1; contact = rw cut.0 c })

pub clear_cell_is_safe : (m : ModelData) (n i j k a : ℕ) (w : Times) → IsModel m → a < m.grid.advisories → IsWindowOfCell m n w →
    IsClear m.half (demand_of m a) (area_of_cell m i j k) w → ¬ IsEndangeredCell m n i j k a
clear_cell_is_safe m n i j k a w f h window clear danger =
    clear_areas_are_safe m.half (demand_of m a) (area_of_cell m i j k) w (demand_can_be_met m a f h) clear ((endangered_cell m n i j k a w window).0 danger)

pub clear_box_is_safe : (m : ModelData) (box : Box) (a : ℕ) (w : Times) → IsModel m → a < m.grid.advisories → IsWindowOfBox m box.range box.closing w →
    IsClear m.half (demand_of m a) (area_of_box box) w → ¬ IsEndangeredBox m box a
clear_box_is_safe m box a w f h window clear danger =
    clear_areas_are_safe m.half (demand_of m a) (area_of_box box) w (demand_can_be_met m a f h) clear ((endangered_box m box a w window).0 danger)
