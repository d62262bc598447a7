-- What is found of a cell in which nothing is advised.
use Rattle.std.specs.Prelude.{◌≡◌, ℕ, ◌-◌, ◌<◌, ◌==◌, ◌&&◌, not, nat_lt, Bool, IsTrue, List, Contains, length, get_or, filter}
use Rattle.acas_spec.specs.Model.{ModelData, choices_at}
use Rattle.acas_base.specs.Advices.{AdvicesData}
use Rattle.acas_cells.specs.Cells.{Cell, IsCellOf}
use Rattle.acas_cells.specs.Corners.{is_clear_cell}
use Rattle.acas_flight.specs.Clear.{IsClear}
use Rattle.acas_flight.specs.Response.{demand_of}
use Rattle.acas_flight.specs.Window.{IsWindowOfCell, Times}
use Rattle.acas_process.specs.Cost.{advisories_of}
use Rattle.acas_safeable.specs.Reached.{IsWithinAltitudes, reached_area}
use Rattle.acas_safeable.specs.Safe.{IsSafeBy}
use Rattle.acas_safeable.specs.declared.outlook.Outlook.{Outlook}
use Rattle.acas_safeable.specs.declared.outlook.Outlook.TheVariants.{Safeable, Unshown}

-- which advisories may be given: the choices of clear of conflict other than clear, in their order
abbrev pub candidates : ModelData → List ℕ
candidates m = filter (λ a. not (a == 0)) (advisories_of (choices_at m 0))

-- an advisory is shown to keep the two apart: the area that is reached is within the limits of altitudes, and clear under the advisory
-- in the window of a second later
pub record IsShown (m : ModelData) (c : Cell) (advisory : ℕ) : Type 0 where
  pub within : IsWithinAltitudes (reached_area m c.i c.j c.k)
  pub window : Times
  pub is_window : IsWindowOfCell m (c.n - 1) window
  pub clear : IsClear m.half (demand_of m advisory) (reached_area m c.i c.j c.k) window

-- an advisory is the first candidate that is shown
pub record IsFirstShown (m : ModelData) (c : Cell) (advisory : ℕ) : Type 0 where
  pub place : ℕ
  pub among : place < length (candidates m)
  pub stands : get_or (candidates m) place 0 ≡ advisory
  pub shown : IsShown m c advisory
  pub before : (k : ℕ) → k < place → ¬ IsShown m c (get_or (candidates m) k 0)

-- what is found of a cell: the first candidate that is shown, by which the cell is safe, or that none is shown
abbrev pub IsOutlook : ModelData → Cell → Outlook → Type 0
IsOutlook m c (Safeable advisory) = IsFirstShown m c advisory × IsSafeBy m c.n c.i c.j c.k advisory
IsOutlook m c Unshown = (advisory : ℕ) → Contains (candidates m) advisory → ¬ IsShown m c advisory

-- a cell is looked at: nothing is advised at its corners, and there is a second to go before contact may come
abbrev pub is_looked_at : ModelData → AdvicesData → Cell → Bool
is_looked_at m a c = is_clear_cell m a c && nat_lt 0 c.n

-- what is found of each cell that is looked at
pub record AreOutlooks (m : ModelData) (a : AdvicesData) (found : Cell → Outlook) : Type 0 where
  pub each : (c : Cell) → IsCellOf m c → IsTrue (is_looked_at m a c) → IsOutlook m c (found c)
