-- Documents: the keys of small texts, and the model that one of them says.
use Rattle.std.specs.Prelude.{ℕ, ℤ, pos, List, [], ◌∷◌, map, codes}
use Rattle.toml.specs.Data.{Data, Members, no_members, member, string, integer, array, table}
use Rattle.toml.specs.View.{items_of}
use Rattle.acas_units.specs.declared.limits.TheConstants.{LEAST_RATE, GREATEST_RATE}
use Rattle.acas_spec.specs.Model.{ModelData}
use Rattle.acas_examples.specs.Parts.{choice, clear, grid, minus, nearly_level, sigma}

-- lists of whole numbers, of texts and of tables
abbrev pub numbers : List ℤ → Data
numbers zs = array (items_of (map integer zs))

abbrev pub texts : List (List ℕ) → Data
texts words = array (items_of (map string words))

abbrev pub tables : List Members → Data
tables ms = array (items_of (map table ms))

-- ---- the text of a model, table by table

-- two altitudes, in feet, and two rates of each aircraft
abbrev pub grid_keys : Members
grid_keys = member (codes "altitude") (numbers (pos 0 ∷ pos 30 ∷ []))
    (member (codes "intruder_rate") (numbers (minus 300 ∷ pos 300 ∷ []))
    (member (codes "own_rate") (numbers (pos 0 ∷ pos 600 ∷ [])) no_members))

-- the radius and half of the height, both in feet
abbrev pub puck_keys : ℤ → ℤ → Members
puck_keys radius half = member (codes "half_height") (integer half) (member (codes "radius") (integer radius) no_members)

abbrev pub closing_keys : ℤ → ℤ → Members
closing_keys least greatest = member (codes "greatest") (integer greatest) (member (codes "least") (integer least) no_members)

-- of a first version
abbrev pub prompt_keys : ℤ → ℤ → Members
prompt_keys pull limit = member (codes "limit") (integer limit) (member (codes "pull") (integer pull) no_members)

-- of a second version
abbrev pub delayed_keys : ℤ → Members
delayed_keys delay = member (codes "delay") (integer delay) (prompt_keys (pos 480) (pos 960))

abbrev pub cost_keys : ℤ → Members
cost_keys contact = member (codes "contact") (integer contact) no_members

-- an advisory of this name and these rates, and what may be chosen under it at which costs
abbrev pub advisory_keys : List ℕ → ℤ → ℤ → List (List ℕ) → List ℤ → Members
advisory_keys name lo hi choices costs = member (codes "choices") (texts choices)
    (member (codes "costs") (numbers costs)
    (member (codes "hi") (integer hi)
    (member (codes "lo") (integer lo)
    (member (codes "name") (string name) no_members))))

abbrev pub clear_keys : Members
clear_keys = advisory_keys (codes "clear") LEAST_RATE GREATEST_RATE (codes "level" ∷ codes "clear" ∷ []) (pos 3 ∷ pos 1 ∷ [])

abbrev pub level_keys : List ℕ → ℤ → ℤ → Members
level_keys name lo hi = advisory_keys name lo hi (codes "clear" ∷ []) (pos 5 ∷ [])

abbrev pub sigma_keys : ℤ → ℤ → ℤ → Members
sigma_keys weight own intruder = member (codes "intruder") (integer intruder)
    (member (codes "own") (integer own)
    (member (codes "weight") (integer weight) no_members))

-- the whole text, of a version and with a pilot
abbrev pub said_keys : ℤ → Members → Members
said_keys version pilot = member (codes "advisory") (tables (clear_keys ∷ level_keys (codes "level") (minus 500) (pos 500) ∷ []))
    (member (codes "closing") (table (closing_keys (pos 400) (pos 500)))
    (member (codes "cost") (table (cost_keys (pos 7)))
    (member (codes "grid") (table grid_keys)
    (member (codes "horizon") (integer (pos 9))
    (member (codes "pilot") (table pilot)
    (member (codes "puck") (table (puck_keys (pos 450) (pos 2)))
    (member (codes "sigma") (tables (sigma_keys (pos 2) (pos 0) (pos 0) ∷ sigma_keys (pos 1) (pos 60) (minus 90) ∷ []))
    (member (codes "version") (integer version) no_members))))))))

-- the model that the text says, no two of whose numbers are the same without need
abbrev pub said : ModelData
said = record {
  grid = grid (pos 0 ∷ pos 3600 ∷ []) (pos 0 ∷ pos 600 ∷ []) (minus 300 ∷ pos 300 ∷ []) 2 9;
  advisories = clear ∷ nearly_level ∷ [];
  choices = (choice 1 (pos 3) ∷ choice 0 (pos 1) ∷ []) ∷ (choice 0 (pos 5) ∷ []) ∷ [];
  sigmas = sigma (pos 2) (pos 0) (pos 0) ∷ sigma (pos 1) (pos 60) (minus 90) ∷ [];
  pull = 480;
  limit = 960;
  delay = 0;
  radius = 450;
  half = 240;
  least_closing = 400;
  greatest_closing = 500;
  contact = pos 7;
}

-- ---- the start of an encounter

abbrev pub start_keys : Members
start_keys = member (codes "advisory") (string (codes "level"))
    (member (codes "altitude") (integer (pos 101))
    (member (codes "closing") (integer (pos 400))
    (member (codes "intruder") (integer (minus 60))
    (member (codes "own") (integer (pos 240))
    (member (codes "range") (integer (pos 500)) no_members)))))
