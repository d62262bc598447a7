-- What the text of a model says, key by key and in no order: each key holds the model's value, there are no other
-- keys, and the model is within its limits.
use Rattle.std.specs.Prelude.{◌≡◌, ℕ, ◌*◌, ◌<◌, ◌≤◌, List, length, map, get_or, codes, ℤ, pos, Some, IsUtf8}
use Rattle.toml.specs.Data.{Data, Members, no_members, string, integer, array, table, get_member}
use Rattle.toml.specs.Parse.{parse_document}
use Rattle.toml.specs.View.{items_of}
use Rattle.acas_units.specs.declared.limits.TheConstants.{LEAST_MODEL_VERSION, GREATEST_MODEL_VERSION}
use Rattle.acas_units.specs.declared.ticks.TheConstants.{TICKS_PER_FOOT}
use Rattle.acas_spec.specs.Model.{ModelData, advisory_at, choices_at, sigma_at}
use Rattle.acas_spec.specs.Limits.{IsModel}
use Rattle.acas_doc.specs.Known.{IsUnknown}
use Rattle.acas_model.specs.declared.fault.AxisName.{AxisName}
use Rattle.acas_model.specs.declared.fault.AxisName.TheVariants.{Altitude, OwnRate, IntruderRate}
use Rattle.acas_model.specs.declared.numbers.TheConstants.{DELAY_VERSION}
use Rattle.acas_model.specs.Axes.{in_model}
use Rattle.acas_model.specs.Numbers.{pilot_keys}

-- the table has no other keys than those that a text names
pub record HasOnly (known : List ℕ) (ms : Members) : Type 0 where
  pub none : (key : List ℕ) → ¬ IsUnknown known ms key

-- the key holds this whole number
abbrev pub HoldsWhole : Members → List ℕ → ℤ → Type 0
HoldsWhole ms key z = get_member key ms ≡ Some (integer z)

-- the key holds this text
abbrev pub HoldsText : Members → List ℕ → List ℕ → Type 0
HoldsText ms key s = get_member key ms ≡ Some (string s)

-- the key holds a list of these items
abbrev pub HoldsList : Members → List ℕ → List Data → Type 0
HoldsList ms key ds = get_member key ms ≡ Some (array (items_of ds))

-- the key holds a table that has no other keys than those named, and of which this is so
pub record HoldsTable (ms : Members) (key known : List ℕ) (P : Members → Type 0) : Type 0 where
  pub inner : Members
  pub there : get_member key ms ≡ Some (table inner)
  pub keys : HasOnly known inner
  pub says : P inner

-- the key holds a list of so many tables, each with no other keys than those named, and of which this is so by place
pub record HoldsTables (ms : Members) (key known : List ℕ) (count : ℕ) (P : ℕ → Members → Type 0) : Type 0 where
  pub tables : List Members
  pub there : HoldsList ms key (map table tables)
  pub long : length tables ≡ count
  pub keys : (k : ℕ) → k < count → HasOnly known (get_or tables k no_members)
  pub says : (k : ℕ) → k < count → P k (get_or tables k no_members)

-- the key holds the numbers of an axis, in the units of the file
pub record HoldsAxis (ms : Members) (key : List ℕ) (name : AxisName) (axis : List ℤ) : Type 0 where
  pub numbers : List ℤ
  pub there : HoldsList ms key (map integer numbers)
  pub same : axis ≡ map (in_model name) numbers

-- altitudes are in feet, rates in ft/min
pub record IsGridText (m : ModelData) (t : Members) : Type 0 where
  pub altitude : HoldsAxis t (codes "altitude") Altitude m.grid.h
  pub own_rate : HoldsAxis t (codes "own_rate") OwnRate m.grid.v0
  pub intruder_rate : HoldsAxis t (codes "intruder_rate") IntruderRate m.grid.v1

-- half of the puck's height is in feet
pub record IsPuckText (m : ModelData) (t : Members) : Type 0 where
  pub radius : HoldsWhole t (codes "radius") (pos m.radius)
  pub feet : ℕ
  pub half_height : HoldsWhole t (codes "half_height") (pos feet)
  pub half : m.half ≡ TICKS_PER_FOOT * feet

-- closing speeds are in ft/s
pub record IsClosingText (m : ModelData) (t : Members) : Type 0 where
  pub least : HoldsWhole t (codes "least") (pos m.least_closing)
  pub greatest : HoldsWhole t (codes "greatest") (pos m.greatest_closing)

-- accelerations are in ft/min per second; the delay is in seconds, and is 0 where the version has no key for it
pub record IsPilotText (m : ModelData) (version : ℕ) (t : Members) : Type 0 where
  pub pull : HoldsWhole t (codes "pull") (pos m.pull)
  pub limit : HoldsWhole t (codes "limit") (pos m.limit)
  pub no_delay : version < DELAY_VERSION → m.delay ≡ 0
  pub delay : DELAY_VERSION ≤ version → HoldsWhole t (codes "delay") (pos m.delay)

-- the cost of contact is in units
pub record IsCostText (m : ModelData) (t : Members) : Type 0 where
  pub contact : HoldsWhole t (codes "contact") m.contact

-- a choice stands as the name of its advisory, and its cost at the same place of another list
pub record IsAdvisoryText (m : ModelData) (p : ℕ) (t : Members) : Type 0 where
  pub name : HoldsText t (codes "name") (advisory_at m p).name
  pub lo : HoldsWhole t (codes "lo") (advisory_at m p).lo
  pub hi : HoldsWhole t (codes "hi") (advisory_at m p).hi
  pub choices : HoldsList t (codes "choices") (map (λ c. string (advisory_at m c.advisory).name) (choices_at m p))
  pub costs : HoldsList t (codes "costs") (map (λ c. integer c.cost) (choices_at m p))

-- a sigma point stands as its weight and its changes of both rates
pub record IsSigmaText (m : ModelData) (q : ℕ) (t : Members) : Type 0 where
  pub weight : HoldsWhole t (codes "weight") (sigma_at m q).weight
  pub own : HoldsWhole t (codes "own") (sigma_at m q).own
  pub intruder : HoldsWhole t (codes "intruder") (sigma_at m q).intruder

-- the keys of the document itself; the version says what keys `pilot` has
pub record IsDocumentText (m : ModelData) (doc : Members) : Type 0 where
  pub keys : HasOnly (codes "version horizon grid puck closing pilot cost advisory sigma") doc
  pub version : ℕ
  pub says_version : HoldsWhole doc (codes "version") (pos version)
  pub least_version : LEAST_MODEL_VERSION ≤ version
  pub greatest_version : version ≤ GREATEST_MODEL_VERSION
  pub horizon : HoldsWhole doc (codes "horizon") (pos m.grid.horizon)
  pub grid : HoldsTable doc (codes "grid") (codes "altitude own_rate intruder_rate") (IsGridText m)
  pub puck : HoldsTable doc (codes "puck") (codes "radius half_height") (IsPuckText m)
  pub closing : HoldsTable doc (codes "closing") (codes "least greatest") (IsClosingText m)
  pub pilot : HoldsTable doc (codes "pilot") (pilot_keys version) (IsPilotText m version)
  pub cost : HoldsTable doc (codes "cost") (codes "contact") (IsCostText m)
  pub advisory :
      HoldsTables doc (codes "advisory") (codes "name lo hi choices costs") (length m.advisories) (IsAdvisoryText m)
  pub sigma : HoldsTables doc (codes "sigma") (codes "weight own intruder") (length m.sigmas) (IsSigmaText m)

-- the bytes are a text in UTF-8, a TOML document, and its keys say this model, which is within its limits
pub record IsModelText (bytes : List ℕ) (m : ModelData) : Type 0 where
  pub text : IsUtf8 bytes
  pub doc : Members
  pub toml : parse_document bytes ≡ Some doc
  pub keys : IsDocumentText m doc
  pub within : IsModel m
