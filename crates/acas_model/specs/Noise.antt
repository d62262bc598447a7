-- The list `sigma`: the sigma points.
use Rattle.std.specs.Prelude.{ℕ, List, [], length, codes, pos, nat_le, if◌then◌else◌, Result, Ok, Err, sum_by}
use Rattle.toml.specs.Data.{Data, Members}
use Rattle.acas_units.specs.declared.limits.TheConstants.{LEAST_WEIGHT, GREATEST_WEIGHT, GREATEST_TOTAL_WEIGHT, LEAST_NOISE, GREATEST_NOISE, LEAST_SIGMAS, GREATEST_SIGMAS}
use Rattle.acas_spec.specs.Steps.{◌>>=◌, ◌>>◌, each}
use Rattle.acas_spec.specs.Model.{weight_of}
use Rattle.acas_spec.specs.declared.parts.SigmaPoint.{SigmaPoint}
use Rattle.acas_doc.specs.Keys.{list_at, whole_at, table_item}
use Rattle.acas_doc.specs.Known.{only_known}
use Rattle.acas_doc.specs.Paths.{item_path}
use Rattle.acas_model.specs.declared.fault.ModelFault.{ModelFault}
use Rattle.acas_model.specs.declared.fault.ModelFault.TheVariants.{Weights}
use Rattle.acas_model.specs.Document.{in_doc}

-- the table of a sigma point: its keys, its weight, its changes of both rates
unfoldable pub sigma_of : Members → List ℕ → Result SigmaPoint ModelFault
sigma_of table path = do
  in_doc (only_known path (codes "weight own intruder") table)
  weight ← in_doc (whole_at table path (codes "weight") LEAST_WEIGHT GREATEST_WEIGHT)
  own ← in_doc (whole_at table path (codes "own") LEAST_NOISE GREATEST_NOISE)
  intruder ← in_doc (whole_at table path (codes "intruder") LEAST_NOISE GREATEST_NOISE)
  Ok (record { weight = weight; own = own; intruder = intruder })

-- an item of the list is such a table
unfoldable pub sigma_item : ℕ → Data → Result SigmaPoint ModelFault
sigma_item place d = do
  table ← in_doc (table_item (codes "sigma") place d)
  sigma_of table (item_path (codes "sigma") place)

-- each item of the list is one
unfoldable pub sigma_items : List Data → Result (List SigmaPoint) ModelFault
sigma_items ds = each (λ before d. sigma_item (length before) d) [] ds

-- the list, of a length within the limits; each sigma point
unfoldable pub sigmas_of : Members → Result (List SigmaPoint) ModelFault
sigmas_of doc = do
  items ← in_doc (list_at doc [] (codes "sigma") LEAST_SIGMAS GREATEST_SIGMAS)
  sigma_items items

-- a total weight that is not too great
abbrev pub light : ℕ → Result (Unit {0}) ModelFault
light total = if nat_le total GREATEST_TOTAL_WEIGHT then Ok tt else Err (Weights (pos total))

-- the weights of all sigma points together
unfoldable pub weights : List SigmaPoint → Result (Unit {0}) ModelFault
weights sigmas = light (sum_by weight_of sigmas)
