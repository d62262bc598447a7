-- The rules of a model's text, in the order in which they are looked at: the model that the text says, or the
-- first rule that it fails.
use Rattle.std.specs.Prelude.{ℕ, ◌+◌, ◌*◌, List, [], length, codes, pos, nat_le, if◌then◌else◌, Result, Ok, Err}
use Rattle.toml.specs.Data.{Members}
use Rattle.acas_units.specs.declared.limits.TheConstants.{LEAST_MODEL_VERSION, GREATEST_MODEL_VERSION, LEAST_HORIZON, GREATEST_HORIZON, WINDOW_SECONDS, GREATEST_ENTRIES}
use Rattle.acas_spec.specs.Steps.{◌>>=◌, ◌>>◌}
use Rattle.acas_spec.specs.Model.{GridData, ModelData, entries}
use Rattle.acas_base.specs.View.{model_with}
use Rattle.acas_doc.specs.Document.{document_of}
use Rattle.acas_doc.specs.Known.{only_known}
use Rattle.acas_model.specs.declared.axes.Axes.{Axes}
use Rattle.acas_model.specs.declared.fault.ModelFault.{ModelFault}
use Rattle.acas_model.specs.declared.fault.ModelFault.TheVariants.{NotToml, Window, TooManyEntries}
use Rattle.acas_model.specs.Document.{in_doc, number_at}
use Rattle.acas_model.specs.Axes.{axes_of}
use Rattle.acas_model.specs.Numbers.{numbers_of}
use Rattle.acas_model.specs.Choices.{Advised, advised_of}
use Rattle.acas_model.specs.Noise.{sigmas_of, weights}

-- the document has no other keys
unfoldable pub top_keys : Members → Result (Unit {0}) ModelFault
top_keys doc = in_doc (only_known [] (codes "version horizon grid puck closing pilot cost advisory sigma") doc)

-- the version, which says what keys `pilot` has
unfoldable pub version_of : Members → Result ℕ ModelFault
version_of doc = number_at doc [] (codes "version") LEAST_MODEL_VERSION GREATEST_MODEL_VERSION

-- the horizon in seconds
unfoldable pub horizon_of : Members → Result ℕ ModelFault
horizon_of doc = number_at doc [] (codes "horizon") LEAST_HORIZON GREATEST_HORIZON

-- a number that is at most another
abbrev pub at_most : ℕ → ℕ → Result (Unit {0}) ModelFault
at_most needed allowed = if nat_le needed allowed then Ok tt else Err (Window (pos needed) (pos allowed))

-- at the least closing speed, the horizon and the way through the puck are over within the window
unfoldable pub window : ℕ → ℕ → ℕ → Result (Unit {0}) ModelFault
window horizon radius least = at_most (horizon * least + 2 * radius) (WINDOW_SECONDS * least)

-- a table over the grid has not too many entries
unfoldable pub few_entries : GridData → Result (Unit {0}) ModelFault
few_entries g = if nat_le (entries g) GREATEST_ENTRIES then Ok tt else Err (TooManyEntries (entries g))

-- the grid of these parts
abbrev pub grid_from : ℕ → Axes → Advised → GridData
grid_from horizon axes advised = record {
  h = axes.h;
  v0 = axes.v0;
  v1 = axes.v1;
  advisories = length advised.advisories;
  horizon = horizon;
}

-- the model of a document
unfoldable pub model_in : Members → Result ModelData ModelFault
model_in doc = do
  top_keys doc
  version ← version_of doc
  horizon ← horizon_of doc
  axes ← axes_of doc
  numbers ← numbers_of doc version
  advised ← advised_of doc
  sigmas ← sigmas_of doc
  weights sigmas
  window horizon numbers.puck.radius numbers.closing.least
  few_entries (grid_from horizon axes advised)
  Ok (model_with (grid_from horizon axes advised) numbers advised.advisories advised.choices sigmas)

-- the model that a text says
unfoldable pub model_of : List ℕ → Result ModelData ModelFault
model_of bytes = do
  doc ← document_of NotToml bytes
  model_in doc
