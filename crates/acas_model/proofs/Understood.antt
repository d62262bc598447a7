-- A text that says a model within its limits is accepted with that model.
use Rattle.std.proofs.Common.{◌≡◌, ℕ, ◌≤◌, List, codes, sum_by, Ok, refl, sym, subst, ap}
use Rattle.std.proofs.lemmas.Bool.{le-leb}
use Rattle.toml.specs.Data.{Members}
use Rattle.acas_units.specs.declared.limits.TheConstants.{LEAST_MODEL_VERSION, GREATEST_MODEL_VERSION, LEAST_HORIZON, GREATEST_HORIZON, GREATEST_TOTAL_WEIGHT, GREATEST_ENTRIES}
use Rattle.acas_spec.specs.Model.{ModelData, GridData, entries, weight_of}
use Rattle.acas_spec.specs.Limits.{IsModel}
use Rattle.acas_doc.proofs.Documents.{document_of-read}
use Rattle.acas_model.specs.declared.fault.ModelFault.TheVariants.{NotToml}
use Rattle.acas_model.specs.Noise.{weights}
use Rattle.acas_base.specs.View.{model_with}
use Rattle.acas_model.specs.Whole.{top_keys, version_of, horizon_of, window, few_entries, grid_from, model_in, model_of}
use Rattle.acas_model.specs.Text.{IsDocumentText, IsModelText}
use Rattle.acas_model.proofs.PassNumbers.{only_passes, number_passes, axes_in, axes_pass, numbers_in, numbers_pass}
use Rattle.acas_model.proofs.PassLists.{advised_in, advised_passes, sigmas_pass}

keys_pass : (doc : Members) (m : ModelData) → IsDocumentText m doc → top_keys doc ≡ Ok tt
unfolding top_keys
keys_pass doc m says = only_passes _ (codes "version horizon grid puck closing pilot cost advisory sigma") doc says.keys

version_passes : (doc : Members) (m : ModelData) (says : IsDocumentText m doc) → version_of doc ≡ Ok says.version
unfolding version_of
version_passes doc m says = number_passes doc _ (codes "version") LEAST_MODEL_VERSION GREATEST_MODEL_VERSION says.version says.says_version says.least_version says.greatest_version

horizon_passes : (doc : Members) (m : ModelData) → IsDocumentText m doc → IsModel m → horizon_of doc ≡ Ok m.grid.horizon
unfolding horizon_of
horizon_passes doc m says valid = number_passes doc _ (codes "horizon") LEAST_HORIZON GREATEST_HORIZON m.grid.horizon says.horizon valid.grid.least_horizon valid.grid.horizon

weights_pass : (m : ModelData) → IsModel m → weights m.sigmas ≡ Ok tt
unfolding weights
weights_pass m valid = rw (le-leb (sum_by weight_of m.sigmas) GREATEST_TOTAL_WEIGHT valid.weights) refl

window_passes : (m : ModelData) → IsModel m → window m.grid.horizon m.radius m.least_closing ≡ Ok tt
unfolding window
window_passes m valid = rw (le-leb _ _ valid.window) refl

-- the grid of a model's own parts is its grid
grid_again : (m : ModelData) → IsModel m → grid_from m.grid.horizon (axes_in m) (advised_in m) ≡ m.grid
grid_again m valid = λ i. record { h = m.grid.h; v0 = m.grid.v0; v1 = m.grid.v1; advisories = valid.advisory_count i; horizon = m.grid.horizon }

entries_pass : (g : GridData) → entries g ≤ GREATEST_ENTRIES → few_entries g ≡ Ok tt
unfolding few_entries
entries_pass g h = rw (le-leb (entries g) GREATEST_ENTRIES h) refl

pub understood : (bytes : List ℕ) (m : ModelData) → IsModelText bytes m → model_of bytes ≡ Ok m
unfolding model_of model_in
understood bytes m says =
    let doc = says.doc in
    let valid = says.within in
    let grid = grid_again m valid in
    let few : few_entries (grid_from m.grid.horizon (axes_in m) (advised_in m)) ≡ Ok tt = entries_pass _ (subst (λ g. entries g ≤ GREATEST_ENTRIES) (sym grid) valid.grid.entries) in
    let built : model_with (grid_from m.grid.horizon (axes_in m) (advised_in m)) (numbers_in m) m.advisories m.choices m.sigmas ≡ m =
    ap (λ g. model_with g (numbers_in m) m.advisories m.choices m.sigmas) grid in
    rw (
      document_of-read NotToml bytes doc (record { text = says.text; toml = says.toml }),
      keys_pass doc m says.keys,
      version_passes doc m says.keys,
      horizon_passes doc m says.keys valid,
      axes_pass doc m says.keys valid,
      numbers_pass doc m says.keys valid,
      advised_passes doc m says.keys valid,
      sigmas_pass doc m says.keys valid,
      weights_pass m valid,
      window_passes m valid,
      few,
    ) (ap Ok built)
