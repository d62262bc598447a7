-- A text that is read says its model.
use Rattle.std.proofs.Common.{◌≡◌, ℕ, ◌<◌, false, List, [], length, map, get_or, codes, pos, Ok, sym, subst, ap, ◌∙◌, arith}
use Rattle.std.proofs.lemmas.List.{get_or-map, length-map}
use Rattle.toml.specs.Data.{Data, Members, no_members, table, boolean}
use Rattle.toml.specs.Data as datum
use Rattle.acas_units.specs.declared.limits.TheConstants.{LEAST_MODEL_VERSION, GREATEST_MODEL_VERSION}
use Rattle.acas_spec.specs.Model.{ModelData}
use Rattle.acas_spec.specs.declared.parts.SigmaPoint.{SigmaPoint}
use Rattle.acas_spec.proofs.Each.{bind_ok, same_ok}
use Rattle.acas_model.specs.declared.axes.Axes.{Axes}
use Rattle.acas_base.specs.declared.numbers.Numbers.{Numbers}
use Rattle.acas_doc.specs.Document.{document_of}
use Rattle.acas_doc.proofs.Documents.{document_of-found}
use Rattle.acas_model.specs.declared.fault.ModelFault.{ModelFault}
use Rattle.acas_model.specs.declared.fault.ModelFault.TheVariants.{NotToml}
use Rattle.acas_model.specs.Axes.{axes_of}
use Rattle.acas_model.specs.Numbers.{pilot_keys, numbers_of}
use Rattle.acas_model.specs.Choices.{Advised, advised_of}
use Rattle.acas_model.specs.Noise.{sigmas_of, weights}
use Rattle.acas_base.specs.View.{model_with}
use Rattle.acas_model.specs.Whole.{top_keys, version_of, horizon_of, window, few_entries, grid_from, model_in, model_of}
use Rattle.acas_model.specs.Text.{HasOnly, HoldsWhole, HoldsList, HoldsTable, HoldsTables, IsGridText, IsPuckText, IsClosingText, IsPilotText, IsCostText, IsAdvisoryText, IsSigmaText, IsDocumentText, IsModelText}
use Rattle.acas_model.proofs.Places.{same_lists}
use Rattle.acas_model.proofs.ReadNumbers.{step_ok, only_ok, IsNumber, number_ok, IsTable, IsReadNumbers, numbers_ok}
use Rattle.acas_model.proofs.ReadAxes.{IsReadAxes, axes_ok}
use Rattle.acas_model.proofs.ReadChoices.{IsReadChoices}
use Rattle.acas_model.proofs.ReadNoise.{AreReadSigmas, sigmas_ok, weights_ok}
use Rattle.acas_model.proofs.WithinLimits.{IsReadAdvised, advised_ok, horizon_ok, window_ok, entries_ok, within_limits}

-- ---- lists of tables

-- the keys of a table
members : Data → Members
members (datum.string s) = no_members
members (datum.integer z) = no_members
members (datum.float x) = no_members
members (datum.boolean b) = no_members
members (datum.datetime t) = no_members
members (datum.array ds) = no_members
members (datum.table ms) = ms

tables : List Data → List Members
tables ds = map members ds

tables_again : (ds : List Data) → ((k : ℕ) → k < length ds → (t : Members) × (get_or ds k (boolean false) ≡ table t)) → ds ≡ map table (tables ds)
unfolding tables members
tables_again ds at =
    same_lists ds (map table (map members ds)) (boolean false) (sym (length-map (map members ds) table ∙ length-map ds members)) (λ k within.
    let inner = at k within in
    let here : get_or (map table (map members ds)) k (boolean false) ≡ table (members (get_or ds k (boolean false))) =
    get_or-map table (map members ds) k no_members (boolean false) (omega (arith, within, length-map ds members)) ∙ ap table (get_or-map members ds k (boolean false) no_members within) in
    inner.1 ∙ ap (λ d. table (members d)) (sym inner.1) ∙ sym here)

tables_long : (ds : List Data) → length (tables ds) ≡ length ds
unfolding tables
tables_long ds = length-map ds members

table_there : (ds : List Data) (k : ℕ) (t : Members) → k < length ds → get_or ds k (boolean false) ≡ table t → t ≡ get_or (tables ds) k no_members
unfolding tables members
table_there ds k t within is = ap members (sym is) ∙ sym (get_or-map members ds k (boolean false) no_members within)

-- ---- the parts of the model

table_says : (doc : Members) (key known : List ℕ) (inner : Members) (P : Members → Type 0) → IsTable doc key known inner → P inner → HoldsTable doc key known P
table_says doc key known inner P is says = record { inner = inner; there = is.there; keys = is.keys; says = says }

advisories_say : (doc : Members) (horizon : ℕ) (axes : Axes) (numbers : Numbers) (advised : Advised) (sigmas : List SigmaPoint) → IsReadAdvised doc advised
    → HoldsTables doc (codes "advisory") (codes "name lo hi choices costs") (length advised.advisories) (IsAdvisoryText (model_with (grid_from horizon axes advised) numbers advised.advisories advised.choices sigmas))
advisories_say doc horizon axes numbers advised sigmas given = record {
  tables = tables given.items;
  there = subst (HoldsList doc (codes "advisory")) (tables_again given.items (λ k within. ((given.each.at k within).inner, (given.each.at k within).there))) given.there;
  long = tables_long given.items ∙ sym given.each.long;
  keys = λ k within.
      let in_items : k < length given.items = omega (arith, within, given.each.long) in
      let item = given.each.at k in_items in
      subst (HasOnly (codes "name lo hi choices costs")) (table_there given.items k item.inner in_items item.there) item.says.keys;
  says = λ k within.
      let in_items : k < length given.items = omega (arith, within, given.each.long) in
      let item = given.each.at k in_items in
      let list = given.lists.at k in_items in
      let here = table_there given.items k item.inner in_items item.there in
      let again : list.inner ≡ item.inner = table_there given.items k list.inner in_items list.there ∙ sym here in
      let chosen = subst (λ t. IsReadChoices advised.advisories t (get_or advised.choices k [])) again list.says in
      subst (IsAdvisoryText (model_with (grid_from horizon axes advised) numbers advised.advisories advised.choices sigmas) k) here (record {
        name = item.says.name;
        lo = item.says.lo;
        hi = item.says.hi;
        choices = chosen.choices;
        costs = chosen.costs;
      });
}

sigmas_say : (doc : Members) (m : ModelData) → AreReadSigmas doc m.sigmas → HoldsTables doc (codes "sigma") (codes "weight own intruder") (length m.sigmas) (IsSigmaText m)
sigmas_say doc m read = record {
  tables = tables read.items;
  there = subst (HoldsList doc (codes "sigma")) (tables_again read.items (λ k within. ((read.at k within).inner, (read.at k within).there))) read.there;
  long = tables_long read.items ∙ sym read.long;
  keys = λ k within.
      let in_items : k < length read.items = omega (arith, within, read.long) in
      let item = read.at k in_items in
      subst (HasOnly (codes "weight own intruder")) (table_there read.items k item.inner in_items item.there) item.says.keys;
  says = λ k within.
      let in_items : k < length read.items = omega (arith, within, read.long) in
      let item = read.at k in_items in
      subst (IsSigmaText m k) (table_there read.items k item.inner in_items item.there) (record { weight = item.says.weight; own = item.says.own; intruder = item.says.intruder });
}

version_said : (doc : Members) (n : ℕ) → version_of doc ≡ Ok n → IsNumber doc (codes "version") LEAST_MODEL_VERSION GREATEST_MODEL_VERSION n
unfolding version_of
version_said doc n e = number_ok doc [] (codes "version") LEAST_MODEL_VERSION GREATEST_MODEL_VERSION n e

keys_said : (doc : Members) → top_keys doc ≡ Ok tt → HasOnly (codes "version horizon grid puck closing pilot cost advisory sigma") doc
unfolding top_keys
keys_said doc e = only_ok [] (codes "version horizon grid puck closing pilot cost advisory sigma") doc e

document_says : (doc : Members) (version horizon : ℕ) (axes : Axes) (numbers : Numbers) (advised : Advised) (sigmas : List SigmaPoint)
    → HasOnly (codes "version horizon grid puck closing pilot cost advisory sigma") doc → IsNumber doc (codes "version") LEAST_MODEL_VERSION GREATEST_MODEL_VERSION version → HoldsWhole doc (codes "horizon") (pos horizon)
    → IsReadAxes doc axes → IsReadNumbers doc version numbers → IsReadAdvised doc advised → AreReadSigmas doc sigmas
    → IsDocumentText (model_with (grid_from horizon axes advised) numbers advised.advisories advised.choices sigmas) doc
document_says doc version horizon axes numbers advised sigmas keys edition seconds axis number given sigma =
    let m = model_with (grid_from horizon axes advised) numbers advised.advisories advised.choices sigmas in
    record {
      keys = keys;
      version = version;
      says_version = edition.holds;
      least_version = edition.low;
      greatest_version = edition.high;
      horizon = seconds;
      grid = table_says doc (codes "grid") (codes "altitude own_rate intruder_rate") axis.inner (IsGridText m) axis.is_table (record { altitude = axis.h.holds; own_rate = axis.v0.holds; intruder_rate = axis.v1.holds });
      puck = table_says doc (codes "puck") (codes "radius half_height") number.puck.inner (IsPuckText m) number.puck.is_table (record { radius = number.puck.radius.holds; feet = number.puck.feet; half_height = number.puck.half_height.holds; half = number.puck.half });
      closing = table_says doc (codes "closing") (codes "least greatest") number.closing.inner (IsClosingText m) number.closing.is_table (record { least = number.closing.least.holds; greatest = number.closing.greatest.holds });
      pilot = table_says doc (codes "pilot") (pilot_keys version) number.pilot.inner (IsPilotText m version) number.pilot.is_table
          (record { pull = number.pilot.pull.holds; limit = number.pilot.limit.holds; no_delay = number.pilot.delay.unsaid; delay = number.pilot.delay.said });
      cost = table_says doc (codes "cost") (codes "contact") number.contact.inner (IsCostText m) number.contact.is_table (record { contact = number.contact.contact });
      advisory = advisories_say doc horizon axes numbers advised sigmas given;
      sigma = sigmas_say doc m sigma;
    }

pub said : (bytes : List ℕ) (m : ModelData) → model_of bytes ≡ Ok m → IsModelText bytes m
unfolding model_of model_in
said bytes m e =
    let d = bind_ok (document_of NotToml bytes) model_in m e in
    let doc = d.0 in
    let is_doc = document_of-found NotToml bytes doc d.1 in
    let k = step_ok (top_keys doc) _ m d.2 in
    let v = bind_ok (version_of doc) _ m k.1 in
    let h = bind_ok (horizon_of doc) _ m v.2 in
    let a = bind_ok (axes_of doc) _ m h.2 in
    let n = bind_ok (numbers_of doc v.0) _ m a.2 in
    let g = bind_ok (advised_of doc) _ m n.2 in
    let p = bind_ok (sigmas_of doc) _ m g.2 in
    let w = step_ok (weights p.0) _ m p.2 in
    let t = step_ok (window h.0 n.0.puck.radius n.0.closing.least) _ m w.1 in
    let f = step_ok (few_entries (grid_from h.0 a.0 g.0)) _ m t.1 in
    let made = model_with (grid_from h.0 a.0 g.0) n.0 g.0.advisories g.0.choices p.0 in
    let same : made ≡ m = same_ok {E = ModelFault} _ _ f.1 in
    let seconds = horizon_ok doc h.0 h.1 in
    let axis = axes_ok doc a.0 a.1 in
    let number = numbers_ok doc v.0 n.0 n.1 in
    let given = advised_ok doc g.0 g.1 in
    let sigma = sigmas_ok doc p.0 p.1 in
    subst (IsModelText bytes) same (record {
      text = is_doc.text;
      doc = doc;
      toml = is_doc.toml;
      keys = document_says doc v.0 h.0 a.0 n.0 g.0 p.0 (keys_said doc k.0) (version_said doc v.0 v.1) seconds.holds axis number given sigma;
      within = within_limits doc v.0 h.0 a.0 n.0 g.0 p.0 seconds axis number given sigma (weights_ok p.0 w.0) (window_ok h.0 n.0.puck.radius n.0.closing.least t.0) (entries_ok (grid_from h.0 a.0 g.0) f.0);
    })
