-- What the keys hold of a text that passes the rules.
use Rattle.std.proofs.Common.{◌≡◌, ℕ, zero, suc, ◌<◌, true, false, Bool, List, [], ◌∷◌, length, map, take, get_or, codes, ℤ, pos, ◌+ℤ◌, ◌*ℤ◌, ◌≤ℤ◌, int_le, Ok, Err, if◌then◌else◌, refl, sym, subst, ap, ◌∙◌, arith}
use Rattle.std.proofs.lemmas.List.{get_or-map, length-map}
use Rattle.toml.specs.Data.{Data, Members, no_members, boolean, integer, table}
use Rattle.toml.specs.Data as datum
use Rattle.acas_units.specs.declared.limits.TheConstants.{LEAST_BOXES, GREATEST_BOXES, LEAST_BOX_RANGE, GREATEST_BOX_RANGE, LEAST_CLOSING, GREATEST_CLOSING, LEAST_ALTITUDE, GREATEST_ALTITUDE, LEAST_RATE, GREATEST_RATE, WINDOW_SECONDS}
use Rattle.acas_spec.specs.Model.{ModelData}
use Rattle.acas_spec.specs.Limits.{IsModel}
use Rattle.acas_spec.proofs.Each.{bind_ok, same_ok}
use Rattle.acas_doc.specs.Document.{document_of}
use Rattle.acas_doc.proofs.Documents.{document_of-found}
use Rattle.acas_doc.specs.Keys.{list_at, table_item, whole_item}
use Rattle.acas_doc.specs.Known.{only_known}
use Rattle.acas_doc.specs.Paths.{item_path, key_path}
use Rattle.acas_doc.specs.Values.{data_at}
use Rattle.acas_doc.proofs.Holds.{fault_as_ok, int_le-true, list_at_ok, table_item_ok, whole_item_ok}
use Rattle.acas_doc.proofs.LeastUnknown.{only_known_passes}
use Rattle.acas_model.specs.Text.{HasOnly, HoldsList, HoldsTables}
use Rattle.acas_model.proofs.Places.{each_places, same_lists}
use Rattle.acas_model.proofs.ReadNumbers.{passed_ok, step_ok}
use Rattle.acas_flight.specs.State.{Interval}
use Rattle.acas_rulings.specs.Boxes.{AuditedBox, IsBoxOf, box_at, no_box}
use Rattle.acas_doc.specs.declared.input_fault.InputFault.{InputFault}
use Rattle.acas_doc.specs.declared.input_fault.InputFault.TheVariants.{NotToml, Window}
use Rattle.acas_doc.specs.Input.{in_doc, version_of}
use Rattle.acas_model.specs.Named.{advisory_at}
use Rattle.acas_model.proofs.InputKeys.{advisory_ok, version_ok}
use Rattle.acas_boxes.specs.declared.spans.TheConstants.{SPAN_ENDS}
use Rattle.acas_boxes.specs.Spans.{altitudes_at, closings_at, in_ticks, interval, ranges_at, rates_at, span_at}
use Rattle.acas_boxes.specs.OneBox.{box_item, box_of, box_with, window}
use Rattle.acas_boxes.specs.Text.{HoldsAltitudes, HoldsInterval, IsBoxText, IsBoxesText}
use Rattle.acas_boxes.specs.Whole.{box_items, boxes_in, boxes_of}

only_ok : (path known : List ℕ) (ms : Members) → in_doc (only_known path known ms) ≡ Ok tt → HasOnly known ms
only_ok path known ms e = record { none = (only_known_passes path known ms).0 (fault_as_ok _ _ tt e) }

-- ---- spans

-- a list of two integers
two_integers : (ds : List Data) (a b : ℤ) → length ds ≡ 2 → data_at ds 0 ≡ integer a → data_at ds 1 ≡ integer b → ds ≡ map integer (a ∷ b ∷ [])
two_integers ds a b long first second = same_lists ds (map integer (a ∷ b ∷ [])) (boolean false) long at
  where
    at : (k : ℕ) → k < length ds → get_or ds k (boolean false) ≡ get_or (map integer (a ∷ b ∷ [])) k (boolean false)
    at zero within = first
    at (suc zero) within = second
    at (suc (suc k)) within = absurd (omega (arith, within, long))

span_ok : (ms : Members) (path key : List ℕ) (least greatest : ℤ) (s : Interval) → span_at ms path key least greatest ≡ Ok s → HoldsInterval ms key least greatest s
unfolding span_at
span_ok ms path key least greatest s e =
    let l = bind_ok (in_doc (list_at ms path key SPAN_ENDS SPAN_ENDS)) _ s e in
    let f = bind_ok (in_doc (whole_item (key_path path key) 0 least greatest (data_at l.0 0))) _ s l.2 in
    let g = bind_ok (in_doc (whole_item (key_path path key) 1 f.0 greatest (data_at l.0 1))) _ s f.2 in
    let same : interval f.0 g.0 ≡ s = same_ok {E = InputFault} _ _ g.2 in
    let list = list_at_ok ms path key SPAN_ENDS SPAN_ENDS l.0 (fault_as_ok _ _ l.0 l.1) in
    let first = whole_item_ok (key_path path key) 0 least greatest (data_at l.0 0) f.0 (fault_as_ok _ _ f.0 f.1) in
    let second = whole_item_ok (key_path path key) 1 f.0 greatest (data_at l.0 1) g.0 (fault_as_ok _ _ g.0 g.1) in
    let long : length l.0 ≡ 2 = omega (arith, list.1, list.2) in
    subst (HoldsInterval ms key least greatest) same (record {
      there = subst (HoldsList ms key) (two_integers l.0 f.0 g.0 long first.0 second.0) list.0;
      low = first.1;
      ordered = second.1;
      high = second.2;
    })

altitudes_ok : (ms : Members) (path : List ℕ) (s : Interval) → altitudes_at ms path ≡ Ok s → HoldsAltitudes ms (codes "altitude") s
unfolding altitudes_at
altitudes_ok ms path s e =
    let f = bind_ok (span_at ms path (codes "altitude") LEAST_ALTITUDE GREATEST_ALTITUDE) _ s e in
    let same : in_ticks f.0 ≡ s = same_ok {E = InputFault} _ _ f.2 in
    record { feet = f.0; holds = span_ok ms path (codes "altitude") LEAST_ALTITUDE GREATEST_ALTITUDE f.0 f.1; ticks = sym same }

ranges_ok : (ms : Members) (path : List ℕ) (s : Interval) → ranges_at ms path ≡ Ok s → HoldsInterval ms (codes "range") LEAST_BOX_RANGE GREATEST_BOX_RANGE s
unfolding ranges_at
ranges_ok ms path s e = span_ok ms path (codes "range") LEAST_BOX_RANGE GREATEST_BOX_RANGE s e

closings_ok : (ms : Members) (path : List ℕ) (s : Interval) → closings_at ms path ≡ Ok s → HoldsInterval ms (codes "closing") (pos LEAST_CLOSING) (pos GREATEST_CLOSING) s
unfolding closings_at
closings_ok ms path s e = span_ok ms path (codes "closing") (pos LEAST_CLOSING) (pos GREATEST_CLOSING) s e

rates_ok : (ms : Members) (path key : List ℕ) (s : Interval) → rates_at ms path key ≡ Ok s → HoldsInterval ms key LEAST_RATE GREATEST_RATE s
unfolding rates_at
rates_ok ms path key s e = span_ok ms path key LEAST_RATE GREATEST_RATE s e

-- ---- one box

test_ok : (b : Bool) (f : InputFault) → (if b then Ok (tt {0}) else Err f) ≡ Ok tt → b ≡ true
test_ok true f e = refl
test_ok false f e = absurd cc

window_ok : (m : ModelData) (place : ℕ) (range closing : Interval) → window m place range closing ≡ Ok tt → (range.greatest +ℤ pos m.radius) ≤ℤ (pos WINDOW_SECONDS *ℤ closing.least)
unfolding window
window_ok m place range closing e = int_le-true _ _ (test_ok (int_le (range.greatest +ℤ pos m.radius) (pos WINDOW_SECONDS *ℤ closing.least)) (Window place) e)

-- a box that was read
pub record IsReadBox (m : ModelData) (t : Members) (b : AuditedBox) : Type 0 where
  pub keys : HasOnly (codes "advisory range closing altitude own intruder") t
  pub says : IsBoxText m b t
  pub fits : IsBoxOf m b

box_ok : (m : ModelData) (t : Members) (path : List ℕ) (place : ℕ) (b : AuditedBox) → IsModel m → box_of m t path place ≡ Ok b → IsReadBox m t b
unfolding box_of
box_ok m t path place b valid e =
    let k = step_ok (in_doc (only_known path (codes "advisory range closing altitude own intruder") t)) _ b e in
    let a = bind_ok (advisory_at m t path place) _ b k.1 in
    let r = bind_ok (ranges_at t path) _ b a.2 in
    let c = bind_ok (closings_at t path) _ b r.2 in
    let h = bind_ok (altitudes_at t path) _ b c.2 in
    let v = bind_ok (rates_at t path (codes "own")) _ b h.2 in
    let x = bind_ok (rates_at t path (codes "intruder")) _ b v.2 in
    let w = step_ok (window m place r.0 c.0) _ b x.2 in
    let same : box_with a.0 r.0 c.0 h.0 v.0 x.0 ≡ b = same_ok {E = InputFault} _ _ w.1 in
    let advisory = advisory_ok m t path place a.0 a.1 in
    let range = ranges_ok t path r.0 r.1 in
    let closing = closings_ok t path c.0 c.1 in
    subst (IsReadBox m t) same (record {
      keys = only_ok path (codes "advisory range closing altitude own intruder") t k.0;
      says = record {
        advisory = advisory.there;
        range = range;
        closing = closing;
        altitude = altitudes_ok t path h.0 h.1;
        own = rates_ok t path (codes "own") v.0 v.1;
        intruder = rates_ok t path (codes "intruder") x.0 x.1;
      };
      fits = record {
        advisory = omega (arith, advisory.known, valid.advisory_count);
        flown = record { ahead = range.low; slow = closing.low; fast = closing.high; short = window_ok m place r.0 c.0 w.0 };
      };
    })

-- an item that was read
pub record IsReadItem (m : ModelData) (d : Data) (b : AuditedBox) : Type 0 where
  pub inner : Members
  pub there : d ≡ table inner
  pub read : IsReadBox m inner b

item_ok : (m : ModelData) (place : ℕ) (d : Data) (b : AuditedBox) → IsModel m → box_item m place d ≡ Ok b → IsReadItem m d b
unfolding box_item
item_ok m place d b valid e =
    let t = bind_ok (in_doc (table_item (codes "box") place d)) _ b e in
    record {
      inner = t.0;
      there = table_item_ok (codes "box") place d t.0 (fault_as_ok _ _ t.0 t.1);
      read = box_ok m t.0 (item_path (codes "box") place) place b valid t.2;
    }

-- ---- the list

-- the keys of a table
members : Data → Members
members (datum.string s) = no_members
members (datum.integer z) = no_members
members (datum.float x) = no_members
members (datum.boolean b) = no_members
members (datum.datetime t) = no_members
members (datum.array ds) = no_members
members (datum.table ms) = ms

tables : List Data → List Members
tables ds = map members ds

-- a list of tables is that of their keys
tables_again : (ds : List Data) → ((k : ℕ) → k < length ds → (t : Members) × (get_or ds k (boolean false) ≡ table t)) → ds ≡ map table (tables ds)
unfolding tables members
tables_again ds at =
    same_lists ds (map table (map members ds)) (boolean false) (sym (length-map (map members ds) table ∙ length-map ds members)) (λ k within.
    let inner = at k within in
    let here : get_or (map table (map members ds)) k (boolean false) ≡ table (members (get_or ds k (boolean false))) =
    get_or-map table (map members ds) k no_members (boolean false) (omega (arith, within, length-map ds members)) ∙ ap table (get_or-map members ds k (boolean false) no_members within) in
    inner.1 ∙ ap (λ d. table (members d)) (sym inner.1) ∙ sym here)

tables_long : (ds : List Data) → length (tables ds) ≡ length ds
unfolding tables
tables_long ds = length-map ds members

table_there : (ds : List Data) (k : ℕ) (t : Members) → k < length ds → get_or ds k (boolean false) ≡ table t → t ≡ get_or (tables ds) k no_members
unfolding tables members
table_there ds k t within is = ap members (sym is) ∙ sym (get_or-map members ds k (boolean false) no_members within)

-- the items of a list that was read
record AreReadItems (m : ModelData) (ds : List Data) (boxes : List AuditedBox) : Type 0 where
  pub long : length boxes ≡ length ds
  pub at : (k : ℕ) → k < length ds → IsReadItem m (get_or ds k (boolean false)) (box_at boxes k)

items_ok : (m : ModelData) (ds : List Data) (boxes : List AuditedBox) → IsModel m → box_items m ds ≡ Ok boxes → AreReadItems m ds boxes
unfolding box_items
items_ok m ds boxes valid e =
    let r = each_places (λ before d. box_item m (length before) d) boxes ds (boolean false) no_box e in
    record { long = r.long; at = λ k within. item_ok m (length (take k boxes)) _ _ valid (r.at k within) }

tables_say : (m : ModelData) (doc : Members) (ds : List Data) (boxes : List AuditedBox) → HoldsList doc (codes "box") ds → AreReadItems m ds boxes →
    HoldsTables doc (codes "box") (codes "advisory range closing altitude own intruder") (length boxes) (λ k t. IsBoxText m (box_at boxes k) t)
tables_say m doc ds boxes there read = record {
  tables = tables ds;
  there = subst (HoldsList doc (codes "box")) (tables_again ds (λ k within. ((read.at k within).inner, (read.at k within).there))) there;
  long = tables_long ds ∙ sym read.long;
  keys = λ k within.
      let inside : k < length ds = omega (arith, within, read.long) in
      let item = read.at k inside in
      subst (HasOnly (codes "advisory range closing altitude own intruder")) (table_there ds k item.inner inside item.there) item.read.keys;
  says = λ k within.
      let inside : k < length ds = omega (arith, within, read.long) in
      let item = read.at k inside in
      subst (IsBoxText m (box_at boxes k)) (table_there ds k item.inner inside item.there) item.read.says;
}

-- ---- the whole text

pub said : (m : ModelData) (bytes : List ℕ) (boxes : List AuditedBox) → IsModel m → boxes_of m bytes ≡ Ok boxes → IsBoxesText m bytes boxes
unfolding boxes_of boxes_in
said m bytes boxes valid e =
    let d = bind_ok (document_of NotToml bytes) (boxes_in m) boxes e in
    let k = step_ok (in_doc (only_known [] (codes "version box") d.0)) _ boxes d.2 in
    let v = passed_ok (version_of d.0) _ boxes k.1 in
    let l = bind_ok (in_doc (list_at d.0 [] (codes "box") LEAST_BOXES GREATEST_BOXES)) _ boxes v.2 in
    let doc = document_of-found NotToml bytes d.0 d.1 in
    let list = list_at_ok d.0 [] (codes "box") LEAST_BOXES GREATEST_BOXES l.0 (fault_as_ok _ _ l.0 l.1) in
    let read = items_ok m l.0 boxes valid l.2 in
    record {
      text = doc.text;
      doc = d.0;
      toml = doc.toml;
      keys = only_ok [] (codes "version box") d.0 k.0;
      version = version_ok d.0 v.0 v.1;
      tables = tables_say m d.0 l.0 boxes list.0 read;
      some = omega (arith, list.1, read.long);
      few = omega (arith, list.2, read.long);
      fits = record { each = λ place within. (read.at place (omega (arith, within, read.long))).read.fits };
    }
