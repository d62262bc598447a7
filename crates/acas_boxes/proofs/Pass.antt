-- A text that says boxes which a model can audit passes the rules.
use Rattle.std.proofs.Common.{◌≡◌, ℕ, ◌<◌, false, List, [], ◌∷◌, length, map, take, get_or, codes, ℤ, pos, ◌+ℤ◌, ◌*ℤ◌, ◌≤ℤ◌, Ok, refl, sym, ◌∙◌, arith}
use Rattle.std.proofs.lemmas.Int.{ints}
use Rattle.std.proofs.lemmas.List.{get_or-map, length-map}
use Rattle.toml.specs.Data.{Members, no_members, boolean, integer, table}
use Rattle.acas_units.specs.declared.limits.TheConstants.{LEAST_BOXES, GREATEST_BOXES, LEAST_BOX_RANGE, GREATEST_BOX_RANGE, LEAST_CLOSING, GREATEST_CLOSING, LEAST_ALTITUDE, GREATEST_ALTITUDE, LEAST_RATE, GREATEST_RATE, WINDOW_SECONDS}
use Rattle.acas_spec.specs.Model.{ModelData}
use Rattle.acas_spec.specs.Limits.{IsModel}
use Rattle.acas_doc.specs.Known.{only_known}
use Rattle.acas_doc.specs.Paths.{item_path, key_path}
use Rattle.acas_doc.proofs.Documents.{document_of-read}
use Rattle.acas_doc.proofs.Holds.{list_at_passes, table_item_passes, true-int_le, whole_item_passes}
use Rattle.acas_doc.proofs.LeastUnknown.{only_known_passes}
use Rattle.acas_model.specs.Text.{HasOnly}
use Rattle.acas_model.proofs.Places.{each_from}
use Rattle.acas_flight.specs.State.{Interval}
use Rattle.acas_rulings.specs.Boxes.{AuditedBox, IsBoxOf, box_at, no_box}
use Rattle.acas_doc.specs.Input.{in_doc}
use Rattle.acas_doc.specs.declared.input_fault.InputFault.TheVariants.{NotToml}
use Rattle.acas_model.proofs.InputKeys.{advisory_passes, version_passes}
use Rattle.acas_boxes.specs.declared.spans.TheConstants.{SPAN_ENDS}
use Rattle.acas_boxes.specs.Spans.{altitudes_at, closings_at, ranges_at, rates_at, span_at}
use Rattle.acas_boxes.specs.OneBox.{box_item, box_of, window}
use Rattle.acas_boxes.specs.Text.{HoldsAltitudes, HoldsInterval, IsBoxText, IsBoxesText}
use Rattle.acas_boxes.specs.Whole.{box_items, boxes_in, boxes_of}

only_passes : (path known : List ℕ) (ms : Members) → HasOnly known ms → in_doc (only_known path known ms) ≡ Ok tt
only_passes path known ms h = rw ((only_known_passes path known ms).1 h.none) refl

-- ---- spans

within_both : (least greatest a b : ℤ) → least ≤ℤ a → a ≤ℤ b → b ≤ℤ greatest → a ≤ℤ greatest
within_both least greatest a b low ordered high = omega (arith, ints)

span_passes : (ms : Members) (path key : List ℕ) (least greatest : ℤ) (s : Interval) → HoldsInterval ms key least greatest s → span_at ms path key least greatest ≡ Ok s
unfolding span_at
span_passes ms path key least greatest s is =
    rw (
      list_at_passes ms path key SPAN_ENDS SPAN_ENDS (map integer (s.least ∷ s.greatest ∷ [])) is.there (omega arith) (omega arith),
      whole_item_passes (key_path path key) 0 least greatest s.least is.low (within_both least greatest s.least s.greatest is.low is.ordered is.high),
      whole_item_passes (key_path path key) 1 s.least greatest s.greatest is.ordered is.high,
    ) refl

altitudes_pass : (ms : Members) (path : List ℕ) (s : Interval) → HoldsAltitudes ms (codes "altitude") s → altitudes_at ms path ≡ Ok s
unfolding altitudes_at
altitudes_pass ms path s is = rw (span_passes ms path (codes "altitude") LEAST_ALTITUDE GREATEST_ALTITUDE is.feet is.holds, is.ticks) refl

ranges_pass : (ms : Members) (path : List ℕ) (s : Interval) → HoldsInterval ms (codes "range") LEAST_BOX_RANGE GREATEST_BOX_RANGE s → ranges_at ms path ≡ Ok s
unfolding ranges_at
ranges_pass ms path s is = span_passes ms path (codes "range") LEAST_BOX_RANGE GREATEST_BOX_RANGE s is

closings_pass : (ms : Members) (path : List ℕ) (s : Interval) → HoldsInterval ms (codes "closing") (pos LEAST_CLOSING) (pos GREATEST_CLOSING) s → closings_at ms path ≡ Ok s
unfolding closings_at
closings_pass ms path s is = span_passes ms path (codes "closing") (pos LEAST_CLOSING) (pos GREATEST_CLOSING) s is

rates_pass : (ms : Members) (path key : List ℕ) (s : Interval) → HoldsInterval ms key LEAST_RATE GREATEST_RATE s → rates_at ms path key ≡ Ok s
unfolding rates_at
rates_pass ms path key s is = span_passes ms path key LEAST_RATE GREATEST_RATE s is

-- ---- one box

window_passes : (m : ModelData) (place : ℕ) (range closing : Interval) → (range.greatest +ℤ pos m.radius) ≤ℤ (pos WINDOW_SECONDS *ℤ closing.least) → window m place range closing ≡ Ok tt
unfolding window
window_passes m place range closing h = rw (true-int_le (range.greatest +ℤ pos m.radius) (pos WINDOW_SECONDS *ℤ closing.least) h) refl

box_passes : (m : ModelData) (t : Members) (path : List ℕ) (place : ℕ) (b : AuditedBox) → IsModel m → HasOnly (codes "advisory range closing altitude own intruder") t → IsBoxText m b t → IsBoxOf m b →
    box_of m t path place ≡ Ok b
unfolding box_of
box_passes m t path place b valid keys says fits =
    rw (
      only_passes path (codes "advisory range closing altitude own intruder") t keys,
      advisory_passes m t path place b.advisory valid (record { there = says.advisory; known = omega (arith, fits.advisory, valid.advisory_count) }),
      ranges_pass t path b.states.range says.range,
      closings_pass t path b.states.closing says.closing,
      altitudes_pass t path b.states.altitude says.altitude,
      rates_pass t path (codes "own") b.states.own says.own,
      rates_pass t path (codes "intruder") b.states.intruder says.intruder,
      window_passes m place b.states.range b.states.closing fits.flown.short,
    ) refl

item_passes : (m : ModelData) (place : ℕ) (t : Members) (b : AuditedBox) → IsModel m → HasOnly (codes "advisory range closing altitude own intruder") t → IsBoxText m b t → IsBoxOf m b →
    box_item m place (table t) ≡ Ok b
unfolding box_item
item_passes m place t b valid keys says fits = rw (table_item_passes (codes "box") place t) (box_passes m t (item_path (codes "box") place) place b valid keys says fits)

-- ---- the list

items_pass : (m : ModelData) (bytes : List ℕ) (boxes : List AuditedBox) (is : IsBoxesText m bytes boxes) → IsModel m → box_items m (map table is.tables.tables) ≡ Ok boxes
unfolding box_items
items_pass m bytes boxes is valid =
    let ts = is.tables.tables in
    each_from (λ before d. box_item m (length before) d) [] boxes (map table ts) (boolean false) no_box (record {
      long = sym is.tables.long ∙ sym (length-map ts table);
      at = λ k h.
          let in_ts : k < length ts = omega (arith, h, length-map ts table) in
          let in_list : k < length boxes = omega (arith, in_ts, is.tables.long) in
          let item : get_or (map table ts) k (boolean false) ≡ table (get_or ts k no_members) = get_or-map table ts k no_members (boolean false) in_ts in
          rw item (item_passes m (length (take k boxes)) (get_or ts k no_members) (box_at boxes k) valid (is.tables.keys k in_list) (is.tables.says k in_list) (is.fits.each k in_list));
    })

-- ---- the whole text

pub understood : (m : ModelData) (bytes : List ℕ) (boxes : List AuditedBox) → IsModel m → IsBoxesText m bytes boxes → boxes_of m bytes ≡ Ok boxes
unfolding boxes_of boxes_in
understood m bytes boxes valid is =
    let ts = is.tables.tables in
    let long : length (map table ts) ≡ length boxes = length-map ts table ∙ is.tables.long in
    rw (
      document_of-read NotToml bytes is.doc (record { text = is.text; toml = is.toml }),
      only_passes [] (codes "version box") is.doc is.keys,
      version_passes is.doc is.version,
      list_at_passes is.doc [] (codes "box") LEAST_BOXES GREATEST_BOXES (map table ts) is.tables.there (omega (arith, long, is.some)) (omega (arith, long, is.few)),
      items_pass m bytes boxes is valid,
    ) refl
