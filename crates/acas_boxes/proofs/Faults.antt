-- The faults that the rules of boxes give.
use Rattle.std.proofs.Common.{◌≡◌, ◌≢◌, ℕ, List, [], length, codes, ℤ, pos, ◌+ℤ◌, ◌*ℤ◌, int_le, Bool, true, false, cond, Result, Ok, Err, IfErr, subst}
use Rattle.toml.specs.Data.{Data, Members}
use Rattle.acas_units.specs.declared.limits.TheConstants.{LEAST_BOXES, GREATEST_BOXES, LEAST_BOX_RANGE, GREATEST_BOX_RANGE, LEAST_CLOSING, GREATEST_CLOSING, LEAST_ALTITUDE, GREATEST_ALTITUDE, LEAST_RATE, GREATEST_RATE, WINDOW_SECONDS}
use Rattle.acas_spec.specs.Model.{ModelData}
use Rattle.acas_doc.specs.declared.fault.DocFault.{DocFault}
use Rattle.acas_doc.specs.Document.{document_of}
use Rattle.acas_doc.specs.Keys.{list_at, table_item, whole_item}
use Rattle.acas_doc.specs.Known.{only_known}
use Rattle.acas_doc.specs.Paths.{item_path, key_path}
use Rattle.acas_doc.specs.Values.{data_at}
use Rattle.acas_flight.specs.State.{Interval}
use Rattle.acas_rulings.specs.Boxes.{AuditedBox}
use Rattle.acas_doc.specs.declared.input_fault.InputFault.{InputFault}
use Rattle.acas_doc.specs.declared.input_fault.InputFault.TheVariants.{NotToml, Doc, UnknownName, Window, Rate, Memory}
use Rattle.acas_doc.specs.InputAnswers.{Gives}
use Rattle.acas_doc.specs.Input.{in_doc, version_of}
use Rattle.acas_model.specs.Named.{advisory_at}
use Rattle.acas_model.proofs.InputFaults.{AnyFaultIs, advisory_faults, after_faults, all_faults, document_faults, in_doc_faults, next_faults, version_faults}
use Rattle.acas_boxes.specs.declared.spans.TheConstants.{SPAN_ENDS}
use Rattle.acas_boxes.specs.Spans.{altitudes_at, in_ticks, interval, closings_at, ranges_at, rates_at, span_at}
use Rattle.acas_boxes.specs.OneBox.{box_item, box_of, window}
use Rattle.acas_boxes.specs.Whole.{IsOfBoxes, box_items, boxes_in, boxes_of}

-- the fault, if there is one, is one that boxes can have
abbrev AnyFaultIsOfBoxes : {A : Type 0} → Result A InputFault → Type 0
AnyFaultIsOfBoxes r = AnyFaultIs IsOfBoxes r

key_faults : {A : Type 0} (r : Result A DocFault) → AnyFaultIsOfBoxes (in_doc r)
key_faults r = in_doc_faults IsOfBoxes (λ f. tt) r

span_faults : (table : Members) (path key : List ℕ) (least greatest : ℤ) → AnyFaultIsOfBoxes (span_at table path key least greatest)
unfolding span_at
span_faults table path key least greatest =
    next_faults IsOfBoxes (in_doc (list_at table path key SPAN_ENDS SPAN_ENDS)) _ (key_faults _) (λ items.
    next_faults IsOfBoxes (in_doc (whole_item (key_path path key) 0 least greatest (data_at items 0))) _ (key_faults _) (λ first.
    next_faults IsOfBoxes (in_doc (whole_item (key_path path key) 1 first greatest (data_at items 1))) (λ second. Ok (interval first second)) (key_faults _) (λ second. tt)))

altitudes_faults : (table : Members) (path : List ℕ) → AnyFaultIsOfBoxes (altitudes_at table path)
unfolding altitudes_at
altitudes_faults table path = next_faults IsOfBoxes (span_at table path (codes "altitude") LEAST_ALTITUDE GREATEST_ALTITUDE) (λ feet. Ok (in_ticks feet)) (span_faults table path _ _ _) (λ feet. tt)

window_faults : (m : ModelData) (place : ℕ) (range closing : Interval) → AnyFaultIsOfBoxes (window m place range closing)
unfolding window
window_faults m place range closing = by (int_le (range.greatest +ℤ pos m.radius) (pos WINDOW_SECONDS *ℤ closing.least))
  where
    by : (b : Bool) → AnyFaultIsOfBoxes {A = Unit {0}} (cond b (Ok tt) (Err (Window place)))
    by true = tt
    by false = tt

box_faults : (m : ModelData) (table : Members) (path : List ℕ) (place : ℕ) → AnyFaultIsOfBoxes (box_of m table path place)
unfolding box_of ranges_at closings_at rates_at
box_faults m table path place =
    after_faults IsOfBoxes (in_doc (only_known path (codes "advisory range closing altitude own intruder") table)) _ (key_faults _) (
    next_faults IsOfBoxes (advisory_at m table path place) _ (advisory_faults IsOfBoxes (λ f. tt) m table path place tt) (λ advisory.
    next_faults IsOfBoxes (span_at table path (codes "range") LEAST_BOX_RANGE GREATEST_BOX_RANGE) _ (span_faults table path _ _ _) (λ range.
    next_faults IsOfBoxes (span_at table path (codes "closing") (pos LEAST_CLOSING) (pos GREATEST_CLOSING)) _ (span_faults table path _ _ _) (λ closing.
    next_faults IsOfBoxes (altitudes_at table path) _ (altitudes_faults table path) (λ altitude.
    next_faults IsOfBoxes (span_at table path (codes "own") LEAST_RATE GREATEST_RATE) _ (span_faults table path _ _ _) (λ own.
    next_faults IsOfBoxes (span_at table path (codes "intruder") LEAST_RATE GREATEST_RATE) _ (span_faults table path _ _ _) (λ intruder.
    after_faults IsOfBoxes (window m place range closing) _ (window_faults m place range closing) tt)))))))

item_faults : (m : ModelData) (place : ℕ) (d : Data) → AnyFaultIsOfBoxes (box_item m place d)
unfolding box_item
item_faults m place d =
    next_faults IsOfBoxes (in_doc (table_item (codes "box") place d)) _ (key_faults _) (λ table. box_faults m table (item_path (codes "box") place) place)

in_faults : (m : ModelData) (doc : Members) → AnyFaultIsOfBoxes (boxes_in m doc)
unfolding boxes_in box_items
in_faults m doc =
    after_faults IsOfBoxes (in_doc (only_known [] (codes "version box") doc)) _ (key_faults _) (
    after_faults IsOfBoxes (version_of doc) _ (version_faults IsOfBoxes (λ f. tt) doc) (
    next_faults IsOfBoxes (in_doc (list_at doc [] (codes "box") LEAST_BOXES GREATEST_BOXES)) _ (key_faults _) (λ items.
    all_faults IsOfBoxes _ (λ before d. item_faults m (length before) d) [] items)))

boxes_faults : (m : ModelData) (bytes : List ℕ) → AnyFaultIsOfBoxes (boxes_of m bytes)
unfolding boxes_of
boxes_faults m bytes = next_faults IsOfBoxes (document_of NotToml bytes) (boxes_in m) (document_faults IsOfBoxes tt bytes) (in_faults m)

-- a fault that the rules give is one that boxes can have, and want of memory is one too
pub fault_is_of_boxes : (m : ModelData) (bytes : List ℕ) (f : InputFault) → (f ≢ Memory → boxes_of m bytes ≡ Err f) → IsOfBoxes f
fault_is_of_boxes m bytes NotToml gives = tt
fault_is_of_boxes m bytes (Doc f) gives = tt
fault_is_of_boxes m bytes (UnknownName place) gives = tt
fault_is_of_boxes m bytes (Window place) gives = tt
fault_is_of_boxes m bytes (Rate place) gives = subst AnyFaultIsOfBoxes (gives (λ e. cc)) (boxes_faults m bytes)
fault_is_of_boxes m bytes Memory gives = tt

-- the same of what a reader answers
pub given_fault : {X : Type 0} (view : X → List AuditedBox) (r : Result X InputFault) (m : ModelData) (bytes : List ℕ) → Gives view r (boxes_of m bytes) → IfErr r IsOfBoxes
given_fault view (Ok x) m bytes gives = tt
given_fault view (Err f) m bytes gives = fault_is_of_boxes m bytes f gives

-- no fault of the rules is one of rates
pub never_rate : (m : ModelData) (bytes : List ℕ) (place : ℕ) → boxes_of m bytes ≡ Err (Rate place) → ⊥
never_rate m bytes place e = subst AnyFaultIsOfBoxes e (boxes_faults m bytes)
