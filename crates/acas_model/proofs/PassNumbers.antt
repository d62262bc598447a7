-- A document that says a model within its limits passes the rules of its numbers and axes.
use Rattle.std.proofs.Common.{◌≡◌, ℕ, ◌-◌, ◌^◌, ◌<◌, ◌≤◌, nat_le, false, List, [], length, map, take, get_or, codes, ℤ, pos, negsuc, ◌≤ℤ◌, Some, Ok, refl, sym, subst, ap, ◌∙◌, inl, inr, arith}
use Rattle.std.proofs.lemmas.Bool.{cases_Bool, le-leb, leb-true, leb-false, false≢true}
use Rattle.std.proofs.lemmas.Int.{ints}
use Rattle.std.proofs.lemmas.List.{get_or-map, length-map}
use Rattle.toml.specs.Data.{Members, integer, boolean, table, get_member}
use Rattle.acas_units.specs.declared.limits.TheConstants.{LEAST_RADIUS, GREATEST_RADIUS, LEAST_HALF_HEIGHT, GREATEST_HALF_HEIGHT, LEAST_CLOSING, GREATEST_CLOSING, LEAST_PULL, GREATEST_LIMIT, GREATEST_DELAY, LEAST_COST, GREATEST_COST}
use Rattle.acas_spec.specs.Axis.{IsAxis, IsBetween, IsWithin, place_value}
use Rattle.acas_spec.specs.Model.{ModelData}
use Rattle.acas_spec.specs.Limits.{IsModel}
use Rattle.acas_doc.specs.Known.{only_known}
use Rattle.acas_doc.specs.Paths.{key_path}
use Rattle.acas_doc.proofs.Holds.{int_le-true, true-int_le, whole_at_passes, table_at_passes, list_at_passes, whole_item_passes}
use Rattle.acas_doc.proofs.LeastUnknown.{only_known_passes}
use Rattle.acas_model.specs.declared.axes.Axes.{Axes}
use Rattle.acas_model.specs.declared.fault.AxisName.{AxisName}
use Rattle.acas_model.specs.declared.fault.AxisName.TheVariants.{Altitude, OwnRate, IntruderRate}
use Rattle.acas_base.specs.declared.numbers.Puck.{Puck}
use Rattle.acas_base.specs.declared.numbers.Closing.{Closing}
use Rattle.acas_base.specs.declared.numbers.Pilot.{Pilot}
use Rattle.acas_base.specs.declared.numbers.Numbers.{Numbers}
use Rattle.acas_model.specs.declared.numbers.TheConstants.{DELAY_VERSION}
use Rattle.acas_model.specs.Document.{in_doc, number_at, closed_table}
use Rattle.acas_model.specs.Axes.{least_on, greatest_on, in_model, axis_item, axis_items, axis_at, grid_table, axes_of}
use Rattle.acas_model.specs.Numbers.{puck_table, half_height, puck_of, closing_of, pilot_keys, delay_of, pilot_of, contact_of, numbers_of}
use Rattle.acas_model.specs.Text.{HasOnly, HoldsWhole, HoldsAxis, IsPilotText, IsDocumentText}
use Rattle.acas_model.proofs.Places.{each_from}
use Rattle.acas_model.proofs.ReadAxes.{IsOn}
use Rattle.acas_model.proofs.Rising.{is_axis}

-- ---- ranges

pos_le : (a b : ℕ) → a ≤ b → pos a ≤ℤ pos b
pos_le a b h = int_le-true (pos a) (pos b) (le-leb a b h)

pos_order : (a b : ℕ) → pos a ≤ℤ pos b → a ≤ b
pos_order a b h = leb-true a b (true-int_le (pos a) (pos b) h)

negsuc_order : (a b : ℕ) → negsuc a ≤ℤ negsuc b → b ≤ a
negsuc_order a b h = leb-true b a (true-int_le (negsuc a) (negsuc b) h)

not_below : (a b : ℕ) → ¬ (pos a ≤ℤ negsuc b)
not_below a b h = false≢true (true-int_le (pos a) (negsuc b) h)

pub ≤ℤ-trans : (a b c : ℤ) → a ≤ℤ b → b ≤ℤ c → a ≤ℤ c
≤ℤ-trans (pos a) (pos b) (pos c) h k = pos_le a c (omega (arith, pos_order a b h, pos_order b c k))
≤ℤ-trans (pos a) (pos b) (negsuc c) h k = absurd (not_below b c k)
≤ℤ-trans (pos a) (negsuc b) c h k = absurd (not_below a b h)
≤ℤ-trans (negsuc a) b (pos c) h k = int_le-true (negsuc a) (pos c) refl
≤ℤ-trans (negsuc a) (pos b) (negsuc c) h k = absurd (not_below b c k)
≤ℤ-trans (negsuc a) (negsuc b) (negsuc c) h k = int_le-true (negsuc a) (negsuc c) (le-leb c a (omega (arith, negsuc_order a b h, negsuc_order b c k)))

-- ---- keys

pub only_passes : (path known : List ℕ) (ms : Members) → HasOnly known ms → in_doc (only_known path known ms) ≡ Ok tt
only_passes path known ms h = rw ((only_known_passes path known ms).1 h.none) refl

pub number_passes : (ms : Members) (path key : List ℕ) (least greatest n : ℕ) → HoldsWhole ms key (pos n) → least ≤ n → n ≤ greatest → number_at ms path key least greatest ≡ Ok n
unfolding number_at
number_passes ms path key least greatest n holds low high = rw (whole_at_passes ms path key (pos least) (pos greatest) (pos n) holds (pos_le least n low) (pos_le n greatest high)) refl

pub table_passes : (doc : Members) (key known : List ℕ) (inner : Members) → get_member key doc ≡ Some (table inner) → HasOnly known inner → closed_table doc key known ≡ Ok inner
unfolding closed_table
table_passes doc key known inner there keys = rw (table_at_passes doc [] key inner there, only_passes key known inner keys) refl

-- ---- the axes

IsOn-number : (name : AxisName) (number : ℤ) → IsOn name (in_model name number) → IsBetween (least_on name) (greatest_on name) number
IsOn-number Altitude number on = record { low = omega (arith, ints); high = omega (arith, ints) }
IsOn-number OwnRate number on = on
IsOn-number IntruderRate number on = on

axis_item_passes : (name : AxisName) (path : List ℕ) (place : ℕ) (number : ℤ) → IsBetween (least_on name) (greatest_on name) number → axis_item name path place (integer number) ≡ Ok (in_model name number)
unfolding axis_item
axis_item_passes name path place number within =
    rw (whole_item_passes path place (least_on name) (greatest_on name) number within.low within.high) refl

axis_items_pass : (name : AxisName) (path : List ℕ) (zs axis : List ℤ) → axis ≡ map (in_model name) zs → ((k : ℕ) → k < length zs → IsBetween (least_on name) (greatest_on name) (get_or zs k (pos 0)))
    → axis_items name path (map integer zs) ≡ Ok axis
unfolding axis_items
axis_items_pass name path zs axis same within =
    let long : length axis ≡ length (map integer zs) = ap length same ∙ length-map zs (in_model name) ∙ sym (length-map zs integer) in
    each_from (λ before d. axis_item name path (length before) d) [] axis (map integer zs) (boolean false) (pos 0) (record {
      long = long;
      at = λ k h.
          let in_zs : k < length zs = omega (arith, h, length-map zs integer) in
          let item : get_or (map integer zs) k (boolean false) ≡ integer (get_or zs k (pos 0)) = get_or-map integer zs k (pos 0) (boolean false) in_zs in
          let value : get_or axis k (pos 0) ≡ in_model name (get_or zs k (pos 0)) = ap (λ ys. get_or ys k (pos 0)) same ∙ get_or-map (in_model name) zs k (pos 0) (pos 0) in_zs in
          rw (item, value) (axis_item_passes name path (length (take k axis)) (get_or zs k (pos 0)) (within k in_zs));
    })

axis_passes : (grid : Members) (key : List ℕ) (name : AxisName) (axis : List ℤ) → HoldsAxis grid key name axis → IsAxis axis → IsWithin (in_model name (least_on name)) (in_model name (greatest_on name)) axis
    → axis_at grid key name ≡ Ok axis
unfolding axis_at
axis_passes grid key name axis holds is within =
    let zs = holds.numbers in
    let long : length axis ≡ length zs = ap length holds.same ∙ length-map zs (in_model name) in
    let short : length (map integer zs) ≤ 2 ^ 32 - 1 = omega (arith, length-map zs integer, long, is.at_most) in
    let each_within : (k : ℕ) → k < length zs → IsBetween (least_on name) (greatest_on name) (get_or zs k (pos 0)) = λ k h.
    let value : place_value axis k ≡ in_model name (get_or zs k (pos 0)) = ap (λ ys. get_or ys k (pos 0)) holds.same ∙ get_or-map (in_model name) zs k (pos 0) (pos 0) h in
    IsOn-number name (get_or zs k (pos 0)) (subst (IsOn name) value (within.bounded k (omega (arith, h, long)))) in
    rw (list_at_passes grid (codes "grid") key 0 (2 ^ 32 - 1) (map integer zs) holds.there (omega arith) short, axis_items_pass name (key_path (codes "grid") key) zs axis holds.same each_within, is_axis axis is) refl

abbrev pub axes_in : ModelData → Axes
axes_in m = record { h = m.grid.h; v0 = m.grid.v0; v1 = m.grid.v1 }

pub axes_pass : (doc : Members) (m : ModelData) → IsDocumentText m doc → IsModel m → axes_of doc ≡ Ok (axes_in m)
unfolding axes_of grid_table
axes_pass doc m says valid =
    let t = says.grid.inner in
    rw (
      table_passes doc (codes "grid") (codes "altitude own_rate intruder_rate") t says.grid.there says.grid.keys,
      axis_passes t (codes "altitude") Altitude m.grid.h says.grid.says.altitude valid.grid.altitudes valid.grid.altitudes_within,
      axis_passes t (codes "own_rate") OwnRate m.grid.v0 says.grid.says.own_rate valid.grid.own_rates valid.grid.own_within,
      axis_passes t (codes "intruder_rate") IntruderRate m.grid.v1 says.grid.says.intruder_rate valid.grid.intruder_rates valid.grid.intruder_within,
    ) refl

-- ---- the numbers

abbrev pub puck_in : ModelData → Puck
puck_in m = record { radius = m.radius; half = m.half }

puck_passes : (doc : Members) (m : ModelData) → IsDocumentText m doc → IsModel m → puck_of doc ≡ Ok (puck_in m)
unfolding puck_of puck_table half_height
puck_passes doc m says valid =
    let t = says.puck.inner in
    let p = says.puck.says in
    rw (
      table_passes doc (codes "puck") (codes "radius half_height") t says.puck.there says.puck.keys,
      number_passes t (codes "puck") (codes "radius") LEAST_RADIUS GREATEST_RADIUS m.radius p.radius valid.some_radius valid.radius,
      number_passes t (codes "puck") (codes "half_height") LEAST_HALF_HEIGHT GREATEST_HALF_HEIGHT p.feet p.half_height (omega (arith, p.half, valid.some_half)) (omega (arith, p.half, valid.half)),
      p.half,
    ) refl

abbrev pub closing_in : ModelData → Closing
closing_in m = record { least = m.least_closing; greatest = m.greatest_closing }

closing_passes : (doc : Members) (m : ModelData) → IsDocumentText m doc → IsModel m → closing_of doc ≡ Ok (closing_in m)
unfolding closing_of
closing_passes doc m says valid =
    let t = says.closing.inner in
    let p = says.closing.says in
    rw (
      table_passes doc (codes "closing") (codes "least greatest") t says.closing.there says.closing.keys,
      number_passes t (codes "closing") (codes "least") LEAST_CLOSING GREATEST_CLOSING m.least_closing p.least valid.some_closing (omega (arith, valid.closing, valid.greatest_closing)),
      number_passes t (codes "closing") (codes "greatest") m.least_closing GREATEST_CLOSING m.greatest_closing p.greatest valid.closing valid.greatest_closing,
    ) refl

abbrev pub pilot_in : ModelData → Pilot
pilot_in m = record { pull = m.pull; limit = m.limit; delay = m.delay }

delay_passes : (pilot : Members) (m : ModelData) (version : ℕ) → IsPilotText m version pilot → IsModel m → delay_of pilot version ≡ Ok m.delay
unfolding delay_of
delay_passes pilot m version says valid =
    elim (cases_Bool (nat_le DELAY_VERSION version)) [
      | inl has ↦ rw has (number_passes pilot (codes "pilot") (codes "delay") 0 GREATEST_DELAY m.delay (says.delay (leb-true DELAY_VERSION version has)) (omega arith) valid.delay)
      | inr none ↦ rw none (ap Ok (sym (says.no_delay (leb-false DELAY_VERSION version none))))
    ]

pilot_passes : (doc : Members) (m : ModelData) (says : IsDocumentText m doc) → IsModel m → pilot_of doc says.version ≡ Ok (pilot_in m)
unfolding pilot_of
pilot_passes doc m says valid =
    let t = says.pilot.inner in
    let p = says.pilot.says in
    rw (
      table_passes doc (codes "pilot") (pilot_keys says.version) t says.pilot.there says.pilot.keys,
      number_passes t (codes "pilot") (codes "pull") LEAST_PULL GREATEST_LIMIT m.pull p.pull valid.some_pull (omega (arith, valid.pull_within, valid.limit)),
      number_passes t (codes "pilot") (codes "limit") m.pull GREATEST_LIMIT m.limit p.limit valid.pull_within valid.limit,
      delay_passes t m says.version p valid,
    ) refl

contact_passes : (doc : Members) (m : ModelData) → IsDocumentText m doc → IsModel m → contact_of doc ≡ Ok m.contact
unfolding contact_of
contact_passes doc m says valid =
    let t = says.cost.inner in
    rw (
      table_passes doc (codes "cost") (codes "contact") t says.cost.there says.cost.keys,
      whole_at_passes t (codes "cost") (codes "contact") LEAST_COST GREATEST_COST m.contact says.cost.says.contact valid.contact.low valid.contact.high,
    ) refl

abbrev pub numbers_in : ModelData → Numbers
numbers_in m = record { puck = puck_in m; closing = closing_in m; pilot = pilot_in m; contact = m.contact }

pub numbers_pass : (doc : Members) (m : ModelData) (says : IsDocumentText m doc) → IsModel m → numbers_of doc says.version ≡ Ok (numbers_in m)
unfolding numbers_of
numbers_pass doc m says valid = rw (puck_passes doc m says valid, closing_passes doc m says valid, pilot_passes doc m says valid, contact_passes doc m says valid) refl
