-- The axes that a document says.
use Rattle.std.proofs.Common.{◌≡◌, ℕ, suc, false, ◌-◌, ◌^◌, ◌<◌, List, [], ◌∷◌, length, map, take, get_or, codes, ℤ, pos, ◌≤ℤ◌, Ok, refl, sym, subst, ◌∙◌, arith}
use Rattle.std.proofs.lemmas.Int.{ints}
use Rattle.toml.specs.Data.{Data, Members, integer, boolean}
use Rattle.acas_spec.specs.Axis.{IsAxis, IsBetween, IsWithin}
use Rattle.acas_spec.specs.Steps.{◌>>=◌, fault_as}
use Rattle.acas_spec.proofs.Each.{bind_ok, same_ok}
use Rattle.acas_doc.specs.Keys.{list_at, whole_item}
use Rattle.acas_doc.specs.Paths.{key_path}
use Rattle.acas_doc.proofs.Holds.{fault_as_ok, list_at_ok, whole_item_ok}
use Rattle.acas_grid.specs.Axis.{axis_of}
use Rattle.acas_model.specs.declared.axes.Axes.{Axes}
use Rattle.acas_model.specs.declared.fault.AxisName.{AxisName}
use Rattle.acas_model.specs.declared.fault.AxisName.TheVariants.{Altitude, OwnRate, IntruderRate}
use Rattle.acas_model.specs.declared.fault.ModelFault.{ModelFault}
use Rattle.acas_model.specs.declared.fault.ModelFault.TheVariants.{Axis}
use Rattle.acas_model.specs.Document.{in_doc}
use Rattle.acas_model.specs.Axes.{least_on, greatest_on, in_model, axis_item, axis_items, axis_at, grid_table, axes_of}
use Rattle.acas_model.specs.Text.{HoldsAxis}
use Rattle.acas_model.proofs.Places.{each_places}
use Rattle.acas_model.proofs.ReadNumbers.{IsTable, table_ok}
use Rattle.acas_model.proofs.Rising.{axis_is}

-- the limits of an axis in the model
abbrev pub IsOn : AxisName → ℤ → Type 0
IsOn name = IsBetween (in_model name (least_on name)) (in_model name (greatest_on name))

IsOn-in_model : (name : AxisName) (number : ℤ) → least_on name ≤ℤ number → number ≤ℤ greatest_on name → IsOn name (in_model name number)
IsOn-in_model Altitude number low high = record { low = omega (arith, ints); high = omega (arith, ints) }
IsOn-in_model OwnRate number low high = record { low = low; high = high }
IsOn-in_model IntruderRate number low high = record { low = low; high = high }

-- an item that was read
pub record IsItem (name : AxisName) (d : Data) (y : ℤ) : Type 0 where
  pub number : ℤ
  pub there : d ≡ integer number
  pub same : y ≡ in_model name number
  pub within : IsOn name y

axis_item_ok : (name : AxisName) (path : List ℕ) (place : ℕ) (d : Data) (y : ℤ) → axis_item name path place d ≡ Ok y → IsItem name d y
unfolding axis_item
axis_item_ok name path place d y is =
    let b = bind_ok (in_doc (whole_item path place (least_on name) (greatest_on name) d)) (λ z. Ok (in_model name z)) y is in
    let w = whole_item_ok path place (least_on name) (greatest_on name) d b.0 (fault_as_ok _ _ b.0 b.1) in
    let same : in_model name b.0 ≡ y = same_ok {E = ModelFault} _ _ b.2 in
    record {
      number = b.0;
      there = w.0;
      same = sym same;
      within = subst (IsOn name) same (IsOn-in_model name b.0 w.1 w.2);
    }

-- the numbers of some items
numbers_of_items : (name : AxisName) (ds : List Data) (ys : List ℤ) → length ys ≡ length ds → ((k : ℕ) → k < length ds → IsItem name (get_or ds k (boolean false)) (get_or ys k (pos 0)))
    → (zs : List ℤ) × (ds ≡ map integer zs) × (ys ≡ map (in_model name) zs)
numbers_of_items name [] [] long at = ([], refl, refl)
numbers_of_items name [] (y ∷ ys) long at = absurd (omega (arith, long))
numbers_of_items name (d ∷ ds) [] long at = absurd (omega (arith, long))
numbers_of_items name (d ∷ ds) (y ∷ ys) long at =
    let first = at 0 (omega arith) in
    let more = numbers_of_items name ds ys (omega (arith, long)) (λ k within. at (suc k) (omega (arith, within))) in
    (first.number ∷ more.0, λ i. first.there i ∷ more.1 i, λ i. first.same i ∷ more.2 i)

pub record IsReadAxis (grid : Members) (key : List ℕ) (name : AxisName) (axis : List ℤ) : Type 0 where
  pub holds : HoldsAxis grid key name axis
  pub is_axis : IsAxis axis
  pub within : IsWithin (in_model name (least_on name)) (in_model name (greatest_on name)) axis

pub axis_at_ok : (grid : Members) (key : List ℕ) (name : AxisName) (axis : List ℤ) → axis_at grid key name ≡ Ok axis → IsReadAxis grid key name axis
unfolding axis_at axis_items
axis_at_ok grid key name axis is =
    let path = key_path (codes "grid") key in
    let b = bind_ok (in_doc (list_at grid (codes "grid") key 0 (2 ^ 32 - 1))) (λ items. axis_items name path items >>= λ values. fault_as (Axis name) (axis_of values)) axis is in
    let b2 = bind_ok (axis_items name path b.0) (λ values. fault_as (Axis name) (axis_of values)) axis b.2 in
    let made = axis_is b2.0 axis (fault_as_ok _ _ axis b2.2) in
    let l = list_at_ok grid (codes "grid") key 0 (2 ^ 32 - 1) b.0 (fault_as_ok _ _ b.0 b.1) in
    let read = each_places (λ before d. axis_item name path (length before) d) b2.0 b.0 (boolean false) (pos 0) b2.1 in
    let items : (k : ℕ) → k < length b.0 → IsItem name (get_or b.0 k (boolean false)) (get_or b2.0 k (pos 0)) = λ k within. axis_item_ok name path (length (take k b2.0)) _ _ (read.at k within) in
    let zs = numbers_of_items name b.0 b2.0 read.long items in
    record {
      holds = record { numbers = zs.0; there = rw (← zs.1) l.0; same = sym made.0 ∙ zs.2 };
      is_axis = subst IsAxis made.0 made.1;
      within = subst (IsWithin (in_model name (least_on name)) (in_model name (greatest_on name))) made.0 (record { bounded = λ k within. (items k (omega (arith, within, read.long))).within });
    }

pub record IsReadAxes (doc : Members) (a : Axes) : Type 0 where
  pub inner : Members
  pub is_table : IsTable doc (codes "grid") (codes "altitude own_rate intruder_rate") inner
  pub h : IsReadAxis inner (codes "altitude") Altitude a.h
  pub v0 : IsReadAxis inner (codes "own_rate") OwnRate a.v0
  pub v1 : IsReadAxis inner (codes "intruder_rate") IntruderRate a.v1

pub axes_ok : (doc : Members) (a : Axes) → axes_of doc ≡ Ok a → IsReadAxes doc a
unfolding axes_of grid_table
axes_ok doc a e =
    let g = bind_ok (grid_table doc) _ a e in
    let h = bind_ok (axis_at g.0 (codes "altitude") Altitude) _ a g.2 in
    let v0 = bind_ok (axis_at g.0 (codes "own_rate") OwnRate) _ a h.2 in
    let v1 = bind_ok (axis_at g.0 (codes "intruder_rate") IntruderRate) _ a v0.2 in
    let made : Axes = record { h = h.0; v0 = v0.0; v1 = v1.0 } in
    let same : made ≡ a = same_ok {E = ModelFault} _ _ v1.2 in
    subst (IsReadAxes doc) same (record {
      inner = g.0;
      is_table = table_ok doc (codes "grid") (codes "altitude own_rate intruder_rate") g.0 g.1;
      h = axis_at_ok g.0 (codes "altitude") Altitude h.0 h.1;
      v0 = axis_at_ok g.0 (codes "own_rate") OwnRate v0.0 v0.1;
      v1 = axis_at_ok g.0 (codes "intruder_rate") IntruderRate v1.0 v1.1;
    })
