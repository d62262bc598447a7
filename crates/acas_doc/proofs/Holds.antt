-- The rules of a getter pass exactly where the key holds a value of the kind that is wanted, within its range.
use Rattle.std.proofs.Common.{◌≡◌, ℕ, ◌≤◌, Bool, true, false, T, ◌&&◌, List, [], ◌∷◌, length, ℤ, pos, ◌≤ℤ◌, int_le, nat_le, Option, Some, None, Result, Ok, Err, refl, sym, subst, ap, ◌∙◌, inl, inr}
use Rattle.std.proofs.lemmas.Bool.{cases_Bool, and_parts, leb-true, le-leb, false≢true}
use Rattle.std.proofs.lemmas.Option.{same_Some}
use Rattle.toml.specs.Data.{Data, Items, no_items, item, Members, integer, string, array, table, get_member, as_integer, as_str, as_array, as_table}
use Rattle.toml.specs.Data as datum
use Rattle.toml.specs.View.{items_of}
use Rattle.acas_spec.specs.Steps.{◌>>◌, fault_as}
use Rattle.acas_spec.proofs.Each.{bind_ok, same_ok}
use Rattle.acas_doc.specs.declared.fault.DocKind.{DocKind}
use Rattle.acas_doc.specs.declared.fault.DocKind.TheVariants.{Missing, WrongKind, OutOfRange}
use Rattle.acas_doc.specs.Values.{or_fault, in_range, whole_of, text_of, table_of, items_list, length_in_range, sized, list_of}
use Rattle.acas_doc.specs.Keys.{found, whole_at, text_at, table_at, list_at, whole_item, text_item, table_item}

-- ---- tests

is_true : (b : Bool) → T b → b ≡ true
is_true true h = refl
is_true false h = absurd h

holds_true : (b : Bool) → b ≡ true → T b
holds_true true e = tt
holds_true false e = absurd (false≢true e)

pub int_le-true : (a b : ℤ) → int_le a b ≡ true → a ≤ℤ b
int_le-true a b e = record { le = holds_true (int_le a b) e }

pub true-int_le : (a b : ℤ) → a ≤ℤ b → int_le a b ≡ true
true-int_le a b h = is_true (int_le a b) h.le

-- ---- steps that did not fail

pub fault_as_ok : {A E F : Type 0} (f : E → F) (r : Result A E) (x : A) → fault_as f r ≡ Ok x → r ≡ Ok x
fault_as_ok {A} {E} {F} f (Ok y) x e = ap Ok (same_ok {E = F} y x e)
fault_as_ok f (Err d) x e = absurd cc

pub or_fault_ok : {A E : Type 0} (fault : E) (o : Option A) (x : A) → or_fault fault o ≡ Ok x → o ≡ Some x
or_fault_ok fault None x e = absurd cc
or_fault_ok {A} {E} fault (Some y) x e = ap Some (same_ok {E = E} y x e)

-- ---- one kind of value

is_integer : (d : Data) (z : ℤ) → as_integer d ≡ Some z → d ≡ integer z
is_integer (datum.string s) z e = absurd cc
is_integer (datum.integer y) z e = ap integer (same_Some y z e)
is_integer (datum.float x) z e = absurd cc
is_integer (datum.boolean b) z e = absurd cc
is_integer (datum.datetime t) z e = absurd cc
is_integer (datum.array ds) z e = absurd cc
is_integer (datum.table ms) z e = absurd cc

is_string : (d : Data) (s : List ℕ) → as_str d ≡ Some s → d ≡ string s
is_string (datum.string t) s e = ap string (same_Some t s e)
is_string (datum.integer y) s e = absurd cc
is_string (datum.float x) s e = absurd cc
is_string (datum.boolean b) s e = absurd cc
is_string (datum.datetime t) s e = absurd cc
is_string (datum.array ds) s e = absurd cc
is_string (datum.table ms) s e = absurd cc

is_array : (d : Data) (ds : Items) → as_array d ≡ Some ds → d ≡ array ds
is_array (datum.string t) ds e = absurd cc
is_array (datum.integer y) ds e = absurd cc
is_array (datum.float x) ds e = absurd cc
is_array (datum.boolean b) ds e = absurd cc
is_array (datum.datetime t) ds e = absurd cc
is_array (datum.array es) ds e = ap array (same_Some es ds e)
is_array (datum.table ms) ds e = absurd cc

is_table : (d : Data) (ms : Members) → as_table d ≡ Some ms → d ≡ table ms
is_table (datum.string t) ms e = absurd cc
is_table (datum.integer y) ms e = absurd cc
is_table (datum.float x) ms e = absurd cc
is_table (datum.boolean b) ms e = absurd cc
is_table (datum.datetime t) ms e = absurd cc
is_table (datum.array es) ms e = absurd cc
is_table (datum.table ns) ms e = ap table (same_Some ns ms e)

in_range_ok : (least greatest z x : ℤ) → in_range least greatest z ≡ Ok x → (z ≡ x) × (least ≤ℤ x) × (x ≤ℤ greatest)
in_range_ok least greatest z x e =
    elim (cases_Bool (int_le least z && int_le z greatest)) [
      | inl within ↦
          let same : z ≡ x = same_ok {E = DocKind} z x (rw within at e) in
          let both = and_parts (int_le least z) (int_le z greatest) within in
          (same, subst (λ y. least ≤ℤ y) same (int_le-true least z both.0), subst (λ y. y ≤ℤ greatest) same (int_le-true z greatest both.1))
      | inr outside ↦ absurd (failed (OutOfRange z least greatest) x (rw outside at e))
    ]
  where
    failed : (kind : DocKind) (x : ℤ) → ◌≡◌ {A = Result ℤ DocKind} (Err kind) (Ok x) → ⊥
    failed kind x e = cc

in_range_passes : (least greatest z : ℤ) → least ≤ℤ z → z ≤ℤ greatest → in_range least greatest z ≡ Ok z
in_range_passes least greatest z low high = rw (true-int_le least z low, true-int_le z greatest high) refl

whole_of_ok : (least greatest : ℤ) (d : Data) (z : ℤ) → whole_of least greatest d ≡ Ok z → (d ≡ integer z) × (least ≤ℤ z) × (z ≤ℤ greatest)
whole_of_ok least greatest d z e =
    let b = bind_ok (or_fault WrongKind (as_integer d)) (in_range least greatest) z e in
    let r = in_range_ok least greatest b.0 z b.2 in
    (is_integer d z (or_fault_ok WrongKind (as_integer d) b.0 b.1 ∙ ap Some r.0), r.1, r.2)

text_of_ok : (d : Data) (s : List ℕ) → text_of d ≡ Ok s → d ≡ string s
text_of_ok d s e = is_string d s (or_fault_ok WrongKind (as_str d) s e)

table_of_ok : (d : Data) (ms : Members) → table_of d ≡ Ok ms → d ≡ table ms
table_of_ok d ms e = is_table d ms (or_fault_ok WrongKind (as_table d) ms e)

-- ---- lists

items_of-items_list : (ds : Items) → items_of (items_list ds) ≡ ds
items_of-items_list no_items = refl
items_of-items_list (item d ds) = ap (item d) (items_of-items_list ds)

items_list-items_of : (ds : List Data) → items_list (items_of ds) ≡ ds
items_list-items_of [] = refl
items_list-items_of (d ∷ ds) = ap (λ es. d ∷ es) (items_list-items_of ds)

length_in_range_ok : (least greatest n : ℕ) → length_in_range least greatest n ≡ Ok tt → (least ≤ n) × (n ≤ greatest)
length_in_range_ok least greatest n e =
    elim (cases_Bool (nat_le least n && nat_le n greatest)) [
      | inl within ↦
          let both = and_parts (nat_le least n) (nat_le n greatest) within in
          (leb-true least n both.0, leb-true n greatest both.1)
      | inr outside ↦ absurd (failed (OutOfRange (pos n) (pos least) (pos greatest)) (rw outside at e))
    ]
  where
    failed : (kind : DocKind) → ◌≡◌ {A = Result (Unit {0}) DocKind} (Err kind) (Ok tt) → ⊥
    failed kind e = cc

pub length_in_range_passes : (least greatest n : ℕ) → least ≤ n → n ≤ greatest → length_in_range least greatest n ≡ Ok tt
length_in_range_passes least greatest n low high = rw (le-leb least n low, le-leb n greatest high) refl

after_ok : {A E : Type 0} (u : Result (Unit {0}) E) (r : Result A E) (x : A) → (u >> r) ≡ Ok x → (u ≡ Ok tt) × (r ≡ Ok x)
after_ok (Ok y) r x e = (refl, e)
after_ok (Err d) r x e = absurd cc

list_of_ok : (least greatest : ℕ) (d : Data) (ds : List Data) → list_of least greatest d ≡ Ok ds → (d ≡ array (items_of ds)) × (least ≤ length ds) × (length ds ≤ greatest)
list_of_ok least greatest d ds e =
    let b = bind_ok (or_fault WrongKind (as_array d)) (λ es. sized least greatest (items_list es)) ds e in
    let sized_ok = after_ok (length_in_range least greatest (length (items_list b.0))) (Ok (items_list b.0)) ds b.2 in
    let same : items_list b.0 ≡ ds = same_ok {E = DocKind} _ _ sized_ok.1 in
    let within = length_in_range_ok least greatest (length (items_list b.0)) sized_ok.0 in
    (is_array d (items_of ds) (or_fault_ok WrongKind (as_array d) b.0 b.1 ∙ ap Some (sym (items_of-items_list b.0) ∙ ap items_of same)), subst (λ es. least ≤ length es) same within.0, subst (λ es. length es ≤ greatest) same within.1)

list_of_passes : (least greatest : ℕ) (ds : List Data) → least ≤ length ds → length ds ≤ greatest → list_of least greatest (array (items_of ds)) ≡ Ok ds
list_of_passes least greatest ds low high = rw (items_list-items_of ds, length_in_range_passes least greatest (length ds) low high) refl

-- ---- at a key

found_ok : (ms : Members) (key : List ℕ) (d : Data) → found ms key ≡ Ok d → get_member key ms ≡ Some d
found_ok ms key d e = or_fault_ok Missing (get_member key ms) d e

pub whole_at_ok : (ms : Members) (path key : List ℕ) (least greatest z : ℤ) → whole_at ms path key least greatest ≡ Ok z
    → (get_member key ms ≡ Some (integer z)) × (least ≤ℤ z) × (z ≤ℤ greatest)
unfolding whole_at
whole_at_ok ms path key least greatest z e =
    let b = bind_ok (found ms key) (whole_of least greatest) z (fault_as_ok _ _ z e) in
    let w = whole_of_ok least greatest b.0 z b.2 in
    (found_ok ms key b.0 b.1 ∙ ap Some w.0, w.1, w.2)

pub whole_at_passes : (ms : Members) (path key : List ℕ) (least greatest z : ℤ) → get_member key ms ≡ Some (integer z) → least ≤ℤ z → z ≤ℤ greatest
    → whole_at ms path key least greatest ≡ Ok z
unfolding whole_at
whole_at_passes ms path key least greatest z e low high = rw (e, in_range_passes least greatest z low high) refl

pub text_at_ok : (ms : Members) (path key s : List ℕ) → text_at ms path key ≡ Ok s → get_member key ms ≡ Some (string s)
unfolding text_at
text_at_ok ms path key s e =
    let b = bind_ok (found ms key) text_of s (fault_as_ok _ _ s e) in
    found_ok ms key b.0 b.1 ∙ ap Some (text_of_ok b.0 s b.2)

pub text_at_passes : (ms : Members) (path key s : List ℕ) → get_member key ms ≡ Some (string s) → text_at ms path key ≡ Ok s
unfolding text_at
text_at_passes ms path key s e = rw e refl

pub table_at_ok : (ms : Members) (path key : List ℕ) (t : Members) → table_at ms path key ≡ Ok t → get_member key ms ≡ Some (table t)
unfolding table_at
table_at_ok ms path key t e =
    let b = bind_ok (found ms key) table_of t (fault_as_ok _ _ t e) in
    found_ok ms key b.0 b.1 ∙ ap Some (table_of_ok b.0 t b.2)

pub table_at_passes : (ms : Members) (path key : List ℕ) (t : Members) → get_member key ms ≡ Some (table t) → table_at ms path key ≡ Ok t
unfolding table_at
table_at_passes ms path key t e = rw e refl

pub list_at_ok : (ms : Members) (path key : List ℕ) (least greatest : ℕ) (ds : List Data) → list_at ms path key least greatest ≡ Ok ds
    → (get_member key ms ≡ Some (array (items_of ds))) × (least ≤ length ds) × (length ds ≤ greatest)
unfolding list_at
list_at_ok ms path key least greatest ds e =
    let b = bind_ok (found ms key) (list_of least greatest) ds (fault_as_ok _ _ ds e) in
    let l = list_of_ok least greatest b.0 ds b.2 in
    (found_ok ms key b.0 b.1 ∙ ap Some l.0, l.1, l.2)

pub list_at_passes : (ms : Members) (path key : List ℕ) (least greatest : ℕ) (ds : List Data) → get_member key ms ≡ Some (array (items_of ds)) → least ≤ length ds → length ds ≤ greatest
    → list_at ms path key least greatest ≡ Ok ds
unfolding list_at
list_at_passes ms path key least greatest ds e low high = rw (e, list_of_passes least greatest ds low high) refl

-- ---- an item of a list

pub whole_item_ok : (path : List ℕ) (place : ℕ) (least greatest : ℤ) (d : Data) (z : ℤ) → whole_item path place least greatest d ≡ Ok z → (d ≡ integer z) × (least ≤ℤ z) × (z ≤ℤ greatest)
unfolding whole_item
whole_item_ok path place least greatest d z e = whole_of_ok least greatest d z (fault_as_ok _ _ z e)

pub whole_item_passes : (path : List ℕ) (place : ℕ) (least greatest z : ℤ) → least ≤ℤ z → z ≤ℤ greatest → whole_item path place least greatest (integer z) ≡ Ok z
unfolding whole_item
whole_item_passes path place least greatest z low high = rw (in_range_passes least greatest z low high) refl

pub text_item_ok : (path : List ℕ) (place : ℕ) (d : Data) (s : List ℕ) → text_item path place d ≡ Ok s → d ≡ string s
unfolding text_item
text_item_ok path place d s e = text_of_ok d s (fault_as_ok _ _ s e)

pub text_item_passes : (path : List ℕ) (place : ℕ) (s : List ℕ) → text_item path place (string s) ≡ Ok s
unfolding text_item
text_item_passes path place s = refl

pub table_item_ok : (path : List ℕ) (place : ℕ) (d : Data) (t : Members) → table_item path place d ≡ Ok t → d ≡ table t
unfolding table_item
table_item_ok path place d t e = table_of_ok d t (fault_as_ok _ _ t e)

pub table_item_passes : (path : List ℕ) (place : ℕ) (t : Members) → table_item path place (table t) ≡ Ok t
unfolding table_item
table_item_passes path place t = refl
