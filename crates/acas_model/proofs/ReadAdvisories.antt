-- The advisories that a document says.
use Rattle.std.proofs.Common.{◌≡◌, ◌≢◌, ℕ, ◌<◌, true, false, IsTrue, List, [], length, map, take, get_or, codes, pos, int_le, Bool, if◌then◌else◌, None, bytes_eq, Ok, Err, refl, sym, subst, ◌∙◌, arith}
use Rattle.std.specs.List.{list_any}
use Rattle.std.proofs.lemmas.Bool.{false≢true}
use Rattle.std.proofs.lemmas.List.{get_or-map, get_or-take, length-map, length-take}
use Rattle.std.proofs.lemmas.Slice.Eq.{bytes_eq-Decides}
use Rattle.toml.specs.Data.{Data, Members, boolean, table}
use Rattle.acas_units.specs.declared.limits.TheConstants.{LEAST_RATE, GREATEST_RATE}
use Rattle.acas_spec.specs.Limits.{is_name, IsAdvisory, AreDistinct}
use Rattle.acas_spec.specs.declared.parts.Advisory.{Advisory}
use Rattle.acas_spec.proofs.Each.{bind_ok, same_ok}
use Rattle.acas_doc.specs.declared.fault.DocKind.TheVariants.{WrongKind}
use Rattle.acas_doc.specs.Keys.{text_at, whole_at, table_item}
use Rattle.acas_doc.specs.Known.{only_known}
use Rattle.acas_doc.specs.Paths.{key_path, item_path}
use Rattle.acas_doc.proofs.Holds.{fault_as_ok, text_at_ok, whole_at_ok, table_item_ok, int_le-true}
use Rattle.acas_model.specs.declared.fault.ModelFault.{ModelFault}
use Rattle.acas_model.specs.declared.fault.ModelFault.TheVariants.{Doc, Interval, RepeatedName}
use Rattle.acas_model.specs.Document.{in_doc}
use Rattle.acas_model.specs.Advisories.{name_at, advisory_of, advisory_item, advisory_items, new_name, distinct}
use Rattle.acas_model.specs.Text.{HasOnly, HoldsText, HoldsWhole}
use Rattle.acas_model.proofs.Places.{ReadAt, each_places, none_at, same_lists}
use Rattle.acas_model.proofs.ReadNumbers.{step_ok, only_ok}

-- a test that gave its answer
pub test_ok : {A : Type 0} (b : Bool) (x y : A) (f : ModelFault) → (if b then Ok x else Err f) ≡ Ok y → (b ≡ true) × (x ≡ y)
test_ok true x y f e = (refl, same_ok {E = ModelFault} x y e)
test_ok false x y f e = absurd cc

-- a test that passed where nothing passed
pub untest_ok : {A : Type 0} (b : Bool) (x y : A) (f : ModelFault) → (if b then Err f else Ok x) ≡ Ok y → (b ≡ false) × (x ≡ y)
untest_ok true x y f e = absurd cc
untest_ok false x y f e = (refl, same_ok {E = ModelFault} x y e)

name_ok : (t : Members) (path name : List ℕ) → name_at t path ≡ Ok name → HoldsText t (codes "name") name × IsTrue (is_name name)
unfolding name_at
name_ok t path name e =
    let b = bind_ok (in_doc (text_at t path (codes "name"))) _ name e in
    let holds = text_at_ok t path (codes "name") b.0 (fault_as_ok _ _ b.0 b.1) in
    let passed = test_ok (is_name b.0) b.0 name (Doc (record { key = key_path path (codes "name"); kind = WrongKind })) b.2 in
    (subst (HoldsText t (codes "name")) passed.1 holds, subst (λ n. IsTrue (is_name n)) passed.1 passed.0)

-- the table of an advisory
pub record IsReadAdvisory (t : Members) (a : Advisory) : Type 0 where
  pub keys : HasOnly (codes "name lo hi choices costs") t
  pub name : HoldsText t (codes "name") a.name
  pub lo : HoldsWhole t (codes "lo") a.lo
  pub hi : HoldsWhole t (codes "hi") a.hi
  pub is_advisory : IsAdvisory a

advisory_ok : (t : Members) (path : List ℕ) (place : ℕ) (a : Advisory) → advisory_of t path place ≡ Ok a → IsReadAdvisory t a
unfolding advisory_of
advisory_ok t path place a e =
    let k = step_ok (in_doc (only_known path (codes "name lo hi choices costs") t)) _ a e in
    let n = bind_ok (name_at t path) _ a k.1 in
    let lo = bind_ok (in_doc (whole_at t path (codes "lo") LEAST_RATE GREATEST_RATE)) _ a n.2 in
    let hi = bind_ok (in_doc (whole_at t path (codes "hi") LEAST_RATE GREATEST_RATE)) _ a lo.2 in
    let made : Advisory = record { name = n.0; lo = lo.0; hi = hi.0 } in
    let passed = test_ok (int_le lo.0 hi.0) made a (Interval place) hi.2 in
    let name = name_ok t path n.0 n.1 in
    let low = whole_at_ok t path (codes "lo") LEAST_RATE GREATEST_RATE lo.0 (fault_as_ok _ _ lo.0 lo.1) in
    let high = whole_at_ok t path (codes "hi") LEAST_RATE GREATEST_RATE hi.0 (fault_as_ok _ _ hi.0 hi.1) in
    subst (IsReadAdvisory t) passed.1 (record {
      keys = only_ok path (codes "name lo hi choices costs") t k.0;
      name = name.0;
      lo = low.0;
      hi = high.0;
      is_advisory = record { name = name.1; low = low.1; rising = int_le-true lo.0 hi.0 passed.0; high = high.2 };
    })

-- an item that is such a table
pub record IsReadAdvisoryItem (d : Data) (a : Advisory) : Type 0 where
  pub inner : Members
  pub there : d ≡ table inner
  pub says : IsReadAdvisory inner a

advisory_item_ok : (place : ℕ) (d : Data) (a : Advisory) → advisory_item place d ≡ Ok a → IsReadAdvisoryItem d a
unfolding advisory_item
advisory_item_ok place d a e =
    let b = bind_ok (in_doc (table_item (codes "advisory") place d)) _ a e in
    record {
      inner = b.0;
      there = table_item_ok (codes "advisory") place d b.0 (fault_as_ok _ _ b.0 b.1);
      says = advisory_ok b.0 (item_path (codes "advisory") place) place a b.2;
    }

-- the advisory where there is none
abbrev pub no_advisory : Advisory
no_advisory = record { name = []; lo = pos 0; hi = pos 0 }

pub record AreReadAdvisories (ds : List Data) (advisories : List Advisory) : Type 0 where
  pub long : length advisories ≡ length ds
  pub at : (k : ℕ) → k < length ds → IsReadAdvisoryItem (get_or ds k (boolean false)) (get_or advisories k no_advisory)

pub advisories_ok : (ds : List Data) (advisories : List Advisory) → advisory_items ds ≡ Ok advisories → AreReadAdvisories ds advisories
unfolding advisory_items
advisories_ok ds advisories e =
    let r = each_places (λ before d. advisory_item (length before) d) advisories ds (boolean false) no_advisory e in
    record { long = r.long; at = λ k within. advisory_item_ok (length (take k advisories)) _ _ (r.at k within) }

new_name_ok : (before : List Advisory) (a b : Advisory) → new_name before a ≡ Ok b → (list_any (λ c. bytes_eq c.name a.name) before ≡ false) × (a ≡ b)
unfolding new_name
new_name_ok before a b e = untest_ok (list_any (λ c. bytes_eq c.name a.name) before) a b (RepeatedName (record { advisory = length before; choice = None })) e

pub names_ok : (advisories given : List Advisory) → distinct advisories ≡ Ok given → AreDistinct [] (map (λ a. a.name) advisories)
unfolding distinct
names_ok advisories given e = record { apart = λ i j above within same. apart i j above (omega (arith, within, length-map advisories (λ a. a.name))) same }
  where
    read : ReadAt new_name [] advisories given no_advisory no_advisory
    read = each_places new_name given advisories no_advisory no_advisory e

    all : given ≡ advisories
    all = sym (same_lists advisories given no_advisory (sym read.long) (λ k within. (new_name_ok (take k given) _ _ (read.at k within)).1))

    apart : (i j : ℕ) → i < j → j < length advisories → get_or (map (λ a. a.name) advisories) i [] ≢ get_or (map (λ a. a.name) advisories) j []
    apart i j above within same =
        let before = subst (λ xs. list_any (λ c. bytes_eq c.name (get_or advisories j no_advisory).name) (take j xs) ≡ false) all (new_name_ok (take j given) _ _ (read.at j within)).0 in
        let other = none_at (λ c. bytes_eq c.name (get_or advisories j no_advisory).name) (take j advisories) i no_advisory before (omega (arith, above, within, length-take j advisories)) in
        let at_i = get_or-map (λ a. a.name) advisories i no_advisory [] (omega (arith, above, within)) in
        let at_j = get_or-map (λ a. a.name) advisories j no_advisory [] within in
        let names : (get_or advisories i no_advisory).name ≡ (get_or advisories j no_advisory).name = sym at_i ∙ same ∙ at_j in
        let taken : bytes_eq (get_or advisories i no_advisory).name (get_or advisories j no_advisory).name ≡ false = rw (get_or-take j advisories i no_advisory above) at other in
        false≢true (sym taken ∙ (bytes_eq-Decides _ _).1 names)
