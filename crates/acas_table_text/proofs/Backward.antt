-- Bytes without fault are the text of their layers.
use Rattle.std.proofs.Common.{◌≡◌, ℕ, zero, suc, ◌+◌, ◌-◌, ◌*◌, ◌/◌, ◌<◌, ◌≤◌, Bool, true, false, cond, ltb, List, [], ◌∷◌, ◌++◌, length, get_or, take, drop, map, Option, None, Some, refl, sym, ◌∙◌, ap, subst, arith, w64, to_z, of_z, inl, inr}
use Rattle.std.proofs.lemmas.Nat.{div-mul-add, le_bytes_4, le_bytes_8, mul-le}
use Rattle.std.proofs.lemmas.Int.{of_z-to_z}
use Rattle.std.proofs.lemmas.Bool.{cases_lt, ltb-false, eqb-true}
use Rattle.std.proofs.lemmas.List.{get_or-take, get_or-drop, get_or_past, length-take, take_all, drop_more}
use Rattle.std.proofs.lemmas.Slice.Eq.{bytes_eq-Decides}
use Rattle.std.specs.Prelude.{codes, slice_index}
use Rattle.std.specs.List.{flat_map, range_with_len}
use Rattle.sha2.specs.Sha256.{sha256}
use Rattle.byteorder.specs.Endian.{little_bytes, little_number}
use Rattle.byteorder.specs.Numbers.{little_from-lt}
use Rattle.acas_outside.specs.Bytes.{IsBytes}
use Rattle.acas_units.specs.declared.pair.Entry.{Entry}
use Rattle.acas_table_text.specs.Shape.{IsShape, entry_count}
use Rattle.acas_table_text.specs.Format.{digest_start, ended_group, entry_start, format_of, group_size, hashed_from, last_group, length_of, part}
use Rattle.acas_table_text.specs.Text.{chain, entry_of, entry_text, header, layer_text, text_of_layers}
use Rattle.acas_table_text.specs.Faults.{advice_fault, end_fault, fault_at, fault_in, field_fault, fields_fault, first_below, first_fault, header_fields, model_fields, more_fault, unless, width_of, widths}
use Rattle.acas_table_text.specs.Tables.{layers_at}
use Rattle.acas_table_text.specs.declared.format.Format.{Format}
use Rattle.acas_table_text.specs.declared.format.Format.TheVariants.{Layered, Whole}
use Rattle.acas_table_text.specs.declared.shape.TableShape.{TableShape}
use Rattle.acas_table_text.specs.declared.fault.TableFault.{TableFault}
use Rattle.acas_table_text.specs.declared.field.Field.{Field}
use Rattle.acas_table_text.specs.declared.field.Field.TheVariants as fields
use Rattle.acas_table_text.proofs.Parts.{length-part, part-join}
use Rattle.acas_table_text.proofs.Nones.{each_none, first_none}
use Rattle.acas_table_text.proofs.Fields.{field_text, header_is}
use Rattle.acas_table_text.proofs.Formats.{bytes_as, digest_as, ended_as, entry_as, entry_behind, faults_as, first_is, format_long, hashed_part, header_as, more_none, tail_as, version_is}
use Rattle.acas_table_text.proofs.Groups.{all_groups, ended-at, some_group}
use Rattle.acas_table_text.proofs.Given.{entry_in, group_in, groups_given, groups_in}

number_is : (bs : List ℕ) → length bs ≡ 4 → ((i : ℕ) → get_or bs i 0 < 256) → little_bytes 4 (little_number 4 bs) ≡ bs
number_is bs long small = le_bytes_4 bs (little_number 4 bs) long small (omega arith)

pub value_is : (bs : List ℕ) → length bs ≡ 8 → ((i : ℕ) → get_or bs i 0 < 256) → little_bytes 8 (of_z w64 (to_z w64 (little_number 8 bs))) ≡ bs
value_is bs long small =
    ap (λ (n : ℕ). little_bytes 8 n) (of_z-to_z w64 (little_number 8 bs) (omega (arith, little_from-lt 0 8 bs small)))
    ∙ le_bytes_8 bs (little_number 8 bs) long small (omega arith)

pub small_part : (t : List ℕ) (at n : ℕ) → IsBytes t → (i : ℕ) → get_or (part t at n) i 0 < 256
small_part t at n small i =
    elim (cases_lt i n) [
      | inl lt ↦ rw (get_or-take n (drop at t) i 0 lt, get_or-drop at t i 0) (small (at + i))
      | inr le ↦ rw (get_or_past (part t at n) i 0 (omega (arith, length-take n (drop at t)))) (omega arith)
    ]

-- a field without fault is there, and passes its check
pub record Good (t : List ℕ) (at n : ℕ) (check : List ℕ → Option TableFault) : Type 0 where
  pub there : at + n ≤ length t
  pub passes : check (part t at n) ≡ None

not_short : (b : Bool) (fault : TableFault) → cond b (Some fault) None ≡ None → b ≡ false
not_short true fault e = absurd (cc e)
not_short false fault e = refl

pub good : (e : ℕ) (t : List ℕ) (at n : ℕ) (check : List ℕ → Option TableFault) → field_fault e t at n check ≡ None → Good t at n check
good e t at n check none =
    let a = first_none (end_fault e t at n) (check (part t at n) ∷ []) none in
    let b = first_none (check (part t at n)) [] a.1 in
    record { there = ltb-false _ _ (not_short (ltb (length t) (at + n)) _ a.0); passes = b.0 }

pub passed_if : (b : Bool) (fault : TableFault) → unless b fault ≡ None → b ≡ true
passed_if true fault e = refl
passed_if false fault e = absurd (cc e)

number_part : (t : List ℕ) (at number : ℕ) → IsBytes t → at + 4 ≤ length t → little_number 4 (part t at 4) ≡ number → part t at 4 ≡ little_bytes 4 number
number_part t at number small there same =
    sym (number_is (part t at 4) (length-part t at 4 there) (small_part t at 4 small)) ∙ ap (λ (n : ℕ). little_bytes 4 n) same

glue : (t x y : List ℕ) (k n : ℕ) → part t 0 k ≡ x → part t k n ≡ y → part t 0 (k + n) ≡ x ++ y
glue t x y k n front next = sym (part-join t 0 k n) ∙ ap (λ (l : List ℕ). l ++ part t (0 + k) n) front ∙ ap (λ (j : ℕ). x ++ part t j n) (omega arith) ∙ ap (λ (l : List ℕ). x ++ l) next

-- the version is that of the format in which bytes are read
version_good : (e : ℕ) (t : List ℕ) → IsBytes t → fault_at e 4 fields.Version t ≡ None → part t 4 4 ≡ field_text (format_of t) fields.Version
version_good e t small none =
    let g = good e t 4 4 (fault_in fields.Version) none in
    subst (λ (h : Format). part t 4 4 ≡ field_text h fields.Version) (sym (format_long t (omega (arith, g.there))))
    (number_part t 4 _ small g.there (version_is (little_number 4 (part t 4 4)) g.passes))

-- the bytes of a field without fault are its own, whatever the format
abbrev IsKnown : Field → Type 0
IsKnown field = (f : Format) (e at : ℕ) (t : List ℕ) → IsBytes t → fault_at e at field t ≡ None → part t at (width_of field) ≡ field_text f field

abbrev AreKnown : List Field → Type 0
AreKnown [] = Unit {0}
AreKnown (field ∷ rest) = IsKnown field × AreKnown rest

model_good : (digest : List ℕ) → IsKnown (fields.Model digest)
model_good digest f e at t small none = (bytes_eq-Decides (part t at 32) digest).0 (passed_if _ _ (good e t at 32 (fault_in (fields.Model digest)) none).passes)

number_good : (place expected : ℕ) → IsKnown (fields.Number place expected)
number_good place expected f e at t small none =
    let g = good e t at 4 (fault_in (fields.Number place expected)) none in number_part t at expected small g.there (eqb-true _ expected (passed_if _ _ g.passes))

-- one field, and those behind it
field_more : (f : Format) (e at : ℕ) (field : Field) (rest : List Field) (t : List ℕ) → fields_fault e at (field ∷ rest) t ≡ None
    → (fault_at e at field t ≡ None → part t at (width_of field) ≡ field_text f field)
    → (fields_fault e (at + width_of field) rest t ≡ None → part t (at + width_of field) (widths rest) ≡ flat_map (field_text f) rest)
    → part t at (widths (field ∷ rest)) ≡ flat_map (field_text f) (field ∷ rest)
field_more f e at field rest t none here behind =
    let w = width_of field in
    let a = first_none (fault_at e at field t) (fields_fault e (at + w) rest t ∷ []) none in
    let b = first_none (fields_fault e (at + w) rest t) [] a.1 in
    sym (part-join t at w (widths rest))
    ∙ ap (λ (l : List ℕ). l ++ part t (at + w) (widths rest)) (here a.0)
    ∙ ap (λ (l : List ℕ). field_text f field ++ l) (behind b.0)

magic_good : (f : Format) (e : ℕ) (t : List ℕ) → fault_at e 0 fields.Magic t ≡ None → part t 0 4 ≡ field_text f fields.Magic
magic_good f e t none = (bytes_eq-Decides (part t 0 4) (codes "ACXT")).0 (passed_if _ _ (good e t 0 4 (fault_in fields.Magic) none).passes)

fields_good : (f : Format) (e at : ℕ) (all : List Field) (t : List ℕ) → AreKnown all → IsBytes t → fields_fault e at all t ≡ None → part t at (widths all) ≡ flat_map (field_text f) all
fields_good f e at [] t known small none = refl
fields_good f e at (field ∷ rest) t known small none =
    field_more f e at field rest t none (known.0 f e at t small) (fields_good f e (at + width_of field) rest t known.1 small)

models_known : (model : List ℕ) (s : TableShape) → AreKnown (model_fields model s)
unfolding model_fields
models_known model s =
    (model_good model, (number_good 0 s.altitudes, (number_good 1 s.own_rates, (number_good 2 s.intruder_rates, (number_good 3 s.advisories, (number_good 4 s.horizon, tt))))))

header_good : (e : ℕ) (model : List ℕ) (s : TableShape) (t : List ℕ) → IsBytes t → fields_fault e 0 (header_fields model s) t ≡ None → part t 0 60 ≡ header (format_of t) model s
unfolding model_fields
header_good e model s t small none =
    let f = format_of t in
    field_more f e 0 fields.Magic (fields.Version ∷ model_fields model s) t none (magic_good f e t) (λ after.
    field_more f e 4 fields.Version (model_fields model s) t after (version_good e t small) (fields_good f e 8 (model_fields model s) t (models_known model s) small))
    ∙ sym (header_is f model s)

byte_part : (f : List ℕ) (i : ℕ) → i < length f → part f i 1 ≡ slice_index f i ∷ []
byte_part f i within = ap (λ (l : List ℕ). take 1 l) (drop_more f i 0 within)

entry_back : (field : List ℕ) → length field ≡ 17 → IsBytes field → entry_text (entry_of field) ≡ field
unfolding entry_text entry_of
entry_back field long small =
    let upper = value_is (part field 0 8) (length-part field 0 8 (omega arith)) (small_part field 0 8 small) in
    let lower = value_is (part field 8 8) (length-part field 8 8 (omega arith)) (small_part field 8 8 small) in
    let both = glue field _ _ 8 8 (sym upper) (sym lower) in
    sym (glue field _ _ 16 1 both (byte_part field 16 (omega arith))) ∙ take_all 17 field (omega arith)

-- ---- what bytes without fault have

pub record FaultFree (f : Format) (model : List ℕ) (s : TableShape) (t : List ℕ) : Type 0 where
  pub header : header_as f model s t ≡ None
  pub entries : (i : ℕ) → i < entry_count s → entry_as f s t i ≡ None
  pub last : digest_as f s t (last_group f s) ≡ None
  pub most : length t ≤ length_of f s

pub fault_free : (f : Format) (model : List ℕ) (s : TableShape) (t : List ℕ) → faults_as f model s t ≡ None → FaultFree f model s t
fault_free f model s t none =
    let e = length_of f s in
    let k = last_group f s in
    let entries = first_below (entry_as f s t) (entry_count s) in
    let a = first_none (header_as f model s t) (entries ∷ tail_as f s t ∷ []) none in
    let b = first_none entries (tail_as f s t ∷ []) a.1 in
    let c = first_none (tail_as f s t) [] b.1 in
    let d = first_none (digest_as f s t k) (more_fault e t ∷ []) c.0 in
    let r = first_none (more_fault e t) [] d.1 in
    record { header = a.0; entries = λ i within. each_none (entry_as f s t) (entry_count s) i b.0 within; last = d.0; most = more_none e t r.0 }

-- the bytes of an entry are its text
entry_good : (f : Format) (s : TableShape) (t : List ℕ) (i : ℕ) → IsBytes t → entry_as f s t i ≡ None → part t (entry_start f s i) 17 ≡ entry_text (entry_in f s t i)
entry_good f s t i small none =
    let at = entry_start f s i in
    let check = λ (field : List ℕ). advice_fault s i (entry_of field).advice in
    let behind = first_none (ended_as f s t (ended_group f s i)) (bytes_as f s t i ∷ []) none in
    let field = first_none (bytes_as f s t i) [] behind.1 in
    let g = good (length_of f s) t at 17 check field.0 in
    sym (entry_back (part t at 17) (length-part t at 17 g.there) (small_part t at 17 small))

-- the bytes of a digest are that digest
digest_good : (f : Format) (s : TableShape) (t : List ℕ) (k : ℕ) → digest_as f s t k ≡ None → part t (digest_start f s k) 32 ≡ sha256 (hashed_part f s t k)
digest_good Whole s t k none =
    let computed = sha256 (hashed_part Whole s t k) in
    let at = digest_start Whole s k in
    (bytes_eq-Decides (part t at 32) computed).0 (passed_if _ _ (good (length_of Whole s) t at 32 (fault_in (fields.Digest computed)) none).passes)
digest_good Layered s t k none =
    let computed = sha256 (hashed_part Layered s t k) in
    let at = digest_start Layered s k in
    (bytes_eq-Decides (part t at 32) computed).0 (passed_if _ _ (good (length_of Layered s) t at 32 (fault_in (fields.LayerDigest k computed)) none).passes)

-- each digest is without fault: those of the groups that end before an entry, and the last
digest_none : (f : Format) (model : List ℕ) (s : TableShape) (t : List ℕ) (k : ℕ) → IsShape s → FaultFree f model s t → k < last_group f s + 1 → digest_as f s t k ≡ None
digest_none f model s t k shape free there =
    let g = group_size f s in
    let i : ℕ = (k + 1) * g in
    elim (cases_lt k (last_group f s)) [
      | inl before ↦
          let order : (k + 2) * group_size f s ≤ (last_group f s + 1) * group_size f s = mul-le (k + 2) g (last_group f s + 1) g (omega arith) (omega arith) in
          let within : (k + 1) * group_size f s < entry_count s = omega (arith, all_groups f s, some_group f s shape) in
          let behind : entry_behind f s t i (Some k) ≡ None = subst (λ (o : Option ℕ). entry_behind f s t i o ≡ None) (ended-at g k i (some_group f s shape) refl) (free.entries i within) in
          (first_none (digest_as f s t k) (bytes_as f s t i ∷ []) behind).0
      | inr le ↦
          let last : last_group f s ≡ k = omega arith in
          subst (λ (n : ℕ). digest_as f s t n ≡ None) last free.last
    ]

-- ---- from entries to groups, and from groups to the chain

entries_run : (t : List ℕ) (e : ℕ → Entry) (p a m : ℕ) → ((j : ℕ) → a ≤ j → j < a + m → part t (p + 17 * j) 17 ≡ entry_text (e j))
    → part t (p + 17 * a) (17 * m) ≡ layer_text (map e (range_with_len a m))
entries_run t e p a zero each = refl
entries_run t e p a (suc m) each =
    let q : ℕ = p + 17 * a in
    let count : 17 * suc m ≡ 17 + 17 * m = omega arith in
    let next : p + 17 * a + 17 ≡ p + 17 * (a + 1) = omega arith in
    ap (λ (n : ℕ). part t q n) count
    ∙ sym (part-join t q 17 (17 * m))
    ∙ ap (λ (l : List ℕ). l ++ part t (q + 17) (17 * m)) (each a (omega arith) (omega arith))
    ∙ ap (λ (i : ℕ). entry_text (e a) ++ part t i (17 * m)) next
    ∙ ap (λ (l : List ℕ). entry_text (e a) ++ l) (entries_run t e p (a + 1) m (λ j least most. each j (omega arith) (omega arith)))

-- where the k-th group begins, and where what its digest is over does
abbrev group_start : ℕ → ℕ → ℕ
group_start g k = 60 + k * (17 * g + 32)

abbrev group_from : ℕ → ℕ → ℕ
group_from g zero = 0
group_from g (suc k) = group_start g k + 17 * g

from_before : (g k : ℕ) → group_from g k ≤ group_start g k
from_before g zero = omega arith
from_before g (suc k) = omega arith

chain_run : (t : List ℕ) (group : ℕ → List Entry) (g count : ℕ)
    → ((k : ℕ) → k < count → part t (group_start g k) (17 * g) ≡ layer_text (group k))
    → ((k : ℕ) → k < count → part t (group_start g k + 17 * g) 32 ≡ sha256 (part t (group_from g k) (group_start g k + 17 * g - group_from g k)))
    → (m k : ℕ) (before : List ℕ) → k + m ≡ count → part t (group_from g k) (group_start g k - group_from g k) ≡ before
    → part t (group_start g k) (m * (17 * g + 32)) ≡ chain before (map group (range_with_len k m))
chain_run t group g count texts digests zero k before all is =
    let none : 0 * (17 * g + 32) ≡ 0 = omega arith in
    ap (λ (n : ℕ). part t (group_start g k) n) none
chain_run t group g count texts digests (suc m) k before all is =
    let p : ℕ = group_start g k in
    let from : ℕ = group_from g k in
    let layer = layer_text (group k) in
    let digest = sha256 (before ++ layer) in
    let there : k < count = omega arith in
    let order : group_from g k ≤ group_start g k = from_before g k in
    let front : group_start g k + 17 * g - group_from g k ≡ (group_start g k - group_from g k) + 17 * g = omega arith in
    let middle : group_from g k + (group_start g k - group_from g k) ≡ group_start g k = omega arith in
    let hashed : part t (group_from g k) (group_start g k + 17 * g - group_from g k) ≡ before ++ layer_text (group k) =
    ap (λ (n : ℕ). part t from n) front
    ∙ sym (part-join t from (p - from) (17 * g))
    ∙ ap (λ (l : List ℕ). l ++ part t (from + (p - from)) (17 * g)) is
    ∙ ap (λ (i : ℕ). before ++ part t i (17 * g)) middle
    ∙ ap (λ (l : List ℕ). before ++ l) (texts k there) in
    let kept : part t (group_start g k + 17 * g) 32 ≡ sha256 (before ++ layer_text (group k)) = digests k there ∙ ap sha256 hashed in
    let size : group_start g (suc k) - (group_start g k + 17 * g) ≡ 32 = omega arith in
    let one : suc k ≡ k + 1 = omega arith in
    let after : part t (group_from g (k + 1)) (group_start g (k + 1) - group_from g (k + 1)) ≡ sha256 (before ++ layer_text (group k)) =
    subst (λ (a : ℕ). part t (group_from g a) (group_start g a - group_from g a) ≡ digest) one (ap (λ (n : ℕ). part t (p + 17 * g) n) size ∙ kept) in
    let link : part t (group_start g k) (17 * g + 32) ≡ layer_text (group k) ++ sha256 (before ++ layer_text (group k)) =
    sym (part-join t p (17 * g) 32)
    ∙ ap (λ (l : List ℕ). l ++ part t (p + 17 * g) 32) (texts k there)
    ∙ ap (λ (l : List ℕ). layer ++ l) kept in
    let both : suc m * (17 * g + 32) ≡ 17 * g + 32 + m * (17 * g + 32) = omega arith in
    let next : group_start g k + (17 * g + 32) ≡ group_start g (k + 1) = omega arith in
    ap (λ (n : ℕ). part t p n) both
    ∙ sym (part-join t p (17 * g + 32) (m * (17 * g + 32)))
    ∙ ap (λ (l : List ℕ). l ++ part t (p + (17 * g + 32)) (m * (17 * g + 32))) link
    ∙ ap (λ (i : ℕ). layer ++ digest ++ part t i (m * (17 * g + 32))) next
    ∙ ap (λ (l : List ℕ). layer ++ digest ++ l) (chain_run t group g count texts digests m (k + 1) digest (omega arith) after)

-- ---- bytes without fault

group_good : (f : Format) (model : List ℕ) (s : TableShape) (t : List ℕ) (k : ℕ) → IsBytes t → FaultFree f model s t → k < last_group f s + 1
    → part t (group_start (group_size f s) k) (17 * group_size f s) ≡ layer_text (group_in f s t k)
group_good f model s t k small free there =
    let g = group_size f s in
    let p : ℕ = group_start g k in
    let start : group_start (group_size f s) k + 17 * 0 ≡ group_start (group_size f s) k = omega arith in
    let order : (k + 1) * group_size f s ≤ (last_group f s + 1) * group_size f s = mul-le (k + 1) g (last_group f s + 1) g (omega arith) (omega arith) in
    ap (λ (i : ℕ). part t i (17 * g)) (sym start)
    ∙ entries_run t (λ j. entry_in f s t (k * g + j)) p 0 g (λ j _ within.
    let inside : j < group_size f s = omega arith in
    let below : k * group_size f s + j < entry_count s = omega (arith, all_groups f s) in
    let group : (k * group_size f s + j) / group_size f s ≡ k = div-mul-add k g j inside in
    let at : group_start (group_size f s) k + 17 * j ≡ entry_start f s (k * group_size f s + j) = omega arith in
    ap (λ (i : ℕ). part t i 17) at ∙ entry_good f s t (k * g + j) small (free.entries (k * g + j) below))

stop_place : (f : Format) (s : TableShape) (k : ℕ) → group_start (group_size f s) k + 17 * group_size f s ≡ digest_start f s k
stop_place f s k = omega arith

from_place : (f : Format) (s : TableShape) (k : ℕ) → group_from (group_size f s) k ≡ hashed_from f s k
from_place f s zero = refl
from_place f s (suc k) = stop_place f s k

digest_at_group : (f : Format) (model : List ℕ) (s : TableShape) (t : List ℕ) (k : ℕ) → IsShape s → FaultFree f model s t → k < last_group f s + 1
    → part t (group_start (group_size f s) k + 17 * group_size f s) 32 ≡ sha256 (part t (group_from (group_size f s) k) (group_start (group_size f s) k + 17 * group_size f s - group_from (group_size f s) k))
digest_at_group f model s t k shape free there =
    let stop = stop_place f s k in
    let from = from_place f s k in
    ap (λ (i : ℕ). part t i 32) stop
    ∙ digest_good f s t k (digest_none f model s t k shape free there)
    ∙ ap (λ (i : ℕ). sha256 (part t i (digest_start f s k - i))) (sym from)
    ∙ ap (λ (i : ℕ). sha256 (part t (group_from (group_size f s) k) (i - group_from (group_size f s) k))) (sym stop)

text_in : (f : Format) (model : List ℕ) (s : TableShape) (t : List ℕ) → format_of t ≡ f → IsShape s → IsBytes t → FaultFree f model s t → part t 0 60 ≡ header f model s
    → t ≡ text_of_layers f model s (layers_at s t)
text_in f model s t same shape small free head =
    let g = group_size f s in
    let h = header f model s in
    let groups : ℕ = last_group f s + 1 in
    let size : length t ≤ 60 + (last_group f s + 1) * (17 * group_size f s + 32) = omega (arith, free.most, all_groups f s) in
    let start : group_start (group_size f s) 0 ≡ 60 = omega arith in
    let width : group_start (group_size f s) 0 - 0 ≡ 60 = omega arith in
    let links : part t (group_start (group_size f s) 0) ((last_group f s + 1) * (17 * group_size f s + 32)) ≡ chain (header f model s) (groups_in f s t) =
    chain_run t (group_in f s t) g groups (λ k there. group_good f model s t k small free there) (λ k there. digest_at_group f model s t k shape free there) groups 0 h (omega arith)
    (ap (λ (n : ℕ). part t 0 n) width ∙ head) in
    sym (take_all (60 + groups * (17 * g + 32)) t size)
    ∙ glue t h (chain h (groups_in f s t)) 60 (groups * (17 * g + 32)) head (ap (λ (i : ℕ). part t i (groups * (17 * g + 32))) (sym start) ∙ links)
    ∙ ap (λ (ls : List (List Entry)). h ++ chain h ls) (groups_given f s t same shape)

-- bytes without fault are the text of their layers
pub good_is_text : (model : List ℕ) (s : TableShape) (t : List ℕ) → IsShape s → IsBytes t → first_fault model s t ≡ None → t ≡ text_of_layers (format_of t) model s (layers_at s t)
good_is_text model s t shape small none =
    let f = format_of t in
    let free = fault_free f model s t (sym (first_is f model s t refl) ∙ none) in
    text_in f model s t refl shape small free (header_good (length_of f s) model s t small free.header)
