-- The text of a table has no fault, and is read as it was written.
use Rattle.std.proofs.Common.{◌≡◌, ℕ, zero, suc, ◌+◌, ◌-◌, ◌*◌, ◌/◌, ◌%◌, ◌^◌, ◌<◌, ◌≤◌, Bool, true, cond, List, [], ◌∷◌, ◌++◌, length, get_or, drop, Option, None, Some, refl, sym, ◌∙◌, ap, subst, arith, inl, inr, append_assoc, length-append, eq-eqb}
use Rattle.std.proofs.lemmas.Bool.{le-ltb}
use Rattle.std.proofs.lemmas.List.FromFn.{fill_by_all}
use Rattle.std.proofs.lemmas.Nat.{div-add-mod', div_below, div-mul-add, mod_below, mul-add-lt}
use Rattle.std.proofs.lemmas.Slice.Eq.{bytes_eq-Decides}
use Rattle.std.specs.List.{flat_map}
use Rattle.std.specs.Str.{bytes_eq}
use Rattle.byteorder.specs.Endian.{little_bytes, little_number}
use Rattle.byteorder.specs.Numbers.{little_number-reads_back}
use Rattle.sha2.specs.Sha256.{sha256}
use Rattle.acas_units.specs.declared.pair.Entry.{Entry}
use Rattle.acas_table_text.specs.Shape.{IsShape, entry_count}
use Rattle.acas_table_text.specs.Format.{digest_start, entry_start, format_of, group_size, hashed_from, last_group, length_of, part}
use Rattle.acas_table_text.specs.Text.{chain, entry_at, entry_of, entry_text, header, text_of_layers, groups_of}
use Rattle.acas_table_text.specs.Tables.{IsTable, entry_of_state, layer_at, layers_at, no_entry}
use Rattle.acas_table_text.specs.Faults.{advice_fault, digest_field, fault_in, field_fault, fields_fault, first, first_below, first_fault, header_fields, model_fields, more_fault, unless, width_of}
use Rattle.acas_table_text.specs.declared.format.Format.{Format}
use Rattle.acas_table_text.specs.declared.format.Format.TheVariants.{Layered, Whole}
use Rattle.acas_table_text.specs.declared.shape.TableShape.{TableShape}
use Rattle.acas_table_text.specs.declared.fault.TableFault.{TableFault}
use Rattle.acas_table_text.specs.declared.fault.TableFault.TheVariants.{Length}
use Rattle.acas_table_text.specs.declared.field.Field.{Field}
use Rattle.acas_table_text.specs.declared.field.Field.TheVariants as fields
use Rattle.acas_table_text.proofs.Parts.{end_none, part-at}
use Rattle.acas_table_text.proofs.Nones.{all_none, first-cons}
use Rattle.acas_table_text.proofs.Fields.{field_text, header_is}
use Rattle.acas_table_text.proofs.Formats.{bytes_as, digest_as, entry_as, entry_behind, faults_as, first_is, hashed_part, header_as, tail_as}
use Rattle.acas_table_text.proofs.Groups.{all_groups, digest-within, ended-before, group_of_left, some_group}
use Rattle.acas_table_text.proofs.Joined.{HaveLength, get_or-joined, joined, length-joined}
use Rattle.acas_table_text_laws.proofs.TextFormats.{format-text}
use Rattle.acas_table_text_laws.proofs.Behind.{group-in, placed}
use Rattle.acas_table_text_laws.proofs.EntryLaws.{entry_again}
use Rattle.acas_table_text_laws.proofs.Chains.{digest_in_chain, entry_in_chain, from_in, length-chain, part_skip, stop_in}

-- ---- fields

good_field : (e : ℕ) (t : List ℕ) (at n : ℕ) (f : List ℕ) (check : List ℕ → Option TableFault) → at + n ≤ length t → part t at n ≡ f → check f ≡ None → field_fault e t at n check ≡ None
good_field e t at n f check long is good =
    ap (λ (o : Option TableFault). first (o ∷ check (part t at n) ∷ [])) (end_none e t at n long)
    ∙ ap (λ (p : List ℕ). first (check p ∷ [])) is
    ∙ ap (λ (o : Option TableFault). first (o ∷ [])) good

pub good_if : (b : Bool) (fault : TableFault) → b ≡ true → unless b fault ≡ None
good_if b fault good = ap (λ (c : Bool). unless c fault) good

same_bytes : (x : List ℕ) → bytes_eq x x ≡ true
same_bytes x = (bytes_eq-Decides x x).1 refl

number_back : (x : ℕ) → x < 2 ^ 32 → little_number 4 (little_bytes 4 x) ≡ x
number_back x fits = little_number-reads_back 4 x [] (omega arith)

-- a field that can be written
abbrev IsField : Field → Type 0
IsField fields.Magic = Unit {0}
IsField fields.Version = Unit {0}
IsField (fields.Model digest) = length digest ≡ 32
IsField (fields.Number place expected) = expected < 2 ^ 32
IsField (fields.Digest computed) = length computed ≡ 32
IsField (fields.LayerDigest layer computed) = length computed ≡ 32

abbrev AreFields : List Field → Type 0
AreFields [] = Unit {0}
AreFields (field ∷ rest) = IsField field × AreFields rest

length_field : (f : Format) (field : Field) → IsField field → length (field_text f field) ≡ width_of field
length_field f fields.Magic fits = refl
length_field f fields.Version fits = refl
length_field f (fields.Model digest) fits = fits
length_field f (fields.Number place expected) fits = refl
length_field f (fields.Digest computed) fits = fits
length_field f (fields.LayerDigest layer computed) fits = fits

version_again : (f : Format) → fault_in fields.Version (field_text f fields.Version) ≡ None
version_again Whole = refl
version_again Layered = refl

field_again : (f : Format) (field : Field) → IsField field → fault_in field (field_text f field) ≡ None
field_again f fields.Magic fits = refl
field_again f fields.Version fits = version_again f
field_again f (fields.Model digest) fits = good_if _ _ (same_bytes digest)
field_again f (fields.Number place expected) fits = good_if _ _ (eq-eqb _ expected (number_back expected fits))
field_again f (fields.Digest computed) fits = good_if _ _ (same_bytes computed)
field_again f (fields.LayerDigest layer computed) fits = good_if _ _ (same_bytes computed)

digest_again : (f : Format) (k : ℕ) (computed : List ℕ) → fault_in (digest_field f k computed) computed ≡ None
digest_again Whole k computed = good_if _ _ (same_bytes computed)
digest_again Layered k computed = good_if _ _ (same_bytes computed)

-- fields that were written one after another
fields_again : (f : Format) (e at : ℕ) (all : List Field) (t before rest : List ℕ) → AreFields all → t ≡ before ++ (flat_map (field_text f) all ++ rest) → length before ≡ at → fields_fault e at all t ≡ None
fields_again f e at [] t before rest fit is long = refl
fields_again f e at (field ∷ more) t before rest fit is long =
    let w = width_of field in
    let here = field_text f field in
    let behind = flat_map (field_text f) more ++ rest in
    let width : length (field_text f field) ≡ width_of field = length_field f field fit.0 in
    let apart : t ≡ before ++ (field_text f field ++ (flat_map (field_text f) more ++ rest)) = is ∙ ap (λ (l : List ℕ). before ++ l) (append_assoc here (flat_map (field_text f) more) rest) in
    let within : at + width_of field ≤ length t = omega (arith, ap length apart, length-append before (here ++ behind), length-append here behind, width, long) in
    let found : part t at (width_of field) ≡ field_text f field = part-at t before here behind at w apart long width in
    ap (λ (o : Option TableFault). first (o ∷ fields_fault e (at + w) more t ∷ [])) (good_field e t at w here (fault_in field) within found (field_again f field fit.0))
    ∙ ap (λ (o : Option TableFault). first (o ∷ [])) (fields_again f e (at + w) more t (before ++ here) rest fit.1 (apart ∙ sym (append_assoc before here behind)) (length-append before here ∙ omega (arith, width, long)))

pub length_header : (f : Format) (model : List ℕ) (s : TableShape) → length model ≡ 32 → length (header f model s) ≡ 60
unfolding model_fields
length_header f model s long =
    ap length (header_is f model s) ∙ omega (arith, length-append model (flat_map (field_text f) (drop 1 (model_fields model s))), long)

good_header : (f : Format) (e : ℕ) (model : List ℕ) (s : TableShape) (rest : List ℕ) → length model ≡ 32 → IsShape s → fields_fault e 0 (header_fields model s) (header f model s ++ rest) ≡ None
unfolding model_fields
good_header f e model s rest long fits =
    let numbers : AreFields (drop 1 (model_fields model s)) =
    (omega (arith, fits.altitudes), (omega (arith, fits.own_rates), (omega (arith, fits.intruder_rates), (omega (arith, fits.advisories), (omega (arith, fits.horizon), tt))))) in
    fields_again f e 0 (header_fields model s) (header f model s ++ rest) [] rest (tt, (tt, (long, numbers))) (ap (λ (l : List ℕ). l ++ rest) (header_is f model s)) refl

-- ---- the groups of a table

number_of_groups : (f : Format) (model : List ℕ) (s : TableShape) (layers : List (List Entry)) → IsTable model s layers → length (groups_of f layers) ≡ last_group f s + 1
number_of_groups Whole model s layers table = refl
number_of_groups Layered model s layers table = table.count

layers_even : (model : List ℕ) (s : TableShape) (layers : List (List Entry)) → IsTable model s layers → HaveLength s.states layers
layers_even model s layers table k there = table.states k (omega (arith, table.count, there))

length_all : (model : List ℕ) (s : TableShape) (layers : List (List Entry)) → IsTable model s layers → length (joined layers) ≡ entry_count s
length_all model s layers table = length-joined layers s.states (layers_even model s layers table) ∙ ap (λ (n : ℕ). n * s.states) table.count

groups_even : (f : Format) (model : List ℕ) (s : TableShape) (layers : List (List Entry)) → IsTable model s layers → HaveLength (group_size f s) (groups_of f layers)
groups_even Whole model s layers table zero there = length_all model s layers table
groups_even Whole model s layers table (suc k) there = absurd (omega arith)
groups_even Layered model s layers table k there = layers_even model s layers table k there

-- where an entry is, and which it is
pub place_below : (s : TableShape) (n state : ℕ) → n < s.horizon + 1 → state < s.states → n * s.states + state < entry_count s
place_below s n state seconds inside = omega (arith, mul-add-lt n s.states state (s.horizon + 1) seconds inside)

pub record Stands (f : Format) (s : TableShape) (layers : List (List Entry)) (n state : ℕ) : Type 0 where
  pub group : ℕ
  pub place : ℕ
  pub inside : group < last_group f s + 1
  pub within : place < group_size f s
  pub start : entry_start f s (n * s.states + state) ≡ 60 + (group * (17 * group_size f s + 32) + 17 * place)
  pub is : get_or (get_or (groups_of f layers) group []) place no_entry ≡ entry_of_state layers n state

stands : (f : Format) (model : List ℕ) (s : TableShape) (layers : List (List Entry)) (n state : ℕ) → IsTable model s layers → n < s.horizon + 1 → state < s.states → Stands f s layers n state
stands Whole model s layers n state table seconds inside =
    let below : n * s.states + state < entry_count s = place_below s n state seconds inside in
    let none : (n * s.states + state) / entry_count s ≡ 0 = group_of_left (entry_count s) 0 (entry_count s - (n * s.states + state)) (n * s.states + state) (omega arith) (omega arith) (omega arith) in
    record {
      group = 0;
      place = n * s.states + state;
      inside = omega arith;
      within = below;
      start = omega arith;
      is = get_or-joined layers s.states n state (layers_even model s layers table) (omega (arith, table.count)) inside;
    }
stands Layered model s layers n state table seconds inside =
    let group : (n * s.states + state) / s.states ≡ n = div-mul-add n s.states state inside in
    record {
      group = n;
      place = state;
      inside = seconds;
      within = inside;
      start = omega arith;
      is = refl;
    }

-- ---- the text

digest_place : (f : Format) (s : TableShape) (k : ℕ) → digest_start f s k ≡ stop_in 60 (group_size f s) k
digest_place f s k = omega arith

hashed_place : (f : Format) (s : TableShape) (k : ℕ) → hashed_from f s k ≡ from_in 0 60 (group_size f s) k
hashed_place f s zero = refl
hashed_place f s (suc k) = digest_place f s k

module _ (f : Format) (model : List ℕ) (s : TableShape) (layers : List (List Entry)) (table : IsTable model s layers) where
  text_is : text_of_layers f model s layers ≡ header f model s ++ chain (header f model s) (groups_of f layers)
  text_is = refl

  pub length_text : length (text_of_layers f model s layers) ≡ length_of f s
  length_text =
      let h = header f model s in
      let groups = groups_of f layers in
      let g = group_size f s in
      let count : length (groups_of f layers) * (17 * group_size f s + 32) ≡ (last_group f s + 1) * (17 * group_size f s + 32) = ap (λ (n : ℕ). n * (17 * g + 32)) (number_of_groups f model s layers table) in
      ap length text_is
      ∙ length-append h (chain h groups)
      ∙ omega (arith, length_header f model s table.digest_is, length-chain h groups g (groups_even f model s layers table), count, all_groups f s)

  part_of_entry : (n state : ℕ) → n < s.horizon + 1 → state < s.states → part (text_of_layers f model s layers) (entry_start f s (n * s.states + state)) 17 ≡ entry_text (entry_of_state layers n state)
  part_of_entry n state seconds inside =
      let t = text_of_layers f model s layers in
      let h = header f model s in
      let groups = groups_of f layers in
      let g = group_size f s in
      let at = stands f model s layers n state table seconds inside in
      ap (λ (p : ℕ). part t p 17) at.start
      ∙ ap (λ (l : List ℕ). part l (60 + (at.group * (17 * g + 32) + 17 * at.place)) 17) text_is
      ∙ part_skip h (chain h groups) 60 (at.group * (17 * g + 32) + 17 * at.place) 17 (length_header f model s table.digest_is)
      ∙ entry_in_chain h groups g at.group at.place (groups_even f model s layers table) (omega (arith, number_of_groups f model s layers table, at.inside)) at.within
      ∙ ap entry_text at.is

  entry_back : (n state : ℕ) → n < s.horizon + 1 → state < s.states → entry_of (part (text_of_layers f model s layers) (entry_start f s (n * s.states + state)) 17) ≡ entry_of_state layers n state
  entry_back n state seconds inside =
      ap entry_of (part_of_entry n state seconds inside) ∙ entry_again (entry_of_state layers n state) (table.upper n state seconds inside) (table.lower n state seconds inside)

  digest_kept : (k : ℕ) → k < last_group f s + 1 → part (text_of_layers f model s layers) (digest_start f s k) 32 ≡ sha256 (hashed_part f s (text_of_layers f model s layers) k)
  digest_kept k there =
      let t = text_of_layers f model s layers in
      let h = header f model s in
      let groups = groups_of f layers in
      let g = group_size f s in
      digest_in_chain [] h t groups g 0 60 k (digest_start f s k) (hashed_from f s k) refl (omega (arith, length_header f model s table.digest_is)) (groups_even f model s layers table)
      (omega (arith, number_of_groups f model s layers table)) text_is (digest_place f s k) (hashed_place f s k)

  digest_none : (k : ℕ) → k < last_group f s + 1 → digest_as f s (text_of_layers f model s layers) k ≡ None
  digest_none k there =
      let t = text_of_layers f model s layers in
      let computed = sha256 (hashed_part f s t k) in
      good_field (length_of f s) t (digest_start f s k) 32 computed (fault_in (digest_field f k computed)) (omega (arith, digest-within f s k (omega arith), length_text)) (digest_kept k there)
      (digest_again f k computed)

  bytes_none : (n state : ℕ) → n < s.horizon + 1 → state < s.states → bytes_as f s (text_of_layers f model s layers) (n * s.states + state) ≡ None
  bytes_none n state seconds inside =
      let t = text_of_layers f model s layers in
      let i : ℕ = n * s.states + state in
      let e = entry_of_state layers n state in
      let below : n * s.states + state < entry_count s = place_below s n state seconds inside in
      let long : entry_start f s (n * s.states + state) + 17 ≤ length (text_of_layers f model s layers) = omega (arith, length_text, group-in f s (n * s.states + state) table.shape below) in
      good_field (length_of f s) t (entry_start f s i) 17 (entry_text e) (λ field. advice_fault s i (entry_of field).advice) long (part_of_entry n state seconds inside)
      (ap (λ (x : Entry). advice_fault s i x.advice) (entry_again e (table.upper n state seconds inside) (table.lower n state seconds inside)) ∙ table.advice n state seconds inside)

  -- by its number
  number_none : (i : ℕ) → i < entry_count s → bytes_as f s (text_of_layers f model s layers) i ≡ None
  number_none i within =
      let t = text_of_layers f model s layers in
      let some : 0 < s.states = omega (arith, table.shape.some_states) in
      subst (λ (j : ℕ). bytes_as f s t j ≡ None) (div-add-mod' i s.states) (bytes_none (i / s.states) (i % s.states) (div_below i s.states (s.horizon + 1) some within) (mod_below i s.states some))

  entry_none : (i : ℕ) → i < entry_count s → entry_as f s (text_of_layers f model s layers) i ≡ None
  entry_none i within =
      let t = text_of_layers f model s layers in
      let here = first-cons (bytes_as f s t i) [] (number_none i within) refl in
      elim (placed (group_size f s) i (some_group f s table.shape)) [
        | inl at ↦ subst (λ (o : Option ℕ). entry_behind f s t i o ≡ None) (sym at.ended) here
        | inr at ↦
            let inside : at.group < last_group f s = ended-before f s at.group i table.shape at.at within in
            subst (λ (o : Option ℕ). entry_behind f s t i o ≡ None) (sym at.ended)
            (first-cons (digest_as f s t at.group) (bytes_as f s t i ∷ []) (digest_none at.group (omega arith)) here)
      ]

  tail_none : tail_as f s (text_of_layers f model s layers) ≡ None
  tail_none =
      let t = text_of_layers f model s layers in
      let e = length_of f s in
      let more : more_fault (length_of f s) (text_of_layers f model s layers) ≡ None = ap (λ (b : Bool). cond b (Some (Length e (e + 1))) None) (le-ltb e (length t) (omega (arith, length_text))) in
      first-cons (digest_as f s t (last_group f s)) (more_fault e t ∷ []) (digest_none (last_group f s) (omega arith)) (first-cons (more_fault e t) [] more refl)

  header_none : header_as f model s (text_of_layers f model s layers) ≡ None
  header_none =
      good_header f (length_of f s) model s (chain (header f model s) (groups_of f layers)) table.digest_is table.shape

  faults_none : faults_as f model s (text_of_layers f model s layers) ≡ None
  faults_none =
      let t = text_of_layers f model s layers in
      let entries = first_below (entry_as f s t) (entry_count s) in
      first-cons (header_as f model s t) (entries ∷ tail_as f s t ∷ []) header_none
      (first-cons entries (tail_as f s t ∷ []) (all_none (entry_as f s t) (entry_count s) entry_none) (first-cons (tail_as f s t) [] tail_none refl))

-- ---- laws

-- the text of a table has no fault
pub text_is_good : (f : Format) (model : List ℕ) (s : TableShape) (layers : List (List Entry)) → IsTable model s layers → first_fault model s (text_of_layers f model s layers) ≡ None
text_is_good f model s layers table =
    first_is f model s (text_of_layers f model s layers) (format-text f model s layers) ∙ faults_none f model s layers table

-- what is read of a text is what was written
pub entry_read : (f : Format) (model : List ℕ) (s : TableShape) (layers : List (List Entry)) (n state : ℕ) → IsTable model s layers → n < s.horizon + 1 → state < s.states
    → entry_at s (text_of_layers f model s layers) (n * s.states + state) ≡ entry_of_state layers n state
entry_read f model s layers n state table seconds inside =
    let t = text_of_layers f model s layers in
    ap (λ (h : Format). entry_of (part t (entry_start h s (n * s.states + state)) 17)) (format-text f model s layers) ∙ entry_back f model s layers table n state seconds inside

-- the layers that a text has are those that were written
pub layers_again : (f : Format) (model : List ℕ) (s : TableShape) (layers : List (List Entry)) → IsTable model s layers → layers_at s (text_of_layers f model s layers) ≡ layers
layers_again f model s layers table =
    let t = text_of_layers f model s layers in
    sym (fill_by_all (layer_at s t) layers (s.horizon + 1) [] table.count (λ n seconds.
    fill_by_all (λ state. entry_at s t (n * s.states + state)) (get_or layers n []) s.states no_entry (table.states n seconds) (λ state inside.
    sym (entry_read f model s layers n state table seconds inside))))

-- a text is that of one table, in one format
pub same_format : (f g : Format) (model : List ℕ) (s : TableShape) (one two : List (List Entry)) → text_of_layers f model s one ≡ text_of_layers g model s two → f ≡ g
same_format f g model s one two same = sym (format-text f model s one) ∙ ap format_of same ∙ format-text g model s two

pub same_text : (f g : Format) (model : List ℕ) (s : TableShape) (one two : List (List Entry)) → IsTable model s one → IsTable model s two
    → text_of_layers f model s one ≡ text_of_layers g model s two → one ≡ two
same_text f g model s one two table other same =
    sym (layers_again f model s one table) ∙ ap (layers_at s) same ∙ layers_again g model s two other
