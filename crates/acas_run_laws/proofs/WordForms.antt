-- The words of a form, the names of its files, and its numbers.
use Rattle.std.proofs.Common.{◌≡◌, ◌≢◌, ℕ, ◌≤◌, zero, suc, nat_le, List, [], ◌∷◌, length, Bool, true, false, not, cond, unsigned_abs, Option, Some, None, refl, ap, subst, ◌∙◌, arith}
use Rattle.std.specs.Prelude.{All, ◌&&◌, ◌==◌, codes, slice_index}
use Rattle.std.specs.Fmt.{decimal}
use Rattle.std.specs.Option.{option_map}
use Rattle.std.specs.Str.{bytes_eq}
use Rattle.std.proofs.lemmas.Bool.{and_parts, leb-true}
use Rattle.std.proofs.lemmas.Slice.Eq.{bytes_eq-Decides}
use Rattle.acas_units.specs.declared.limits.TheConstants.{FILE_NAME_BYTES, GREATEST_DRILL_NUMBER, GREATEST_LIMIT, GREATEST_RATE, LEAST_DRILL_NUMBER}
use Rattle.acas_drill_model.specs.Word.{drill_number}
use Rattle.acas_drill_model.proofs.Words.{IsNamed, named}
use Rattle.acas_report_lines.specs.declared.counts.Which.{Which}
use Rattle.acas_report_lines.specs.declared.counts.Which.TheVariants.{All as AllLines, Reported as ReportedLines}
use Rattle.acas_cli_words.specs.Words.{Form, Values, Compile, Check, Risk, Audit, Regions, Manoeuvre, Safeable, Replay, Migrate, Drill, accel_of, are_apart, are_file_names, form_of, is_file_name, manoeuvre_of, names_of, rate_of}

-- the words of an audit
abbrev pub audit_words : List ℕ → List ℕ → Which → List (List ℕ)
audit_words model table AllLines = codes "audit" ∷ model ∷ table ∷ []
audit_words model table ReportedLines = codes "audit" ∷ model ∷ table ∷ codes "--reported" ∷ []

-- the numbers that two words name are within these limits
pub record AreWithin (accel rate : ℕ) : Type 0 where
  pub least_accel : 1 ≤ accel
  pub greatest_accel : accel ≤ GREATEST_LIMIT
  pub least_rate : 1 ≤ rate
  pub greatest_rate : rate ≤ unsigned_abs GREATEST_RATE

-- these are the words of a form, and its names and numbers are such as words can give
abbrev pub IsFormOf : List (List ℕ) → Form → Type 0
IsFormOf words (Values model) = (words ≡ codes "values" ∷ model ∷ []) × (is_file_name model ≡ true)
IsFormOf words (Compile model table) = (words ≡ codes "compile" ∷ model ∷ table ∷ []) × (are_apart model table ≡ true)
IsFormOf words (Check model table) = (words ≡ codes "check" ∷ model ∷ table ∷ []) × (are_file_names model table ≡ true)
IsFormOf words (Risk model table) = (words ≡ codes "risk" ∷ model ∷ table ∷ []) × (are_file_names model table ≡ true)
IsFormOf words (Audit model table which) = (words ≡ audit_words model table which) × (are_file_names model table ≡ true)
IsFormOf words (Regions model boxes) = (words ≡ codes "regions" ∷ model ∷ boxes ∷ []) × (are_file_names model boxes ≡ true)
IsFormOf words (Manoeuvre model boxes accel rate) =
    (words ≡ codes "manoeuvre" ∷ model ∷ boxes ∷ decimal accel ∷ decimal rate ∷ []) × (are_file_names model boxes ≡ true) × AreWithin accel rate
IsFormOf words (Safeable model table) = (words ≡ codes "safeable" ∷ model ∷ table ∷ []) × (are_file_names model table ≡ true)
IsFormOf words (Replay model table encounter) =
    (words ≡ codes "replay" ∷ model ∷ table ∷ encounter ∷ []) × (are_file_names model table ≡ true) × (is_file_name encounter ≡ true)
IsFormOf words (Migrate model table target) =
    (words ≡ codes "migrate" ∷ model ∷ table ∷ target ∷ []) × (are_apart model target ≡ true) × (are_apart table target ≡ true)
IsFormOf words (Drill number) = (words ≡ codes "drill" ∷ decimal number ∷ []) × (number ≤ GREATEST_DRILL_NUMBER)

-- ---- tests

-- a word is this one, and a test holds
is_word : (word text : List ℕ) (b : Bool) → (bytes_eq word text && b) ≡ true → (word ≡ text) × (b ≡ true)
is_word word text b e =
    let both = and_parts (bytes_eq word text) b e in
    ((bytes_eq-Decides word text).0 both.0, both.1)

by_test : (P : Form → Type 0) (b : Bool) (f form : Form) (o : Option Form) → cond b (Some f) o ≡ Some form → (b ≡ true → P f) → (o ≡ Some form → P form) → P form
by_test P true f form o e here other = subst P (cc e) (here refl)
by_test P false f form o e here other = other e

-- two words of three, and of four
two-behind : (verb text first second : List ℕ) → verb ≡ text → verb ∷ first ∷ second ∷ [] ≡ text ∷ first ∷ second ∷ []
two-behind verb text first second is = ap (λ (v : List ℕ). v ∷ first ∷ second ∷ []) is

three-behind : (verb text first second third : List ℕ) → verb ≡ text → verb ∷ first ∷ second ∷ third ∷ [] ≡ text ∷ first ∷ second ∷ third ∷ []
three-behind verb text first second third is = ap (λ (v : List ℕ). v ∷ first ∷ second ∷ third ∷ []) is

-- ---- forms with numbers

a_drill : (verb word : List ℕ) (b : Bool) (o : Option ℕ) (form : Form) → (b ≡ true → verb ≡ codes "drill") → drill_number word ≡ o → cond b (option_map Drill o) None ≡ Some form
    → IsFormOf (verb ∷ word ∷ []) form
unfolding drill_number
a_drill verb word true (Some number) form verb_is is e =
    let n : IsNamed LEAST_DRILL_NUMBER GREATEST_DRILL_NUMBER word number = named LEAST_DRILL_NUMBER GREATEST_DRILL_NUMBER word number is in
    let same : Drill number ≡ form = cc e in
    subst (IsFormOf (verb ∷ word ∷ [])) same (ap (λ (v : List ℕ). v ∷ word ∷ []) (verb_is refl) ∙ ap (λ (w : List ℕ). codes "drill" ∷ w ∷ []) n.text, n.high)
a_drill verb word true None form verb_is is e = absurd (cc e)
a_drill verb word false o form verb_is is e = absurd (cc e)

a_manoeuvre : (verb model boxes accel rate : List ℕ) (b : Bool) (o p : Option ℕ) (form : Form) → (b ≡ true → (verb ≡ codes "manoeuvre") × (are_file_names model boxes ≡ true)) → accel_of accel ≡ o → rate_of rate ≡ p
    → cond b (manoeuvre_of model boxes o p) None ≡ Some form → IsFormOf (verb ∷ model ∷ boxes ∷ accel ∷ rate ∷ []) form
a_manoeuvre verb model boxes accel rate true (Some a) (Some c) form tests is_a is_c e =
    let first : IsNamed 1 GREATEST_LIMIT accel a = named 1 GREATEST_LIMIT accel a is_a in
    let second : IsNamed 1 (unsigned_abs GREATEST_RATE) rate c = named 1 (unsigned_abs GREATEST_RATE) rate c is_c in
    let same : Manoeuvre model boxes a c ≡ form = cc e in
    let t = tests refl in
    subst (IsFormOf (verb ∷ model ∷ boxes ∷ accel ∷ rate ∷ [])) same (
      ap (λ (v : List ℕ). v ∷ model ∷ boxes ∷ accel ∷ rate ∷ []) t.0
          ∙ ap (λ (w : List ℕ). codes "manoeuvre" ∷ model ∷ boxes ∷ w ∷ rate ∷ []) first.text
          ∙ ap (λ (w : List ℕ). codes "manoeuvre" ∷ model ∷ boxes ∷ decimal a ∷ w ∷ []) second.text,
      t.1,
      record { least_accel = first.low; greatest_accel = first.high; least_rate = second.low; greatest_rate = second.high },
    )
a_manoeuvre verb model boxes accel rate true (Some a) None form tests is_a is_c e = absurd (cc e)
a_manoeuvre verb model boxes accel rate true None p form tests is_a is_c e = absurd (cc e)
a_manoeuvre verb model boxes accel rate false o p form tests is_a is_c e = absurd (cc e)

-- ---- all forms

pub form-words : (words : List (List ℕ)) (form : Form) → form_of words ≡ Some form → IsFormOf words form
form-words [] form e = absurd (cc e)
form-words (verb ∷ []) form e = absurd (cc e)
form-words (verb ∷ word ∷ []) form e =
    by_test (IsFormOf (verb ∷ word ∷ [])) (bytes_eq verb (codes "values") && is_file_name word) (Values word) form
    (cond (bytes_eq verb (codes "drill")) (option_map Drill (drill_number word)) None) e
    (λ t. let w = is_word verb (codes "values") (is_file_name word) t in (ap (λ (v : List ℕ). v ∷ word ∷ []) w.0, w.1))
    (λ no_values. a_drill verb word (bytes_eq verb (codes "drill")) (drill_number word) form (bytes_eq-Decides verb (codes "drill")).0 refl no_values)
form-words (verb ∷ model ∷ second ∷ []) form e =
    let P : Form → Type 0 = IsFormOf (verb ∷ model ∷ second ∷ []) in
    let named : (text : List ℕ) → (bytes_eq verb text && are_file_names model second) ≡ true → (verb ∷ model ∷ second ∷ [] ≡ text ∷ model ∷ second ∷ []) × (are_file_names model second ≡ true) =
    λ text t. let w = is_word verb text (are_file_names model second) t in (two-behind verb text model second w.0, w.1) in
    let checks : Bool = bytes_eq verb (codes "check") && are_file_names model second in
    let risks : Bool = bytes_eq verb (codes "risk") && are_file_names model second in
    let audits : Bool = bytes_eq verb (codes "audit") && are_file_names model second in
    let rules : Bool = bytes_eq verb (codes "regions") && are_file_names model second in
    let outlooks : Bool = bytes_eq verb (codes "safeable") && are_file_names model second in
    let on_clear : Option Form = cond outlooks (Some (Safeable model second)) None in
    let on_boxes : Option Form = cond rules (Some (Regions model second)) on_clear in
    let on_cells : Option Form = cond audits (Some (Audit model second AllLines)) on_boxes in
    let on_risk : Option Form = cond risks (Some (Risk model second)) on_cells in
    let on_tables : Option Form = cond checks (Some (Check model second)) on_risk in
    by_test P (bytes_eq verb (codes "compile") && are_apart model second) (Compile model second) form on_tables e
    (λ t. let w = is_word verb (codes "compile") (are_apart model second) t in (two-behind verb (codes "compile") model second w.0, w.1))
    (λ no_compile. by_test P checks (Check model second) form on_risk no_compile (named (codes "check"))
    (λ no_check. by_test P risks (Risk model second) form on_cells no_check (named (codes "risk"))
    (λ no_risk. by_test P audits (Audit model second AllLines) form on_boxes no_risk (named (codes "audit"))
    (λ no_audit. by_test P rules (Regions model second) form on_clear no_audit (named (codes "regions"))
    (λ no_regions. by_test P outlooks (Safeable model second) form None no_regions (named (codes "safeable")) (λ none. absurd (cc none)))))))
form-words (verb ∷ model ∷ table ∷ third ∷ []) form e =
    let P : Form → Type 0 = IsFormOf (verb ∷ model ∷ table ∷ third ∷ []) in
    let replays : Bool = bytes_eq verb (codes "replay") && are_file_names model table && is_file_name third in
    let migrates : Bool = bytes_eq verb (codes "migrate") && are_apart model third && are_apart table third in
    let on_format : Option Form = cond migrates (Some (Migrate model table third)) None in
    by_test P (bytes_eq verb (codes "audit") && are_file_names model table && bytes_eq third (codes "--reported")) (Audit model table ReportedLines) form
    (cond replays (Some (Replay model table third)) on_format) e
    (λ t. let both = and_parts (bytes_eq verb (codes "audit") && are_file_names model table) (bytes_eq third (codes "--reported")) t in
    let w = is_word verb (codes "audit") (are_file_names model table) both.0 in (
      three-behind verb (codes "audit") model table third w.0
          ∙ ap (λ (l : List ℕ). codes "audit" ∷ model ∷ table ∷ l ∷ []) ((bytes_eq-Decides third (codes "--reported")).0 both.1),
      w.1,
    ))
    (λ no_audit. by_test P replays (Replay model table third) form on_format no_audit
    (λ t. let both = and_parts (bytes_eq verb (codes "replay") && are_file_names model table) (is_file_name third) t in
    let w = is_word verb (codes "replay") (are_file_names model table) both.0 in
    (three-behind verb (codes "replay") model table third w.0, w.1, both.1))
    (λ no_replay. by_test P migrates (Migrate model table third) form None no_replay
    (λ t. let both = and_parts (bytes_eq verb (codes "migrate") && are_apart model third) (are_apart table third) t in
    let w = is_word verb (codes "migrate") (are_apart model third) both.0 in
    (three-behind verb (codes "migrate") model table third w.0, w.1, both.1))
    (λ none. absurd (cc none))))
form-words (verb ∷ model ∷ boxes ∷ accel ∷ rate ∷ []) form e =
    a_manoeuvre verb model boxes accel rate (bytes_eq verb (codes "manoeuvre") && are_file_names model boxes) (accel_of accel) (rate_of rate) form
    (is_word verb (codes "manoeuvre") (are_file_names model boxes)) refl refl e
form-words (verb ∷ model ∷ table ∷ third ∷ fourth ∷ more ∷ rest) form e = absurd (cc e)

-- ---- names

abbrev pub IsName : List ℕ → Type 0
IsName name = (1 ≤ length name) × (length name ≤ FILE_NAME_BYTES) × (slice_index name 0 ≢ 45)

is_name : (name : List ℕ) → is_file_name name ≡ true → IsName name
is_name name t =
    let both = and_parts (nat_le 1 (length name) && nat_le (length name) FILE_NAME_BYTES) (not (slice_index name 0 == 45)) t in
    let long = and_parts (nat_le 1 (length name)) (nat_le (length name) FILE_NAME_BYTES) both.0 in
    (leb-true 1 (length name) long.0, leb-true (length name) FILE_NAME_BYTES long.1, λ is. dash (subst (λ (n : ℕ). not (n == 45) ≡ true) is both.1))
  where
    dash : false ≡ true → ⊥
    dash e = cc e

are_names : (first second : List ℕ) → are_file_names first second ≡ true → IsName first × IsName second
are_names first second t = let both = and_parts (is_file_name first) (is_file_name second) t in (is_name first both.0, is_name second both.1)

apart_names : (read written : List ℕ) → are_apart read written ≡ true → IsName read × IsName written
apart_names read written t = are_names read written (and_parts (are_file_names read written) (not (bytes_eq read written)) t).0

-- a file that is written is none that is read
pub are_two : (read written : List ℕ) → are_apart read written ≡ true → read ≢ written
are_two read written t same =
    let apart = (and_parts (are_file_names read written) (not (bytes_eq read written)) t).1 in
    never (subst (λ (b : Bool). not b ≡ true) ((bytes_eq-Decides read written).1 same) apart)
  where
    never : false ≡ true → ⊥
    never e = cc e

one : (P : List ℕ → Type 0) (x : List ℕ) → P x → All P (x ∷ [])
one P x h zero d within = h
one P x h (suc k) d within = absurd (omega (arith, within))

two : (P : List ℕ → Type 0) (x y : List ℕ) → P x → P y → All P (x ∷ y ∷ [])
two P x y first second zero d within = first
two P x y first second (suc zero) d within = second
two P x y first second (suc (suc k)) d within = absurd (omega (arith, within))

three : (P : List ℕ → Type 0) (x y z : List ℕ) → P x → P y → P z → All P (x ∷ y ∷ z ∷ [])
three P x y z first second third zero d within = first
three P x y z first second third (suc zero) d within = second
three P x y z first second third (suc (suc zero)) d within = third
three P x y z first second third (suc (suc (suc k))) d within = absurd (omega (arith, within))

pub form-names : (words : List (List ℕ)) (form : Form) → IsFormOf words form → All IsName (names_of form)
form-names words (Values model) f = one IsName model (is_name model f.1)
form-names words (Compile model table) f = let n = apart_names model table f.1 in two IsName model table n.0 n.1
form-names words (Check model table) f = let n = are_names model table f.1 in two IsName model table n.0 n.1
form-names words (Risk model table) f = let n = are_names model table f.1 in two IsName model table n.0 n.1
form-names words (Audit model table which) f = let n = are_names model table f.1 in two IsName model table n.0 n.1
form-names words (Regions model boxes) f = let n = are_names model boxes f.1 in two IsName model boxes n.0 n.1
form-names words (Manoeuvre model boxes accel rate) f = let n = are_names model boxes f.1 in two IsName model boxes n.0 n.1
form-names words (Safeable model table) f = let n = are_names model table f.1 in two IsName model table n.0 n.1
form-names words (Replay model table encounter) f = let n = are_names model table f.1 in three IsName model table encounter n.0 n.1 (is_name encounter f.2)
form-names words (Migrate model table target) f =
    let n = apart_names model target f.1 in
    let o = apart_names table target f.2 in
    three IsName model table target n.0 o.0 n.1
form-names words (Drill number) f = λ k d within. absurd (omega (arith, within))
